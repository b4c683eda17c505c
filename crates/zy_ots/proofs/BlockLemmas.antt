-- What the parts of a chain block's bytes are after each write.
use Rattle.std.proofs.Common.{rules, arith, ◌≡◌, ◌++◌, ◌∷◌, [], length, ℕ, ◌+◌, List, take, drop, sym, ◌∙◌, ap, length-append, length-drop}
use Rattle.std.proofs.lemmas.Slice.{overwrites, take-put_mid, take-put_mid_below, between-put_mid}
use Rattle.std.proofs.lemmas.List.{append-nil, drop_all, drop_at, drop-take, length-set, length-take-le, take_at, places}
use Rattle.std.specs.Prelude.{slice_set}
use borrow.Rule.Slice.PartMut.{put_mid, post_of}

-- a write up to the end leaves what was written there
drop-put_end : (a k : ℕ) (xs ys : List ℕ) → length xs ≡ a + k → drop a (put_mid a k xs ys) ≡ ys
drop-put_end a k xs ys whole =
    let front : length (take a xs) ≡ a = length-take-le a xs (omega arith) in
    let none : drop k (drop a xs) ≡ [] = drop_all k (drop a xs) (omega (arith, length-drop a xs)) in
    drop_at (take a xs) (ys ++ post_of a k xs) a front ∙ ap (λ end. ys ++ end) none ∙ append-nil ys

module _ (bytes index value : List ℕ) (whole : length bytes ≡ 55) (two : length index ≡ 2) (rest : length value ≡ 32) where
  length-indexed : length (put_mid 20 2 bytes index) ≡ 55
  length-indexed = search (rules, overwrites)

  pub loaded_key : take 20 (put_mid 23 32 (put_mid 20 2 bytes index) value) ≡ take 20 bytes
  loaded_key = search (rules, overwrites)

  pub loaded_index : take 2 (drop 20 (put_mid 23 32 (put_mid 20 2 bytes index) value)) ≡ index
  loaded_index =
      let indexed = put_mid 20 2 bytes index in
      let below : take 22 (put_mid 23 32 indexed value) ≡ take 22 indexed =
      take-put_mid_below 23 32 indexed value 22 (omega arith) (omega (arith, length-indexed)) in
      sym (drop-take 20 2 (put_mid 23 32 indexed value)) ∙ ap (drop 20) below ∙ drop-take 20 2 indexed
      ∙ between-put_mid 20 2 bytes index 22 (omega arith) two

  pub loaded_value : drop 23 (put_mid 23 32 (put_mid 20 2 bytes index) value) ≡ value
  loaded_value = drop-put_end 23 32 (put_mid 20 2 bytes index) value length-indexed

module _ (bytes value : List ℕ) (number : ℕ) (whole : length bytes ≡ 55) (rest : length value ≡ 32) where
  pub stepped_key : take 20 (put_mid 23 32 (slice_set bytes 22 number) value) ≡ take 20 bytes
  stepped_key = search (rules, overwrites)

  pub stepped_index : take 2 (drop 20 (put_mid 23 32 (slice_set bytes 22 number) value)) ≡ take 2 (drop 20 bytes)
  stepped_index = search (rules, overwrites)

  pub stepped_value : drop 23 (put_mid 23 32 (slice_set bytes 22 number) value) ≡ value
  stepped_value = drop-put_end 23 32 (slice_set bytes 22 number) value (length-set bytes 22 number ∙ whole)

  pub step_input : slice_set bytes 22 number ≡ take 20 bytes ++ take 2 (drop 20 bytes) ++ number ∷ [] ++ drop 23 bytes
  step_input = search (rules, overwrites, places)

-- the first bytes of a new block, from its two writes at the front
pub new_key : (id zeros leaf : List ℕ) → length id ≡ 16 → length leaf ≡ 4
    → take 20 (put_mid 16 4 (id ++ zeros) leaf) ≡ id ++ leaf
new_key id zeros leaf sixteen four =
    take-put_mid 16 4 (id ++ zeros) leaf 20 (omega arith) (omega (arith, length-append id zeros))
    ∙ ap (λ front. front ++ leaf) (take_at id zeros 16 sixteen)
