-- What the two writes of an append leave.
use Rattle.std.proofs.Common.{◌≡◌, ◌≢◌, ◌⊎◌, inl, inr, ⊎_elim, ℕ, ◌+◌, ◌<◌, false, List, [], ◌∷◌, ◌++◌, length, drop, sym, ◌∙◌, ap, subst, arith, append_assoc, length-append}
use Rattle.std.specs.Int.{w32, to_be_bytes}
use Rattle.std.proofs.lemmas.Bool.{cases_eq}
use Rattle.zy_base.specs.declared.ids.Digest.{Digest}
use Rattle.zy_journal.specs.Disk.{with_bytes, Torn}
use Rattle.zy_journal.specs.Journal.{IsPiece, is_blank, block_of, blocks, head_of, Holds, StandsFor, Has, HasOrNot, IsEnd}
use Rattle.zy_journal.proofs.Files.{put_at, torn_front, torn_byte}
use Rattle.zy_journal.proofs.Lists.{same_front, same_blocks, blocks_push, listed_push, length-head, length-blocks_push, used_holds, used_front, front_of, front_size, front_split}

-- the bytes behind a record's gate
abbrev pub stored_bytes : List ℕ → List ℕ
stored_bytes piece = to_be_bytes w32 (length piece) ++ (piece ++ 0 ∷ [])

pub length-stored : (piece : List ℕ) → length (stored_bytes piece) ≡ 5 + length piece
length-stored piece = omega (arith, length-append (to_be_bytes w32 (length piece)) (piece ++ 0 ∷ []), length-append piece (0 ∷ []))

-- behind an open gate they are a block and a gate that is shut
pub block_behind : (piece more : List ℕ) → 1 ∷ (stored_bytes piece ++ more) ≡ block_of piece ++ (0 ∷ more)
block_behind piece more =
    ap (λ (l : List ℕ). 1 ∷ l) (append_assoc (to_be_bytes w32 (length piece)) (piece ++ 0 ∷ []) more ∙ ap (λ (l : List ℕ). to_be_bytes w32 (length piece) ++ l) (append_assoc piece (0 ∷ []) more) ∙ sym (append_assoc (to_be_bytes w32 (length piece)) piece (0 ∷ more)))

module _ (file : List ℕ) (gate : ℕ) (piece : List ℕ) (end : IsEnd file gate) (fits : IsPiece piece) where
  abbrev front : List ℕ
  front = front_of end.stands.head end.before

  size : length front ≡ gate
  size = front_size file gate end.before (end.shut ∷ end.more) end.stands

  split : file ≡ front ++ (end.shut ∷ end.more)
  split = front_split file gate end.before (end.shut ∷ end.more) end.stands

  -- the front is that of each list that the file stands for
  same : (identity : Digest) (pieces : List (List ℕ)) → Holds identity file pieces → (end.stands.head ≡ head_of identity) × (end.before ≡ pieces)
  same identity pieces holds =
      let parts = same_front end.stands.head (head_of identity) (blocks end.before ++ (end.shut ∷ end.more)) (blocks pieces ++ (holds.gate ∷ holds.behind))
      (omega (arith, end.stands.long, length-head identity holds.size)) (sym end.stands.spelled ∙ holds.spelled) in
      (parts.0, (same_blocks end.before pieces end.shut holds.gate end.more holds.behind end.stands.fits holds.fits end.is_shut holds.shut parts.1).0)

  -- a gate that is shut behind the front
  without : (image : List ℕ) (shut : ℕ) (more : List ℕ) → shut ≢ 1 → image ≡ front ++ (shut ∷ more) → (identity : Digest) (pieces : List (List ℕ)) → Holds identity file pieces → Holds identity image pieces
  without image shut more is_shut is identity pieces holds =
      let the = same identity pieces holds in
      record {
        gate = shut;
        behind = more;
        spelled = is ∙ append_assoc end.stands.head (blocks end.before) (shut ∷ more) ∙ ap (λ (l : List ℕ). l ++ (blocks end.before ++ (shut ∷ more))) the.0
            ∙ ap (λ (ps : List (List ℕ)). head_of identity ++ (blocks ps ++ (shut ∷ more))) the.1;
        shut = is_shut;
        fits = holds.fits;
        size = holds.size;
      }

  -- the record's block behind it, and a gate that is shut
  with_record : (image more : List ℕ) → image ≡ front ++ (1 ∷ (stored_bytes piece ++ more)) → (identity : Digest) (pieces : List (List ℕ)) → Holds identity file pieces → Holds identity image (pieces ++ piece ∷ [])
  with_record image more is identity pieces holds =
      let the = same identity pieces holds in
      record {
        gate = 0;
        behind = more;
        spelled = is ∙ append_assoc end.stands.head (blocks end.before) (1 ∷ (stored_bytes piece ++ more)) ∙ ap (λ (l : List ℕ). l ++ (blocks end.before ++ (1 ∷ (stored_bytes piece ++ more)))) the.0
            ∙ ap (λ (ps : List (List ℕ)). head_of identity ++ (blocks ps ++ (1 ∷ (stored_bytes piece ++ more)))) the.1
            ∙ ap (λ (l : List ℕ). head_of identity ++ (blocks pieces ++ l)) (block_behind piece more) ∙ ap (λ (l : List ℕ). head_of identity ++ l) (sym (blocks_push pieces piece (0 ∷ more)));
        shut = λ e. absurd cc;
        fits = listed_push pieces piece holds.fits fits;
        size = holds.size;
      }

  holds_of : (identity : Digest) (pieces : List (List ℕ)) → StandsFor identity file pieces → Holds identity file pieces
  holds_of identity pieces stands = used_holds identity file pieces end.stands.used stands

  abbrev rest : List ℕ
  rest = drop (length (stored_bytes piece)) end.more

  -- the file with the bytes behind the gate
  pub staged : with_bytes (gate + 1) (stored_bytes piece) file ≡ front ++ (end.shut ∷ (stored_bytes piece ++ rest))
  staged =
      ap (λ (l : List ℕ). with_bytes (gate + 1) (stored_bytes piece) l) (split ∙ sym (append_assoc front (end.shut ∷ []) end.more))
      ∙ put_at (front ++ end.shut ∷ []) end.more (stored_bytes piece) (gate + 1) (omega (arith, size, length-append front (end.shut ∷ [])))
      ∙ append_assoc front (end.shut ∷ []) (stored_bytes piece ++ rest)

  -- and with the gate open
  pub opened_gate : with_bytes gate (1 ∷ []) (with_bytes (gate + 1) (stored_bytes piece) file) ≡ front ++ (1 ∷ (stored_bytes piece ++ rest))
  opened_gate = ap (λ (l : List ℕ). with_bytes gate (1 ∷ []) l) staged ∙ put_at front (end.shut ∷ (stored_bytes piece ++ rest)) (1 ∷ []) gate size

  -- the first write leaves the records
  first_write : (image : List ℕ) → Torn (gate + 1) (length (stored_bytes piece)) file image → HasOrNot file piece image
  first_write image torn identity pieces stands =
      let torn' = subst (λ (f : List ℕ). Torn (gate + 1) (length (stored_bytes piece)) f image) (split ∙ sym (append_assoc front (end.shut ∷ []) end.more)) torn in
      let is = torn_front (front ++ end.shut ∷ []) end.more image (gate + 1) (length (stored_bytes piece)) (omega (arith, size, length-append front (end.shut ∷ []))) torn' in
      inl (inr (without image end.shut (drop (gate + 1) image) end.is_shut (is ∙ append_assoc front (end.shut ∷ []) (drop (gate + 1) image)) identity pieces (holds_of identity pieces stands)))

  -- the second leaves them with the new one or without
  second_write : (image : List ℕ) → Torn gate 1 (with_bytes (gate + 1) (stored_bytes piece) file) image → HasOrNot file piece image
  second_write image torn identity pieces stands =
      let torn' = subst (λ (f : List ℕ). Torn gate 1 f image) staged torn in
      let one = torn_byte front end.shut (stored_bytes piece ++ rest) image gate size torn' in
      let holds = holds_of identity pieces stands in
      elim (cases_eq one.byte 1) [
        | inl is_open ↦ inr (inr (with_record image rest (one.is ∙ ap (λ (b : ℕ). front ++ (b ∷ (stored_bytes piece ++ rest))) is_open) identity pieces holds))
        | inr shut ↦ inl (inr (without image one.byte (stored_bytes piece ++ rest) shut one.is identity pieces holds))
      ]

  pub each_write : (image : List ℕ) → Torn (gate + 1) (length (stored_bytes piece)) file image ⊎ Torn gate 1 (with_bytes (gate + 1) (stored_bytes piece) file) image → HasOrNot file piece image
  each_write image torn = ⊎_elim (first_write image) (second_write image) torn

  pub both_written : (image : List ℕ) → image ≡ with_bytes gate (1 ∷ []) (with_bytes (gate + 1) (stored_bytes piece) file) → Has file piece image
  both_written image is identity pieces stands = inr (with_record image rest (is ∙ opened_gate) identity pieces (holds_of identity pieces stands))

  -- and the journal ends behind the record
  pub ends_behind : (image : List ℕ) → image ≡ with_bytes gate (1 ∷ []) (with_bytes (gate + 1) (stored_bytes piece) file) → IsEnd image (gate + 5 + length piece)
  ends_behind image is = record {
    before = end.before ++ piece ∷ [];
    shut = 0;
    more = rest;
    stands = record {
      head = end.stands.head;
      long = end.stands.long;
      spelled = spelled;
      used = used_image;
      fits = listed_push end.before piece end.stands.fits fits;
      place = omega (arith, end.stands.place, sizes);
    };
    is_shut = λ e. absurd cc;
  }
    where
      spelled : image ≡ end.stands.head ++ (blocks (end.before ++ piece ∷ []) ++ (0 ∷ rest))
      spelled = is ∙ opened_gate ∙ append_assoc end.stands.head (blocks end.before) (1 ∷ (stored_bytes piece ++ rest))
          ∙ ap (λ (l : List ℕ). end.stands.head ++ (blocks end.before ++ l)) (block_behind piece rest) ∙ ap (λ (l : List ℕ). end.stands.head ++ l) (sym (blocks_push end.before piece (0 ∷ rest)))

      sizes : length (blocks (end.before ++ piece ∷ [])) ≡ length (blocks end.before) + (5 + length piece)
      sizes = length-blocks_push end.before piece

      used_image : is_blank image ≡ false
      used_image = ap is_blank (is ∙ opened_gate ∙ append_assoc end.stands.head (blocks end.before) (1 ∷ (stored_bytes piece ++ rest)))
          ∙ used_front end.stands.head (blocks end.before ++ (end.shut ∷ end.more)) (blocks end.before ++ (1 ∷ (stored_bytes piece ++ rest))) end.stands.long
          (omega (arith, length-append (blocks end.before) (1 ∷ (stored_bytes piece ++ rest)))) (ap is_blank (sym end.stands.spelled) ∙ end.stands.used)

-- the same of bytes that are those behind a record's gate
pub each_append : (file : List ℕ) (gate : ℕ) (piece bytes : List ℕ) → IsEnd file gate → IsPiece piece → bytes ≡ stored_bytes piece
    → (image : List ℕ) → Torn (gate + 1) (length bytes) file image ⊎ Torn gate 1 (with_bytes (gate + 1) bytes file) image → HasOrNot file piece image
each_append file gate piece bytes end fits is image torn =
    each_write file gate piece end fits image (subst (λ (b : List ℕ). Torn (gate + 1) (length b) file image ⊎ Torn gate 1 (with_bytes (gate + 1) b file) image) is torn)

abbrev pub appended : List ℕ → ℕ → List ℕ → List ℕ
appended file gate bytes = with_bytes gate (1 ∷ []) (with_bytes (gate + 1) bytes file)

pub append_has : (file : List ℕ) (gate : ℕ) (piece bytes image : List ℕ) → IsEnd file gate → IsPiece piece → bytes ≡ stored_bytes piece → image ≡ appended file gate bytes → Has file piece image
append_has file gate piece bytes image end fits is same = both_written file gate piece end fits image (same ∙ ap (appended file gate) is)

pub append_ends : (file : List ℕ) (gate : ℕ) (piece bytes image : List ℕ) → IsEnd file gate → IsPiece piece → bytes ≡ stored_bytes piece → image ≡ appended file gate bytes → IsEnd image (gate + 5 + length piece)
append_ends file gate piece bytes image end fits is same = ends_behind file gate piece end fits image (same ∙ ap (appended file gate) is)

-- a file that isn't written
pub same_or_not : (file piece image : List ℕ) → image ≡ file → HasOrNot file piece image
same_or_not file piece image is identity pieces stands = inl (subst (λ (l : List ℕ). StandsFor identity l pieces) (sym is) stands)

pub end_inside : (file : List ℕ) (gate : ℕ) → IsEnd file gate → gate < length file
end_inside file gate end =
    omega (arith, front_size file gate end.before (end.shut ∷ end.more) end.stands, ap length (front_split file gate end.before (end.shut ∷ end.more) end.stands), length-append (front_of end.stands.head end.before) (end.shut ∷ end.more))
