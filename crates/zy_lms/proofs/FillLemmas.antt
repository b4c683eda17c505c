-- The parts of a public key, written one behind another over zeros.
use Rattle.std.proofs.Common.{arith, ◌≡◌, ◌++◌, [], length, ℕ, List, take, drop, ◌∙◌, ap, length-append, length-drop, append_assoc, sym}
use Rattle.std.proofs.lemmas.List.{take_at, drop_at, drop_all, append-nil, length-take-le}
use borrow.Rule.Slice.PartMut.{put_mid}

filled : (a k : ℕ) (front rest part : List ℕ) → length front ≡ a
    → put_mid a k (front ++ rest) part ≡ (front ++ part) ++ drop k rest
filled a k front rest part here =
    rw (take_at front rest a here, drop_at front rest a here) (sym (append_assoc front part (drop k rest)))

pub public_filled : (height ots id root zeros : List ℕ) → length height ≡ 4 → length ots ≡ 4 → length id ≡ 16 → length zeros ≡ 52
    → put_mid 24 32 (put_mid 8 16 (put_mid 4 4 (height ++ zeros) ots) id) root ≡ height ++ ots ++ id ++ root
public_filled height ots id root zeros four four' sixteen rest =
    let behind_ots = drop 4 zeros in
    let behind_id = drop 16 behind_ots in
    let none : drop 32 behind_id ≡ [] = drop_all 32 behind_id (omega (arith, length-drop 16 behind_ots, length-drop 4 zeros)) in
    ap (λ bytes. put_mid 24 32 (put_mid 8 16 bytes id) root) (filled 4 4 height zeros ots four)
    ∙ ap (λ bytes. put_mid 24 32 bytes root) (filled 8 16 (height ++ ots) behind_ots id (omega (arith, length-append height ots)))
    ∙ filled 24 32 (height ++ ots ++ id) behind_id root (omega (arith, length-append height ots, length-append (height ++ ots) id))
    ∙ ap (λ end. height ++ ots ++ id ++ root ++ end) none
    ∙ append-nil (height ++ ots ++ id ++ root)

-- the third part has room for an identifier
pub room_for_id : (height ots zeros : List ℕ) → length height ≡ 4 → length ots ≡ 4 → length zeros ≡ 52
    → length (take 16 (drop 8 (put_mid 4 4 (height ++ zeros) ots))) ≡ 16
room_for_id height ots zeros four four' rest =
    let behind = drop_at (height ++ ots) (drop 4 zeros) 8 (omega (arith, length-append height ots)) in
    rw (filled 4 4 height zeros ots four, behind) (length-take-le 16 (drop 4 zeros) (omega (arith, length-drop 4 zeros)))

-- two levels' public key: the number of levels, and the top key's public key
pub two_filled : (levels public zeros : List ℕ) → length levels ≡ 4 → length zeros ≡ 56 → put_mid 4 56 (levels ++ zeros) public ≡ levels ++ public
two_filled levels public zeros four rest =
    let none : drop 56 zeros ≡ [] = drop_all 56 zeros (omega arith) in
    filled 4 56 levels zeros public four ∙ ap (λ end. levels ++ public ++ end) none ∙ append-nil (levels ++ public)
