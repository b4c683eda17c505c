-- The marks of a stretch: the test and the fact, and a place's one head.
use Rattle.std.proofs.Common.{◌≡◌, ℕ, ◌-◌, nat_eq, nat_le, true, ◌&&◌, take, fold, ap, sym, ◌∙◌}
use Rattle.std.proofs.lemmas.Bool.{and_parts, and_from, leb-true, le-leb}
use Rattle.std.specs.Cmp.Lexicographic.{pointwise, same_text, bytes_decides}
use Rattle.zy_base.specs.declared.ids.Digest.{Digest}
use Rattle.zy_chain.specs.declared.entry.Entry.{Entry}
use Rattle.zy_chain.specs.Stretch.{Mark, Stretch, end_of}
use Rattle.zy_choose.specs.Marks.{Has, has_mark}

-- a digest is its bytes
same_head : (a b : Digest) → pointwise nat_eq a.0 b.0 ≡ true → a ≡ b
same_head a b told = ap (λ bytes. record { 0 = bytes }) (same_text a.0 b.0 (sym told))

-- a test that tells yes tells a fact
pub has_mark-Has : (next : Digest → Entry → Digest) (s : Stretch) (m : Mark) → has_mark next s m ≡ true → Has next s m
has_mark-Has next s m told =
    let outer = and_parts (nat_le s.base.place m.place && nat_le m.place (end_of s)) _ told in
    let inner = and_parts (nat_le s.base.place m.place) (nat_le m.place (end_of s)) outer.0 in
    record {
      above = leb-true _ _ inner.0;
      below = leb-true _ _ inner.1;
      head = same_head _ _ outer.1;
    }

-- and tells yes of each fact
pub Has-has_mark : (next : Digest → Entry → Digest) (s : Stretch) (m : Mark) → Has next s m → has_mark next s m ≡ true
Has-has_mark next s m has =
    and_from _ _
    (and_from _ _ (le-leb _ _ has.above) (le-leb _ _ has.below))
    ((bytes_decides (fold next s.base.head (take (m.place - s.base.place) s.entries)).0 m.head.0).1 (ap (λ (h : Digest). h.0) has.head))

-- a stretch has one mark at a place
pub Has-one : (next : Digest → Entry → Digest) (s : Stretch) (m other : Mark) → Has next s m → Has next s other → m.place ≡ other.place → m ≡ other
Has-one next s m other has has_other same =
    let head : m.head ≡ other.head =
    sym has.head ∙ ap (λ (place : ℕ). fold next s.base.head (take (place - s.base.place) s.entries)) same ∙ has_other.head in
    λ i. record { place = same i; head = head i }
