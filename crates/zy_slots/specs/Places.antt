-- Inner forms: a place in four bytes, of which the greatest number stands for none.
use Rattle.std.specs.Prelude.{◌≡◌, ℕ, if◌then◌else◌, eqb, Option, Some, None}
use Rattle.std.proofs.Common.{refl, sym, ap, inl, inr}
use Rattle.std.proofs.lemmas.Bool.Decides.{eqb_tells}
use Rattle.zy_slots.specs.declared.index.Index.TheInside.{Inside}

abbrev pub place_of : Inside → Option ℕ
place_of index = if eqb index.raw 4294967295 then None else Some index.raw

abbrev pub index_of : Option ℕ → Inside
index_of None = record { raw = 4294967295 }
index_of (Some place) = record { raw = place }

-- a place gives its index back
pub index_of_place : (index : Inside) → index_of (place_of index) ≡ index
index_of_place index =
    elim (eqb_tells index.raw 4294967295) [
      | inl none ↦ rw none.0 (ap (λ (raw : ℕ). let index : Inside = record { raw = raw } in index) (sym none.1))
      | inr some ↦ rw some.0 refl
    ]
