-- All replicas but one, one number on.
use Rattle.std.proofs.Common.{◌≡◌, ◌∷◌, [], ◌++◌, ℕ, suc, Bool, true, false, List, map, refl, ap, ◌∙◌}
use Rattle.std.specs.Prelude.{filter, if◌then◌else◌, nat_eq}
use Rattle.std.specs.List.{range_with_len}
use Rattle.std.proofs.lemmas.List.{map-append}
use Rattle.std.proofs.lemmas.List.Elements.{filter-append}
use Rattle.zy_base.specs.declared.ids.Party.{Party}
use Rattle.zy_base.specs.declared.ids.Party.TheVariants.{Replica}
use Rattle.zy_table.specs.Deeds.{others}
use Rattle.zy_table.proofs.RangeLemmas.{range_snoc}

abbrev pub name : ℕ → Party
name id = Replica (record { 0 = id })

abbrev is_other : ℕ → ℕ → Bool
is_other me id = if nat_eq id me then false else true

abbrev pub kept : (b : Bool) (n : ℕ) → List Party
kept b n = if b then [] else name n ∷ []

one : (me n : ℕ) (b : Bool) → nat_eq n me ≡ b → map name (filter (is_other me) (n ∷ [])) ≡ kept b n
one me n true is = rw is refl
one me n false is = rw is refl

pub others_next : (me n : ℕ) (b : Bool) → nat_eq n me ≡ b → others me (suc n) ≡ others me n ++ kept b n
others_next me n b is =
    ap (λ (xs : List ℕ). map name (filter (is_other me) xs)) (range_snoc n)
    ∙ ap (map name) (filter-append (is_other me) (range_with_len 0 n) (n ∷ []))
    ∙ map-append name (filter (is_other me) (range_with_len 0 n)) (filter (is_other me) (n ∷ []))
    ∙ ap (λ (xs : List Party). others me n ++ xs) (one me n b is)
