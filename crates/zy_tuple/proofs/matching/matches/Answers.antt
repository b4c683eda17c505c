use Rattle.std.proofs.Common.{◌≡◌, suc, true, List, [], ◌∷◌, length, inl, inr, refl, sym, ap, ◌∙◌}
use Rattle.std.proofs.lemmas.Bool.{and_parts, cases_Bool}
use Rattle.zy_tuple.specs.declared.values.Field.{Field}
use Rattle.zy_tuple.specs.declared.values.Slot.{Slot}
use Rattle.zy_tuple.specs.Values.{fits_slot, matches as matched}
use Rattle.zy_tuple.proofs.matching.matches.Goals as goal

length-matched : (template : List Slot) (tuple : List Field) → matched template tuple ≡ true → length template ≡ length tuple
length-matched [] [] match = refl
length-matched [] (field ∷ fields) match = absurd (cc)
length-matched (slot ∷ slots) [] match = absurd (cc)
length-matched (slot ∷ slots) (field ∷ fields) match =
    ap suc (length-matched slots fields (and_parts (fits_slot slot field) (matched slots fields) match).1)

pub returns-then-slots-fields : goal.returns-then-slots-fields
returns-then-slots-fields c =
    elim (cases_Bool (matched c.args.template.now c.args.tuple.now)) [
      | inl match ↦ absurd (c.if-slots-fields.true (ap length c.slots-slots.ensures ∙ length-matched c.args.template.now c.args.tuple.now match ∙ ap length (sym c.fields-fields.ensures)))
      | inr miss ↦ sym miss
    ]
