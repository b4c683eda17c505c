-- In a frame without a forged part each part that verifies was said by its party, or that lies.
use Rattle.std.proofs.Common.{◌≡◌, ◌⊎◌, inl, inr, ℕ, Bool, true, false, cond, ◌&&◌, not, List, [], ◌∷◌, Option, Some, None, refl, sym, ap, ◌∙◌}
use Rattle.std.specs.Prelude.{option_map, unwrap_or, Contains}
use Rattle.std.specs.List.{AllByRecursion, find, list_any}
use Rattle.std.specs.Str.{bytes_eq}
use Rattle.std.proofs.lemmas.Map.Views.{Contains-from_any}
use Rattle.zy_parts.specs.declared.signed.Part.{Part}
use Rattle.zy_seal.specs.Screening.{answer_to}
use Rattle.zy_seal.specs.declared.directory.SealAnswer.TheVariants as answers
use Rattle.zy_table.specs.declared.deeds.AnyFrame.{AnyFrame}
use Rattle.zy_world_law.specs.Honest.{is_yes, is_unsaid, is_forged, forger_in}
use Rattle.zy_world_law.specs.Reading.{any_frame_in, parts_in, parts_of}
use Rattle.zy_world_law.specs.Setup.{keys_of}
use Rattle.zy_world_law.specs.World.{World, texts_said}
use Rattle.zy_world_law.proofs.Tests.{same_bytes}

-- the text was said by its party, if that is correct
pub record IsSaid (o : Option (List (List ℕ))) (text : List ℕ) : Type 0 where
  pub said : (o ≡ None) ⊎ ((texts : List (List ℕ)) × (o ≡ Some texts) × Contains texts text)

found_none : {A : Type 0} (p : A → Bool) (xs : List A) (b : Bool) (x : A) → p x ≡ b → cond b (Some x) (find p xs) ≡ None → (b ≡ false) × (find p xs ≡ None)
found_none p xs true x is none = absurd cc
found_none p xs false x is none = (refl, none)

each_fails : {A : Type 0} (p : A → Bool) (xs : List A) → find p xs ≡ None → AllByRecursion (λ x. p x ≡ false) xs
each_fails p [] none = tt
each_fails p (x ∷ xs) none = let first = found_none p xs (p x) x refl none in (first.0, each_fails p xs first.1)

none_mapped : {A B : Type 0} (f : A → B) (o : Option A) → option_map f o ≡ None → o ≡ None
none_mapped f None is = refl
none_mapped f (Some x) is = absurd cc

not_true : (b : Bool) → not b ≡ false → b ≡ true
not_true true is = refl
not_true false is = absurd cc

said_by : (o : Option (List (List ℕ))) (text : List ℕ) → is_unsaid o text ≡ false → IsSaid o text
said_by None text is = record { said = inl refl }
said_by (Some said) text is =
    record { said = inr (said, refl, Contains-from_any (λ a b same. same_bytes a b same) text said (not_true (list_any (bytes_eq text) said) is)) }

verified_said : (b : Bool) (o : Option (List (List ℕ))) (text : List ℕ) → b ≡ true → b && is_unsaid o text ≡ false → IsSaid o text
verified_said true o text signed is = said_by o text is
verified_said false o text signed is = absurd cc

module _ {S : Type 0} (w : World S) where
  abbrev pub WasSaid : Part → Type 0
  WasSaid part = answer_to (keys_of w.setup) part ≡ answers.Yes → IsSaid (texts_said w part.by) part.text

  pub was_said : (part : Part) → is_forged w part ≡ false → WasSaid part
  was_said part is signed = verified_said (is_yes (answer_to (keys_of w.setup) part)) (texts_said w part.by) part.text (ap is_yes signed) is

  all_said : (parts : List Part) → AllByRecursion (λ (part : Part). is_forged w part ≡ false) parts → AllByRecursion WasSaid parts
  all_said [] all = tt
  all_said (part ∷ parts) all = (was_said part all.0, all_said parts all.1)

  -- of the frame that the bytes spell
  pub none_forged_in : (bytes : List ℕ) (frame : AnyFrame) → forger_in w bytes ≡ None → any_frame_in bytes ≡ Some frame → AllByRecursion (λ (part : Part). is_forged w part ≡ false) (parts_of frame)
  none_forged_in bytes frame none is =
      let clear : find (is_forged w) (parts_in bytes) ≡ None = none_mapped (λ (part : Part). part.by) _ none in
      let parts : find (is_forged w) (parts_of frame) ≡ None = ap (λ (o : Option AnyFrame). find (is_forged w) (unwrap_or (option_map parts_of o) [])) (sym is) ∙ clear in
      each_fails (is_forged w) (parts_of frame) parts

  pub parts_said : (bytes : List ℕ) (frame : AnyFrame) → forger_in w bytes ≡ None → any_frame_in bytes ≡ Some frame → AllByRecursion WasSaid (parts_of frame)
  parts_said bytes frame none is = all_said (parts_of frame) (none_forged_in bytes frame none is)
