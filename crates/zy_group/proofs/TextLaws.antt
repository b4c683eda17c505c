-- What is read of a file's text.
use Rattle.std.proofs.Common.{◌≡◌, ℕ, inl, inr, List, Result, Ok, Err, Option, None, refl, sym, ◌∙◌}
use Rattle.std.specs.Prelude.{IsUtf8}
use Rattle.std.specs.Str.{is_utf8}
use Rattle.std.proofs.lemmas.Bool.{cases_Bool, true≢false}
use Rattle.std.proofs.lemmas.Str.{IsUtf8-from_is_utf8, is_utf8-from_IsUtf8}
use Rattle.toml.specs.Data.{Members}
use Rattle.toml.specs.Parse.{parse_document}
use Rattle.zy_group.specs.Reading.{IsRead, IsNoText, toml_of}
use Rattle.zy_group.specs.declared.fault.GroupFault.{GroupFault}
use Rattle.zy_group.specs.declared.fault.GroupFault.TheVariants as faults

not_utf8 : {A : Type 0} (number : ℕ) (r : Result A GroupFault) → IsNoText number r → IsRead (Err number) r
not_utf8 number (Ok group) none = absurd none
not_utf8 number (Err (faults.Field field)) none = rw none refl
not_utf8 number (Err faults.Want) none = tt

-- a text that isn't UTF-8 is told as one that isn't TOML
pub text_read : {A : Type 0} (number : ℕ) (fields : Option Members → Result A ℕ) (text : List ℕ) (r : Result A GroupFault) → fields None ≡ Err number
    → (IsUtf8 text → IsRead (fields (parse_document text)) r) → (¬ IsUtf8 text → IsNoText number r) → IsRead (fields (toml_of text)) r
text_read number fields text r fails read no_text =
    elim (cases_Bool (is_utf8 text)) [
      | inl is ↦ rw is (read (IsUtf8-from_is_utf8 text is))
      | inr other ↦ rw (other, fails) (not_utf8 number r (no_text (λ is. true≢false (sym (is_utf8-from_IsUtf8 text is) ∙ other))))
    ]
