-- What can be spelled is read back as the law reads it.
use Rattle.std.proofs.Common.{◌≡◌, ℕ, refl, sym, ap, ◌∙◌, subst}
use Rattle.std.proofs.lemmas.Nat.{from_be_bytes-to_be_bytes_4}
use Rattle.zy_base.specs.declared.ids.Party.{Party}
use Rattle.zy_law_normal.specs.Acts.{statement_by}
use Rattle.zy_parts.specs.Numbers as numbers
use Rattle.zy_parts.specs.Signing.{text_of}
use Rattle.zy_parts.specs.Statements.{spec_fields}
use Rattle.zy_parts.specs.declared.statements.Spec.{Spec}
use Rattle.zy_table.specs.Deeds.{text_by}
use Rattle.zy_table.specs.declared.deeds.Body.{Body}
use Rattle.zy_table.specs.declared.deeds.Body.TheVariants as bodies
use Rattle.zy_law_views.proofs.ReadBack.{began_back, change_back, check_back, local_back, new_back, order_back, spec_back}
use Rattle.zy_law_views.specs.Told.{spec_spelled, spec_told, statement_in}
use Rattle.zy_law_steps.specs.Spelled.{FitsBody}

-- a client's number of four bytes is spelled as it is
pub same_spelled : (spec : Spec) → spec_fields.Fits spec → spec_spelled spec ≡ spec
unfolding spec_fields
same_spelled spec fits = ap (λ (n : ℕ). record spec { client = record { 0 = n } }) (from_be_bytes-to_be_bytes_4 spec.client.0 fits.1.1.1.1.0)

response_back : (r : ℕ) (by : Party) (spec : Spec) → spec_fields.Fits spec → statement_in r (text_of numbers.spec spec_fields by spec) ≡ spec_told spec
response_back r by spec fits =
    let same = same_spelled spec fits in
    spec_back r by spec (subst spec_fields.Fits (sym same) fits) ∙ ap spec_told same

pub body_back : (r : ℕ) (by : Party) (body : Body) → FitsBody body → statement_in r (text_by by body) ≡ statement_by r body
unfolding statement_in text_of
body_back r by (bodies.Order order) fits = order_back r by order fits
body_back r by (bodies.Spec spec) fits = response_back r by spec fits
body_back r by (bodies.Local local) fits = local_back r by local fits
body_back r by (bodies.Confirm confirm) fits = refl
body_back r by (bodies.Hole hole) fits = refl
body_back r by (bodies.Hate hate) fits = refl
body_back r by (bodies.Check check) fits = check_back r by check fits
body_back r by (bodies.Change change) fits = change_back r by change fits
body_back r by (bodies.New new) fits = new_back r by new fits
body_back r by (bodies.Began began) fits = began_back r by began fits
body_back r by (bodies.Fetch fetch) fits = refl
