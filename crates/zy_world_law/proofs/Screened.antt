-- Where nothing is found against the parts of a frame, each of them verifies.
use Rattle.std.proofs.Common.{◌≡◌, Bool, true, false, ◌||◌, List, [], ◌∷◌, Some, None, refl}
use Rattle.std.specs.Prelude.{if◌then◌else◌}
use Rattle.std.specs.List.{AllByRecursion, list_any}
use Rattle.zy_base.specs.declared.cause.Cause.TheVariants as causes
use Rattle.zy_parts.specs.declared.signed.Part.{Part}
use Rattle.zy_seal.specs.Keys.{Keys}
use Rattle.zy_seal.specs.Screening.{screen, answer_to, is_unknown, is_bad}
use Rattle.zy_seal.specs.declared.directory.SealAnswer.{SealAnswer}
use Rattle.zy_seal.specs.declared.directory.SealAnswer.TheVariants as answers

clear_both : (p q : Bool) → p || q ≡ false → (p ≡ false) × (q ≡ false)
clear_both true q is = absurd cc
clear_both false q is = (refl, is)

neither : (answer : SealAnswer) → is_unknown answer ≡ false → is_bad answer ≡ false → answer ≡ answers.Yes
neither answers.Yes known good = refl
neither answers.UnknownParty known good = absurd cc
neither answers.BadSignature known good = absurd cc

screen_in : (unknown bad : Bool) → (if unknown then Some causes.UnknownParty else (if bad then Some causes.BadSignature else None)) ≡ None → (unknown ≡ false) × (bad ≡ false)
screen_in true bad is = absurd cc
screen_in false true is = absurd cc
screen_in false false is = (refl, refl)

module _ (keys : Keys) where
  abbrev pub Verifies : Part → Type 0
  Verifies part = answer_to keys part ≡ answers.Yes

  each_verifies : (parts : List Part) → list_any (λ part. is_unknown (answer_to keys part)) parts ≡ false → list_any (λ part. is_bad (answer_to keys part)) parts ≡ false → AllByRecursion Verifies parts
  each_verifies [] known good = tt
  each_verifies (part ∷ parts) known good =
      let a = clear_both (is_unknown (answer_to keys part)) (list_any (λ part. is_unknown (answer_to keys part)) parts) known in
      let b = clear_both (is_bad (answer_to keys part)) (list_any (λ part. is_bad (answer_to keys part)) parts) good in
      (neither (answer_to keys part) a.0 b.0, each_verifies parts a.1 b.1)

  pub all_verify : (parts : List Part) → screen keys parts ≡ None → AllByRecursion Verifies parts
  all_verify parts clear = let both = screen_in _ _ clear in each_verifies parts both.0 both.1
