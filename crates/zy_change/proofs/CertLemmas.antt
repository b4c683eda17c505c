-- What a view certificate lets a replica adopt is certified.
use Rattle.std.proofs.Common.{◌≡◌, ℕ, ◌<◌, ◌^◌, Bool, true, false, if◌then◌else◌, All, IfOk, IfSome, Option, Some, None, Result, Ok, Err, refl, ap, ◌∙◌}
use Rattle.zy_base.specs.declared.cause.Cause.{Cause}
use Rattle.zy_base.specs.declared.cause.Cause.TheVariants as causes
use Rattle.zy_base.specs.declared.ids.Digest.{Digest}
use Rattle.zy_base.specs.declared.ids.Place.{Place}
use Rattle.zy_base.specs.declared.ids.View.{View}
use Rattle.zy_parts.specs.declared.reports.Change.{Change}
use Rattle.zy_parts.specs.declared.reports.Told.{Told}
use Rattle.zy_parts.specs.declared.signed.Signed.{Signed}
use Rattle.zy_vframes.specs.ViewFrames.{IsFrameInRange}
use Rattle.zy_vframes.specs.declared.frame.ViewCert.{ViewCert}
use Rattle.zy_vframes.specs.declared.frame.ViewFrame.TheVariants as frames
use Rattle.zy_cert.specs.Certificates.{certified}
use Rattle.zy_cert.specs.Equal.{same_began}
use Rattle.zy_cert.specs.Points.{point_of_began}
use Rattle.zy_evidence.specs.Reading.{IsReplica}
use Rattle.zy_evidence.specs.Rules.{is_certified_at}
use Rattle.zy_change.specs.declared.kept.Accepted.{Accepted}
use Rattle.zy_change.specs.declared.kept.Chosen.{Chosen}
use Rattle.zy_change.specs.declared.owed.Adoption.{Adoption}
use Rattle.zy_change.specs.Ahead.{adoption_ahead}
use Rattle.zy_change.specs.Fit.{IsCertified}
use Rattle.zy_change.specs.Owing.{nothing, refused, provider_in, adoption_by}
use Rattle.zy_change.specs.Views.{Views}
use Rattle.zy_change.specs.EnteringAhead.{IsInFrames}
use Rattle.zy_change.specs.Judging.{chosen_in}
use Rattle.zy_change.specs.Confirming.{is_over, cert_compared, cert_judged, view_cert_owes}
use Rattle.zy_change.proofs.JudgingLemmas.{accepted}

pub adopted_small : (view : View) (chosen : Chosen) (told : Option Told) → chosen.place.0 < 2 ^ 62 → IfSome (adoption_ahead view chosen told) IsInFrames
adopted_small view chosen None small = tt
adopted_small view chosen (Some told) small = small

pub ok_both : {T E : Type 0} (r : Result T E) (P Q R : T → Type 0) → IfOk r P → IfOk r Q → ((x : T) → P x → Q x → R x) → IfOk r R
ok_both (Ok x) P Q R first second both = both x first second
ok_both (Err e) P Q R first second both = tt

pub some_both : {T : Type 0} (o : Option T) (P Q : T → Type 0) → IfSome o P → IfSome o (λ x. P x → Q x) → IfSome o Q
some_both None P Q first second = tt
some_both (Some x) P Q first second = second first

module _ (v : Views) (cert : ViewCert) (signers : All (λ c. IsReplica c.by) cert.new.stmt.changes) (in_range : IsFrameInRange (frames.ViewCert cert)) where
  abbrev Certifies : Adoption → Type 0
  Certifies adoption = IsInFrames adoption → IsCertified v.counts v.interval cert adoption.chosen

  module _ (chosen : Chosen) (is : chosen_in v.counts v.interval cert.new.stmt ≡ Ok chosen) where
    abbrev a : Accepted
    a = record { new = cert.new; chosen = chosen }

    abbrev point : View × Place × Digest
    point = (cert.new.stmt.view, chosen.place, chosen.head)

    adopted : is_certified_at point (certified same_began point_of_began v.counts.cert cert.begans) ≡ true → (o : Option (Signed Change)) → IfSome (adoption_by a o) Certifies
    adopted proven None = tt
    adopted proven (Some c) = λ small. record { accepted = accepted v.counts v.interval cert.new chosen signers in_range.0 is; place = small; begans = in_range.1; proven = proven }

    compared : (found : Result (View × Place × Digest) Cause) → certified same_began point_of_began v.counts.cert cert.begans ≡ found → IfSome (cert_compared found cert chosen).adopt Certifies
    compared (Err cause) found_is = tt
    compared (Ok found) found_is = by (is_certified_at point (Ok found)) refl
      where
        by : (b : Bool) → is_certified_at point (Ok found) ≡ b → IfSome (if b then record nothing { adopt = adoption_by a (provider_in a) } else refused causes.Unmatched).adopt Certifies
        by false other = tt
        by true same = adopted (ap (is_certified_at point) found_is ∙ same) (provider_in a)

  judged : (r : Result Chosen Cause) → chosen_in v.counts v.interval cert.new.stmt ≡ r → IfSome (cert_judged r v cert).adopt Certifies
  judged (Err cause) is = tt
  judged (Ok chosen) is = compared chosen is (certified same_began point_of_began v.counts.cert cert.begans) refl

  by_view : (over : Bool) → IfSome (if over then refused causes.OldView else cert_judged (chosen_in v.counts v.interval cert.new.stmt) v cert).adopt Certifies
  by_view true = tt
  by_view false = judged (chosen_in v.counts v.interval cert.new.stmt) refl

  pub certified_only : IfSome (view_cert_owes v cert).adopt Certifies
  certified_only = by_view (is_over v cert.new.stmt.view.0)
