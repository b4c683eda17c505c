-- What a calm replica makes of a certificate for its last place.
use Rattle.std.proofs.Common.{◌≡◌, ℕ, ◌-◌, ◌<◌, ◌≤◌, Bool, true, false, List, ◌∷◌, take, Option, Some, None, refl, sym, ap, ◌∙◌, arith, le-leb}
use Rattle.std.proofs.lemmas.Bool.{le-ltb, or_from}
use Rattle.std.proofs.lemmas.List.{take_all}
use Rattle.std.specs.Prelude.{nat_lt, if◌then◌else◌}
use Rattle.zy_admit.specs.Judging.{same_digest}
use Rattle.zy_base.specs.Machine.{Rules}
use Rattle.zy_base.specs.declared.cause.Cause.{Cause}
use Rattle.zy_base.specs.declared.cause.Cause.TheVariants as causes
use Rattle.zy_base.specs.declared.ids.ClientId.{ClientId}
use Rattle.zy_base.specs.declared.ids.Digest.{Digest}
use Rattle.zy_base.specs.declared.ids.View.{View}
use Rattle.zy_base.specs.declared.step.Answer.TheVariants.{Taken}
use Rattle.zy_cert.specs.Certificates.{certified}
use Rattle.zy_cert.specs.Equal.{digest-equal, same_spec}
use Rattle.zy_cert.specs.Points.{point_of_spec}
use Rattle.zy_chain.specs.Answers.{Answers}
use Rattle.zy_chain.specs.Heads.{head_from}
use Rattle.zy_chain.specs.Stretch.{end_of, entry_in, head_in}
use Rattle.zy_chain.specs.declared.entry.Entry.{Entry}
use Rattle.zy_change.specs.Views.{is_further}
use Rattle.zy_exec.proofs.ReplayLemmas.{head-along}
use Rattle.zy_exec.specs.Kept.{last_place, reply_in, stretch_of}
use Rattle.zy_exec.specs.Replay.{Point}
use Rattle.zy_frames.specs.declared.frame.Frame.TheVariants as frames
use Rattle.zy_parts.specs.declared.signed.Signed.{Signed}
use Rattle.zy_parts.specs.declared.statements.Local.{Local}
use Rattle.zy_parts.specs.declared.statements.Spec.{Spec}
use Rattle.zy_table.specs.Commits.{commit, commit_as, commit_beside, commit_judged, local_said, say_local}
use Rattle.zy_table.specs.Deeds.{ends, refused}
use Rattle.zy_table.specs.Gathering.{own_at, own_from, with_certificate}
use Rattle.zy_table.specs.State.{State, own_view, signs_left}
use Rattle.zy_table.specs.Whole.{commit_in_view, plain_row, unless}
use Rattle.zy_calm_rows.proofs.ReplicaRows.{no_cause}
use Rattle.zy_calm_rows.proofs.Running.{none_due}
use Rattle.zy_calm_rows.specs.Calm.{IsCalm}
use Rattle.zy_calm_rows.specs.Outcomes.{committed_calmly}
use Rattle.zy_calm_rows.specs.Waiting.{Answered, IsCertificateOf, local_to}

nothing_own : (view place : ℕ) (e : Option Entry) (head : Option Digest) (reply : Option Answers) → own_from view place e head reply None ≡ None
nothing_own view place None head reply = refl
nothing_own view place (Some e) None reply = refl
nothing_own view place (Some e) (Some head) None = refl
nothing_own view place (Some e) (Some head) (Some reply) = refl

module _ {S : Type 0} (R : Rules S) (p : Point S) (s : State S) (calm : IsCalm R p s) (a : Answered) (some : 0 < p.place) (inside : p.place < s.kept.interval)
    (place : a.spec.place.0 ≡ p.place) (head : a.spec.head ≡ p.head) (specs : List (Signed Spec)) where
  own_head : head_in (stretch_of s.kept) a.spec.place.0 ≡ Some p.head
  own_head =
      let n : ℕ = a.spec.place.0 - s.kept.base.place in
      let low : nat_lt a.spec.place.0 s.kept.base.place ≡ false = le-ltb a.spec.place.0 s.kept.base.place (omega (arith, calm.base)) in
      let high : nat_lt (end_of (stretch_of s.kept)) a.spec.place.0 ≡ false = le-ltb (end_of (stretch_of s.kept)) a.spec.place.0 (omega (arith, calm.place, place)) in
      let all : take n s.kept.entries ≡ s.kept.entries = take_all n s.kept.entries (omega (arith, calm.place, place)) in
      ap (λ (b : Bool). if b then None else Some (head_from s.kept.base.head (take n s.kept.entries))) (or_from (nat_lt a.spec.place.0 s.kept.base.place) (nat_lt (end_of (stretch_of s.kept)) a.spec.place.0) low high)
      ∙ ap (λ (es : List Entry). Some (head_from s.kept.base.head es)) all
      ∙ ap Some (sym (head-along R s.kept.base s.kept.entries) ∙ ap (λ (q : Point S). q.head) calm.now)

  no_checkpoint : own_at R s a.spec.place.0 ≡ None
  no_checkpoint =
      ap (own_from (own_view s) a.spec.place.0 (entry_in (stretch_of s.kept) a.spec.place.0) (head_in (stretch_of s.kept) a.spec.place.0) (reply_in R s.kept a.spec.place.0))
      (none_due R s.kept a.spec.place.0 calm.base (calm.place ∙ sym place) (omega (arith, place)) (omega (arith, place)))
      ∙ nothing_own (own_view s) a.spec.place.0 (entry_in (stretch_of s.kept) a.spec.place.0) (head_in (stretch_of s.kept) a.spec.place.0) (reply_in R s.kept a.spec.place.0)

  pub commit_row : a.spec.view ≡ record { 0 = 0 } → IsCertificateOf a s.counts.cert specs → local_said s (local_to a) ≡ None → 1 ≤ signs_left s
      → plain_row R s (frames.Commit specs) ≡ committed_calmly R s specs a.spec.client (local_to a)
  unfolding commit
  commit_row view cert unsaid left =
      let list = cert.first ∷ cert.others in
      let local = local_to a in
      let low : nat_lt a.spec.place.0 s.orders.base ≡ false = le-ltb a.spec.place.0 s.orders.base (omega (arith, calm.orders)) in
      let high : nat_lt (last_place s.kept) a.spec.place.0 ≡ false = le-ltb (last_place s.kept) a.spec.place.0 (omega (arith, calm.place, place)) in
      let same : same_digest p.head a.spec.head ≡ true = (digest-equal p.head a.spec.head).1 (sym head) in
      ap (commit_in_view R s) cert.parts
      ∙ ap (λ (c : Option Cause). unless c s (commit R s cert.first.stmt list)) (no_cause R p s calm cert.first.stmt.view.0 (ap (λ (x : Spec). x.view.0) cert.stmt ∙ ap (λ (v : View). v.0) view))
      ∙ ap (λ (x : Spec). commit R s x list) cert.stmt
      ∙ ap (λ (l : List (Signed Spec)). commit R s a.spec l) (sym cert.parts)
      ∙ ap (λ (b : Bool). if b then refused causes.OldPlace s else (if nat_lt (last_place s.kept) a.spec.place.0 then refused (causes.Behind a.spec.place) s else commit_judged R s specs a.spec.client (certified same_spec point_of_spec s.counts.cert specs))) low
      ∙ ap (λ (b : Bool). if b then refused (causes.Behind a.spec.place) s else commit_judged R s specs a.spec.client (certified same_spec point_of_spec s.counts.cert specs)) high
      ∙ ap (commit_judged R s specs a.spec.client) cert.certified
      ∙ ap (commit_beside R s specs a.spec.client local) own_head
      ∙ ap (λ (b : Bool). if b then commit_as R s specs a.spec.client local (local_said s local) (own_at R s a.spec.place.0) else refused (causes.OtherHistory p.head a.spec.head) s) same
      ∙ ap (λ (l : Option (Signed Local)). commit_as R s specs a.spec.client local l (own_at R s a.spec.place.0)) unsaid
      ∙ ap (commit_as R s specs a.spec.client local None) no_checkpoint
      ∙ ap (λ (b : Bool). if b then ends Taken (say_local R a.spec.client local (with_certificate s local.place specs)) else refused causes.KeySpent s) (le-leb 1 (signs_left s) left)

module _ {S : Type 0} (R : Rules S) (p : Point S) (s : State S) (calm : IsCalm R p s) (a : Answered) (specs : List (Signed Spec)) where
  -- what is kept of certificates is all that changes beside the local commit
  at_rest : (b : Bool) (t : State S) → IsCalm R p t → IsCalm R p (if b then t else s)
  at_rest true t is = is
  at_rest false t is = calm

  pub commit_calm : (client : ClientId) → IsCalm R p (committed_calmly R s specs client (local_to a)).state
  commit_calm client =
      let before = at_rest (is_further a.spec.place s.views.specs) (record s { views = record s.views { specs = Some (record { place = a.spec.place; specs = specs }) } })
      (record { mode = calm.mode; now = calm.now; place = calm.place; base = calm.base; orders = calm.orders; slots = calm.slots; pending = calm.pending }) in
      record { mode = before.mode; now = before.now; place = before.place; base = before.base; orders = before.orders; slots = before.slots; pending = before.pending }
