-- What is kept as what a step owes is carried out, and what its report lets it take up.
use Rattle.std.proofs.Common.{◌≡◌, ℕ, nat_lt, true, List, [], ◌∷◌, Option, Some, None, refl, sym, ap, ◌∙◌, arith}
use Rattle.std.proofs.lemmas.Bool.{ltb-true}
use Rattle.zy_base.specs.Machine.{Rules}
use Rattle.zy_base.specs.declared.counts.Counts.{Counts}
use Rattle.zy_base.specs.declared.ids.Digest.{Digest}
use Rattle.zy_base.specs.declared.ids.Party.TheVariants.{Replica}
use Rattle.zy_base.specs.declared.ids.Place.{Place}
use Rattle.zy_base.specs.declared.ids.ReplicaId.{ReplicaId}
use Rattle.zy_base.specs.declared.ids.View.{View}
use Rattle.zy_parts.specs.declared.signed.Signed.{Signed}
use Rattle.zy_parts.specs.declared.statements.Check.{Check}
use Rattle.zy_vframes.specs.declared.frame.ViewCert.{ViewCert}
use Rattle.zy_cert.specs.Certificates.{IsCertificate}
use Rattle.zy_cert.specs.Points.{point_of_check}
use Rattle.zy_check.specs.Board.{stated}
use Rattle.zy_evidence.proofs.ProofLemmas.{all_clear}
use Rattle.zy_evidence.specs.Reading.{stretch_of}
use Rattle.zy_change.specs.Owing.{change_to}
use Rattle.zy_change.specs.declared.kept.Chosen.{Chosen}
use Rattle.zy_change.specs.declared.owed.Adoption.{Adoption}
use Rattle.zy_change.specs.declared.owed.Owed.{Owed}
use Rattle.zy_table.specs.State.{State, own_view}
use Rattle.zy_table.specs.Deeds.{Going}
use Rattle.zy_table.specs.Leaving.{accept, give_new, leave_alone}
use Rattle.zy_table.specs.Changes.{send_cert}
use Rattle.zy_replica_adopt.proofs.CommonLemmas.{head_within}
use Rattle.zy_replica_adopt.proofs.MeetLemmas.{takes_meets}
use Rattle.zy_replica_state.specs.Ready.{IsReady}
use Rattle.zy_replica_views.specs.Carrying.{carried, give, give_if, leave_if, send_if}
use Rattle.zy_replica_views.specs.Ending.{TakesUp}
use Rattle.zy_replica_views.specs.Entering.{CanEnter, view_after}

-- ---- what is kept

pub record Keeps {S : Type 0} (view : ℕ) (before after : Going S) : Type 0 where
  pub fetches : after.state.fetches ≡ before.state.fetches
  pub view_is : own_view after.state ≡ view

module _ {S : Type 0} (R : Rules S) where
  leave_keeps : (leave : Option View) (g : Going S) → Keeps (view_after g.state leave) g (leave_if R leave g)
  unfolding leave_alone
  leave_keeps None g = record { fetches = refl; view_is = refl }
  leave_keeps (Some view) g = record { fetches = refl; view_is = refl }

  give_keeps : (gather : Option View) (confirm : Option Chosen) (g : Going S) → Keeps (own_view g.state) g (give_if R gather confirm g)
  unfolding give accept give_new
  give_keeps None confirm g = record { fetches = refl; view_is = refl }
  give_keeps (Some view) None g = record { fetches = refl; view_is = refl }
  give_keeps (Some view) (Some chosen) g = record { fetches = refl; view_is = refl }

  send_keeps : (send : Option ReplicaId) (g : Going S) → Keeps (own_view g.state) g (send_if send g)
  send_keeps None g = record { fetches = refl; view_is = refl }
  send_keeps (Some id) g = by g.state.views.view_cert
    where
      by : (cert : Option ViewCert) → Keeps (own_view g.state) g (send_cert (Replica id) cert g)
      by None = record { fetches = refl; view_is = refl }
      by (Some cert) = record { fetches = refl; view_is = refl }

  -- it has asked for what it had, and is in the view that it left for, or in its own
  pub carried_keeps : (owed : Owed) (g : Going S) → Keeps (view_after g.state owed.leave) g (carried R owed g)
  carried_keeps owed g =
      let left = leave_if R owed.leave g in
      let given = give_if R owed.gather owed.confirm left in
      let one = leave_keeps owed.leave g in
      let two = give_keeps owed.gather owed.confirm left in
      let three = send_keeps owed.send given in
      record { fetches = three.fetches ∙ two.fetches ∙ one.fetches; view_is = three.view_is ∙ two.view_is ∙ one.view_is }

-- ---- what can be taken up

-- what a certificate of checkpoints says is their place
stated_place : (counts : Counts) (other : Check) (checks : List (Signed Check)) (point : View × Place × Digest) → IsCertificate point_of_check counts.local checks point → (stated other checks).place ≡ point.1
stated_place counts other [] point cert = absurd (let len = cert.len in let some = counts.sound in let never : ⊥ = omega (arith, len, some.local_and_change, some.change_in_reach) in never)
stated_place counts other (first ∷ others) point cert = ap (λ (p : View × Place × Digest). p.1) (ap point_of_check (cert.equal 0 first (omega arith)) ∙ cert.located)

module _ {S : Type 0} (R : Rules S) (s : State S) (ready : IsReady s) (leave : Option View) (a : Adoption) (can : CanEnter s leave a) where
  proven : nat_lt s.board.stable.place.0 a.told.stable_place.0 ≡ true → (stated s.board.stable a.told.checks).place ≡ a.told.stable_place
  proven further =
      let above = ltb-true _ _ further in
      let well = (all_clear s.views.counts s.views.interval (record { by = Replica (record { 0 = 0 }); stmt = change_to a.view a.told; sig = [] })).0 can.report.keeps_rules in
      let checkpoint = well.stable.later (λ zero. (let never : ⊥ = omega (arith, above, zero) in never)) in
      stated_place s.views.counts s.board.stable a.told.checks (a.told.stable_view, a.told.stable_place, a.told.stable_head) checkpoint.certificate

  -- what the verdict lets the replica take up meets its own history
  pub takes_up : TakesUp R s a
  takes_up takes =
      record {
        meets = takes_meets R s.kept s.board.stable a.told a.chosen.place a.chosen.head ready.board_stable ready.board_head can.chosen takes;
        end = (head_within (stretch_of a.told) a.chosen.place.0 a.chosen.head can.chosen).1;
        base = sym ready.board_stable;
        proof = proven;
      }
