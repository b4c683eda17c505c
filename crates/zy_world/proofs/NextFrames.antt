-- Which frame flows bring next, and which behind it.
use Rattle.std.proofs.Common.{◌≡◌, ℕ, suc, ◌+◌, ◌-◌, Bool, true, false, not, cond, ◌&&◌, List, ◌∷◌, ◌++◌, length, map, Option, Some, None, refl, sym, ap, ap₂, ◌∙◌, subst, append_assoc, arith}
use Rattle.std.specs.Prelude.{slice_get, slice_set, option_map, nat_lt}
use Rattle.std.proofs.lemmas.Bool.{lt-ltb}
use Rattle.zy_base.specs.Machine.{Rules}
use Rattle.zy_base.specs.declared.ids.ClientId.{ClientId}
use Rattle.zy_base.specs.declared.ids.Party.{Party}
use Rattle.zy_base.specs.declared.ids.Party.TheVariants as parties
use Rattle.zy_base.specs.declared.ids.ReplicaId.{ReplicaId}
use Rattle.zy_base.specs.declared.step.Event.TheVariants.{Heard}
use Rattle.zy_table.specs.ClientRows.{client_step}
use Rattle.zy_table.specs.ClientState.{client_outgoing}
use Rattle.zy_table.specs.Deeds.{outgoing_of}
use Rattle.zy_table.specs.State.{State}
use Rattle.zy_table.specs.Whole.{whole_step}
use Rattle.zy_world.specs.Ahead.{AreNext, due_from}
use Rattle.zy_world.specs.Shown.{is_correct_seat, seat_in}
use Rattle.zy_world.specs.declared.batch.Due.{Due}
use Rattle.zy_world.specs.declared.seat.Seat.{Seat}
use Rattle.zy_world.specs.declared.seat.Seat.TheVariants as sat
use Rattle.zy_world_law.proofs.Goings.{kept_goes}
use Rattle.zy_world_law.specs.Events.{Happened, bring, bring_to_client, bring_to_replica, client_note, client_stepped, completed_by, deliver, happens, replica_goes, replica_note, stepped, unless_forged, with_client, with_done, with_replica, client_goes}
use Rattle.zy_world_law.specs.Events.Happened.{Goes}
use Rattle.zy_world_law.specs.Texts.{step_texts, texts_in}
use Rattle.zy_world_law.specs.Honest.{forger_in}
use Rattle.zy_world_law.specs.World.{World, Replica, Client, Mail, correct_in, delivered, is_correct, is_due, mail_at, mail_to, next_undelivered, with_sent}
use Rattle.zy_world_law.specs.declared.event.WorldEvent.TheVariants.{Deliver}
use Rattle.zy_world_law.specs.declared.note.Note.{Note}
use Rattle.zy_world.proofs.DueFrames.{IsFirst, due_append, first_of}
use Rattle.zy_world.proofs.SeatLemmas.{kind_of_set, told_kind}
use Rattle.zy_world.proofs.ShownSeats.{correct_is, whole_seat}

-- ---- who sits where

correct_kind : (seat : Seat) → is_correct_seat seat ≡ true → seat ≡ sat.Correct
correct_kind sat.Nobody is = absurd cc
correct_kind sat.Liar is = absurd cc
correct_kind sat.Correct is = refl

pub correct_one : {A : Type 0} (o : Option (Option A)) → seat_in o ≡ sat.Correct → (x : A) × (o ≡ Some (Some x))
correct_one None is = absurd cc
correct_one (Some None) is = absurd cc
correct_one (Some (Some x)) is = (x, refl)

due_correct : (delivered dropped correct muted : Bool) → (not delivered && (not dropped && (correct && not muted))) ≡ true → correct ≡ true
due_correct true dropped correct muted is = absurd cc
due_correct false true correct muted is = absurd cc
due_correct false false false muted is = absurd cc
due_correct false false true muted is = refl

pub whole_of : {S : Type 0} (o : Option (Option (Replica S))) (s : State S) → Some s ≡ option_map (λ x. x.state) (correct_in o) → (x : Replica S) × (o ≡ Some (Some x)) × (s ≡ x.state)
whole_of None s is = absurd cc
whole_of (Some None) s is = absurd cc
whole_of (Some (Some x)) s is = (x, refl, cc)

-- ---- the next frame

module _ {S : Type 0} (R : Rules S) (g : World S) (due : Due) (more : List Due) (next : AreNext g (due ∷ more)) where
  pub first : IsFirst (is_due g) 1 g.bag due (more ++ next.more)
  first = first_of (is_due g) 1 g.bag due (more ++ next.more) next.all

  abbrev pub mail : Mail
  mail = first.mail

  stands : due.number ≡ suc first.before
  stands = omega (arith, first.number)

  pub mail_there : mail_at g due.number ≡ Some mail
  mail_there = ap (mail_at g) stands ∙ first.there

  pub bytes_are : mail.bytes ≡ due.bytes
  bytes_are = first.bytes

  pub is_next : next_undelivered g ≡ Some due.number
  is_next =
      let below : nat_lt first.before (length g.bag) ≡ true = lt-ltb first.before (length g.bag) first.within in
      let number : first.before + 1 ≡ due.number = omega (arith, stands) in
      ap (λ (n : ℕ). option_map (λ before. before + 1) (cond (nat_lt n (length g.bag)) (Some n) None)) first.first
      ∙ ap (λ (b : Bool). option_map (λ before. before + 1) (cond b (Some first.before) None)) below
      ∙ ap (λ (n : ℕ). Some n) number

  pub goes_to_correct : whole_seat g due.to ≡ sat.Correct
  goes_to_correct =
      subst (λ (party : Party). whole_seat g party ≡ sat.Correct) first.to
      (correct_kind (whole_seat g mail.to)
      (sym (correct_is g mail.to) ∙ due_correct mail.delivered mail.dropped (is_correct g mail.to) (g.muted mail.to) first.due))

  pub is_brought : happens R g (Deliver due.number None) ≡ bring R g (delivered g due.number mail) due.to due.bytes
  unfolding happens
  is_brought = ap (deliver R g due.number None) mail_there ∙ ap₂ (bring R g (delivered g due.number mail)) first.to first.bytes

-- ---- what is next behind it

-- the frame is marked, others are sent, and who is muted or lies stays so
pub record IsLater {S : Type 0} (g w : World S) (number : ℕ) (mail : Mail) : Type 0 where
  pub muted : w.muted ≡ g.muted
  pub correct : (party : Party) → is_correct w party ≡ is_correct g party
  pub sent : List Mail
  pub bag : w.bag ≡ slice_set g.bag (number - 1) (record mail { delivered = true }) ++ sent

unforged : {S : Type 0} (by : Option Party) (h : Happened S) (w : World S) (note : Note) → unless_forged by h ≡ Goes w note → h ≡ Goes w note
unforged None h w note is = is
unforged (Some party) h w note is = absurd cc

module _ {S : Type 0} (g w : World S) (number : ℕ) (mail : Mail) (bytes : List ℕ) (note : Note) where
  same_replicas : (id : ReplicaId) (x y : Replica S) → slice_get g.replicas id.0 ≡ Some (Some x)
      → (party : Party) → is_correct (record g { replicas = slice_set g.replicas id.0 (Some y) }) party ≡ is_correct g party
  same_replicas id x y sits (parties.Replica j) =
      told_kind (λ r. map (λ remark. remark.text) r.said) (slice_get (slice_set g.replicas id.0 (Some y)) j.0)
      ∙ ap is_correct_seat (kind_of_set g.replicas id.0 j.0 y x (ap (λ (o : Option (Option (Replica S))). correct_in o) sits))
      ∙ sym (told_kind (λ r. map (λ remark. remark.text) r.said) (slice_get g.replicas j.0))
  same_replicas id x y sits (parties.Client j) = refl

  same_clients : (id : ClientId) (x y : Client) → slice_get g.clients id.0 ≡ Some (Some x)
      → (party : Party) → is_correct (record g { clients = slice_set g.clients id.0 (Some y) }) party ≡ is_correct g party
  same_clients id x y sits (parties.Replica j) = refl
  same_clients id x y sits (parties.Client j) =
      told_kind (λ r. r.said) (slice_get (slice_set g.clients id.0 (Some y)) j.0)
      ∙ ap is_correct_seat (kind_of_set g.clients id.0 j.0 y x (ap (λ (o : Option (Option Client)). correct_in o) sits))
      ∙ sym (told_kind (λ r. r.said) (slice_get g.clients j.0))

  later_replica : (R : Rules S) (id : ReplicaId) (o : Option (Option (Replica S))) → slice_get g.replicas id.0 ≡ o → seat_in o ≡ sat.Correct
      → bring_to_replica R g (delivered g number mail) id bytes o ≡ Goes w note → IsLater g w number mail
  later_replica R id None sits correct is = absurd cc
  later_replica R id (Some None) sits correct is = absurd cc
  later_replica R id (Some (Some x)) sits correct is =
      let o = whole_step R x.state (Heard bytes) in
      let marked : World S = delivered g number mail in
      let change : World S → World S = λ v. with_sent (with_replica v id (stepped v.texts (Heard bytes) x o)) (outgoing_of o.state.me.0 o.state.counts.n o.deeds.sent) in
      let kept = kept_goes marked w (texts_in bytes ++ step_texts o.deeds.acts) change (replica_note id o.answer) note
      (unforged (forger_in g bytes) (replica_goes marked id x (texts_in bytes) (Heard bytes) o) w note is) in
      subst (λ (u : World S). IsLater g u number mail) kept.world
      (record {
        muted = refl;
        correct = same_replicas id x (stepped kept.texts' (Heard bytes) x o) sits;
        sent = map mail_to (outgoing_of o.state.me.0 o.state.counts.n o.deeds.sent);
        bag = refl;
      })

  later_client : (id : ClientId) (o : Option (Option Client)) → slice_get g.clients id.0 ≡ o → seat_in o ≡ sat.Correct
      → bring_to_client g (delivered g number mail) id bytes o ≡ Goes w note → IsLater g w number mail
  later_client id None sits correct is = absurd cc
  later_client id (Some None) sits correct is = absurd cc
  later_client id (Some (Some x)) sits correct is =
      let o = client_step x.state (Heard bytes) in
      let marked : World S = delivered g number mail in
      let done = completed_by x.state o.state in
      let change : World S → World S = λ v. with_done (with_sent (with_client v id (client_stepped x o)) (client_outgoing o.state.counts.n o.sent)) id done in
      let kept = kept_goes marked w (texts_in bytes) change (client_note id done o.answer) note
      (unforged (forger_in g bytes) (client_goes marked id x (texts_in bytes) o) w note is) in
      subst (λ (u : World S). IsLater g u number mail) kept.world
      (record {
        muted = refl;
        correct = same_clients id x (client_stepped x o) sits;
        sent = map mail_to (client_outgoing o.state.counts.n o.sent);
        bag = refl;
      })

  pub later : (R : Rules S) (party : Party) → whole_seat g party ≡ sat.Correct → bring R g (delivered g number mail) party bytes ≡ Goes w note → IsLater g w number mail
  later R (parties.Replica id) correct is = later_replica R id (slice_get g.replicas id.0) refl correct is
  later R (parties.Client id) correct is = later_client id (slice_get g.clients id.0) refl correct is

-- the others are next then
pub next_later : {S : Type 0} (R : Rules S) (g w : World S) (due : Due) (more : List Due) (next : AreNext g (due ∷ more)) → IsLater g w due.number (mail R g due more next) → AreNext w more
next_later {S = S} R g w due more next is =
    let f = first R g due more next in
    let marked : Mail = record f.mail { delivered = true } in
    let bag : List Mail = slice_set g.bag f.before marked in
    let at : due.number - 1 ≡ f.before = omega (arith, f.number) in
    let test : is_due w ≡ is_due g =
    λ j mail. ap₂ (λ (c : Bool) (muted : Party → Bool). not mail.delivered && (not mail.dropped && (c && not (muted mail.to)))) (is.correct mail.to) is.muted j in
    let put : w.bag ≡ bag ++ is.sent = is.bag ∙ ap (λ (n : ℕ). slice_set g.bag n marked ++ is.sent) at in
    let behind : List Due = due_from (is_due g) (1 + length bag) is.sent in
    record {
      more = next.more ++ behind;
      all = ap₂ (λ (p : Mail → Bool) (mails : List Mail). due_from p 1 mails) test put
          ∙ due_append (is_due g) 1 bag is.sent
          ∙ ap (λ (dues : List Due). dues ++ behind) (f.others marked refl)
          ∙ append_assoc more next.more behind;
    }
