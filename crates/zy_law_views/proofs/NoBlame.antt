-- What no correct replica is blamed for.
use Rattle.std.proofs.Common.{◌≡◌, ℕ, ◌-◌, ◌<◌, ◌≤◌, inl, inr, List, take, map, Some, refl, sym, ap, ◌∙◌, subst, arith}
use Rattle.std.proofs.lemmas.Bool.{cases_eq, le-ltb}
use Rattle.zy_base.specs.Machine.{Rules}
use Rattle.zy_base.specs.declared.ids.Digest.{Digest}
use Rattle.zy_base.specs.declared.ids.Party.{Party}
use Rattle.zy_base.specs.declared.ids.Party.TheVariants.{Replica}
use Rattle.zy_base.specs.declared.ids.Place.{Place}
use Rattle.zy_base.specs.declared.ids.ReplicaId.{ReplicaId}
use Rattle.zy_base.specs.declared.ids.View.{View}
use Rattle.zy_cert.specs.Misbehaviour.{IsConflict}
use Rattle.zy_chain.specs.Heads.{empty_head, head_from}
use Rattle.zy_chain.specs.Stretch.{Mark, end_of, head_in}
use Rattle.zy_chain.specs.declared.entry.Entry.{Entry}
use Rattle.zy_choose.specs.Choice.{IsChoice}
use Rattle.zy_choose.specs.Marks.{Has, link}
use Rattle.zy_evidence.specs.Reading.{read, stretch_of}
use Rattle.zy_evidence.specs.WellFormed.{IsWellFormedChange}
use Rattle.zy_law.proofs.ChoiceExtends.{all_choices_safe}
use Rattle.zy_law.proofs.HistoryLemmas.{Passes-one}
use Rattle.zy_law.proofs.ListLemmas.{passed_below}
use Rattle.zy_law.proofs.ProvenStates.{proven_state}
use Rattle.zy_law.proofs.QuorumLemmas.{All_at}
use Rattle.zy_law.specs.Fixed.{IsFixed}
use Rattle.zy_law.specs.Lawful.{IsLawful}
use Rattle.zy_law.specs.Lists.{Extends, IsSafeStart}
use Rattle.zy_law.specs.Said.{At, HasSaid, IsBacked, IsCorrect, IsVouched, Moment}
use Rattle.zy_law.specs.World.{Statement, World}
use Rattle.zy_parts.specs.declared.reports.Change.{Change}
use Rattle.zy_parts.specs.declared.reports.New.{New}
use Rattle.zy_parts.specs.declared.signed.Signed.{Signed}
use Rattle.zy_parts.specs.declared.statements.Order.{Order}
use Rattle.zy_law_views.specs.Held.{IsHeldChange, IsHeldPart, IsProvidedBy, IsVouchedBy, mark_at}
use Rattle.zy_law_views.specs.Tied.{Core, IsTied}
use Rattle.zy_law_views.specs.Told.{check_told, order_told}
use Rattle.zy_law_views.proofs.AdoptedLists.{chosen_known, provider_has_it}
use Rattle.zy_law_views.proofs.Backing.{cert_backed}
use Rattle.zy_law_views.proofs.ProvenReports.{check_cert, new_valid, report_proven, some_local}
use Rattle.zy_law_views.proofs.RunningOn.{told_passes}

-- ---- orders

module _ (w : World) (lawful : IsLawful w) where
  has_said : (s : Statement) (r : ℕ) → IsCorrect w r → IsVouched w s r → HasSaid w r s
  has_said s r correct vouched = elim vouched.said [ inl lies ↦ absurd (let honest = correct.honest in cc) | inr said ↦ said ]

  orders_equal : (id : ReplicaId) (a b : Order) → IsCorrect w id.0 → IsVouched w (order_told a) id.0 → IsVouched w (order_told b) id.0 → a.view ≡ b.view → a.place ≡ b.place → a ≡ b
  orders_equal id a b correct first second view place =
      let x = has_said (order_told a) id.0 correct first in
      let y = has_said (order_told b) id.0 correct second in
      let same_view : Statement.Order b.view.0 (mark_at b.place b.head) b.request ≡ Statement.Order a.view.0 (mark_at b.place b.head) b.request =
      ap (λ (v : View). Statement.Order v.0 (mark_at b.place b.head) b.request) (sym view) in
      let both = lawful.one_order id.0 x.0 y.0 x.1 y.1 a.view.0 (mark_at a.place a.head) (mark_at b.place b.head) a.request b.request correct x.2 y.2 x.3 (y.3 ∙ same_view) (ap (λ (p : Place). p.0) place) in
      let heads : a.head ≡ b.head = ap (λ (m : Mark). m.head) both.0 in
      let requests = both.1 in
      λ i. record { view = view i; place = place i; head = heads i; request = requests i }

  pub never_in_conflict : (a b : Signed Order) (id : ReplicaId) → a.by ≡ Replica id → IsCorrect w id.0 → IsHeldPart w order_told a → IsHeldPart w order_told b → IsConflict a b → ⊥
  never_in_conflict a b id by correct first second conflict =
      conflict.orders
      (orders_equal id a.stmt b.stmt correct (subst (λ (p : Party). IsVouchedBy w (order_told a.stmt) p) by first)
      (subst (λ (p : Party). IsVouchedBy w (order_told b.stmt) p) (sym conflict.signer ∙ by) second) conflict.view conflict.place)

-- ---- the stable checkpoint against a later choice

module _ {S : Type 0} (R : Rules S) (interval : ℕ) (w : World) (lawful : IsLawful w) (links : w.next ≡ link) (r : ℕ) (c : Core S) (history : List Entry) (tied : IsTied R interval w r c history)
    (n : New) (m : Mark) (p : Signed Change) (is : IsProvidedBy w interval n m p) (later : c.views.last_view.0 < n.view.0) where
  abbrev stable : Mark
  stable = mark_at c.stable.place c.stable.head

  stable_backed : 0 < c.stable.place.0 → IsBacked w w.counts.local (Statement.Check c.stable.view.0 stable c.stable.state)
  stable_backed some =
      let proof = tied.grounded.proven.later (λ none. omega (arith, none)) in
      cert_backed w check_told w.counts.local (Statement.Check c.stable.view.0 stable c.stable.state) c.proof
      (check_cert w w.counts.local c.proof (c.stable.view, c.stable.place, c.stable.head) c.stable.state (some_local w) proof.certificate proof.state tied.grounded.held)

  safe : IsSafeStart w n.view.0 m
  safe =
      let choice : IsChoice w.next w.counts.agree (map read n.changes) m = subst (λ (next : Digest → Entry → Digest). IsChoice next w.counts.agree (map read n.changes) m) (sym links) is.chosen.choice in
      all_choices_safe w lawful n.view.0 (map read n.changes) m (new_valid w interval n is.proper) choice

  extends : 0 < c.stable.place.0 → Extends w stable m
  extends some = safe.extends c.stable.view.0 stable (omega (arith, tied.grounded.view)) (IsFixed.stable c.stable.state (stable_backed some))

  -- the choice isn't below it
  pub not_below : c.stable.place.0 ≤ m.place
  not_below =
      elim (cases_eq c.stable.place.0 0) [
        | inl none ↦ omega (arith, none)
        | inr some ↦ (extends (omega (arith, some))).order
      ]

  -- and each correct history with the choice has it
  stable_there : (t : Moment w) → At t m → At t stable
  stable_there t passes =
      elim (cases_eq c.stable.place.0 0) [
        | inl none ↦ (
            let head : c.stable.head ≡ empty_head = (tied.grounded.proven.first none).head in
            subst (λ (k : Mark). At t k) (λ i. record { place = sym none i; head = sym head i }) (record { within = omega arith; head = refl })
            )
        | inr some ↦ passed_below w lawful t stable m (extends (omega (arith, some))) passes
      ]

  -- the provider has its head
  pub provider_has_stable : p.stmt.told.stable_place.0 ≤ c.stable.place.0 → head_in (stretch_of p.stmt.told) c.stable.place.0 ≡ Some c.stable.head
  provider_has_stable below =
      let s = stretch_of p.stmt.told in
      let known = chosen_known w lawful links interval n m p is in
      let has = provider_has_it w lawful links interval n m p is in
      let high = not_below in
      let own : Mark = record { place = c.stable.place.0; head = head_from s.base.head (take (c.stable.place.0 - s.base.place) s.entries) } in
      let end : c.stable.place.0 ≤ end_of s = omega (arith, has.below) in
      let there : Has link s own = record { above = below; below = end; head = refl } in
      let passed = told_passes w lawful links interval n m p is known.moment known.passes own (subst (λ (next : Digest → Entry → Digest). Has next s own) (sym links) there) high in
      let same = Passes-one w.next known.moment.stand.history own stable refl passed (stable_there known.moment known.passes) in
      rw (le-ltb c.stable.place.0 s.base.place below, le-ltb (end_of s) c.stable.place.0 end) (ap (λ (k : Mark). Some k.head) same)

-- at the provider's stable place each correct history with its head leads to the snapshot whose digest the provider tells
pub provider_state : (w : World) → IsLawful w → (interval : ℕ) (n : New) (m : Mark) (p : Signed Change) → IsProvidedBy w interval n m p → 0 < p.stmt.told.stable_place.0 → (t : Moment w)
    → At t (stretch_of p.stmt.told).base → w.state (take p.stmt.told.stable_place.0 t.stand.history) ≡ p.stmt.told.state
provider_state w lawful interval n m p is some t passes =
    let held = All_at (IsHeldChange w) n.changes is.provider p is.there is.proper.held in
    let formed = All_at (IsWellFormedChange w.counts interval) n.changes is.provider p is.there is.proper.well_formed in
    let proven = report_proven w interval p formed held.proofs in
    proven_state w lawful w.counts.local p.stmt.told.stable_view.0 (stretch_of p.stmt.told).base p.stmt.told.state t (proven.stable_later some)
    (omega (arith, w.counts.sound.local_and_change, w.counts.sound.change_in_reach)) passes
