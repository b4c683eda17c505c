-- What a replica's history has at a checkpoint can be answered.
use Rattle.std.proofs.Common.{◌≡◌, ℕ, ◌+◌, ◌-◌, ◌<◌, ◌≤◌, ◌^◌, nat_le, Bool, true, false, if◌then◌else◌, All, [], Some, None, ap, subst, arith}
use Rattle.std.specs.Prelude.{slice_get}
use Rattle.std.specs.Option.{ForSome}
use Rattle.std.proofs.lemmas.Option.{get_or_from_slice_get, slice_get_within}
use Rattle.zy_base.specs.Machine.{Rules}
use Rattle.zy_base.specs.declared.ids.Party.TheVariants.{Replica}
use Rattle.zy_base.specs.declared.ids.View.{View}
use Rattle.zy_chain.specs.Entries.{IsEntryInRange, IsOfClients}
use Rattle.zy_chain.specs.Stretch.{Stretch, entry_in}
use Rattle.zy_chain.specs.declared.entry.Entry.{Entry}
use Rattle.zy_parts.specs.Statements.{IsSpecInRange}
use Rattle.zy_parts.specs.declared.reports.Change.{Change}
use Rattle.zy_evidence.proofs.ProofLemmas.{all_clear}
use Rattle.zy_evidence.specs.WellFormed.{IsWellFormedChange}
use Rattle.zy_exec.specs.Kept.{last_place, stretch_of}
use Rattle.zy_table.specs.Gathering.{own_at}
use Rattle.zy_table.specs.Leaving.{report_of}
use Rattle.zy_table.specs.State.{State, is_leaving}
use Rattle.zy_replica_state.proofs.OwnLemmas.{own_entry, own_ready}
use Rattle.zy_replica_state.specs.Ready.{IsReady}

-- what holds of all entries holds of one
entry_all : (P : Entry → Type 0) (s : Stretch) (place : ℕ) (e : Entry) → All P s.entries → entry_in s place ≡ Some e → P e
entry_all P s place e all = by (nat_le place s.base.place)
  where
    by : (b : Bool) → (if b then None else slice_get s.entries (place - s.base.place - 1)) ≡ Some e → P e
    by true none = absurd cc
    by false there =
        let i : ℕ = place - s.base.place - 1 in
        subst P (get_or_from_slice_get s.entries i e e there) (all i e (slice_get_within s.entries i e there))

module _ {S : Type 0} (s : State S) (r : IsReady s) where
  abbrev change : Change
  change = record { view = record { 0 = (report_of s).last_view.0 + 1 }; told = report_of s }

  -- its own entries are of clients for which there is room
  pub own_clients : All IsOfClients s.kept.entries
  own_clients =
      let own : IsWellFormedChange s.views.counts s.views.interval (record { by = Replica (record { 0 = 0 }); stmt = change; sig = [] }) =
      (all_clear s.views.counts s.views.interval (record { by = Replica (record { 0 = 0 }); stmt = change; sig = [] })).0 r.report.keeps_rules in
      own.itself.entries.clients

  pub own_spec : (R : Rules S) (place : ℕ) → is_leaving s ≡ false → ForSome (own_at R s place) (λ own. IsSpecInRange own.spec × (own.spec.client.0 < 64))
  own_spec R place active own some =
      let (e, there, same_client, same_stamp) = own_entry R s place own some in
      let window = r.window in
      let last : last_place s.kept < 2 ^ 62 = omega arith in
      let ready = own_ready R s place r.views.active active r.views.own last own some in
      let range = ready.range in
      let small = entry_all IsEntryInRange (stretch_of s.kept) place e r.report.in_range.entries.each there in
      let known = entry_all IsOfClients (stretch_of s.kept) place e own_clients there in
      let view = ap (λ (v : View). v.0) ready.same_view in
      let at = ap (λ p. p.0) ready.same_place in
      let stamp = ap (λ t. t.0) same_stamp in
      let client = ap (λ n. n.0) same_client in
      let below = small.stamp in (
        (
          (omega arith, omega (arith, view, range.0.1)),
          (omega (arith, at, range.1.0), omega (arith, at, range.1.1)),
          (omega arith, omega (arith, stamp, below)),
        ),
        omega (arith, client, known),
      )
