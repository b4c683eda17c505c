use Rattle.std.proofs.Common.{ap, ◌∙◌}
use Rattle.zy_parts.specs.declared.reports.Told.{Told}
use Rattle.zy_evidence.specs.Reading.{stretch_of}
use Rattle.zy_table.specs.Adopting.{common_with, gots_of, taken_over}
use Rattle.zy_table.specs.Beginning.{active_by, settled_as, with_history}
use Rattle.zy_table.specs.State.{State}
use Rattle.zy_replica_state.proofs.AdoptLemmas.{settled_views}
use Rattle.zy_replica_state.proofs.state.Core.begin_view.Goals as goal

pub taken_over-requires-clause-range : goal.taken_over-requires-clause-range
taken_over-requires-clause-range g c = let can = c.provided-told.ensures.can in can.range

pub taken_over-requires-clause-clients : goal.taken_over-requires-clause-clients
taken_over-requires-clause-clients g c = let can = c.provided-told.ensures.can in can.clients

pub taken_over-requires-clause-end : goal.taken_over-requires-clause-end
taken_over-requires-clause-end g c = let can = c.provided-told.ensures.can in can.end

pub taken_over-requires-clause-base : goal.taken_over-requires-clause-base
taken_over-requires-clause-base g c = let meets = c.provided-told.ensures.can.meets in rw c.apart.ensures.same meets.own_base

pub taken_over-requires-clause-told_base : goal.taken_over-requires-clause-told_base
taken_over-requires-clause-told_base g c = let meets = c.provided-told.ensures.can.meets in rw c.apart.ensures.same meets.told_base

pub settled_as-requires-clause-above : goal.settled_as-requires-clause-above
settled_as-requires-clause-above g c = let can = c.provided-told.ensures.can in rw (c.in_ok-parts.ensures.parts, c.apart.ensures.same) can.above

pub settled_as-requires-clause-within : goal.settled_as-requires-clause-within
settled_as-requires-clause-within g c = let can = c.provided-told.ensures.can in rw (c.in_ok-parts.ensures.parts, c.apart.ensures.same) can.within

pub settled_as-requires-clause-multiple : goal.settled_as-requires-clause-multiple
settled_as-requires-clause-multiple g c = let can = c.provided-told.ensures.can in rw (c.in_ok-parts.ensures.parts, c.apart.ensures.same) can.multiple

pub settled_as-requires-clause-proof : goal.settled_as-requires-clause-proof
settled_as-requires-clause-proof g c = let can = c.provided-told.ensures.can in rw (c.in_ok-parts.ensures.parts, c.apart.ensures.same) can.proof

pub active_by-requires : goal.active_by-requires
active_by-requires g c =
    rw (c.in-Ok.ensures, settled_views g.M.Machine.rules c.provided-told.result.now c.in_ok-parts.parts, c.in_ok-parts.ensures.parts, c.apart.ensures.same) c.requires.certified

pub together-requires : goal.together-requires
together-requires g c =
    let can = c.provided-told.ensures.can in
    rw (c.active_by.ensures, c.in-Ok.ensures, c.in_ok-parts.ensures.parts, c.apart.ensures.same) (can.ready c.requires.sends)

pub returns-clause-core : goal.returns-clause-core
returns-clause-core g c = λ provider there.
    let R = g.M.Machine.rules in
    let told = c.provided-told.result.now in
    let place = c.args.chosen.place in
    c.together.ensures ∙ c.active_by.ensures
    ∙ ap (active_by c.args.cert c.args.chosen)
    (c.in-Ok.ensures
    ∙ ap (settled_as R told) (c.in_ok-parts.ensures.parts ∙ ap (λ (s : State g.row.M-State.Denot). record s { kept = taken_over (stretch_of told) place.0 s.kept }) c.apart.ensures.same)
    ∙ ap (λ (t : Told). with_history R t place c.args.self) (c.provided-told.ensures.told provider there))

pub returns-clause-common : goal.returns-clause-common
returns-clause-common g c = λ provider there.
    c.in_ok-parts.ensures.common
    ∙ ap (λ (s : State g.row.M-State.Denot). common_with (stretch_of c.provided-told.result.now) c.args.chosen.place.0 s.kept) c.apart.ensures.same
    ∙ ap (λ (t : Told). common_with (stretch_of t) c.args.chosen.place.0 c.args.self.kept) (c.provided-told.ensures.told provider there)

pub returns-clause-gained : goal.returns-clause-gained
returns-clause-gained g c = λ provider there.
    let R = g.M.Machine.rules in
    c.in_ok-parts.ensures.gained
    ∙ ap (λ (s : State g.row.M-State.Denot). gots_of R (stretch_of c.provided-told.result.now) c.args.chosen.place.0 s.kept) c.apart.ensures.same
    ∙ ap (λ (t : Told). gots_of R (stretch_of t) c.args.chosen.place.0 c.args.self.kept) (c.provided-told.ensures.told provider there)
