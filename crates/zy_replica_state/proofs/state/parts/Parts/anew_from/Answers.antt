use Rattle.std.proofs.Common.{◌≡◌, ℕ, List, ap, ◌∙◌}
use Rattle.std.specs.Prelude.{nat_le, filter}
use Rattle.zy_parts.specs.declared.signed.Signed.{Signed}
use Rattle.zy_parts.specs.declared.statements.Check.{Check}
use Rattle.zy_parts.specs.declared.statements.Local.{Local}
use Rattle.zy_check.specs.Board.{Board, start_of, with_stable}
use Rattle.zy_table.specs.State.{State}
use Rattle.zy_replica_state.proofs.AdoptLemmas.{anew_with}
use Rattle.zy_replica_state.proofs.state.parts.Parts.anew_from.Goals as goal

pub returns : goal.returns
returns g c =
    let told = c.args.told.now in
    let stays = λ (said : Signed Local). nat_le told.stable_place.0 said.stmt.place.0 in
    let board = c.set_stable.ensures
    ∙ ap (λ (b : Board). with_stable b c.into_vec.result.items) (c.start-board.ensures ∙ ap (λ (n : ℕ). start_of n told.state) c.interval.ensures)
    ∙ ap (λ (proof : List (Signed Check)). with_stable (start_of c.self.inside.exec.interval told.state) proof) (c.into_vec.ensures ∙ c.in_ok-proof.ensures) in
    let inside = c.self.inside in
    let before : State g.row.M-State.Denot = record {
      me = inside.me;
      counts = inside.counts;
      keys = inside.directory;
      sealer = inside.sealer;
      views = inside.views;
      kept = inside.exec;
      orders = inside.orders;
      board = inside.board;
      hole = inside.hole;
      specs = inside.specs;
      pending = inside.pending.items;
      locals = inside.locals;
      hate = inside.hate;
      fetches = inside.fetches;
    } in
    anew_with before told _ _ board (c.locals_from.ensures ∙ ap (filter stays) c.replace-locals.ensures.value)
    ∙ ap (λ (s : State g.row.M-State.Denot). record s { board = with_stable (start_of s.kept.interval told.state) told.checks; locals = filter stays s.locals }) c.self.view_is
