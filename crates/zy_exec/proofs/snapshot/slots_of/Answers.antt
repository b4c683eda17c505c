use Rattle.std.proofs.Common.{rules, ◌≡◌, ◌∷◌, ◌++◌, ◌∙◌, List, length, vec_len, get_or, None, Some, sym, ap, arith}
use Rattle.std.specs.Prelude.{Option}
use Rattle.std.specs.Vec.Iter.{into_iter_items}
use Rattle.std.proofs.lemmas.List.{length-set, length-replicate, get_or-set_other}
use Rattle.zy_exec.specs.declared.known.Known.{Known}
use Rattle.zy_exec.specs.declared.row.Row.{Row}
use Rattle.zy_exec.specs.Snapshot.{listed}
use Rattle.zy_exec.specs.Reading.{is_rising}
use Rattle.zy_exec.proofs.SnapshotLemmas.{free_slots, row_taken, rising_on}
use Rattle.zy_exec.proofs.snapshot.slots_of.Goals as goal

pub loop-row-init : goal.loop-row-init
loop-row-init c =
    let none : Option Known = None in
    let v = c.into_vec-row-items.result in
    let gives = c.into_iter-row-iterator.ensures.into_iter_gives in
    let items : into_iter_items c.into_iter-row-iterator.result ≡ c.args.rows = gives.0 ∙ c.into_vec-row-items.ensures in
    let held : vec_len v ≡ length v.items = search rules in
    let slots = c.in_ok-slots.ensures in
    record {
      taken = ap (λ (s : List (Option Known)). listed 0 s ++ into_iter_items c.into_iter-row-iterator.result) slots ∙ items;
      rising = ap (is_rising 0) (sym items);
      all = ap length slots ∙ length-replicate 64 none;
      free = λ client low. ap (λ (s : List (Option Known)). get_or s client None) slots ∙ free_slots 64 client;
      left = gives.1 ∙ held ∙ ap length (sym gives.0);
    }

pub loop-row-preserved : goal.loop-row-preserved
loop-row-preserved c =
    let at = c.loop-row in
    let row = c.in-Some.row in
    let rest = into_iter_items c.next.new.self in
    let slots = at.slots.items in
    let steps : into_iter_items at.row-iterator ≡ row ∷ rest = c.in-Some.ensures.steps.0 in
    let above = c.if-client-least.false in
    let below = c.if-client.false in
    record {
      taken = row_taken slots row rest c.args.rows at.least (sym (ap (λ (rows : List Row). listed 0 slots ++ rows) steps) ∙ at.invariant.taken) at.invariant.all at.invariant.free above below;
      rising = at.invariant.rising ∙ ap (is_rising at.least) steps ∙ rising_on at.least row rest above below;
      all = length-set slots row.client.0 (Some row.known) ∙ at.invariant.all;
      free = λ client high. get_or-set_other slots row.client.0 client (Some row.known) None (λ same. absurd (omega arith)) ∙ at.invariant.free client (omega arith);
      left =
          let was = at.invariant.left in
          let gone = c.in-Some.ensures.steps.1 in
          let short = ap length steps in
          omega arith;
    }
