use Rattle.std.proofs.Common.{◌≡◌, ◌+◌, ◌<◌, ℕ, ◌∙◌, refl, sym, ap, arith}
use Rattle.zy_exec.specs.Kept.{Kept, last_place, settled}
use Rattle.zy_exec.proofs.SettleLemmas.{settled_none, settled_next, settled_place, settled_end}
use Rattle.zy_exec.proofs.exec.Exec.settle.Goals as goal

pub loop-place-init : goal.loop-place-init
loop-place-init g c = record { above = omega arith; below = c.requires.above; end = refl; moved = settled_none g.M.Machine.rules c.args.self.now }

pub loop-place-preserved : goal.loop-place-preserved
loop-place-preserved g c =
    let R = g.M.Machine.rules in
    let k = c.args.self.now in
    let j = c.loop-place.self in
    let was = c.loop-place.invariant in
    let below : j.base.place < c.args.place.0 = rw c.base.ensures at c.loop-place-test.true in
    let inside : j.base.place < last_place k = omega (arith, below, c.requires.below) in
    let next : c.settle_one.new.self ≡ settled R (j.base.place + 1) k =
    c.settle_one.ensures ∙ ap (λ (n : ℕ). settled R (n + 1) j) c.base-in-loop-place.ensures ∙ settled_next R k j j.base.place was.above inside was.moved in
    let here : c.settle_one.new.self.base.place ≡ j.base.place + 1 =
    ap (λ (i : Kept _). i.base.place) next ∙ settled_place R k (j.base.place + 1) (omega (arith, was.above)) (omega (arith, inside)) in
    record {
      above = omega (arith, was.above, here);
      below = omega (arith, below, here);
      end = ap last_place next ∙ settled_end R k (j.base.place + 1) (omega (arith, was.above)) (omega (arith, inside));
      moved = next ∙ ap (λ (n : ℕ). settled R n k) (sym here);
    }
