use Rattle.std.proofs.Common.{sym, ap, ◌∙◌, arith}
use Rattle.zy_world.specs.Shown.{Shown}
use Rattle.zy_world.specs.declared.world.World.TheInside.{Inside}
use Rattle.zy_world.proofs.Gathered.{added, passes_over, read_there}
use Rattle.zy_world.proofs.world.World.goes_in.Goals as goal

pub returns-then-is_due : goal.returns-then-is_due
returns-then-is_due g c =
    let v = c.args.self.now in
    let mail = c.index-mail.result.now in
    let t = read_there v c.args.at _ mail (ap (λ (v : Inside g.row.M.Denot g.row.M-State.Denot). v.bag.mails) c.self-inside.view_is ∙ ap (λ (s : Shown g.row.M-State.Denot). s.bag.mails) c.self.view_is) c.requires c.index-mail.ensures in
    added v c.args.at mail t.0 t.1 (sym c.if-is_due.ensures) c.args.batch.now c.add.new.self c.add.result c.add.ensures.added c.add.ensures.taken c.add.ensures.free

pub returns-else-is_due : goal.returns-else-is_due
returns-else-is_due g c =
    let v = c.args.self.now in
    let mail = c.index-mail.result.now in
    let t = read_there v c.args.at _ mail (ap (λ (v : Inside g.row.M.Denot g.row.M-State.Denot). v.bag.mails) c.self-inside.view_is ∙ ap (λ (s : Shown g.row.M-State.Denot). s.bag.mails) c.self.view_is) c.requires c.index-mail.ensures in
    (passes_over v c.args.at mail t.0 t.1 c.args.batch.now (sym c.if-is_due.ensures), omega arith)
