use Rattle.std.proofs.Common.{sym, ◌∙◌}
use Rattle.zy_world_law.specs.Setup.{sealer_of}
use Rattle.zy_world.proofs.Lies.{answered}
use Rattle.zy_world.proofs.liars.Liars.sign.Goals as goal

pub returns-then-short-clause-told : goal.returns-then-short-clause-told
returns-then-short-clause-told c number is =
    let key = sealer_of c.args.setup.now c.args.liar number in
    answered c.args.setup.now c.args.liar number c.args.self.now c.sign_next.new.self c.args.tale c.sign_next.result
    (sym (c.in_ok-short.ensures c.args.liar) ∙ c.if-short.true)
    (c.sign_next.ensures.frame key is) c.sign_next.ensures.long (c.sign_next.ensures.left key is) (c.sign_next.ensures.spent_one key is)

pub returns-then-short-clause-spent : goal.returns-then-short-clause-spent
returns-then-short-clause-spent c number is err =
    let key = sealer_of c.args.setup.now c.args.liar number in
    record {
      short = sym (c.in_ok-short.ensures c.args.liar) ∙ c.if-short.true;
      spent = c.sign_next.ensures.spent key is err;
      same = c.sign_next.ensures.same key is err;
    }
