use Rattle.zy_world_setup.proofs.ListLemmas.{any_put}
use Rattle.zy_world_setup.proofs.text_set.put_key.Goals as goal

pub returns : goal.returns
returns g c test alike = any_put g.K.PartialEq.eq test c.args.key alike _ _ _ c.in_ok-insert.ensures.added c.in_ok-insert.ensures.keys
