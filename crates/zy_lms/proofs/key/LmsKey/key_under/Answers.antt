use Rattle.zy_lms.proofs.key.LmsKey.key_under.Goals as goal

pub returns : goal.returns
returns c = rw (← c.self.view_is, ← c.seed_under-seed.ensures, ← c.id_under-id.ensures) c.make.ensures
