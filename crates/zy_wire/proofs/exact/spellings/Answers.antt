use Rattle.zy_wire.proofs.exact.spellings.Goals as goal

pub returns-clause-exact : goal.returns-clause-exact
returns-clause-exact g c = g.met.T.Spelled.exact

pub returns-clause-in_range : goal.returns-clause-in_range
returns-clause-in_range g c = g.met.T.Spelled.fits_in_range
