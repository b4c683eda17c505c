use Rattle.std.proofs.Common.{inl, inr, refl}
use Rattle.std.proofs.KnownBytes.{Keeps-refl}
use Rattle.zy_top_hosting.proofs.serving.run.serve_at.Goals as goal

pub returns-in-Bound-clause-turned : goal.returns-in-Bound-clause-turned
returns-in-Bound-clause-turned g c = inr (record {
  between = _;
  idle = record { mail = c.bind.ensures.mail; receives = c.bind.ensures.receives; moments = refl };
  turned = c.take_turns.ensures.turned;
})

pub returns-in-Failed-clause-turned : goal.returns-in-Failed-clause-turned
returns-in-Failed-clause-turned g c = inl (record {
  failed = refl;
  idle = record { mail = c.bind.ensures.mail; receives = c.bind.ensures.receives; moments = refl };
  written = Keeps-refl _;
  disk = refl;
})
