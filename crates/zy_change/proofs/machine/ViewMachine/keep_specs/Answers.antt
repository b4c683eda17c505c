use Rattle.zy_change.proofs.FitLemmas.{with_specs-fit}
