-- How many replicas there are, how many of them may lie, and how many agreeing statements each decision takes.
use Rattle.std.specs.Prelude.{ℕ, ◌+◌, ◌*◌, ◌<◌, ◌≤◌}

-- What makes the numbers safe. Two sets of so many replicas out of n share one that is correct where their sizes
-- together are above n + f.
pub record IsSound (n f fast cert local change agree : ℕ) : Type 0 where
  -- two certificates share a correct replica
  pub two_certificates : n + f < 2 * cert
  -- a certificate and a fast completion do
  pub certificate_and_fast : n + f < cert + fast
  -- of the reports of a view change so many come from correct replicas of a fast completion
  pub fast_and_change : n + f + agree ≤ fast + change
  -- two sets of agreeing reports share one
  pub two_agreements : change < 2 * agree
  -- one of the agreeing reports is true
  pub true_agreement : f < agree
  -- local commits and the reports of a view change share a correct replica
  pub local_and_change : n + f < local + change
  -- the correct replicas alone are enough for a certificate, for local commits and for a view change
  pub certificate_in_reach : cert + f ≤ n
  pub local_in_reach : local + f ≤ n
  pub change_in_reach : change + f ≤ n
  pub fast_in_reach : fast ≤ n
  -- and lists of them are short
  pub short_certificate : cert ≤ 9
  pub short_local : local ≤ 9
  pub short_change : change ≤ 9
  pub few : n ≤ 16
