use Rattle.std.proofs.Common.{rules}
use Rattle.zy_client.proofs.StartLemmas.{stamps_fit, starts_kept, starts_long}
use Rattle.zy_client.proofs.client.Client.start.Goals as goal

pub invariant_of-result : goal.invariant_of-result
invariant_of-result c =
    record {
      signer = search rules;
      stamp = stamps_fit c.args.stamp.0 c.beside.result c.requires.stamp;
      waiting = search rules;
      responses = starts_long _ _ c.in_ok-responses.ensures;
      kept = starts_kept _ _ c.in_ok-responses.ensures;
    }
