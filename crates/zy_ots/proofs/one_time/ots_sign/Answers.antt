use Rattle.std.proofs.Common.{rules, ◌≡◌}
use Rattle.zy_ots.specs.OneTime.{signature_of}
use Rattle.zy_ots.proofs.OneTimeLemmas.{Verifies-signature}
use Rattle.zy_ots.proofs.one_time.ots_sign.Goals as goal

pub returns-clause-verifies : goal.returns-clause-verifies
returns-clause-verifies c =
    let made : c.into.result ≡ signature_of c.args.ots c.args.id.now c.args.q c.args.seed.now c.args.message.now =
    search (rules, c.into.ensures, c.in_ok-ots_sign_onto.ensures, c.in_ok-signature.ensures.items) in
    rw made (Verifies-signature c.args.ots c.args.id.now c.args.q c.args.seed.now c.args.message.now)
