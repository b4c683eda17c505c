use Rattle.std.proofs.Common.{sym, ◌∙◌}
use Rattle.zy_replica_views.proofs.CertifiedLemmas.{cert_enters, cert_refused}
use Rattle.zy_replica_views.proofs.confirming.view_certificate.Goals as goal

pub judge_owed-requires : goal.judge_owed-requires
judge_owed-requires g c = cert_enters g.M.Machine.rules c.args.core c.args.cert c.in_ok-owed.owed c.in_ok-owed.ensures.owed c.requires.signers c.requires.range.0

pub returns-in-Err : goal.returns-in-Err
returns-in-Err g c =
    let owed = c.in_ok-owed in
    c.refused.ensures
    ∙ sym (cert_refused g.M.Machine.rules c.args.core c.args.cert owed.owed owed.ensures.owed c.requires.signers c.requires.range.0 c.judge_owed.ensures.ready c.judge_owed.ensures.signer c.in-Err.cause (sym c.in_ok-ending.ensures.ending ∙ c.in-Err.is))
