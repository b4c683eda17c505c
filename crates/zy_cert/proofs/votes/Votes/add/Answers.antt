use Rattle.std.proofs.Common.{arith}
use Rattle.zy_cert.proofs.VoteLemmas.{AreCounted-push}
use Rattle.zy_cert.proofs.votes.Votes.add.Goals as goal

pub overflow_add-self : goal.overflow_add-self
overflow_add-self g c =
    let votes = c.self.inside.votes in
    omega (arith, c.self.invariant.all, votes.ok.0, votes.ok.1, votes.small)

pub invariant_of-self-2 : goal.invariant_of-self-2
invariant_of-self-2 g c =
    let inside = c.self.inside in
    rw c.in-Ok.ensures.items
    (AreCounted-push g.S.PartialEq.eq g.met.S.Matching.equal inside.number inside.votes.items c.args.vote c.self.invariant (cc (c.if-has_signer.ensures, c.deref.ensures.value)) (cc (c.if-is_for_other.ensures, c.deref-2.ensures.value)))
