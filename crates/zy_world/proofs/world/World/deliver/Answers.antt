use Rattle.std.proofs.Common.{◌≡◌, Some, None, sym, ap, ap₂, ◌∙◌, subst, ℕ, List, Option}
use Rattle.std.proofs.lemmas.Result.{err_from_is_err_and}
use Rattle.std.specs.Prelude.{IfOk, IfErr, option_copied}
use Rattle.zy_world.specs.Answered.{GoesTo, IsBrokenBy}
use Rattle.zy_world.specs.Shown.{Shown, numbered}
use Rattle.zy_world.specs.Shows.{Shows}
use Rattle.zy_world_law.specs.Events.{Happened, bring, deliver}
use Rattle.zy_world_law.specs.World.{Mail, mail_at, delivered}
use Rattle.zy_world.proofs.Changes.{mail_there}
use Rattle.zy_base.specs.declared.ids.Party.{Party}
use Rattle.zy_base.specs.declared.step.Answer.{Answer}
use Rattle.zy_base.specs.declared.step.Event.TheVariants.{Heard}
use Rattle.zy_world.specs.Answers.{heard_answer, party_answer}
use Rattle.zy_world.proofs.world.World.deliver.Goals as goal

pub returns-in-None-clause-goes : goal.returns-in-None-clause-goes
returns-in-None-clause-goes g c w s =
    let i = subst (λ (v : Shown g.row.M-State.Denot). Shows w v) (sym c.self.view_is) s in
    rw (c.answered.ensures.world, c.answered.ensures.note)
    (subst (λ (h : Happened g.row.M-State.Denot). GoesTo h c.no_subject.result.note c.no_subject.result.world)
    (sym (ap (deliver g.M.Machine.rules w c.args.number c.args.to) (mail_there w _ c.args.number None i (ap option_copied (sym c.in-None.is) ∙ c.frame.ensures))))
    (c.no_subject.ensures.goes w (λ xs. xs) s))

pub returns-in_ok-bytes-in-Some-clause-goes : goal.returns-in_ok-bytes-in-Some-clause-goes
returns-in_ok-bytes-in-Some-clause-goes g c w s =
    let i = subst (λ (v : Shown g.row.M-State.Denot). Shows w v) (sym c.self.view_is) s in
    let mail : Mail = record { to = c.mail.inside.to; bytes = c.mail.inside.bytes; delivered = c.mail.inside.delivered; dropped = c.mail.inside.dropped } in
    let there : mail_at w c.args.number ≡ Some mail =
    mail_there w _ c.args.number (Some c.in-Some.mail.now) i (ap option_copied (sym c.in-Some.is) ∙ c.frame.ensures) ∙ ap (λ (m : Mail). Some m) (sym c.mail.view_is) in
    let same : bring g.M.Machine.rules w (delivered w c.args.number mail) c.unwrap_or-to.result c.in_ok-bytes-in-Some.bytes ≡ deliver g.M.Machine.rules w c.args.number c.args.to (mail_at w c.args.number) =
    ap₂ (bring g.M.Machine.rules w (delivered w c.args.number mail)) c.unwrap_or-to.ensures c.in_ok-bytes-in-Some.ensures.cases
    ∙ sym (ap (deliver g.M.Machine.rules w c.args.number c.args.to) there) in
    subst (λ (h : Happened g.row.M-State.Denot). IfOk c.bring.result (λ r. GoesTo h r.note r.world)) same (c.bring.ensures.goes w mail s there)

pub returns-in_ok-bytes-in-Some-clause-broken : goal.returns-in_ok-bytes-in-Some-clause-broken
returns-in_ok-bytes-in-Some-clause-broken g c w s =
    let i = subst (λ (v : Shown g.row.M-State.Denot). Shows w v) (sym c.self.view_is) s in
    let mail : Mail = record { to = c.mail.inside.to; bytes = c.mail.inside.bytes; delivered = c.mail.inside.delivered; dropped = c.mail.inside.dropped } in
    let there : mail_at w c.args.number ≡ Some mail =
    mail_there w _ c.args.number (Some c.in-Some.mail.now) i (ap option_copied (sym c.in-Some.is) ∙ c.frame.ensures) ∙ ap (λ (m : Mail). Some m) (sym c.mail.view_is) in
    let same : bring g.M.Machine.rules w (delivered w c.args.number mail) c.unwrap_or-to.result c.in_ok-bytes-in-Some.bytes ≡ deliver g.M.Machine.rules w c.args.number c.args.to (mail_at w c.args.number) =
    ap₂ (bring g.M.Machine.rules w (delivered w c.args.number mail)) c.unwrap_or-to.ensures c.in_ok-bytes-in-Some.ensures.cases
    ∙ sym (ap (deliver g.M.Machine.rules w c.args.number c.args.to) there) in
    subst (λ (h : Happened g.row.M-State.Denot). IfErr c.bring.result (IsBrokenBy h)) same (c.bring.ensures.broken w mail s there)

pub returns-in_err-bytes-in-Some-clause-broken : goal.returns-in_err-bytes-in-Some-clause-broken
returns-in_err-bytes-in-Some-clause-broken g c w s =
    let p = err_from_is_err_and c.from_residual.result c.from_residual.ensures.1 in
    rw (p.1, p.2) tt

pub returns-in-None-clause-answer : goal.returns-in-None-clause-answer
returns-in-None-clause-answer g c =
    c.answered.ensures.answer ∙ subst (λ (v : Shown g.row.M-State.Denot). None ≡ heard_answer g.M.Machine.rules v.seats c.args.to (numbered v.bag.mails c.args.number)) c.self.view_is
    (ap (heard_answer g.M.Machine.rules c.self.inside.seats c.args.to) (ap option_copied (sym c.in-None.is) ∙ c.frame.ensures))

pub returns-in_ok-bytes-in-Some-clause-answer : goal.returns-in_ok-bytes-in-Some-clause-answer
returns-in_ok-bytes-in-Some-clause-answer g c =
    let R = g.M.Machine.rules in
    let mail : Mail = record { to = c.mail.inside.to; bytes = c.mail.inside.bytes; delivered = c.mail.inside.delivered; dropped = c.mail.inside.dropped } in
    let there : numbered c.self.inside.bag.mails c.args.number ≡ Some mail =
    sym (ap option_copied (sym c.in-Some.is) ∙ c.frame.ensures) ∙ ap (λ (m : Mail). Some m) (sym c.mail.view_is) in
    let same : party_answer R c.self.inside.seats c.unwrap_or-to.result (Heard c.in_ok-bytes-in-Some.bytes) ≡ heard_answer R c.self.inside.seats c.args.to (numbered c.self.inside.bag.mails c.args.number) =
    ap₂ (λ (party : Party) (bytes : List ℕ). party_answer R c.self.inside.seats party (Heard bytes)) c.unwrap_or-to.ensures c.in_ok-bytes-in-Some.ensures.cases
    ∙ sym (ap (heard_answer R c.self.inside.seats c.args.to) there) in
    subst (λ (v : Shown g.row.M-State.Denot). IfOk c.bring.result (λ r. r.answer ≡ heard_answer R v.seats c.args.to (numbered v.bag.mails c.args.number))) c.self.view_is
    (subst (λ (a : Option Answer). IfOk c.bring.result (λ r. r.answer ≡ a)) same
    (subst (λ (v : Shown g.row.M-State.Denot). IfOk c.bring.result (λ r. r.answer ≡ party_answer R v.seats c.unwrap_or-to.result (Heard c.in_ok-bytes-in-Some.bytes))) (sym c.self.view_is) c.bring.ensures.answer))
