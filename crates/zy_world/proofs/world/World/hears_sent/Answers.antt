use Rattle.std.proofs.Common.{List, Some, sym, ap, ◌∙◌}
use Rattle.std.proofs.lemmas.Result.{err_from_is_err_and}
use Rattle.zy_world.specs.Shown.{numbered}
use Rattle.zy_world.proofs.Changes.{mail_held}
use Rattle.zy_world.proofs.Heard.{heard_nothing}
use Rattle.zy_world.proofs.world.World.hears_sent.Goals as goal

pub returns-in_err-frame-clause-unheard : goal.returns-in_err-frame-clause-unheard
returns-in_err-frame-clause-unheard g c w mail others s there =
    let p = err_from_is_err_and c.from_residual.result c.from_residual.ensures.1 in
    rw (p.1, p.2) tt

pub returns-in-Some-clause-heard : goal.returns-in-Some-clause-heard
returns-in-Some-clause-heard g c w mail others s there =
    c.hears_frame.ensures.heard w mail.bytes others s (sym (sym c.in-Some.is ∙ c.in_ok-frame.ensures.value mail (mail_held w _ c.args.number mail s there)))

pub returns-in-Some-clause-unheard : goal.returns-in-Some-clause-unheard
returns-in-Some-clause-unheard g c w mail others s there =
    c.hears_frame.ensures.unheard w mail.bytes others s (sym (sym c.in-Some.is ∙ c.in_ok-frame.ensures.value mail (mail_held w _ c.args.number mail s there)))

pub returns-in-None-clause-heard : goal.returns-in-None-clause-heard
returns-in-None-clause-heard g c w mail others s there =
    record {
      texts = w.texts;
      kept = heard_nothing w mail.bytes (sym (sym c.in-None.is ∙ c.in_ok-frame.ensures.value mail (mail_held w _ c.args.number mail s there)));
      shows = s;
    }
