use Rattle.std.proofs.Common.{sym, ap, ◌∙◌}
use Rattle.std.proofs.lemmas.Result.{err_from_is_err_and}
use Rattle.zy_world_law.specs.Reading.{any_frame_in}
use Rattle.zy_world.proofs.Heard.{heard_nothing}
use Rattle.zy_world.proofs.world.World.hears.Goals as goal

pub returns-in_err-frame-clause-unheard : goal.returns-in_err-frame-clause-unheard
returns-in_err-frame-clause-unheard g c w others s =
    let p = err_from_is_err_and c.from_residual.result c.from_residual.ensures.1 in
    rw (p.1, p.2) tt

pub returns-in-Some-clause-heard : goal.returns-in-Some-clause-heard
returns-in-Some-clause-heard g c w others s =
    c.hears_frame.ensures.heard w c.args.bytes.now others s (sym (sym c.in-Some.is ∙ c.in_ok-frame.ensures.value ∙ ap any_frame_in c.as_slice.ensures.value))

pub returns-in-Some-clause-unheard : goal.returns-in-Some-clause-unheard
returns-in-Some-clause-unheard g c w others s =
    c.hears_frame.ensures.unheard w c.args.bytes.now others s (sym (sym c.in-Some.is ∙ c.in_ok-frame.ensures.value ∙ ap any_frame_in c.as_slice.ensures.value))

pub returns-in-None-clause-heard : goal.returns-in-None-clause-heard
returns-in-None-clause-heard g c w others s =
    record {
      texts = w.texts;
      kept = heard_nothing w c.args.bytes.now (sym (sym c.in-None.is ∙ c.in_ok-frame.ensures.value ∙ ap any_frame_in c.as_slice.ensures.value));
      shows = s;
    }
