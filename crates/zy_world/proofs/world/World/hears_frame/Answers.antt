use Rattle.std.proofs.Common.{Err, sym, ap, ◌∙◌, subst}
use Rattle.std.proofs.lemmas.Result.{err_from_is_err_and}
use Rattle.zy_world.specs.Shown.{Shown, with_replicas}
use Rattle.zy_world.specs.Shows.{Shows}
use Rattle.zy_world.proofs.Heard.{heard_frame, frame_forged, frame_clashes, unheard_by_text}
use Rattle.zy_world.proofs.world.World.hears_frame.Goals as goal

pub returns-in-Some-clause-unheard : goal.returns-in-Some-clause-unheard
returns-in-Some-clause-unheard g c w bytes others s is =
    let i = subst (λ (v : Shown g.row.M-State.Denot). Shows w (with_replicas others v)) (sym c.self.view_is) s in
    frame_forged w _ i bytes c.args.frame.now is c.in-Some.by (λ said shown. sym c.in-Some.is ∙ c.in_ok-by.ensures said shown)

pub returns-in_ok-keep_frame-in-None-clause-heard : goal.returns-in_ok-keep_frame-in-None-clause-heard
returns-in_ok-keep_frame-in-None-clause-heard g c w bytes others s is =
    let i = subst (λ (v : Shown g.row.M-State.Denot). Shows w (with_replicas others v)) (sym c.self.view_is) s in
    heard_frame w _ i bytes c.args.frame.now is _ (λ said shown. sym c.in-None.is ∙ c.in_ok-by.ensures said shown) c.in_ok-keep_frame-in-None.ensures.keeps

pub returns-in_err-keep_frame-in-None-clause-unheard : goal.returns-in_err-keep_frame-in-None-clause-unheard
returns-in_err-keep_frame-in-None-clause-unheard g c w bytes others s is =
    let i = subst (λ (v : Shown g.row.M-State.Denot). Shows w (with_replicas others v)) (sym c.self.view_is) s in
    let p = err_from_is_err_and c.from_residual-in_err-keep_frame-in-None.result c.from_residual-in_err-keep_frame-in-None.ensures.1 in
    rw (p.1, p.2) (unheard_by_text w bytes c.in_err-keep_frame-in-None.field-0.0
    (λ d clashed. frame_clashes w _ i bytes c.args.frame.now is d (λ said shown. sym c.in-None.is ∙ c.in_ok-by.ensures said shown) (c.in_err-keep_frame-in-None.ensures.clash d (ap Err clashed))))

pub returns-in_err-by-clause-unheard : goal.returns-in_err-by-clause-unheard
returns-in_err-by-clause-unheard g c w bytes others s is =
    let p = err_from_is_err_and c.from_residual.result c.from_residual.ensures.1 in
    rw (p.1, p.2) tt
