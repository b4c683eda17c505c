use Rattle.std.proofs.Common.{sym, ◌∙◌}
use Rattle.zy_choose.specs.Marks.{mark_of}
use Rattle.zy_choose.proofs.ProviderLemmas.{provided}
use Rattle.zy_choose.proofs.choice.chosen.Goals as goal

pub unreachable-requires : goal.unreachable-requires
unreachable-requires c =
    provided c.args.agree c.args.view.0 c.args.reports.now (mark_of c.args.anchor) (mark_of c.pick-mark.result) c.requires.some c.requires.anchored c.pick-mark.ensures
    c.requires.began c.requires.spec (sym c.provider.ensures ∙ c.in-None.is)

pub returns : goal.returns
returns c =
    record {
      choice = record {
        view = c.args.view.0;
        anchor = mark_of c.args.anchor;
        greatest = c.requires.greatest;
        anchored = c.requires.anchored;
        picked = c.pick-mark.ensures;
      };
      only = c.requires.only;
      provided = sym c.provider.ensures ∙ c.in-Some.is;
    }
