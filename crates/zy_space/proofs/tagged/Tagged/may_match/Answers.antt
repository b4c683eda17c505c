use Rattle.std.proofs.Common.{ap, ◌∙◌}
use Rattle.zy_space.specs.Tag.{tags_of}
use Rattle.zy_space.proofs.TagLemmas.{match_is_same}
use Rattle.zy_space.proofs.tagged.Tagged.may_match.Goals as goal

pub returns : goal.returns
returns c template is_wanted match = match_is_same template c.args.self.now c.self.inside.tags c.args.wanted (c.self.invariant ∙ ap tags_of c.self.view_is) is_wanted match
