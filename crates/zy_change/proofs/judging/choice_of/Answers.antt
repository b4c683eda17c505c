use Rattle.std.proofs.Common.{◌<◌, ◌*◌, length, arith}
use Rattle.zy_change.proofs.ChoosingLemmas.{chosen, within_reports}
use Rattle.zy_change.proofs.judging.choice_of.Goals as goal

pub returns-clause-choice : goal.returns-clause-choice
returns-clause-choice c =
    let counts = c.args.counts.now in
    let reports = c.args.reports.now in
    let sound = counts.sound in
    let some : 0 < counts.agree = omega (arith, sound.true_agreement) in
    let there : 0 < length reports = omega (arith, c.requires.many, sound.local_and_change, sound.local_in_reach) in
    let few : length reports < 2 * counts.agree = omega (arith, c.requires.many, sound.two_agreements) in
    chosen counts.agree reports some there c.requires.began c.requires.spec c.choose.result few c.choose.ensures

pub returns-clause-in_range : goal.returns-clause-in_range
returns-clause-in_range c = λ interval well.
    within_reports interval c.args.counts.now.agree c.args.reports.now well c.choose.result c.choose.ensures
