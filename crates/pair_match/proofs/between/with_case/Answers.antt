use Rattle.pair_match.proofs.Adding.{case_added}
use Rattle.pair_match.proofs.between.with_case.Goals as goal

pub returns-clause-more : goal.returns-clause-more
returns-clause-more g c =
    let d = g.D.Domain in
    case_added (d.variables c.args.d.now) (d.look c.args.d.now) (d.look c.both.new.d) c.in_ok-test.ensures.extends c.args.condition.now c.args.test.now c.in_ok-test.test c.args.maps c.args.cases c.push.new.self
    c.requires.cases c.requires.maps c.in_ok-test.ensures.means c.in_ok-push.ensures.ok
