use Rattle.std.proofs.Common.{sym, subst}
use Rattle.sort_term.specs.declared.term.Sort.TheVariants.{Own}
use Rattle.sort_term.specs.Sorted.{IsTreeOf}
use Rattle.ground_judge.proofs.Pairs.{only_pair, value_sorted}
use Rattle.ground_judge.proofs.ground.related_pair.Goals as goal

pub returns-clause-only : goal.returns-clause-only
returns-clause-only c =
    let told = rw c.in-Some.is at c.in_ok-pair.ensures in
    only_pair c.args.problem.now c.args.point.now c.in-Some.pair.0.term c.in-Some.pair.1.term c.requires.ground told.1 told.2

pub returns-clause-left : goal.returns-clause-left
returns-clause-left c =
    let told = rw c.in-Some.is at c.in_ok-pair.ensures in
    let sys = c.args.problem.now.left in
    subst (IsTreeOf sys.cons (Own sys.config)) (sym told.1) (value_sorted sys.cons c.args.point.now.vars (Own sys.config) c.args.point.now.left told.0 c.requires.fits.left_term)

pub returns-clause-right : goal.returns-clause-right
returns-clause-right c =
    let told = rw c.in-Some.is at c.in_ok-pair.ensures in
    let sys = c.args.problem.now.right in
    subst (IsTreeOf sys.cons (Own sys.config)) (sym told.2) (value_sorted sys.cons c.args.point.now.vars (Own sys.config) c.args.point.now.right told.0 c.requires.fits.right_term)
