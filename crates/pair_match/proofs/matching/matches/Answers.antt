use Rattle.std.proofs.Common.{subst}
use Rattle.sort_term.specs.NodeTerms.{seen_term}
use Rattle.pair_match.specs.Matches.{AreApart, IsMatch}
use Rattle.pair_match.proofs.Points.{point_read, clash_apart}
use Rattle.pair_match.proofs.matching.matches.Goals as goal

pub returns-in-None-clause-matched : goal.returns-in-None-clause-matched
returns-in-None-clause-matched g c =
    let look = g.D.Domain.look c.args.d.now in
    let variables = g.D.Domain.variables c.args.d.now in
    let q = c.args.problem.now in
    let read = c.index-as_slice-point.result in
    let a = seen_term look c.args.left.now.term in
    let b = seen_term look c.args.right.now.term in
    let clash = rw (c.in-None.is, c.term.ensures, c.term-2.ensures) at c.in_ok-determined.ensures in
    λ p is. subst (λ x. AreApart variables q x a b) (point_read q c.args.point c.as_slice.result.now read p c.as_slice.ensures c.index-as_slice-point.is is) (clash_apart variables q read a b clash)

pub returns-in_ok-matched-in-Some-clause-matched : goal.returns-in_ok-matched-in-Some-clause-matched
returns-in_ok-matched-in-Some-clause-matched g c =
    let look = g.D.Domain.look c.args.d.now in
    let q = c.args.problem.now in
    let a = seen_term look c.args.left.now.term in
    let b = seen_term look c.args.right.now.term in
    let matched = rw (c.term-in-Some.ensures, c.term-in-Some-2.ensures) at c.in_ok-matched-in-Some.ensures.matched in
    λ p is.
    subst (λ x. IsMatch (g.D.Domain.variables c.args.d.now) q x a b (g.D.Domain.look c.matched.new.d) c.in_ok-matched-in-Some.field-0)
    (point_read q c.args.point c.as_slice.result.now c.index-as_slice-point.result p c.as_slice.ensures c.index-as_slice-point.is is) matched
