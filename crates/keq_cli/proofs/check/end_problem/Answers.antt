use Rattle.std.proofs.Common.{List, subst}
use Rattle.sort_term.specs.declared.points.Point.{Point}
use Rattle.keq_cli.specs.Tasks.{IsFirstOpen}
use Rattle.keq_cli.proofs.check.end_problem.Goals as goal

pub returns-in_ok-report_at-in-Some-clause-stops : goal.returns-in_ok-report_at-in-Some-clause-stops
returns-in_ok-report_at-in-Some-clause-stops c =
    let k = c.in-Some.place in
    let p = c.in-Some.ensures.some.0 in
    let first = c.in-Some.ensures.some.1 in
    record {
      k = k;
      point = p;
      first = subst (λ (ps : List Point). IsFirstOpen ps k p) c.as_slice-points.ensures first;
      is = c.in_ok-report_at-in-Some.ensures p first.there;
    }
