use Rattle.std.proofs.Common.{◌≡◌, ◌++◌, Some, slice_get, sym, ap, subst, ◌∙◌}
use Rattle.sort_term.specs.Relation.{left}
use Rattle.sort_term.specs.Verdict.{IsVerdict}
use Rattle.sort_term.specs.Verdict as kind
use Rattle.ground_judge.specs.Kinds.{kind_of, test_of}
use Rattle.keq_cli.specs.Tasks.{IsJudged, equivalent, refines, unmatched, not_grounded}
use Rattle.keq_cli.specs.Reports.{point_line}
use Rattle.keq_cli.specs.declared.status.Status.TheVariants.{Equivalent, Refines, Unmatched, NotGrounded}
use Rattle.keq_cli.proofs.check.judge.Goals as goal

pub returns-in_ok-from_slice-in-Equivalent : goal.returns-in_ok-from_slice-in-Equivalent
returns-in_ok-from_slice-in-Equivalent c =
    let q = c.args.problem.now in
    let n = c.args.steps in
    let v : IsVerdict q n kind.equivalent = subst (λ k. IsVerdict q n (kind_of k)) c.in-Equivalent.is c.in_ok-judge.ensures.verdict in
    subst (IsJudged q n Equivalent) (sym c.in_ok-from_slice-in-Equivalent.ensures) (equivalent v)

pub returns-in_ok-report_at-in-Refines : goal.returns-in_ok-report_at-in-Refines
returns-in_ok-report_at-in-Refines c =
    let q = c.args.problem.now in
    let n = c.args.steps in
    let k = c.in-Refines.point in
    let v : IsVerdict q n (kind.refines k left) = subst (λ x. IsVerdict q n (kind_of x)) c.in-Refines.is c.in_ok-judge.ensures.verdict in
    let p = v.2.0 in
    let there : slice_get c.as_slice-points.result.now k ≡ Some p = subst (λ xs. slice_get xs k ≡ Some p) (sym c.as_slice-points.ensures) v.2.1 in
    subst (IsJudged q n Refines) (sym (c.in_ok-report_at-in-Refines.ensures p there)) (refines k left p v v.2.1)

pub returns-in_ok-report_at-in-Unmatched : goal.returns-in_ok-report_at-in-Unmatched
returns-in_ok-report_at-in-Unmatched c =
    let q = c.args.problem.now in
    let n = c.args.steps in
    let k = c.in-Unmatched.point in
    let v : IsVerdict q n (kind.unmatched k) = subst (λ x. IsVerdict q n (kind_of x)) c.in-Unmatched.is c.in_ok-judge.ensures.verdict in
    let p = v.1.0 in
    let there : slice_get c.as_slice-points.result.now k ≡ Some p = subst (λ xs. slice_get xs k ≡ Some p) (sym c.as_slice-points.ensures) v.1.1 in
    subst (IsJudged q n Unmatched) (sym (c.in_ok-report_at-in-Unmatched.ensures p there)) (unmatched k p v v.1.1)

pub returns-in_ok-report_at-in-NotGrounded : goal.returns-in_ok-report_at-in-NotGrounded
returns-in_ok-report_at-in-NotGrounded c =
    let q = c.args.problem.now in
    let n = c.args.steps in
    let k = c.in-NotGrounded.point in
    let test = test_of c.in-NotGrounded.test in
    let v : IsVerdict q n (kind.ungrounded k test) = subst (λ x. IsVerdict q n (kind_of x)) c.in-NotGrounded.is c.in_ok-judge.ensures.verdict in
    let p = v.0.0 in
    let there : slice_get c.as_slice-points.result.now k ≡ Some p = subst (λ xs. slice_get xs k ≡ Some p) (sym c.as_slice-points.ensures) v.0.1 in
    subst (IsJudged q n NotGrounded) (sym (c.in_ok-report_at-in-NotGrounded.ensures p there ∙ ap (λ line. line ++ point_line p.name) c.not_grounded_line.ensures)) (not_grounded k test p v v.0.1)
