use Rattle.std.proofs.Common.{◌≡◌, true, false, sym, subst}
use Rattle.std.specs.Prelude.{IfOk, IsTrue}
use Rattle.prover.specs.Answers.{IsNever, IsNeverTrue}
use Rattle.cut_search.proofs.exact.DeciderDrops.drops.Goals.{in-Never, in-Holds}
use Rattle.cut_search.proofs.exact.DeciderDrops.drops.Goals as goal

pub returns-clause-allowed : goal.returns-clause-allowed
returns-clause-allowed g c =
    let says = IsNeverTrue (g.D.Domain.variables c.args.d.now) (g.D.Domain.look c.args.d.now c.args.condition.now) in
    elim c.match-branch-2.branch [
      | in-Never w ↦ subst (λ r. IfOk r (λ dropped. IsTrue dropped → says)) (sym w.result-is) (λ h. c.in_ok-decide.ensures.never.0 (subst IsNever (sym w.in-Never.is) tt))
      | in-Holds w ↦ subst (λ r. IfOk r (λ dropped. IsTrue dropped → says)) (sym w.result-is) (λ h. let e : false ≡ true = h in absurd (cc))
    ]
