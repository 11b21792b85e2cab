use Rattle.std.proofs.Common.{◌≡◌, ◌||◌, IsTrue, true, false, sym, ◌∙◌, below_more}
use Rattle.sort_term.specs.Stands.{is_argument}
use Rattle.sort_term.proofs.problem_checks.are_determined.Goals as goal

pub returns-then-not-is_determined : goal.returns-then-not-is_determined
returns-then-not-is_determined c = (
  λ h. absurd (cc),
  λ d. absurd (let e : false ≡ true = sym c.if-not-is_determined.true ∙ c.is_determined.ensures ∙ d.each c.loop-i.i c.loop-i-test.true in cc),
)

pub loop-i-preserved : goal.loop-i-preserved
loop-i-preserved c =
    below_more (λ j. IsTrue (is_argument j c.args.left.now || is_argument j c.args.right.now)) _ c.loop-i.invariant (sym c.is_determined.ensures ∙ c.if-not-is_determined.false)
