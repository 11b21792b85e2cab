use Rattle.std.proofs.Common.{◌≡◌, true, false, refl, sym, ap, ◌∙◌}
use Rattle.sort_term.specs.declared.program.Row.{Row}
use Rattle.sort_term.proofs.Distinct.{distinct-not, distinct-more, distinct-all, any-key, key-any}
use Rattle.sort_term.proofs.problem_checks.keys_are_distinct.Goals as goal

pub returns-then-has_key : goal.returns-then-has_key
returns-then-has_key c = (
  λ h. absurd (cc),
  λ all. absurd (distinct-not (λ (r : Row). r.key) c.args.rows.now c.loop-i.i c.index-rows-i.result _ c.loop-i-test.true c.index-rows-i.is (ap (λ (r : Row). r.key) (sym c.index-rows-i.is)) (any-key (λ (r : Row). r.key) _ _ (sym c.has_key.ensures ∙ c.if-has_key.true)) all),
)

pub loop-i-preserved : goal.loop-i-preserved
loop-i-preserved c =
    distinct-more (λ (r : Row). r.key) c.args.rows.now c.loop-i.i c.index-rows-i.result _ c.loop-i-test.true c.index-rows-i.is (ap (λ (r : Row). r.key) (sym c.index-rows-i.is)) (λ found. let e : false ≡ true = sym c.if-has_key.false ∙ c.has_key.ensures ∙ key-any (λ (r : Row). r.key) _ _ found in cc) c.loop-i.invariant

pub returns : goal.returns
returns c = (λ _. distinct-all (λ (r : Row). r.key) c.args.rows.now c.loop-i.i c.loop-i-test.false c.loop-i.invariant, λ _. refl)
