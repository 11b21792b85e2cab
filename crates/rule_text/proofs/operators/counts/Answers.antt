use Rattle.std.proofs.Common.{◌&&◌, ◌==◌, [], IsFalse, bytes_eq, sym, ◌∙◌, ap, subst}
use Rattle.std.specs.List.{list_any}
use Rattle.std.proofs.lemmas.List.{take_all}
use Rattle.rule_text.proofs.OperatorTable.{row_found, row_passed}
use Rattle.rule_text.proofs.operators.counts.Goals as goal

pub returns-then-eq-clause-some : goal.returns-then-eq-clause-some
returns-then-eq-clause-some c = row_found c.args.operators.now c.args.name.now c.loop-i.i (record { ref_ptr = (0, 0); now = [] }, 0, 0) c.loop-i-test.true (ap (λ w. bytes_eq w c.args.name.now) (sym c.as_bytes.ensures.value) ∙ sym c.eq.ensures ∙ c.if-eq.true)

pub loop-i-preserved : goal.loop-i-preserved
loop-i-preserved c = row_passed c.args.operators.now c.args.name.now c.loop-i.i (record { ref_ptr = (0, 0); now = [] }, 0, 0) c.loop-i-test.true (ap (λ w. bytes_eq w c.args.name.now) (sym c.as_bytes.ensures.value) ∙ sym c.eq.ensures ∙ c.if-eq.false) c.loop-i.invariant

pub returns-clause-none : goal.returns-clause-none
returns-clause-none c = λ _ n a. subst (λ ops. IsFalse (list_any (λ op. bytes_eq op.0.now c.args.name.now && (op.1 == n && op.2 == a)) ops)) (take_all c.loop-i.i c.args.operators.now c.loop-i-test.false) (c.loop-i.invariant n a)
