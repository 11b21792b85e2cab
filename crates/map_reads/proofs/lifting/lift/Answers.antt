use Rattle.std.proofs.Common.{ℕ, List, get_or, ap, ◌∙◌, arith}
use Rattle.data_value.specs.declared.DataSort.TheVariants.{Bool as BoolSort}
use Rattle.map_reads.specs.Lifted.{lifted_value}
use Rattle.map_reads.proofs.Lifts.{lifted_next, lifted_no_entries}
use Rattle.map_reads.proofs.lifting.lift.Goals as goal

pub loop-variable-preserved : goal.loop-variable-preserved
loop-variable-preserved c =
    let reads = c.args.reads.now in
    let i = c.loop-variable.variable in
    lifted_next reads c.args.words.now reads.sorts i BoolSort c.loop-variable.made c.push.new.self c.in_ok-value_of.field-0 (omega (arith, c.loop-variable-test.true, c.len-variable-end.ensures)) c.loop-variable.invariant
    (c.in_ok-value_of.ensures ∙ ap (λ (us : List ℕ). lifted_value reads us i (get_or reads.sorts i BoolSort)) c.as_slice.ensures) c.in_ok-push.ensures.ok

pub returns-clause-empty : goal.returns-clause-empty
returns-clause-empty c zeros = lifted_no_entries c.args.reads.now c.args.words.now c.loop-variable.made c.loop-variable.variable c.loop-variable.invariant zeros
