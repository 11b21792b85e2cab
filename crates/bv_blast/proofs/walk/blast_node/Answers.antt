use Rattle.std.proofs.lemmas.Result.{IfOk-weaker}
use Rattle.bv_blast.proofs.PlaceLemmas.{input_place, applied_place}
use Rattle.bv_blast.proofs.walk.blast_node.Goals as goal

pub returns-in_ok-positive_word-in-Input-clause-made : goal.returns-in_ok-positive_word-in-Input-clause-made
returns-in_ok-positive_word-in-Input-clause-made c =
    let lawful = rw c.in-Input.is at c.requires.lawful in
    rw c.in-Input.is (input_place c.args.b.now c.args.inputs.now c.args.places.now c.in-Input.i c.index-inputs-i.result c.in_ok-positive_word-in-Input.field-0
    c.requires.inputs lawful c.index-inputs-i.is (rw c.as_slice.ensures at c.in_ok-positive_word-in-Input.ensures))

pub returns-in-Apply-clause-made : goal.returns-in-Apply-clause-made
returns-in-Apply-clause-made c =
    let lawful = rw c.in-Apply.is at c.requires.lawful in
    rw c.in-Apply.is (IfOk-weaker c.apply.result _ _
    (λ p h. applied_place c.apply.new.b c.args.inputs.now c.args.places.now c.in-Apply.op c.in-Apply.args c.as_slice-in-Apply.result.now p lawful c.as_slice-in-Apply.ensures h) c.apply.ensures.made)
