use Rattle.std.proofs.Common.{◌∙◌, sym, length-drop}
use Rattle.std.proofs.lemmas.Result.{IfOk-weaker}
use Rattle.bit_gates.proofs.WordLemmas.{take_all}
use Rattle.bit_gates.proofs.LayoutLemmas.{is_lowered}
use Rattle.bit_gates.proofs.layout.lowered.Goals as goal

pub returns : goal.returns
returns c = IfOk-weaker c.join.result _ _
    (λ v h. is_lowered c.args.b.now c.args.x.now c.as_slice.result.now _ v c.args.fill c.args.count c.requires.x c.requires.within c.requires.fill (c.as_slice.ensures ∙ c.in_ok-fills.ensures) (take_all _ _ (sym (length-drop c.args.count c.args.x.now))) h)
    c.join.ensures
