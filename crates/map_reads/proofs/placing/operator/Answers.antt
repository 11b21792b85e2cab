use Rattle.std.proofs.Common.{◌≡◌, List, ℕ, map, take, slice_get, arith, sym, ap, ◌∙◌, subst, IfOk}
use Rattle.data_value.specs.declared.flat_formula.FlatNode.TheVariants.{Apply}
use Rattle.map_reads.specs.Drafts.{IsPushed}
use Rattle.std.proofs.lemmas.List.{take_all}
use Rattle.std.proofs.lemmas.Result.{IfOk-weaker}
use Rattle.map_reads.proofs.placing.operator.Goals as goal

pub returns : goal.returns
returns c =
    let lines = c.args.lines.now in
    let all : take c.loop-line.line-index lines ≡ lines = take_all c.loop-line.line-index lines (omega arith) in
    IfOk-weaker c.apply.result _ _
    (λ p is. record { args = c.loop-line.args.items; at = ap (map (λ line. slice_get c.args.places.now line)) (sym all) ∙ c.loop-line.invariant; pushed = is })
    (subst (λ (ps : List ℕ). IfOk c.apply.result (λ p. IsPushed c.args.draft.now c.apply.new.self p (Apply c.args.op ps))) c.as_slice.ensures.value c.apply.ensures)
