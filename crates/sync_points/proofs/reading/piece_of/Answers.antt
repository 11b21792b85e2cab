use Rattle.std.proofs.Common.{true, false, sym, ◌∙◌, ap, ap₂}
use Rattle.std.proofs.lemmas.Result.{IfOk-weaker}
use Rattle.rule_text.specs.declared.item.Item.TheVariants.{Cut, Point}
use Rattle.sync_points.specs.Pieces.{piece_of}
use Rattle.sync_points.proofs.reading.piece_of.Goals as goal

pub returns-then-left : goal.returns-then-left
returns-then-left c =
    let w = c.in-Cut in
    let is = w.is ∙ ap (λ left. Cut left w.name w.vars w.pattern w.whens) c.if-left.true in
    let parts = ap₂ (λ vars whens. Cut true w.name vars w.pattern whens) c.as_slice-vars.ensures c.as_slice-whens.ensures in
    IfOk-weaker c.left_piece.result _ _ (λ piece says. says ∙ ap (piece_of c.args.draft.now.left c.args.draft.now.right) (parts ∙ sym is)) c.left_piece.ensures

pub returns-else-left : goal.returns-else-left
returns-else-left c =
    let w = c.in-Cut in
    let is = w.is ∙ ap (λ left. Cut left w.name w.vars w.pattern w.whens) c.if-left.false in
    let parts = ap₂ (λ vars whens. Cut false w.name vars w.pattern whens) c.as_slice-vars.ensures c.as_slice-whens.ensures in
    IfOk-weaker c.right_piece.result _ _ (λ piece says. says ∙ ap (piece_of c.args.draft.now.left c.args.draft.now.right) (parts ∙ sym is)) c.right_piece.ensures

pub returns-in-Point : goal.returns-in-Point
returns-in-Point c =
    let w = c.in-Point in
    let parts = ap₂ (λ vars whens. Point w.name vars w.left w.right whens) c.as_slice-vars-in-Point.ensures c.as_slice-whens-in-Point.ensures in
    IfOk-weaker c.point_piece.result _ _ (λ piece says. says ∙ ap (piece_of c.args.draft.now.left c.args.draft.now.right) (parts ∙ sym w.is)) c.point_piece.ensures
