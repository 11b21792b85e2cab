use Rattle.std.proofs.Common.{◌≡◌, Bool, true, false, ◌||◌, sym, ap, ◌∙◌}
use Rattle.sort_term.specs.Stands.{argument_of}
use Rattle.sort_term.proofs.AnyOf.{or_true, any-found, any-more}
use Rattle.sort_term.proofs.stands.+argument.Goals as goal
use Rattle.sort_term.proofs.stands.+argument.Goals.{is_part-then-is_var-via-then-is_var, is_part-then-is_var-via-else-is_var+then-is_argument}

either : (a b : Bool) → a ≡ false → b ≡ false → (a || b) ≡ false
either a b h k = ap (λ x. x || b) h ∙ k

pub is_part-returns-then-is_var : goal.is_part-returns-then-is_var
is_part-returns-then-is_var t c =
    let found : (argument_of c.args.i c.part-item.result).0 || (argument_of c.args.i c.part-item.result).1 ≡ true =
    elim c.then-is_var.branch [
      | is_part-then-is_var-via-then-is_var w ↦ ap (λ x. x || (argument_of c.args.i c.part-item.result).1) (sym c.is_var.ensures ∙ w.if-is_var.true)
      | is_part-then-is_var-via-else-is_var+then-is_argument w ↦ ap (λ x. (argument_of c.args.i c.part-item.result).0 || x) (sym w.is_argument.ensures ∙ w.if-is_argument.true) ∙ or_true _
    ] in
    sym (any-found (λ part. part.0 || part.1) (argument_of c.args.i) c.args.parts.now c.loop-part.part-index c.part-item.result c.loop-part-test.true c.part-item.is found)

pub is_part-loop-part-preserved : goal.is_part-loop-part-preserved
is_part-loop-part-preserved t c =
    any-more (λ part. part.0 || part.1) (argument_of c.args.i) c.args.parts.now c.loop-part.part-index c.part-item.result c.loop-part-test.true c.part-item.is (either _ _ (sym c.is_var.ensures ∙ c.if-is_var.false) (sym c.is_argument.ensures ∙ c.if-is_argument.false)) c.loop-part.invariant

pub is_within-returns-then-is_argument : goal.is_within-returns-then-is_argument
is_within-returns-then-is_argument t c =
    sym (any-found (λ part. part.1) (argument_of c.args.i) c.args.parts.now c.loop-part.part-index c.part-item.result c.loop-part-test.true c.part-item.is (sym c.is_argument.ensures ∙ c.if-is_argument.true))

pub is_within-loop-part-preserved : goal.is_within-loop-part-preserved
is_within-loop-part-preserved t c =
    any-more (λ part. part.1) (argument_of c.args.i) c.args.parts.now c.loop-part.part-index c.part-item.result c.loop-part-test.true c.part-item.is (sym c.is_argument.ensures ∙ c.if-is_argument.false) c.loop-part.invariant
