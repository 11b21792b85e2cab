use Rattle.std.proofs.Common.{◌∙◌, sym, refl}
use Rattle.refute_check.proofs.SetLemmas.{rest_taken, rest_left, kept_moved, fewer_taken, none_left}
use Rattle.refute_check.proofs.lit_set.gather.Goals as goal
use Rattle.refute_check.specs.Literals.{has_lit}
use Rattle.refute_check.proofs.lit_set.gather.Goals.{then-has+in_ok-push, else-has}

pub loop-lit-preserved : goal.loop-lit-preserved
loop-lit-preserved c =
    elim c.if-has.branch [
      | then-has+in_ok-push w ↦
          rw (w.marks-is, w.kept-is) (record {
            rest = rest_taken c.args.added.now c.loop-lit.lit-index _ _ c.loop-lit.marks w.remove.new.self c.loop-lit-test.true refl c.loop-lit.invariant.rest w.remove.ensures;
            kept = λ x. kept_moved c.loop-lit.kept.items _ _ c.loop-lit.marks w.remove.new.self w.in_ok-push.ensures.items (sym c.has.ensures ∙ w.if-has.true) w.remove.ensures x ∙ c.loop-lit.invariant.kept x;
            fewer = λ x t. c.loop-lit.invariant.fewer x (fewer_taken _ c.loop-lit.marks w.remove.new.self w.remove.ensures x t);
          })
      | else-has w ↦
          rw (w.marks-is, w.kept-is) (record {
            rest = rest_left c.args.added.now c.loop-lit.lit-index _ _ c.loop-lit.marks c.loop-lit-test.true refl c.loop-lit.invariant.rest (sym c.has.ensures ∙ w.if-has.false);
            kept = c.loop-lit.invariant.kept;
            fewer = c.loop-lit.invariant.fewer;
          })
    ]

pub returns-clause-kept : goal.returns-clause-kept
returns-clause-kept c = λ x.
    sym (none_left c.args.added.now c.loop-lit.lit-index c.loop-lit.marks c.loop-lit-test.false c.loop-lit.invariant.rest (has_lit c.loop-lit.kept.items x) x) ∙ c.loop-lit.invariant.kept x
