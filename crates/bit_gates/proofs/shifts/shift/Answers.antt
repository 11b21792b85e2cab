use Rattle.std.proofs.Common.{◌≡◌, length, arith}
use Rattle.bit_gates.proofs.RangeLemmas.{clause_below_more, clause_below_get}
use Rattle.bit_gates.proofs.ExtendLemmas.{extends_refl, extends_trans}
use Rattle.bit_gates.proofs.KnownLemmas.{on_ok_after, if_ok_with}
use Rattle.bit_gates.proofs.ShiftLemmas.{step_first, step_next, step_stays, moving_none, moving_step, moving_far, moving_all}
use Rattle.bit_gates.proofs.shifts.shift.Goals.{then-step-width+in_ok-moved+in_ok-word-2, else-step-width+in_ok-long}
use Rattle.bit_gates.proofs.shifts.shift.Goals as goal

pub loop-j-init : goal.loop-j-init
loop-j-init c = record {
  extends = extends_refl _ _;
  so_far = moving_none c.args.b.now c.args.way c.args.x.now c.args.y.now _ _ c.in_ok-word.ensures c.constant-long.ensures;
  step = step_first c.min-step.result (length c.args.x.now) c.min-step.ensures;
}

pub mux_words-requires-clause-s : goal.mux_words-requires-clause-s
mux_words-requires-clause-s c =
    clause_below_get c.loop-j.b.clauses.vars c.args.y.now c.loop-j.j _ (clause_below_more _ _ _ c.loop-j.invariant.extends.grows c.requires.y) c.loop-j-test.true

pub or-requires-clause-y : goal.or-requires-clause-y
or-requires-clause-y c =
    clause_below_get c.loop-j.b.clauses.vars c.args.y.now c.loop-j.j _ (clause_below_more _ _ _ c.loop-j.invariant.extends.grows c.requires.y) c.loop-j-test.true

pub loop-j-preserved : goal.loop-j-preserved
loop-j-preserved c = elim c.if-step-width.branch [
  | then-step-width+in_ok-moved+in_ok-word-2 w ↦ record {
    extends = rw w.b-is (extends_trans c.loop-j.invariant.extends w.in_ok-word-2.ensures.extends);
    so_far = rw (w.b-is, w.word-is, w.long-is)
        (moving_step c.loop-j.b w.mux_words.new.b c.args.way c.args.x.now c.args.y.now c.loop-j.word w.as_slice.result.now w.as_slice-then-step-width-2.result.now w.in_ok-moved.moved w.as_slice-then-step-width.result.now w.in_ok-word-2.word c.loop-j.long _ c.loop-j.step c.loop-j.j
        c.loop-j.invariant.so_far c.loop-j.invariant.step w.if-step-width.true w.as_slice.ensures w.as_slice-then-step-width-2.ensures w.as_slice-then-step-width.ensures w.in_ok-moved.ensures
        w.in_ok-word-2.ensures.extends w.in_ok-word-2.ensures.made c.loop-j-test.true);
    step = rw w.step-is (step_next c.loop-j.step _ c.loop-j.j (length c.args.x.now) w.min-step-then-step-width.ensures c.loop-j.invariant.step w.if-step-width.true);
  }
  | else-step-width+in_ok-long w ↦ record {
    extends = rw w.b-is (extends_trans c.loop-j.invariant.extends w.in_ok-long.ensures.extends);
    so_far = rw (w.b-is, w.word-is, w.long-is)
        (moving_far c.loop-j.b w.or.new.b c.args.way c.args.x.now c.args.y.now c.loop-j.word c.loop-j.long w.in_ok-long.long _ c.loop-j.step c.loop-j.j c.loop-j.invariant.so_far c.loop-j.invariant.step w.if-step-width.false
        w.in_ok-long.ensures.extends w.in_ok-long.ensures.made c.loop-j-test.true);
    step = rw w.step-is (step_stays c.loop-j.step c.loop-j.j (length c.args.x.now) c.loop-j.invariant.step w.if-step-width.false);
  }
]

pub move_word-requires-2-clause-x : goal.move_word-requires-2-clause-x
move_word-requires-2-clause-x c = clause_below_more _ _ _ c.loop-j.invariant.extends.grows c.requires.x

pub returns-clause-extends : goal.returns-clause-extends
returns-clause-extends c = on_ok_after c.mux_words-2.result (λ g. extends_trans c.loop-j.invariant.extends g) c.mux_words-2.ensures.extends

pub returns-clause-made : goal.returns-clause-made
returns-clause-made c =
    let e : c.loop-j.j ≡ length c.args.y.now = omega arith in
    if_ok_with c.mux_words-2.result _ _
    (λ g v h. moving_all c.loop-j.b c.mux_words-2.new.b c.args.way c.args.x.now c.args.y.now c.loop-j.word c.as_slice-3.result.now c.in_ok-emptied.emptied c.as_slice-2.result.now v c.loop-j.long c.loop-j.j
    c.loop-j.invariant.so_far e c.as_slice-3.ensures c.as_slice-2.ensures c.in_ok-emptied.ensures g h)
    c.mux_words-2.ensures.extends c.mux_words-2.ensures.made
