use Rattle.std.proofs.Common.{◌≡◌, ◌⊎◌, inl, inr, true, false}
use Rattle.std.proofs.lemmas.Result.{IfOk-weaker}
use Rattle.bit_gates.specs.Bits.{constant_lit}
use Rattle.bit_gates.proofs.KnownLemmas.{same_from, same_constant, mux_same, mux_first, mux_second, mux_or, mux_and_not, mux_or_not, mux_and}
use Rattle.bit_gates.proofs.gates.mux.Goals.{then-is_same-via-then-is_same, then-is_same-via-else-is_same+then-is_same-2}
use Rattle.bit_gates.proofs.gates.mux.Goals.{then-is_same-4-via-then-is_same-4, then-is_same-4-via-else-is_same-4+then-is_same-5, then-is_same-6-via-then-is_same-6, then-is_same-6-via-else-is_same-6+then-is_same-7}
use Rattle.bit_gates.proofs.gates.mux.Goals.{then-is_same-8-via-then-is_same-8, then-is_same-8-via-else-is_same-8+then-is_same-9, then-is_same-10-via-then-is_same-10, then-is_same-10-via-else-is_same-10+then-is_same-11}
use Rattle.bit_gates.proofs.gates.mux.Goals as goal

pub returns-then-is_same-clause-made : goal.returns-then-is_same-clause-made
returns-then-is_same-clause-made c = elim c.then-is_same.branch [
  | then-is_same-via-then-is_same w ↦ mux_first c.args.b.now c.args.s c.args.x c.args.y (same_constant _ _ _ w.if-is_same.ensures c.constant.ensures) c.requires.x
  | then-is_same-via-else-is_same+then-is_same-2 w ↦ mux_same c.args.b.now c.args.s c.args.x c.args.y (same_from _ _ w.if-is_same-2.ensures) c.requires.x
]

pub returns-then-is_same-3-clause-made : goal.returns-then-is_same-3-clause-made
returns-then-is_same-3-clause-made c = mux_second c.args.b.now c.args.s c.args.x c.args.y (same_constant _ _ _ c.if-is_same-3.ensures c.constant-2.ensures) c.requires.y

pub returns-then-is_same-4-clause-made : goal.returns-then-is_same-4-clause-made
returns-then-is_same-4-clause-made c =
    let e : (c.args.x ≡ constant_lit true) ⊎ (c.args.x ≡ c.args.s) = elim c.then-is_same-4.branch [
      | then-is_same-4-via-then-is_same-4 w ↦ inl (same_constant _ _ _ w.if-is_same-4.ensures c.constant-3.ensures)
      | then-is_same-4-via-else-is_same-4+then-is_same-5 w ↦ inr (same_from _ _ w.if-is_same-5.ensures)
    ] in
    IfOk-weaker c.or.result _ _ (λ z h. mux_or c.or.new.b c.args.s c.args.x c.args.y z e h) c.or.ensures.made

pub returns-then-is_same-6-clause-made : goal.returns-then-is_same-6-clause-made
returns-then-is_same-6-clause-made c =
    let e : (c.args.x ≡ constant_lit false) ⊎ (c.args.x ≡ c.flip-not_s.result) = elim c.then-is_same-6.branch [
      | then-is_same-6-via-then-is_same-6 w ↦ inl (same_constant _ _ _ w.if-is_same-6.ensures c.constant-4.ensures)
      | then-is_same-6-via-else-is_same-6+then-is_same-7 w ↦ inr (same_from _ _ w.if-is_same-7.ensures)
    ] in
    IfOk-weaker c.and.result _ _ (λ z h. mux_and_not c.and.new.b c.args.s c.flip-not_s.result c.args.x c.args.y z c.flip-not_s.ensures e h) c.and.ensures.made

pub returns-then-is_same-8-clause-made : goal.returns-then-is_same-8-clause-made
returns-then-is_same-8-clause-made c =
    let e : (c.args.y ≡ constant_lit true) ⊎ (c.args.y ≡ c.flip-not_s.result) = elim c.then-is_same-8.branch [
      | then-is_same-8-via-then-is_same-8 w ↦ inl (same_constant _ _ _ w.if-is_same-8.ensures c.constant-5.ensures)
      | then-is_same-8-via-else-is_same-8+then-is_same-9 w ↦ inr (same_from _ _ w.if-is_same-9.ensures)
    ] in
    IfOk-weaker c.or-then-is_same-8.result _ _ (λ z h. mux_or_not c.or-then-is_same-8.new.b c.args.s c.flip-not_s.result c.args.x c.args.y z c.flip-not_s.ensures e h) c.or-then-is_same-8.ensures.made

pub returns-then-is_same-10-clause-made : goal.returns-then-is_same-10-clause-made
returns-then-is_same-10-clause-made c =
    let e : (c.args.y ≡ constant_lit false) ⊎ (c.args.y ≡ c.args.s) = elim c.then-is_same-10.branch [
      | then-is_same-10-via-then-is_same-10 w ↦ inl (same_constant _ _ _ w.if-is_same-10.ensures c.constant-6.ensures)
      | then-is_same-10-via-else-is_same-10+then-is_same-11 w ↦ inr (same_from _ _ w.if-is_same-11.ensures)
    ] in
    IfOk-weaker c.and-then-is_same-10.result _ _ (λ z h. mux_and c.and-then-is_same-10.new.b c.args.s c.args.x c.args.y z e h) c.and-then-is_same-10.ensures.made
