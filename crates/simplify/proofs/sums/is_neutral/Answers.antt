use Rattle.std.proofs.Common.{sym, ◌∙◌, subst}
use Rattle.std.proofs.lemmas.Bool.{eqb-true}
use Rattle.simplify.specs.Rewrites.{IsNeutral}
use Rattle.simplify.proofs.WordLemmas.{add_neutral, sub_neutral, mul_neutral, udiv_neutral, and_neutral, or_neutral, xor_neutral, shl_neutral, lshr_neutral, ashr_neutral}
use Rattle.simplify.proofs.sums.is_neutral.Goals as goal

pub returns-in-Add : goal.returns-in-Add
returns-in-Add c = λ h. subst (λ op. IsNeutral op c.args.width c.args.bits) (sym c.in-Add.is) (add_neutral c.args.width c.args.bits (eqb-true c.args.bits 0 h))

pub returns-in-Sub : goal.returns-in-Sub
returns-in-Sub c = λ h. subst (λ op. IsNeutral op c.args.width c.args.bits) (sym c.in-Sub.is) (sub_neutral c.args.width c.args.bits (eqb-true c.args.bits 0 h))

pub returns-in-Mul : goal.returns-in-Mul
returns-in-Mul c = λ h. subst (λ op. IsNeutral op c.args.width c.args.bits) (sym c.in-Mul.is) (mul_neutral c.args.width c.args.bits (eqb-true c.args.bits 1 h))

pub returns-in-Udiv : goal.returns-in-Udiv
returns-in-Udiv c = λ h. subst (λ op. IsNeutral op c.args.width c.args.bits) (sym c.in-Udiv.is) (udiv_neutral c.args.width c.args.bits (eqb-true c.args.bits 1 h))

pub returns-in-BvOr : goal.returns-in-BvOr
returns-in-BvOr c = λ h. subst (λ op. IsNeutral op c.args.width c.args.bits) (sym c.in-BvOr.is) (or_neutral c.args.width c.args.bits (eqb-true c.args.bits 0 h))

pub returns-in-BvXor : goal.returns-in-BvXor
returns-in-BvXor c = λ h. subst (λ op. IsNeutral op c.args.width c.args.bits) (sym c.in-BvXor.is) (xor_neutral c.args.width c.args.bits (eqb-true c.args.bits 0 h))

pub returns-in-Shl : goal.returns-in-Shl
returns-in-Shl c = λ h. subst (λ op. IsNeutral op c.args.width c.args.bits) (sym c.in-Shl.is) (shl_neutral c.args.width c.args.bits c.requires.0.0 (eqb-true c.args.bits 0 h))

pub returns-in-Lshr : goal.returns-in-Lshr
returns-in-Lshr c = λ h. subst (λ op. IsNeutral op c.args.width c.args.bits) (sym c.in-Lshr.is) (lshr_neutral c.args.width c.args.bits c.requires.0.0 (eqb-true c.args.bits 0 h))

pub returns-in-Ashr : goal.returns-in-Ashr
returns-in-Ashr c = λ h. subst (λ op. IsNeutral op c.args.width c.args.bits) (sym c.in-Ashr.is) (ashr_neutral c.args.width c.args.bits c.requires.0.0 (eqb-true c.args.bits 0 h))

pub returns-in-BvAnd : goal.returns-in-BvAnd
returns-in-BvAnd c = λ h. subst (λ op. IsNeutral op c.args.width c.args.bits) (sym c.in-BvAnd.is) (and_neutral c.args.width c.args.bits (eqb-true c.args.bits c.ones.result h ∙ c.ones.ensures))
