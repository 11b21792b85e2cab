use Rattle.std.proofs.Common.{sym, subst}
use Rattle.simplify.specs.Rewrites.{IsCommutative}
use Rattle.simplify.proofs.WordLemmas.{add_commutes, mul_commutes, and_commutes, or_commutes, xor_commutes}
use Rattle.simplify.proofs.sums.is_commutative.Goals as goal

pub returns-in-Add : goal.returns-in-Add
returns-in-Add c = λ h. subst IsCommutative (sym c.in-Add.is) add_commutes

pub returns-in-Mul : goal.returns-in-Mul
returns-in-Mul c = λ h. subst IsCommutative (sym c.in-Mul.is) mul_commutes

pub returns-in-BvAnd : goal.returns-in-BvAnd
returns-in-BvAnd c = λ h. subst IsCommutative (sym c.in-BvAnd.is) and_commutes

pub returns-in-BvOr : goal.returns-in-BvOr
returns-in-BvOr c = λ h. subst IsCommutative (sym c.in-BvOr.is) or_commutes

pub returns-in-BvXor : goal.returns-in-BvXor
returns-in-BvXor c = λ h. subst IsCommutative (sym c.in-BvXor.is) xor_commutes
