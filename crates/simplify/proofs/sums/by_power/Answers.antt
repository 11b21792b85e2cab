use Rattle.std.proofs.Common.{◌≡◌, ◌-◌, sym, subst}
use Rattle.data_value.specs.declared.Op.TheVariants.{Mul, Udiv, Urem}
use Rattle.simplify.specs.Rewrites.{IsReplacing}
use Rattle.data_value.specs.declared.Op.TheVariants.{Shl, Lshr, BvAnd}
use Rattle.simplify.proofs.WordLemmas.{mul_power, udiv_power, urem_power}
use Rattle.simplify.proofs.sums.by_power.Goals as goal

pub returns-in-Mul-Some : goal.returns-in-Mul-Some
returns-in-Mul-Some c =
    let op : c.args.op ≡ Mul = cc in
    subst (λ o. IsReplacing o c.args.width c.args.bits Shl c.in-Mul-Some.power) (sym op) (mul_power c.args.width c.args.bits c.in-Mul-Some.power c.requires.1 c.in-Mul-Some.ensures)

pub returns-in-Udiv-Some : goal.returns-in-Udiv-Some
returns-in-Udiv-Some c =
    let op : c.args.op ≡ Udiv = cc in
    subst (λ o. IsReplacing o c.args.width c.args.bits Lshr c.in-Udiv-Some.power) (sym op) (udiv_power c.args.width c.args.bits c.in-Udiv-Some.power c.requires.1 c.in-Udiv-Some.ensures)

pub returns-in-Urem-Some : goal.returns-in-Urem-Some
returns-in-Urem-Some c =
    let op : c.args.op ≡ Urem = cc in
    subst (λ o. IsReplacing o c.args.width c.args.bits BvAnd (c.args.bits - 1)) (sym op) (urem_power c.args.width c.args.bits c.in-Urem-Some.field-0-1 c.requires.1 c.in-Urem-Some.ensures)
