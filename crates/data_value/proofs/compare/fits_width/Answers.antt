use Rattle.std.proofs.Common.{◌≤◌, ◌^◌, arith}
use Rattle.std.proofs.lemmas.Bool.{le-leb}
use Rattle.std.proofs.Math.Nat.{pow-le-pow_right}
use Rattle.data_value.proofs.compare.fits_width.Goals as goal

pub returns-then-width-ge64 : goal.returns-then-width-ge64
returns-then-width-ge64 c =
    let wide : 2 ^ 64 ≤ 2 ^ c.args.width = pow-le-pow_right {n = 2} (omega arith) c.if-width-ge64.true in
    (λ t. omega arith, λ l. le-leb 64 c.args.width c.if-width-ge64.true)
