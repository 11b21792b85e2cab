use Rattle.std.proofs.Common.{◌≡◌, ◌+◌, ◌-◌, length, arith}
use Rattle.bit_gates.proofs.RangeLemmas.{clause_below_get}
use Rattle.bit_gates.proofs.LayoutLemmas.{is_turned, with_last}
use Rattle.bit_gates.proofs.comparison.flip_top.Goals as goal

pub returns : goal.returns
returns c =
    let u : length c.args.x.now - 1 + 1 ≡ length c.args.x.now = omega arith in
    is_turned c.args.b.now c.args.x.now c.push.new.self _ c.flip.result (length c.args.x.now - 1) c.requires.x u
    (clause_below_get c.args.b.now.clauses.vars c.args.x.now (length c.args.x.now - 1) _ c.requires.x (omega arith))
    (with_last c.args.x.now (length c.args.x.now - 1) _ u) c.flip.ensures (let e = c.in_ok-push.ensures.ok in let f = c.in_ok-bits.ensures in (cc))
