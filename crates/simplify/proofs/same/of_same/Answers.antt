use Rattle.std.proofs.Common.{◌≡◌, true, sym, rules}
use Rattle.simplify.proofs.SameLemmas.{same_simpler, same_known}
use Rattle.simplify.proofs.same.of_same.Goals as goal

pub returns-then-is_idempotent : goal.returns-then-is_idempotent
returns-then-is_idempotent g c =
    let d = c.args.d.now in
    let one : c.is_same.result ≡ true = (let h = c.if-not-is_same.false in first_of (cc, search rules)) in
    same_simpler (g.D.Domain.look d) (g.D.Domain.variables d) (g.met.D.Domain.laws d) c.args.op c.args.a.now c.args.b.now c.requires.first (c.is_same.ensures.same one) c.requires.sorted (c.is_idempotent.ensures c.if-is_idempotent.true) _ c.in_ok-copy.ensures

pub returns-in-Some : goal.returns-in-Some
returns-in-Some g c =
    let d = c.args.d.now in
    let one : c.is_same.result ≡ true = (let h = c.if-not-is_same.false in first_of (cc, search rules)) in
    same_known (g.D.Domain.look d) (g.D.Domain.variables d) (g.met.D.Domain.laws d) c.args.op c.args.a.now c.args.b.now c.requires.first (c.is_same.ensures.same one) c.sort.result c.in-Some.scalar (sym c.sort.ensures) c.in-Some.ensures
