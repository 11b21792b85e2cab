use Rattle.std.proofs.Common.{◌-◌, sym, subst}
use Rattle.simplify.specs.Parts.{IsWithin}
use Rattle.simplify.proofs.PartLemmas.{joined_low, joined_high}
use Rattle.simplify.proofs.parts.of_joined.Goals as goal

pub returns-then-is_within : goal.returns-then-is_within
returns-then-is_within g c =
    let d = c.args.d.now in
    let p = c.args.part.now in
    let within = subst (λ s. IsWithin s p.hi p.lo) c.sort.ensures (c.is_within.ensures c.if-is_within.true) in
    joined_low (g.D.Domain.look d) (g.D.Domain.variables d) (g.met.D.Domain.laws d) p.hi p.lo p.node ((g.met.D.Symbolic.views d).shows p.node c.requires.valid) c.requires.sorted c.args.x.now c.args.y.now c.requires.joined c.in_ok-copy.field-0 c.in_ok-copy.ensures within

pub returns-in_ok-node-in-Bits : goal.returns-in_ok-node-in-Bits
returns-in_ok-node-in-Bits g c =
    let d = c.args.d.now in
    let p = c.args.part.now in
    let w = c.in-Bits.width in
    let within = subst (λ s. IsWithin s (p.hi - w) (p.lo - w)) c.sort-then-width-hi.ensures (c.is_within-then-width-hi.ensures c.if-is_within-2.true) in
    joined_high (g.D.Domain.look d) (g.D.Domain.variables d) (g.met.D.Domain.laws d) p.hi p.lo p.node ((g.met.D.Symbolic.views d).shows p.node c.requires.valid) c.requires.sorted c.args.x.now c.args.y.now c.requires.joined
    c.in_ok-node-in-Bits.node w c.in_ok-node-in-Bits.ensures (sym c.in-Bits.ensures) c.if-width-lo.true within
