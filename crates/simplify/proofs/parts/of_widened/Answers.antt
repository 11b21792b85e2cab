use Rattle.std.proofs.Common.{sym, subst}
use Rattle.simplify.specs.Parts.{IsWithin}
use Rattle.simplify.proofs.PartLemmas.{widened_low, widened_high}
use Rattle.simplify.proofs.parts.of_widened.Goals as goal

pub returns-then-is_within : goal.returns-then-is_within
returns-then-is_within g c =
    let d = c.args.d.now in
    let p = c.args.part.now in
    let within = subst (λ s. IsWithin s p.hi p.lo) c.sort.ensures (c.is_within.ensures c.if-is_within.true) in
    widened_low (g.D.Domain.look d) (g.D.Domain.variables d) (g.met.D.Domain.laws d) p.hi p.lo p.node ((g.met.D.Symbolic.views d).shows p.node c.requires.valid) c.requires.sorted c.requires.widened.0 c.args.x.now c.requires.widened.1 c.in_ok-copy.field-0 c.in_ok-copy.ensures within

pub returns-then-width-lo : goal.returns-then-width-lo
returns-then-width-lo g c =
    let d = c.args.d.now in
    let p = c.args.part.now in
    widened_high (g.D.Domain.look d) (g.D.Domain.variables d) (g.met.D.Domain.laws d) p.hi p.lo p.node ((g.met.D.Symbolic.views d).shows p.node c.requires.valid) c.requires.sorted c.requires.widened.0 c.args.x.now c.requires.widened.1
    c.in-Bits-Some.width (sym c.in-Bits-Some.ensures) c.if-width-lo.true c.in-Bits-Some.count c.in-Bits-Some.ensures'
