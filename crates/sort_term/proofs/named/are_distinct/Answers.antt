use Rattle.std.proofs.Common.{◌≡◌, true, false, refl, sym, ◌∙◌}
use Rattle.sort_term.proofs.Distinct.{distinct-not, distinct-more, distinct-all}
use Rattle.sort_term.proofs.named.are_distinct.Goals as goal

pub returns-then-has_name : goal.returns-then-has_name
returns-then-has_name g c = (
  λ h. absurd (cc),
  λ all. absurd (distinct-not g.T.Named.name_of c.args.items.now c.loop-i.i c.index-items-i.result c.name.result.now c.loop-i-test.true c.index-items-i.is c.name.ensures (c.has_name.ensures.0 c.if-has_name.true) all),
)

pub loop-i-preserved : goal.loop-i-preserved
loop-i-preserved g c =
    distinct-more g.T.Named.name_of c.args.items.now c.loop-i.i c.index-items-i.result c.name.result.now c.loop-i-test.true c.index-items-i.is c.name.ensures (λ found. let e : false ≡ true = sym c.if-has_name.false ∙ c.has_name.ensures.1 found in cc) c.loop-i.invariant

pub returns : goal.returns
returns g c = (λ _. distinct-all g.T.Named.name_of c.args.items.now c.loop-i.i c.loop-i-test.false c.loop-i.invariant, λ _. refl)
