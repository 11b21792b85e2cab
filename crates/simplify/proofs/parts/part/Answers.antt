use Rattle.std.proofs.Common.{[], ◌∷◌, IsTrue, IsSome, sym, subst}
use Rattle.std.proofs.lemmas.List.Elements.{All-head}
use Rattle.data_value.specs.declared.Op.TheVariants.{Extract}
use Rattle.simplify.specs.declared.rewritten.Rewritten.TheVariants as rewritten
use Rattle.simplify.specs.Parts.{IsInner}
use Rattle.simplify.proofs.RewriteLemmas.{through}
use Rattle.simplify.proofs.PartLemmas.{same_bits}
use Rattle.simplify.proofs.parts.part.Goals as goal

pub loop-rest-init : goal.loop-rest-init
loop-rest-init g c = let d = c.args.d.now in same_bits (g.D.Domain.look d) (g.D.Domain.variables d) c.args.hi c.args.lo c.args.a.now c.in_ok-copy.field-0 c.requires.valid c.in_ok-copy.ensures

pub inside-requires-clause-valid : goal.inside-requires-clause-valid
inside-requires-clause-valid g c = All-head (λ n. IsTrue (g.D.Domain.look c.args.d.now n).valid) c.loop-rest.rest.node [] c.loop-rest.invariant.valid

pub inside-requires-clause-sorted : goal.inside-requires-clause-sorted
inside-requires-clause-sorted g c = subst IsSome (sym c.loop-rest.invariant.sort) c.requires.sorted

pub returns-in-Known : goal.returns-in-Known
returns-in-Known g c =
    let d = c.args.d.now in
    let look = g.D.Domain.look d in
    let vars = g.D.Domain.variables d in
    let rest = c.loop-rest.rest in
    let is = subst (IsInner vars look rest) c.in-Known.is c.in_ok-scalar.ensures in
    through vars look (Extract c.args.hi c.args.lo) (Extract rest.hi rest.lo) (c.args.a.now ∷ []) (rest.node ∷ []) c.loop-rest.invariant (rewritten.Known c.in-Known.scalar) is

pub loop-rest-smaller : goal.loop-rest-smaller
loop-rest-smaller g c =
    let d = c.args.d.now in
    let look = g.D.Domain.look d in
    let vars = g.D.Domain.variables d in
    (subst (IsInner vars look c.loop-rest.rest) c.in-Bits.is c.in_ok-scalar.ensures).1

pub loop-rest-preserved : goal.loop-rest-preserved
loop-rest-preserved g c =
    let d = c.args.d.now in
    let look = g.D.Domain.look d in
    let vars = g.D.Domain.variables d in
    let rest = c.loop-rest.rest in
    let next = c.in-Bits.part in
    let is = (subst (IsInner vars look rest) c.in-Bits.is c.in_ok-scalar.ensures).0 in
    through vars look (Extract c.args.hi c.args.lo) (Extract rest.hi rest.lo) (c.args.a.now ∷ []) (rest.node ∷ []) c.loop-rest.invariant (rewritten.Apply (Extract next.hi next.lo) (next.node ∷ [])) is

pub cut-requires-clause-valid : goal.cut-requires-clause-valid
cut-requires-clause-valid g c = All-head (λ n. IsTrue (g.D.Domain.look c.args.d.now n).valid) c.loop-rest.rest.node [] c.loop-rest.invariant.valid

pub cut-requires-clause-sorted : goal.cut-requires-clause-sorted
cut-requires-clause-sorted g c = subst IsSome (sym c.loop-rest.invariant.sort) c.requires.sorted

pub returns-in-Unclear : goal.returns-in-Unclear
returns-in-Unclear g c =
    let d = c.args.d.now in
    let rest = c.loop-rest.rest in
    through (g.D.Domain.variables d) (g.D.Domain.look d) (Extract c.args.hi c.args.lo) (Extract rest.hi rest.lo) (c.args.a.now ∷ []) (rest.node ∷ []) c.loop-rest.invariant c.in_ok-cut-in-Unclear.field-0 c.in_ok-cut-in-Unclear.ensures
