use Rattle.std.proofs.Common.{◌⊎◌, inl, inr, subst}
use Rattle.std.specs.Prelude.{IfSome}
use Rattle.simplify.specs.Division.{IsDividend, IsWhole}
use Rattle.simplify.specs.Split.{IsSplit}
use Rattle.simplify.proofs.DivisionLemmas.{dividend_right, dividend_left}
use Rattle.simplify.proofs.SplitLemmas.{split_simpler, split_turned}
use Rattle.simplify.proofs.division.dividend_of_sum.Goals as goal

pub returns-in-Some : goal.returns-in-Some
returns-in-Some g c =
    let d = c.args.d.now in
    let look = g.D.Domain.look d in
    let vars = g.D.Domain.variables d in
    let laws = g.met.D.Domain.laws d in
    let shows = (g.met.D.Symbolic.views d).shows in
    let a = c.args.a.now in
    let b = c.args.b.now in
    let found = c.in-Some.found in
    let is : IsDividend look a b (look found) ⊎ IsSplit look a b (look found) = subst (λ o. IfSome o (λ n. IsWhole look a b (look n))) c.in-Some.is c.in_ok-found.ensures in
    elim is [
      | inl e ↦ dividend_right look vars laws shows a b c.requires.second (look found) e c.requires.sorted
      | inr e ↦ split_simpler look vars laws shows a b found c.requires.first c.requires.second e c.requires.sorted
    ]

pub returns-in-Some-2 : goal.returns-in-Some-2
returns-in-Some-2 g c =
    let d = c.args.d.now in
    let look = g.D.Domain.look d in
    let vars = g.D.Domain.variables d in
    let laws = g.met.D.Domain.laws d in
    let shows = (g.met.D.Symbolic.views d).shows in
    let a = c.args.a.now in
    let b = c.args.b.now in
    let found = c.in-Some-2.found in
    let is : IsDividend look b a (look found) ⊎ IsSplit look b a (look found) = subst (λ o. IfSome o (λ n. IsWhole look b a (look n))) c.in-Some-2.is c.in_ok-found-in-None.ensures in
    elim is [
      | inl e ↦ dividend_left look vars laws shows b a c.requires.first (look found) e c.requires.sorted
      | inr e ↦ split_turned look vars laws shows b a found c.requires.second c.requires.first e c.requires.sorted
    ]
