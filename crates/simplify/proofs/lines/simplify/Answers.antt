use Rattle.std.proofs.Common.{arith, ◌≡◌, ◌-◌, length, Some, slice_get, ap, ◌∙◌, sym, subst}
use Rattle.data_value.specs.declared.Value.TheVariants.{One}
use Rattle.node_list.specs.Listed.{AreLines}
use Rattle.simplify.specs.Valued.{AreValued}
use Rattle.simplify.proofs.RootLemmas.{valued_length, valued_there, closed_known}
use Rattle.simplify.proofs.lines.simplify.Goals as goal

pub all_values-requires : goal.all_values-requires
all_values-requires g c = subst (AreLines (g.D.Domain.look c.args.d.now)) (sym c.as_slice.ensures.value) c.in_ok-lines.ensures.ordered

pub scalar_at-requires : goal.scalar_at-requires
scalar_at-requires g c =
    let count = valued_length (g.D.Domain.look c.args.d.now) c.as_slice.result.now c.in_ok-values.values.items c.in_ok-values.ensures in
    let lines = ap (λ l. length l) c.as_slice.ensures.value in
    let values = ap (λ l. length l) c.as_slice-2.ensures.value in
    omega (arith, count, lines, values, c.len.ensures, c.in_ok-lines.lines.ok.0, c.in_ok-lines.ensures.last.1)

pub constant_for-requires-clause-worth : goal.constant_for-requires-clause-worth
constant_for-requires-clause-worth g c =
    let look = g.D.Domain.look c.args.d.now in
    let lines = c.in_ok-lines.lines.items in
    let worth = subst (λ l. AreValued look l c.in_ok-values.values.items) c.as_slice.ensures.value c.in_ok-values.ensures in
    let there : slice_get c.in_ok-values.values.items (c.len.result - 1) ≡ Some (Some (One c.in-Some.scalar)) = ap (λ l. slice_get l (c.len.result - 1)) (sym c.as_slice-2.ensures.value) ∙ c.in-Some.ensures in
    valued_there look lines c.in_ok-values.values.items (c.len.result - 1) (Some (One c.in-Some.scalar)) (look c.args.node.now) worth c.in_ok-lines.ensures (omega (arith, c.len.ensures, c.in_ok-lines.lines.ok.0, c.in_ok-lines.ensures.last.1)) there

pub returns-clause-closed : goal.returns-clause-closed
returns-clause-closed g c = λ closed scalar.
    let d = c.args.d.now in
    let look = g.D.Domain.look d in
    let worth = subst (λ l. AreValued look l c.in_ok-values.values.items) c.as_slice.ensures.value c.in_ok-values.ensures in
    absurd (closed_known look (g.D.Domain.variables d) (g.met.D.Symbolic.views d).shows c.args.node.now c.in_ok-lines.lines.items c.in_ok-values.values.items (c.len.result - 1) c.requires worth c.in_ok-lines.ensures (omega (arith, c.len.ensures, c.in_ok-lines.lines.ok.0, c.in_ok-lines.ensures.last.1))
    (λ s there. c.in-None.ensures s (ap (λ l. slice_get l (c.len.result - 1)) c.as_slice-2.ensures.value ∙ there)) closed scalar)
