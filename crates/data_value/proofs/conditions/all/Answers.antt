use Rattle.std.proofs.Common.{◌≡◌, ◌&&◌, false, ◌<◌, map, get_or, length, sym, ap, ◌∙◌, subst, arith}
use Rattle.std.proofs.lemmas.List.{get_or-map, length-map}
use Rattle.data_value.specs.Nodes.{Seen}
use Rattle.data_value.specs.Truth.{truth, IsCondition, IsTruth, IsFoldedFrom}
use Rattle.data_value.proofs.Grown.{extends-both}
use Rattle.data_value.proofs.TruthLemmas.{condition_at, all_more, folded_more}
use Rattle.data_value.proofs.conditions.all.Goals as goal

pub both-requires-clause-second : goal.both-requires-clause-second
both-requires-clause-second g c =
    let look = g.D.Domain.look in
    let at = condition_at (look c.args.d.now) (look c.loop-condition.d) c.loop-condition.invariant.extends c.args.conditions.now c.loop-condition.condition-index c.condition-item.result c.requires c.loop-condition-test.true c.condition-item.is in
    subst IsCondition (sym at.1) at.0

pub loop-condition-preserved : goal.loop-condition-preserved
loop-condition-preserved g c =
    let look = g.D.Domain.look in
    let first = look c.args.d.now in
    let now = look c.loop-condition.d in
    let ns = c.args.conditions.now in
    let i = c.loop-condition.condition-index in
    let n = c.condition-item.result in
    let at = condition_at first now c.loop-condition.invariant.extends ns i n c.requires c.loop-condition-test.true c.condition-item.is in
    let within : i < length (map first ns) = omega (arith, length-map ns first, c.loop-condition-test.true) in
    let item : first n ≡ get_or (map first ns) i (first n) = sym (get_or-map first ns i n (first n) c.loop-condition-test.true ∙ ap first (sym c.condition-item.is)) in
    let joined = now c.loop-condition.joined in
    let next = look c.both.new.d c.in_ok-joined-2.joined in
    let more = c.in_ok-joined-2.ensures in
    record {
      extends = extends-both _ _ _ c.loop-condition.invariant.extends more.extends;
      same_variables = more.same_variables ∙ c.loop-condition.invariant.same_variables;
      means = all_more (map first ns) i (first n) joined next within item c.loop-condition.invariant.means (subst (λ (s : Seen _). IsTruth next (λ v. truth joined v && truth s v)) at.1 more.means);
      knows = folded_more (map first ns) i (first n) joined next within item c.loop-condition.invariant.knows (subst (λ s. IsFoldedFrom false joined s next) at.1 more.knows);
    }
