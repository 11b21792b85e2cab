use Rattle.std.proofs.Common.{◌≡◌, [], ◌∷◌, ◌++◌, All, map, ap, ◌∙◌, subst, sym}
use Rattle.std.proofs.lemmas.List.{map-append}
use Rattle.std.proofs.lemmas.List.Elements.{All-push}
use Rattle.data_value.specs.declared.Value.{Value}
use Rattle.data_value.specs.Nodes.{Seen}
use Rattle.data_value.specs.Ground.{ground_seen}
use Rattle.data_value.specs.Truth.{IsCondition}
use Rattle.value_examples.proofs.conditions.nodes.Goals as goal

pub loop-truth-preserved : goal.loop-truth-preserved
loop-truth-preserved c =
    let pushed : map ground_seen c.push.new.self.items ≡ map ground_seen c.loop-truth.nodes.items ++ ground_seen c.node.result ∷ [] = ap (map ground_seen) c.in_ok-push.ensures.items ∙ map-append ground_seen c.loop-truth.nodes.items (c.node.result ∷ []) in
    subst (All (λ (s : Seen Value). IsCondition s)) (sym pushed) (All-push (λ (s : Seen Value). IsCondition s) (map ground_seen c.loop-truth.nodes.items) (ground_seen c.node.result) c.loop-truth.invariant c.node.ensures)
