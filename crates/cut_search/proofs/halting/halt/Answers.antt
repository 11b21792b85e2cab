use Rattle.std.proofs.Common.{◌≡◌, ◌≢◌, [], true, false, ap, sym, subst, ◌∙◌, ◌∷◌}
use Rattle.path_condition.specs.Leaves.{seen_leaf, seen_leaves, rule_numbers, Says}
use Rattle.cut_search.specs.Found.{under, IsReach, MovedOf, judged_by}
use Rattle.cut_search.proofs.Giving.{answered_nil}
use Rattle.cut_search.proofs.Reaching.{seen_nothing, seen_halted}
use Rattle.cut_search.proofs.Kept.{numbers_some, none_moved, sifted_moved}
use Rattle.cut_search.proofs.halting.halt.Goals as goal

pub returns-then-is_start-clause-reach : goal.returns-then-is_start-clause-reach
returns-then-is_start-clause-reach g c = λ sys is.
    let look = g.D.Domain.look c.args.d.now in
    let variables = g.D.Domain.variables c.args.d.now in
    let l = under (look c.args.stuck) (seen_leaf look c.args.leaf.now) in
    let none = c.nothing.ensures in
    subst (IsReach variables sys (judged_by g.J.Drops.Allows g.J.Drops.Keeps variables (look c.args.leaf.now.condition ∷ [])) (MovedOf (λ v rules t. Says v rules t l))) (sym (seen_nothing look c.nothing.result none.met none.long none.halted none.dropped))
    (none_moved variables sys (judged_by g.J.Drops.Allows g.J.Drops.Keeps variables (look c.args.leaf.now.condition ∷ [])) l (ap rule_numbers (c.is_empty-is_start.ensures.0 c.if-is_start.true)))

pub returns-then-is_start-clause-answered : goal.returns-then-is_start-clause-answered
returns-then-is_start-clause-answered g c = answered_nil c.args.answers.now.items c.nothing.result.dropped c.nothing.ensures.dropped

pub returns-clause-reach : goal.returns-clause-reach
returns-clause-reach g c = λ sys is.
    let before = g.D.Domain.look c.args.d.now in
    let after = g.D.Domain.look c.sift.new.d in
    let variables = g.D.Domain.variables c.args.d.now in
    let l = under (before c.args.stuck) (seen_leaf before c.args.leaf.now) in
    let kept = c.in_ok-kept.field-0.kept in
    let dropped = c.in_ok-kept.field-0.dropped in
    let moves : c.args.leaf.now.rules ≢ [] = (λ e. let y : c.is_empty-is_start.result ≡ true = c.is_empty-is_start.ensures.1 e in let q : true ≡ false = sym y ∙ c.if-is_start.false in cc) in
    subst (IsReach variables sys (judged_by g.J.Drops.Allows g.J.Drops.Keeps variables (before c.args.leaf.now.condition ∷ [])) (MovedOf (λ v rules t. Says v rules t l))) (sym (seen_halted after kept dropped c.new.result c.new-2.result c.new.ensures c.new-2.ensures))
    (sifted_moved variables sys (judged_by g.J.Drops.Allows g.J.Drops.Keeps variables (before c.args.leaf.now.condition ∷ [])) l (seen_leaves after kept) (seen_leaves after dropped) (numbers_some c.args.leaf.now.rules moves) (c.in_ok-kept.ensures.sifted sys is))
