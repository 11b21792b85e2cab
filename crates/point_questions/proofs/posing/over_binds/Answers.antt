use Rattle.std.proofs.Common.{◌≡◌, IsSome, refl, sym, ap, ◌∙◌, subst}
use Rattle.sort_term.specs.Cuts.{AllTrue}
use Rattle.sort_term.specs.NodeTerms.{seen_term}
use Rattle.sort_term.proofs.NodeTerming.{term_stays}
use Rattle.unify.specs.Binds.{seen_binds, Agrees}
use Rattle.unify.specs.Branches.{IsConfiguration}
use Rattle.path_condition.proofs.LeafLemmas.{configuration_valid}
use Rattle.cut_cover.specs.Conditions.{IsTrueWhere}
use Rattle.pair_match.proofs.Nodes.{nodes_valid, all_nodes, config_sorted, bound_stay, all_bound_stay}
use Rattle.pair_match.proofs.Points.{whens_bound}
use Rattle.point_questions.proofs.Fresh.{posed_is, posed_same}
use Rattle.point_questions.proofs.posing.over_binds.Goals as goal

pub all_hold-requires-clause-valid : goal.all_hold-requires-clause-valid
all_hold-requires-clause-valid g c = nodes_valid _ (all_nodes c.args.point.now.vars _ c.requires.fresh.bound)

pub all_hold-requires-clause-conditions : goal.all_hold-requires-clause-conditions
all_hold-requires-clause-conditions g c =
    let p = c.args.point.now in
    rw c.as_slice.ensures (whens_bound c.args.problem.now.left.cons p.vars _ p.whens c.requires.fresh.bound c.requires.point.whens.sorted)

pub evaluate-requires-clause-valid : goal.evaluate-requires-clause-valid
evaluate-requires-clause-valid g c =
    let look = g.D.Domain.look in
    let vars = c.args.point.now.vars in
    nodes_valid _ (all_nodes vars _ (all_bound_stay (look c.args.d.now) (look c.all_hold.new.d) c.in_ok-condition.ensures.extends vars c.args.binds.now c.requires.fresh.bound))

pub evaluate-requires-clause-sorted : goal.evaluate-requires-clause-sorted
evaluate-requires-clause-sorted g c =
    let look = g.D.Domain.look in
    let p = c.args.point.now in
    let bound = all_bound_stay (look c.args.d.now) (look c.all_hold.new.d) c.in_ok-condition.ensures.extends p.vars c.args.binds.now c.requires.fresh.bound in
    subst IsSome (sym (config_sorted p.vars _ bound c.args.problem.now.left p.left c.requires.point.left_term)) refl

pub evaluate-requires-2-clause-valid : goal.evaluate-requires-2-clause-valid
evaluate-requires-2-clause-valid g c =
    let look = g.D.Domain.look in
    let vars = c.args.point.now.vars in
    let bound = all_bound_stay (look c.args.d.now) (look c.all_hold.new.d) c.in_ok-condition.ensures.extends vars c.args.binds.now c.requires.fresh.bound in
    nodes_valid _ (all_nodes vars _ (all_bound_stay (look c.all_hold.new.d) (look c.evaluate.new.d) c.in_ok-left.ensures.extends vars c.args.binds.now bound))

pub evaluate-requires-2-clause-sorted : goal.evaluate-requires-2-clause-sorted
evaluate-requires-2-clause-sorted g c =
    let look = g.D.Domain.look in
    let p = c.args.point.now in
    let bound = all_bound_stay (look c.args.d.now) (look c.all_hold.new.d) c.in_ok-condition.ensures.extends p.vars c.args.binds.now c.requires.fresh.bound in
    let later = all_bound_stay (look c.all_hold.new.d) (look c.evaluate.new.d) c.in_ok-left.ensures.extends p.vars c.args.binds.now bound in
    subst IsSome (sym (config_sorted p.vars _ later c.args.problem.now.right p.right c.requires.point.right_term)) refl

pub returns-clause-posed : goal.returns-clause-posed
returns-clause-posed g c =
    let look = g.D.Domain.look in
    let variables = g.D.Domain.variables c.args.d.now in
    let first = look c.args.d.now in
    let one = look c.all_hold.new.d in
    let two = look c.evaluate.new.d in
    let last = look c.evaluate-2.new.d in
    let q = c.args.problem.now in
    let p = c.args.point.now in
    let binds = c.args.binds.now in
    let bs = seen_binds first binds in
    let bound = all_bound_stay first one c.in_ok-condition.ensures.extends p.vars binds c.requires.fresh.bound in
    let later = all_bound_stay one two c.in_ok-left.ensures.extends p.vars binds bound in
    let same : seen_binds one binds ≡ bs = bound_stay first one c.in_ok-condition.ensures.extends p.vars binds c.requires.fresh.bound in
    let same_later : seen_binds two binds ≡ bs = bound_stay one two c.in_ok-left.ensures.extends p.vars binds bound ∙ same in
    let condition = c.in_ok-condition.condition in
    let left = c.in_ok-left.left in
    let right = c.in_ok-right.right in
    let holds : IsTrueWhere bs (λ w. AllTrue w p.whens) (one condition) = subst (λ es. IsTrueWhere bs (λ w. AllTrue w es) (one condition)) c.as_slice.ensures c.in_ok-condition.ensures.holding in
    let is_left : IsConfiguration q.left (seen_term two left) = record { is = c.in_ok-left.ensures.value.sorted ∙ config_sorted p.vars (seen_binds one binds) bound q.left p.left c.requires.point.left_term } in
    let is_right : IsConfiguration q.right (seen_term last right) = record { is = c.in_ok-right.ensures.value.sorted ∙ config_sorted p.vars (seen_binds two binds) later q.right p.right c.requires.point.right_term } in
    let keeps_condition : last condition ≡ one condition =
    c.in_ok-right.ensures.extends.keeps condition (ap (λ s. s.valid) (c.in_ok-left.ensures.extends.keeps condition c.in_ok-condition.ensures.holding.condition.valid) ∙ c.in_ok-condition.ensures.holding.condition.valid)
    ∙ c.in_ok-left.ensures.extends.keeps condition c.in_ok-condition.ensures.holding.condition.valid in
    let keeps_left : seen_term last c.new.result.term ≡ seen_term two left =
    ap (seen_term last) c.new.ensures ∙ term_stays two last c.in_ok-right.ensures.extends left (configuration_valid q.left (seen_term two left) is_left) in
    posed_same q p variables (one condition) (last condition) (seen_term two left) (seen_term last c.new.result.term) (seen_term last right) (seen_term last c.new-2.result.term)
    keeps_condition keeps_left (ap (seen_term last) c.new-2.ensures)
    (posed_is q p variables bs c.requires.fresh (one condition) (seen_term two left) (seen_term last right) holds is_left is_right
    (λ v w a. c.in_ok-left.ensures.value.means v w (subst (λ xs. Agrees v xs w) (sym same) a))
    (λ v w a. c.in_ok-right.ensures.value.means v w (subst (λ xs. Agrees v xs w) (sym same_later) a)))
