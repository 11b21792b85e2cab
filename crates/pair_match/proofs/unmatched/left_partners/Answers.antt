use Rattle.std.proofs.Common.{◌≡◌, true, List, [], sym, ap, ◌∙◌, subst}
use Rattle.data_value.specs.declared.Value.{Value}
use Rattle.data_value.specs.Nodes.{Seen}
use Rattle.data_value.specs.Truth.{truth}
use Rattle.data_value.proofs.Grown.{extends-both}
use Rattle.sort_term.specs.declared.term.Term.{Term}
use Rattle.sort_term.specs.NodeTerms.{seen_term, tree_of}
use Rattle.sort_term.specs.Relation.{Related}
use Rattle.path_condition.specs.Leaves.{SeenLeaf, seen_leaf, IsLeaf}
use Rattle.path_condition.proofs.LeafLemmas.{leaf_stays}
use Rattle.probe_keys.specs.Cases.{seen_cases}
use Rattle.probe_keys.proofs.Turns.{item_at}
use Rattle.pair_match.specs.MoreCases.{AreMoreCases}
use Rattle.pair_match.proofs.Adding.{more_seen}
use Rattle.pair_match.proofs.Partnering.{leaves_more}
use Rattle.pair_match.proofs.unmatched.left_partners.Goals as goal

pub cases_between-requires-clause-left : goal.cases_between-requires-clause-left
cases_between-requires-clause-left g c =
    let look = g.D.Domain.look in
    let first = look c.args.d.now in
    let sys = c.args.problem.now.left in
    let other = c.other-item.result in
    let checked = item_at (IsLeaf sys) (seen_leaf first) c.args.others.now c.loop-other.other-index other c.loop-other-test.true c.other-item.is c.requires.others in
    let here = subst (IsLeaf sys) (sym (leaf_stays first (look c.loop-other.d) c.loop-other.invariant.extends sys other checked)) checked in
    here.state

pub cases_between-requires-clause-right : goal.cases_between-requires-clause-right
cases_between-requires-clause-right g c =
    let look = g.D.Domain.look in
    let sys = c.args.problem.now.right in
    let here = subst (IsLeaf sys) (sym (leaf_stays (look c.args.d.now) (look c.loop-other.d) c.loop-other.invariant.extends sys c.args.leaf.now c.requires.leaf)) c.requires.leaf in
    here.state

pub cases_between-requires-clause-condition : goal.cases_between-requires-clause-condition
cases_between-requires-clause-condition g c =
    let look = g.D.Domain.look in
    let first = look c.args.d.now in
    let sys = c.args.problem.now.left in
    let other = c.other-item.result in
    let checked = item_at (IsLeaf sys) (seen_leaf first) c.args.others.now c.loop-other.other-index other c.loop-other-test.true c.other-item.is c.requires.others in
    let here = subst (IsLeaf sys) (sym (leaf_stays first (look c.loop-other.d) c.loop-other.invariant.extends sys other checked)) checked in
    here.condition

pub loop-other-preserved : goal.loop-other-preserved
loop-other-preserved g c =
    let look = g.D.Domain.look in
    let first = look c.args.d.now in
    let now = look c.loop-other.d in
    let after = look c.cases_between.new.d in
    let variables = g.D.Domain.variables c.args.d.now in
    let q = c.args.problem.now in
    let others = c.args.others.now in
    let i = c.loop-other.other-index in
    let leaf = c.args.leaf.now in
    let other = c.other-item.result in
    let grown = c.loop-other.invariant.extends in
    let checked = item_at (IsLeaf q.left) (seen_leaf first) others i other c.loop-other-test.true c.other-item.is c.requires.others in
    let same = leaf_stays first now grown q.left other checked in
    let same_leaf = leaf_stays first now grown q.right leaf c.requires.leaf in
    let s = first other.condition in
    let a = seen_term first other.config.term in
    let b = seen_term first leaf.config.term in
    let middle = seen_cases now c.loop-other.cases in
    let new = seen_cases after c.in_ok-cases.cases in
    let Relates : Seen _ → Term (Seen _) → Term (Seen _) → List Value → Type 0 = λ r t u v. (truth r v ≡ true) × Related q (tree_of v t) (tree_of v u) in
    let here : AreMoreCases variables (Relates s a b) middle new =
    more_seen Relates middle new (g.D.Domain.variables c.loop-other.d) variables (now other.condition) s (seen_term now other.config.term) a (seen_term now leaf.config.term) b
    c.loop-other.invariant.same_variables (ap (λ (l : SeenLeaf _). l.condition) same) (ap (λ (l : SeenLeaf _). l.state) same) (ap (λ (l : SeenLeaf _). l.state) same_leaf) c.in_ok-cases.ensures.more in
    record {
      extends = extends-both _ _ _ grown c.in_ok-cases.ensures.extends;
      same_variables = c.in_ok-cases.ensures.same_variables ∙ c.loop-other.invariant.same_variables;
      partners = leaves_more variables first (λ v a. Related q a (tree_of v b)) others [] i other c.loop-other-test.true c.other-item.is middle new c.loop-other.invariant.partners here;
    }
