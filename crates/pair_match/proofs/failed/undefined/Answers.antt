use Rattle.std.proofs.Common.{◌≡◌, true, List, refl, sym, ap, ◌∙◌, subst}
use Rattle.std.proofs.lemmas.List.{take_all}
use Rattle.data_value.specs.declared.Value.{Value}
use Rattle.data_value.specs.Nodes.{Seen}
use Rattle.data_value.specs.Truth.{truth}
use Rattle.data_value.proofs.Grown.{extends-same, extends-both}
use Rattle.sort_term.specs.declared.term.Term.{Term}
use Rattle.sort_term.specs.NodeTerms.{seen_term, tree_of}
use Rattle.sort_term.specs.Relation.{IsUndefined}
use Rattle.path_condition.specs.Leaves.{SeenLeaf, seen_leaf, seen_leaves, IsLeaf}
use Rattle.path_condition.proofs.LeafLemmas.{leaf_stays}
use Rattle.probe_keys.specs.Cases.{seen_cases}
use Rattle.probe_keys.proofs.Turns.{item_at}
use Rattle.pair_match.specs.MoreCases.{AreMoreCases}
use Rattle.pair_match.specs.Unmatched.{SomeHolds}
use Rattle.pair_match.proofs.Adding.{more_seen}
use Rattle.pair_match.proofs.Partnering.{leaves_none, leaves_more}
use Rattle.pair_match.proofs.failed.undefined.Goals as goal

pub loop-leaf-init : goal.loop-leaf-init
loop-leaf-init g c =
    let first = g.D.Domain.look c.args.d.now in
    record {
      extends = extends-same first;
      same_variables = refl;
      more = leaves_none (g.D.Domain.variables c.args.d.now) first (λ v. IsUndefined c.args.problem.now) c.args.leaves.now (seen_cases first c.args.cases) c.requires.cases;
    }

pub undefined_at-requires-clause-leaf : goal.undefined_at-requires-clause-leaf
undefined_at-requires-clause-leaf g c =
    let look = g.D.Domain.look in
    let first = look c.args.d.now in
    let sys = c.args.problem.now.left in
    let leaf = c.leaf-item.result in
    let here = item_at (IsLeaf sys) (seen_leaf first) c.args.leaves.now c.loop-leaf.leaf-index leaf c.loop-leaf-test.true c.leaf-item.is c.requires.leaves in
    subst (IsLeaf sys) (sym (leaf_stays first (look c.loop-leaf.d) c.loop-leaf.invariant.extends sys leaf here)) here

pub loop-leaf-preserved : goal.loop-leaf-preserved
loop-leaf-preserved g c =
    let look = g.D.Domain.look in
    let first = look c.args.d.now in
    let now = look c.loop-leaf.d in
    let after = look c.undefined_at.new.d in
    let variables = g.D.Domain.variables c.args.d.now in
    let q = c.args.problem.now in
    let leaves = c.args.leaves.now in
    let i = c.loop-leaf.leaf-index in
    let leaf = c.leaf-item.result in
    let checked = item_at (IsLeaf q.left) (seen_leaf first) leaves i leaf c.loop-leaf-test.true c.leaf-item.is c.requires.leaves in
    let same = leaf_stays first now c.loop-leaf.invariant.extends q.left leaf checked in
    let s = first leaf.condition in
    let a = seen_term first leaf.config.term in
    let middle = seen_cases now c.loop-leaf.found in
    let new = seen_cases after c.in_ok-found.found in
    let Stands : Seen _ → Term (Seen _) → Term (Seen _) → List Value → Type 0 = λ r t u v. (truth r v ≡ true) × IsUndefined q (tree_of v t) in
    let here : AreMoreCases variables (Stands s a a) middle new =
    more_seen Stands middle new (g.D.Domain.variables c.loop-leaf.d) variables (now leaf.condition) s (seen_term now leaf.config.term) a a a
    c.loop-leaf.invariant.same_variables (ap (λ (l : SeenLeaf _). l.condition) same) (ap (λ (l : SeenLeaf _). l.state) same) refl c.in_ok-found.ensures.more in
    record {
      extends = extends-both _ _ _ c.loop-leaf.invariant.extends c.in_ok-found.ensures.extends;
      same_variables = c.in_ok-found.ensures.same_variables ∙ c.loop-leaf.invariant.same_variables;
      more = leaves_more variables first (λ v. IsUndefined q) leaves (seen_cases first c.args.cases) i leaf c.loop-leaf-test.true c.leaf-item.is middle new c.loop-leaf.invariant.more here;
    }

pub returns-clause-more : goal.returns-clause-more
returns-clause-more g c =
    let look = g.D.Domain.look in
    let first = look c.args.d.now in
    subst (λ ls. AreMoreCases (g.D.Domain.variables c.args.d.now) (λ v. SomeHolds v (IsUndefined c.args.problem.now) (seen_leaves first ls)) (seen_cases first c.args.cases) (seen_cases (look c.loop-leaf.d) c.loop-leaf.found))
    (take_all c.loop-leaf.leaf-index c.args.leaves.now c.loop-leaf-test.false) c.loop-leaf.invariant.more
