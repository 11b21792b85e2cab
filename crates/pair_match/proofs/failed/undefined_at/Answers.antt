use Rattle.std.proofs.Common.{◌≡◌, ◌⊎◌, ◌+◌, ◌<◌, ◌≤◌, true, List, length, take, get_or, slice_get, Some, Any, refl, sym, ap, ◌∙◌, subst}
use Rattle.std.proofs.lemmas.List.{take_all, get_or_default}
use Rattle.std.proofs.lemmas.Option.{slice_get-get_or}
use Rattle.data_value.specs.declared.Value.{Value}
use Rattle.data_value.specs.Nodes.{Seen}
use Rattle.data_value.specs.Truth.{truth}
use Rattle.data_value.proofs.Grown.{extends-both}
use Rattle.sort_term.specs.declared.term.Term.{Term}
use Rattle.sort_term.specs.Cuts.{IsCovered}
use Rattle.sort_term.specs.NodeTerms.{seen_term, tree_of}
use Rattle.path_condition.specs.Leaves.{SeenLeaf, IsLeaf}
use Rattle.path_condition.proofs.LeafLemmas.{leaf_stays}
use Rattle.probe_keys.specs.Cases.{seen_cases}
use Rattle.pair_match.specs.MoreCases.{AreMoreCases}
use Rattle.pair_match.proofs.Adding.{more_same, more_then, more_seen}
use Rattle.pair_match.proofs.Relating.{beside_either}
use Rattle.pair_match.proofs.Undefined.{CoversAt, covers_more}
use Rattle.pair_match.proofs.failed.undefined_at.Goals as goal

pub covered_by-requires-clause-leaf : goal.covered_by-requires-clause-leaf
covered_by-requires-clause-leaf g c =
    let look = g.D.Domain.look in
    let sys = c.args.problem.now.left in
    subst (IsLeaf sys) (sym (leaf_stays (look c.args.d.now) (look c.loop-place.d) c.loop-place.invariant.extends sys c.args.leaf.now c.requires.leaf)) c.requires.leaf

pub loop-place-preserved : goal.loop-place-preserved
loop-place-preserved g c =
    let look = g.D.Domain.look in
    let first = look c.args.d.now in
    let now = look c.loop-place.d in
    let after = look c.covered_by.new.d in
    let variables = g.D.Domain.variables c.args.d.now in
    let q = c.args.problem.now in
    let leaf = c.args.leaf.now in
    let s = first leaf.condition in
    let a = seen_term first leaf.config.term in
    let places = q.points.undefs in
    let i = c.loop-place.place-index in
    let item = c.index-cuts-place.result in
    let within : i < length places = subst (λ ks. i < length ks) c.as_slice-place-items.ensures c.loop-place-test.true in
    let k = get_or places i 0 in
    let cuts = q.points.left_cuts in
    let found : item ≡ get_or cuts k item =
    subst (λ ks. item ≡ get_or cuts (get_or ks i 0) item) c.as_slice-place-items.ensures
    (subst (λ items. item ≡ get_or items (get_or c.as_slice-place-items.result.now i 0) item) c.as_slice-cuts.ensures c.index-cuts-place.is) in
    let there : slice_get cuts k ≡ Some item = slice_get-get_or cuts k item (q.fits.undefs.there i 0 within) ∙ ap Some (sym found) in
    let is : k ≡ get_or places i k = get_or_default places i 0 k within in
    let same = leaf_stays first now c.loop-place.invariant.extends q.left leaf c.requires.leaf in
    let old = seen_cases first c.args.cases in
    let middle = seen_cases now c.loop-place.found in
    let new = seen_cases after c.in_ok-found.found in
    let Covers : Seen _ → Term (Seen _) → Term (Seen _) → List Value → Type 0 = λ r t u v. (truth r v ≡ true) × IsCovered q.left.cons item (tree_of v t) in
    let here : AreMoreCases variables (Covers s a a) middle new =
    more_seen Covers middle new (g.D.Domain.variables c.loop-place.d) variables (now leaf.condition) s (seen_term now leaf.config.term) a a a
    c.loop-place.invariant.same_variables (ap (λ (l : SeenLeaf _). l.condition) same) (ap (λ (l : SeenLeaf _). l.state) same) refl c.in_ok-found.ensures.more in
    let Before : List Value → Type 0 = λ v. (truth s v ≡ true) × Any (CoversAt q (tree_of v a)) (take i places) in
    record {
      extends = extends-both _ _ _ c.loop-place.invariant.extends c.in_ok-found.ensures.extends;
      same_variables = c.in_ok-found.ensures.same_variables ∙ c.loop-place.invariant.same_variables;
      more = more_same variables (λ v. Before v ⊎ Covers s a a v) (λ v. (truth s v ≡ true) × Any (CoversAt q (tree_of v a)) (take (i + 1) places)) old new
          (λ v fits. beside_either (truth s v ≡ true) (Any (CoversAt q (tree_of v a)) (take i places)) (IsCovered q.left.cons item (tree_of v a)) (Any (CoversAt q (tree_of v a)) (take (i + 1) places)) (covers_more q (tree_of v a) i k item within is there))
          (more_then variables Before (Covers s a a) old middle new c.loop-place.invariant.more here);
    }

pub returns-clause-more : goal.returns-clause-more
returns-clause-more g c =
    let look = g.D.Domain.look in
    let first = look c.args.d.now in
    let q = c.args.problem.now in
    let leaf = c.args.leaf.now in
    let all : take c.loop-place.place-index q.points.undefs ≡ q.points.undefs = take_all c.loop-place.place-index q.points.undefs (subst (λ ks. length ks ≤ c.loop-place.place-index) c.as_slice-place-items.ensures c.loop-place-test.false) in
    subst (λ ks. AreMoreCases (g.D.Domain.variables c.args.d.now) (λ v. (truth (first leaf.condition) v ≡ true) × Any (CoversAt q (tree_of v (seen_term first leaf.config.term))) ks) (seen_cases first c.args.cases) (seen_cases (look c.loop-place.d) c.loop-place.found))
    all c.loop-place.invariant.more
