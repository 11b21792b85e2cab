-- Matchings and branches stay as they are where the domain grows.
use Rattle.std.proofs.Common.{◌≡◌, ℕ, ◌<◌, IsTrue, List, [], ◌∷◌, ◌++◌, length, map, get_or, All, refl, sym, ap, ◌∙◌, subst, ◌⊎◌}
use Rattle.std.proofs.lemmas.List.{map-append, length-map}
use Rattle.std.proofs.lemmas.List.Elements.{All-head, All-tail, All-weaker}
use Rattle.std.proofs.Math.ListN.{get_or-map}
use Rattle.data_value.specs.declared.DataSort.{DataSort}
use Rattle.data_value.specs.declared.Value.{Value}
use Rattle.sort_term.specs.Tree.{Trees}
use Rattle.data_value.specs.Nodes.{Seen, Extends}
use Rattle.data_value.proofs.Grown.{nodes-kept}
use Rattle.sort_term.specs.declared.term.Sort.TheVariants.{Own}
use Rattle.sort_term.specs.declared.term.Term.{Term}
use Rattle.sort_term.specs.declared.semantics.Con.{Con}
use Rattle.sort_term.specs.declared.rule.Var.{Var}
use Rattle.sort_term.specs.System.{System}
use Rattle.sort_term.specs.NodeTerms.{seen_term}
use Rattle.sort_term.proofs.NodeTerming.{term_stays, sorted_valid}
use Rattle.unify.specs.declared.matching.Matching.{Matching}
use Rattle.unify.specs.declared.branch.Branch.{Branch}
use Rattle.unify.specs.Binds.{Bound, seen_binds, IsBound}
use Rattle.data_value.specs.Truth.{IsCondition}
use Rattle.unify.specs.Meets.{SeenMatching, seen_matching, IsMatching}
use Rattle.unify.specs.Matchings.{seen_matchings, IsOfNodes, Binds, GoOn}
use Rattle.unify.specs.Branches.{SeenBranch, seen_branch, seen_branches, IsBranch}
use Rattle.unify.proofs.Lists.{all_mapped}
use Rattle.unify.proofs.Evaluated.{binds_stay}
use Rattle.unify.proofs.Binding.{binds_valid}
use Rattle.unify.specs.Scopes.{scope_of}

-- a condition is a valid node
pub condition_valid : {N : Type 0} (s : Seen N) → IsCondition s → IsTrue s.valid
condition_valid s h = h.valid

-- the nodes of a lawful matching are valid
pub lawful_nodes : {N : Type 0} (cons : List Con) (vars : List Var) (m : SeenMatching N) → IsMatching cons vars m → IsOfNodes m
lawful_nodes cons vars m h = record {
  binds = binds_valid cons vars m.binds h.binds;
  equations = All-weaker IsCondition (λ s. IsTrue s.valid) condition_valid m.equations h.equations;
}

pub bound_nodes : {N : Type 0} (cons : List Con) (vars : List Var) (B : ℕ → Type 0) (ms : List (SeenMatching N)) → All (Binds cons vars B) ms → All IsOfNodes ms
bound_nodes cons vars B ms a = All-weaker (Binds cons vars B) IsOfNodes (λ m h. lawful_nodes cons vars m h.lawful) ms a

pub going_on_nodes : {N : Type 0} (cons : List Con) (vars : List Var) (variables : List DataSort) (m : SeenMatching N) (count : ℕ → ℕ) (P : List Value → Trees → Type 0) (ms : List (SeenMatching N)) → GoOn (scope_of cons vars variables) m count P ms → All IsOfNodes ms
going_on_nodes cons vars variables m count P ms g = bound_nodes cons vars (λ i. IsBound m.binds i ⊎ (0 < count i)) ms g.each

module _ {N : Type 0} (f g : N → Seen N) (x : Extends f g) where
  pub matching_stays : (m : Matching N) → IsOfNodes (seen_matching f m) → seen_matching g m ≡ seen_matching f m
  matching_stays m h =
      let bs : seen_binds g m.binds ≡ seen_binds f m.binds = binds_stay f g x m.binds h.binds in
      let es : map g m.equations ≡ map f m.equations = nodes-kept f g x m.equations (all_mapped (λ s. IsTrue s.valid) f m.equations h.equations) in
      let with_binds : Bound N → SeenMatching N = λ cs. record { binds = cs; equations = map g m.equations } in
      let with_equations : List (Seen N) → SeenMatching N = λ ds. record { binds = seen_binds f m.binds; equations = ds } in
      ap with_binds bs ∙ ap with_equations es

  pub matchings_stay : (ms : List (Matching N)) → All IsOfNodes (seen_matchings f ms) → seen_matchings g ms ≡ seen_matchings f ms
  matchings_stay [] a = refl
  matchings_stay (m ∷ ms) a =
      ap (λ s. s ∷ seen_matchings g ms) (matching_stays m (All-head IsOfNodes (seen_matching f m) (seen_matchings f ms) a))
      ∙ ap (λ ss. seen_matching f m ∷ ss) (matchings_stay ms (All-tail IsOfNodes (seen_matching f m) (seen_matchings f ms) a))

  -- more matchings, in the grown domain
  pub appended : (old more new : List (Matching N)) → All IsOfNodes (seen_matchings f old) → new ≡ old ++ more → seen_matchings g new ≡ seen_matchings f old ++ seen_matchings g more
  appended old more new a e =
      ap (seen_matchings g) e ∙ map-append (seen_matching g) old more ∙ ap (λ ss. ss ++ seen_matchings g more) (matchings_stay old a)

  module _ {S : Type 0} (sys : System) where
    pub branch_stays : (b : Branch S N) → IsBranch sys (seen_branch f b) → seen_branch g b ≡ seen_branch f b
    branch_stays b h =
        let c : g b.condition ≡ f b.condition = x.keeps b.condition (condition_valid (f b.condition) h.condition) in
        let t : seen_term g b.result.term ≡ seen_term f b.result.term = term_stays f g x b.result.term (sorted_valid sys.cons (seen_term f b.result.term) (Own sys.config) h.result.is) in
        let with_condition : Seen N → SeenBranch N = λ s. record { condition = s; result = seen_term g b.result.term } in
        let with_result : Term (Seen N) → SeenBranch N = λ u. record { condition = f b.condition; result = u } in
        ap with_condition c ∙ ap with_result t

    pub branches_stay : (bs : List (Branch S N)) → All (IsBranch sys) (seen_branches f bs) → seen_branches g bs ≡ seen_branches f bs
    branches_stay [] a = refl
    branches_stay (b ∷ bs) a =
        ap (λ s. s ∷ seen_branches g bs) (branch_stays b (All-head (IsBranch sys) (seen_branch f b) (seen_branches f bs) a))
        ∙ ap (λ ss. seen_branch f b ∷ ss) (branches_stay bs (All-tail (IsBranch sys) (seen_branch f b) (seen_branches f bs) a))

    pub branches_appended : (old more new : List (Branch S N)) → All (IsBranch sys) (seen_branches f old) → new ≡ old ++ more → seen_branches g new ≡ seen_branches f old ++ seen_branches g more
    branches_appended old more new a e =
        ap (seen_branches g) e ∙ map-append (seen_branch g) old more ∙ ap (λ ss. ss ++ seen_branches g more) (branches_stay old a)

-- what stands at a place of a list, seen
pub seen_at : {X Y : Type 0} (f : X → Y) (xs : List X) (i : ℕ) (x : X) → i < length xs → x ≡ get_or xs i x → f x ≡ get_or (map f xs) i (f x)
seen_at f xs i x l e = ap f e ∙ sym (get_or-map f xs i x)

pub seen_below : {X Y : Type 0} (f : X → Y) (xs : List X) (i : ℕ) → i < length xs → i < length (map f xs)
seen_below f xs i l = subst (λ n. i < n) (sym (length-map xs f)) l
