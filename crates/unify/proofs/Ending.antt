-- Branches of matchings, and the steps of a rule.
use Rattle.std.proofs.Common.{arith, ◌≡◌, ℕ, ◌+◌, ◌<◌, List, [], ◌∷◌, ◌++◌, length, take, get_or, slice_get, Some, IsSome, All, refl, sym, false, ◌∙◌, subst, ◌⊎◌, inl, inr}
use Rattle.std.specs.Prelude.{Any}
use Rattle.data_value.specs.declared.Scalar.TheVariants.{Flag}
use Rattle.data_value.specs.declared.Value.TheVariants.{One}
use Rattle.std.proofs.lemmas.List.{take_all}
use Rattle.std.proofs.lemmas.List.Elements.{All-nil, All-cons, All-append}
use Rattle.data_value.specs.declared.DataSort.{DataSort}
use Rattle.data_value.specs.declared.Value.{Value}
use Rattle.data_value.specs.Nodes.{Seen, IsLawful, IsValuation}
use Rattle.sort_term.specs.declared.term.Sort.TheVariants.{Own}
use Rattle.sort_term.specs.declared.term.Term.{Term}
use Rattle.sort_term.specs.declared.rule.Rule.{Rule}
use Rattle.sort_term.specs.System.{System}
use Rattle.sort_term.specs.Tree.{Tree}
use Rattle.sort_term.specs.Sorted.{expr_sort_where}
use Rattle.sort_term.specs.Stands.{StandsIn, let_patterns}
use Rattle.sort_term.specs.Rules.{IsRule}
use Rattle.sort_term.specs.Step.{Tables, Demanded, Takes, StepsBy}
use Rattle.sort_term.specs.NodeTerms.{tree_of}
use Rattle.sort_term.proofs.Agreeing.{fits_long}
use Rattle.sort_term.proofs.Declared.{declares}
use Rattle.unify.specs.declared.matching.Matching.{Matching}
use Rattle.unify.specs.Binds.{bound_sort, IsBound, Gives}
use Rattle.unify.specs.Meets.{SeenMatching, seen_matching, Fulfils}
use Rattle.data_value.specs.Truth.{all_true, IsTruth, IsKnownAs}
use Rattle.unify.proofs.Truths.{all_exact}
use Rattle.unify.specs.Branches.{SeenBranch, IsBranch, LeadsTo, AreBranches}
use Rattle.unify.specs.Matchings.{seen_matchings, Binds, BoundBy, Reaches, Started, AllMet, BranchesOf}
use Rattle.unify.proofs.Lists.{all_mapped}
use Rattle.unify.proofs.Anys.{any_none, any_one, any_here, any_left, any_right, any_split, any_more, any_among, any_map}
use Rattle.unify.proofs.Filled.{filled, filled_agrees, filled_long, agreeing_fits, sort_bound}
use Rattle.unify.specs.Scopes.{rule_scope_of}

module _ (sys : System) (r : Rule) (checked : IsRule sys.cons sys.tables sys.config r) where
  all_stand : (i : ℕ) → i < length r.vars → BoundBy r (length r.demands) i
  all_stand i l = subst (λ ds. StandsIn i (r.head ∷ let_patterns ds)) (sym (take_all (length r.demands) r.demands (omega arith))) (checked.bound.all.each i l)

  module _ {N : Type 0} (m : SeenMatching N) (b : Binds sys.cons r.vars (BoundBy r (length r.demands)) m) where
    pub all_bound : (i : ℕ) → i < length r.vars → IsBound m.binds i
    all_bound i l = (b.bound i).1 (all_stand i l)

    pub result_sort : expr_sort_where sys.cons (bound_sort sys.cons m.binds) r.result ≡ Some (Own sys.config)
    result_sort =
        sort_bound sys.cons r.vars m.binds r.result b.lawful.binds (λ i h. all_bound i (declares sys.cons r.vars r.result (subst IsSome (sym checked.sorted.result.is) refl) i h)) ∙ checked.sorted.result.is

    pub result_some : IsSome (expr_sort_where sys.cons (bound_sort sys.cons m.binds) r.result)
    result_some = subst IsSome (sym result_sort) refl

    module _ (made : SeenBranch N) (all : IsTruth made.condition (all_true m.equations)) (gives : Gives sys.cons m.binds r.result made.result) where
      reached : (v : List Value) (t : Tree) → LeadsTo v t made → Reaches v r.result t m
      reached v t l = record {
        valuation = filled v m.binds;
        long = filled_long v m.binds;
        fulfils = record { agrees = filled_agrees v m.binds; equal = (all_exact made.condition m.equations all v).0 l.holds };
        result = gives.means v (filled v m.binds) (filled_agrees v m.binds) ∙ l.result;
      }

      led : (v : List Value) (t : Tree) → Reaches v r.result t m → LeadsTo v t made
      led v t q = record {
        holds = (all_exact made.condition m.equations all v).1 q.fulfils.equal;
        result = sym (gives.means v q.valuation q.fulfils.agrees) ∙ q.result;
      }

      -- the branch of a matching
      pub branch_made : ¬ IsKnownAs false made.condition → BranchesOf sys r (m ∷ []) (made ∷ [])
      branch_made live = record {
        each = All-cons (IsBranch sys) made [] (record { condition = all.condition; live = live; result = record { is = gives.sorted ∙ result_sort } }) (All-nil (IsBranch sys));
        exact = λ v t. (
          λ l. any_here (Reaches v r.result t) m [] (reached v t (any_one (LeadsTo v t) made l)),
          λ q. any_here (LeadsTo v t) made [] (led v t (any_one (Reaches v r.result t) m q)),
        );
      }

-- a matching whose equations are together false has none
pub branch_dead : {N : Type 0} (sys : System) (r : Rule) (m : SeenMatching N) (s : Seen N) → IsTruth s (all_true m.equations) → ((v : List Value) → s.meaning v ≡ One (Flag false)) → BranchesOf sys r (m ∷ []) []
branch_dead {N} sys r m s all dead = record {
  each = All-nil (IsBranch {N = N} sys);
  exact = λ v t. (
    λ a. absurd (any_none (LeadsTo {N = N} v t) a),
    λ q. let holds = (all_exact s m.equations all v).1 (any_one (Reaches v r.result t) m q).fulfils.equal in absurd (let e = sym (dead v) ∙ holds in cc),
  );
}

-- no matching, and one more
pub branches_none : {N : Type 0} (sys : System) (r : Rule) → BranchesOf {N = N} sys r [] []
branches_none {N} sys r = record {
  each = All-nil (IsBranch {N = N} sys);
  exact = λ v t. (λ a. absurd (any_none (LeadsTo {N = N} v t) a), λ a. absurd (any_none (Reaches {N = N} v r.result t) a));
}

pub branches_more : {N : Type 0} (sys : System) (r : Rule) (ms : List (SeenMatching N)) (i : ℕ) (m : SeenMatching N) (bs cs : List (SeenBranch N)) → i < length ms → m ≡ get_or ms i m → BranchesOf sys r (take i ms) bs → BranchesOf sys r (m ∷ []) cs → BranchesOf sys r (take (i + 1) ms) (bs ++ cs)
branches_more sys r ms i m bs cs l e a h = record {
  each = All-append (IsBranch sys) bs cs a.each h.each;
  exact = λ v t. (λ x. (any_more (Reaches v r.result t) ms i m l e).1 (to v t (any_split (LeadsTo v t) bs cs x)), λ x. from v t ((any_more (Reaches v r.result t) ms i m l e).0 x));
}
  where
    to : (v : List Value) (t : Tree) → Any (LeadsTo v t) bs ⊎ Any (LeadsTo v t) cs → Any (Reaches v r.result t) (take i ms) ⊎ Reaches v r.result t m
    to v t (inl x) = inl ((a.exact v t).0 x)
    to v t (inr x) = inr (any_one (Reaches v r.result t) m ((h.exact v t).0 x))

    from : (v : List Value) (t : Tree) → Any (Reaches v r.result t) (take i ms) ⊎ Reaches v r.result t m → Any (LeadsTo v t) (bs ++ cs)
    from v t (inl x) = any_left (LeadsTo v t) bs cs ((a.exact v t).1 x)
    from v t (inr x) = any_right (LeadsTo v t) bs cs ((h.exact v t).1 (any_here (Reaches v r.result t) m [] x))

-- the branches of a rule are those of the matchings in which its head is equal to the configuration and all demands are met
module _ {N : Type 0} (look : N → Seen N) (variables : List DataSort) (laws : IsLawful look variables) (sys : System) (tables : Tables) (n : ℕ) (r : Rule) (there : slice_get sys.rules n ≡ Some r) (checked : IsRule sys.cons sys.tables sys.config r) (s : Term (Seen N)) (first : List (SeenMatching N)) (ms : List (Matching N)) (started : Started sys variables r s first) (met : AllMet (rule_scope_of sys tables variables r) (length r.demands) first (seen_matchings look ms)) (bs : List (SeenBranch N)) (ended : BranchesOf sys r (seen_matchings look ms) bs) where
  whole : take (length r.demands) r.demands ≡ r.demands
  whole = take_all (length r.demands) r.demands (omega arith)

  to : (v : List Value) → IsValuation variables v → (t : Tree) → StepsBy sys tables n (tree_of v s) t → Any (LeadsTo v t) bs
  to v f t a =
      let same : Some r ≡ Some a.rule = sym there ∙ a.there in
      let is : a.rule ≡ r = cc in
      let w = a.valuation in
      let takes : Takes sys.cons tables r w (tree_of v s) t = subst (λ q. Takes sys.cons tables q w (tree_of v s) t) is a.takes in
      let begun = (started.together.exact v f w).0 takes.head in
      let done : Any (Fulfils v w) (seen_matchings look ms) = (met.together.exact v f w).0 (begun, subst (All (Demanded tables w)) (sym whole) takes.demands) in
      (ended.exact v t).1 (any_among (Binds sys.cons r.vars (BoundBy r (length r.demands))) (Fulfils v w) (Reaches v r.result t) (seen_matchings look ms) met.each (λ m b x. record {
        valuation = w;
        long = fits_long sys.cons r.vars w takes.fits ∙ sym b.lawful.binds.long;
        fulfils = x;
        result = takes.result;
      }) done)

  from : (v : List Value) → IsValuation variables v → (t : Tree) → Any (LeadsTo v t) bs → StepsBy sys tables n (tree_of v s) t
  from v f t a =
      let reached : Any (λ m. Reaches v r.result t (seen_matching look m)) ms = (any_map (Reaches v r.result t) (seen_matching look) ms).0 ((ended.exact v t).0 a) in
      let bound : All (λ m. Binds sys.cons r.vars (BoundBy r (length r.demands)) (seen_matching look m)) ms = all_mapped (Binds sys.cons r.vars (BoundBy r (length r.demands))) (seen_matching look) ms met.each in
      let m = reached.1 in
      let b : Binds sys.cons r.vars (BoundBy r (length r.demands)) (seen_matching look m) = subst (λ x. Binds sys.cons r.vars (BoundBy r (length r.demands)) (seen_matching look x)) reached.3 (bound reached.0 m reached.2) in
      let q : Reaches v r.result t (seen_matching look m) = reached.4 in
      let w = q.valuation in
      let fulfilled : Any (Fulfils v w) (seen_matchings look ms) = (any_map (Fulfils v w) (seen_matching look) ms).1 (reached.0, m, reached.2, reached.3, q.fulfils) in
      let y = (met.together.exact v f w).1 fulfilled in
      record {
        rule = r;
        there = there;
        valuation = w;
        takes = record {
          fits = agreeing_fits look variables sys.cons r.vars m.binds laws b.lawful.binds (all_bound sys r checked (seen_matching look m) b) v f w q.long q.fulfils.agrees;
          head = (started.together.exact v f w).1 y.0;
          demands = subst (All (Demanded tables w)) whole y.1;
          result = q.result;
        };
      }

  pub are_branches : AreBranches variables sys tables n s bs
  are_branches = record { each = ended.each; exact = λ v f t. (to v f t, from v f t) }
