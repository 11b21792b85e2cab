-- The steps by all rules, one rule after the other.
use Rattle.std.proofs.Common.{arith, ◌≡◌, ◌↔◌, ℕ, ◌+◌, ◌<◌, ◌≤◌, Bool, true, false, not, ◌&&◌, List, [], ◌++◌, length, refl, sym, ◌∙◌, subst, ◌⊎◌, inl, inr}
use Rattle.std.proofs.lemmas.Bool.{and_parts, cases_lt}
use Rattle.std.proofs.lemmas.Option.{slice_get_within}
use Rattle.std.proofs.lemmas.List.Elements.{All-nil, All-append}
use Rattle.data_value.specs.declared.DataSort.{DataSort}
use Rattle.data_value.specs.declared.Value.{Value}
use Rattle.data_value.specs.Nodes.{Seen, IsValuation}
use Rattle.data_value.specs.Truth.{truth, IsCondition, IsTruth}
use Rattle.sort_term.specs.System.{System}
use Rattle.sort_term.specs.Tree.{Tree}
use Rattle.sort_term.specs.Step.{Tables, StepsBy}
use Rattle.sort_term.specs.Runs.{IsStuck}
use Rattle.sort_term.specs.NodeTerms.{tree_of}
use Rattle.unify.proofs.Anys.{any_none, any_left, any_right, any_split}
use Rattle.path_condition.specs.Leaves.{SeenLeaf, IsLeaf, Says, Gives, AreLeaves}
use Rattle.symbolic_step.specs.OneStep.{StepsFrom, StepsBelow, IsStuckWhere, AreByRule, AppliesWhere}

module _ {N : Type 0} (variables : List DataSort) (sys : System) (start : SeenLeaf N) where
  -- what one step more by some steps is, it is by all steps that these are among
  steps_among : (These Those : ℕ → Tree → Tree → Type 0) → ((n : ℕ) (s t : Tree) → These n s t → Those n s t) → (v : List Value) (rules : List ℕ) (t : Tree) → StepsFrom These start v rules t → StepsFrom Those start v rules t
  steps_among These Those among v rules t a = record { before = a.before; start = a.start; rule = a.rule; there = a.there; step = among a.rule a.start t a.step; splits = a.splits; has = tt }

  -- leaves that are one step more by some steps are so by steps that are the same
  pub leaves_of_same : (Steps Others : ℕ → Tree → Tree → Type 0) → ((n : ℕ) (s t : Tree) → Steps n s t ↔ Others n s t) → (ls : List (SeenLeaf N)) → AreLeaves variables sys (StepsFrom Steps start) ls → AreLeaves variables sys (StepsFrom Others start) ls
  leaves_of_same Steps Others same ls are = record {
    each = are.each;
    exact = λ v fits rules t. (
      λ a. steps_among Steps Others (λ n s u. (same n s u).0) v rules t ((are.exact v fits rules t).0 a),
      λ a. (are.exact v fits rules t).1 (steps_among Others Steps (λ n s u. (same n s u).1) v rules t a),
    );
  }

  module _ (Steps : ℕ → Tree → Tree → Type 0) where
    -- there is no rule with a number below zero
    none_below : (n : ℕ) (s t : Tree) → StepsBelow 0 Steps n s t → ⊥
    none_below n s t x = let l = x.0 in omega arith

    pub leaves_nothing : AreLeaves {N = N} variables sys (StepsFrom (StepsBelow 0 Steps) start) []
    leaves_nothing = record {
      each = All-nil (IsLeaf {N = N} sys);
      exact = λ v fits rules t. (λ a. absurd (any_none (Says {N = N} v rules t) a), λ a. absurd (none_below a.rule a.start t a.step));
    }

    pub stuck_nothing : IsCondition start.condition → IsStuckWhere variables (StepsBelow 0 Steps) start start.condition
    stuck_nothing is = record {
      condition = is;
      exact = λ v fits. (λ h. (h, λ n t x. none_below n (tree_of v start.state) t x), λ x. x.0);
      moves = λ v fits h e. absurd (cc);
    }

    module _ (k : ℕ) where
      -- a step by a rule below k + 1 is one below k or by the rule k
      below_more : (n : ℕ) (s t : Tree) → StepsBelow (k + 1) Steps n s t → StepsBelow k Steps n s t ⊎ ((n ≡ k) × Steps k s t)
      below_more n s t x = go (cases_lt n k)
        where
          go : (n < k) ⊎ (k ≤ n) → StepsBelow k Steps n s t ⊎ ((n ≡ k) × Steps k s t)
          go (inl l) = inl (l, x.1)
          go (inr l) = let e : n ≡ k = (let m = x.0 in omega arith) in inr (e, subst (λ m. Steps m s t) e x.1)

      below_still : (n : ℕ) (s t : Tree) → StepsBelow k Steps n s t → StepsBelow (k + 1) Steps n s t
      below_still n s t x = (let l = x.0 in omega arith, x.1)

      below_last : (n : ℕ) (s t : Tree) → (n ≡ k) × Steps k s t → StepsBelow (k + 1) Steps n s t
      below_last n s t x = (let e = x.0 in omega arith, subst (λ m. Steps m s t) (sym x.0) x.1)

      -- the leaves of one rule more
      pub leaves_more : (old more : List (SeenLeaf N)) → AreLeaves variables sys (StepsFrom (StepsBelow k Steps) start) old → AreByRule variables sys (Steps k) k start more → AreLeaves variables sys (StepsFrom (StepsBelow (k + 1) Steps) start) (old ++ more)
      leaves_more old more before by_rule = record { each = All-append (IsLeaf sys) old more before.each by_rule.are.each; exact = exact }
        where
          exact : (v : List Value) → IsValuation variables v → (rules : List ℕ) (t : Tree) → Gives v rules t (old ++ more) ↔ StepsFrom (StepsBelow (k + 1) Steps) start v rules t
          exact v fits rules t = (to, from)
            where
              to : Gives v rules t (old ++ more) → StepsFrom (StepsBelow (k + 1) Steps) start v rules t
              to a = go (any_split (Says v rules t) old more a)
                where
                  go : Gives v rules t old ⊎ Gives v rules t more → StepsFrom (StepsBelow (k + 1) Steps) start v rules t
                  go (inl x) = steps_among (StepsBelow k Steps) (StepsBelow (k + 1) Steps) below_still v rules t ((before.exact v fits rules t).0 x)
                  go (inr x) = steps_among (λ n s u. (n ≡ k) × Steps k s u) (StepsBelow (k + 1) Steps) below_last v rules t ((by_rule.are.exact v fits rules t).0 x)

              from : StepsFrom (StepsBelow (k + 1) Steps) start v rules t → Gives v rules t (old ++ more)
              from a = go (below_more a.rule a.start t a.step)
                where
                  go : StepsBelow k Steps a.rule a.start t ⊎ ((a.rule ≡ k) × Steps k a.start t) → Gives v rules t (old ++ more)
                  go (inl x) = any_left (Says v rules t) old more ((before.exact v fits rules t).1 (record { before = a.before; start = a.start; rule = a.rule; there = a.there; step = x; splits = a.splits; has = tt }))
                  go (inr x) = any_right (Says v rules t) old more ((by_rule.are.exact v fits rules t).1 (record { before = a.before; start = a.start; rule = a.rule; there = a.there; step = x; splits = a.splits; has = tt }))

      -- the condition that no rule gives a step, with one rule more
      pub stuck_more : (s applies next : Seen N) → IsStuckWhere variables (StepsBelow k Steps) start s → AppliesWhere variables (Steps k) start.state applies → IsTruth next (λ v. truth s v && not (truth applies v)) → IsStuckWhere variables (StepsBelow (k + 1) Steps) start next
      stuck_more s applies next before by_rule is = record { condition = is.condition; exact = λ v fits. (to v fits, from v fits); moves = moves }
        where
          to : (v : List Value) → IsValuation variables v → truth next v ≡ true → (truth start.condition v ≡ true) × IsStuck (StepsBelow (k + 1) Steps) (tree_of v start.state)
          to v fits h =
              let both = and_parts (truth s v) (not (truth applies v)) (sym (is.means v) ∙ h) in
              let old = (before.exact v fits).0 both.0 in (
                old.0,
                λ n t x. elim (below_more n (tree_of v start.state) t x) [
                  | inl y ↦ old.1 n t y
                  | inr y ↦ by_rule.nowhere v fits (is_not (truth applies v) both.1) t y.1
                ],
              )
            where
              is_not : (b : Bool) → not b ≡ true → b ≡ false
              is_not false e = refl
              is_not true e = absurd (cc)

          from : (v : List Value) → IsValuation variables v → (truth start.condition v ≡ true) × IsStuck (StepsBelow (k + 1) Steps) (tree_of v start.state) → truth next v ≡ true
          from v fits x = go (truth applies v) refl
            where
              old : truth s v ≡ true
              old = (before.exact v fits).1 (x.0, λ n t y. x.1 n t (below_still n (tree_of v start.state) t y))

              go : (b : Bool) → truth applies v ≡ b → truth next v ≡ true
              go false e = is.means v ∙ rw (old, e) refl
              go true e =
                  let step = by_rule.somewhere v fits e in
                  absurd (x.1 k step.0 (below_last k (tree_of v start.state) step.0 (refl, step.1)))

          moves : (v : List Value) → IsValuation variables v → truth start.condition v ≡ true → truth next v ≡ false → (n : ℕ) × (t : Tree) × StepsBelow (k + 1) Steps n (tree_of v start.state) t
          moves v fits h e = go (truth s v) (truth applies v) refl refl
            where
              go : (a b : Bool) → truth s v ≡ a → truth applies v ≡ b → (n : ℕ) × (t : Tree) × StepsBelow (k + 1) Steps n (tree_of v start.state) t
              go false b ea eb =
                  let x = before.moves v fits h ea in
                  (x.0, x.1, below_still x.0 (tree_of v start.state) x.1 x.2)
              go true true ea eb =
                  let step = by_rule.somewhere v fits eb in
                  (k, step.0, below_last k (tree_of v start.state) step.0 (refl, step.1))
              go true false ea eb =
                  let holds : truth next v ≡ true = is.means v ∙ rw (ea, eb) refl in
                  absurd (cc)

    -- all rules: below their count
    module _ (count : ℕ) (counted : (n : ℕ) (s t : Tree) → Steps n s t → n < count) where
      all_below : (n : ℕ) (s t : Tree) → StepsBelow count Steps n s t ↔ Steps n s t
      all_below n s t = (λ x. x.1, λ x. (counted n s t x, x))

      pub leaves_of_all : (ls : List (SeenLeaf N)) → AreLeaves variables sys (StepsFrom (StepsBelow count Steps) start) ls → AreLeaves variables sys (StepsFrom Steps start) ls
      leaves_of_all = leaves_of_same (StepsBelow count Steps) Steps all_below

      pub stuck_of_all : (s : Seen N) → IsStuckWhere variables (StepsBelow count Steps) start s → IsStuckWhere variables Steps start s
      stuck_of_all s is = record {
        condition = is.condition;
        exact = λ v fits. (
          λ h. let x = (is.exact v fits).0 h in (x.0, λ n t y. x.1 n t ((all_below n (tree_of v start.state) t).1 y)),
          λ x. (is.exact v fits).1 (x.0, λ n t y. x.1 n t ((all_below n (tree_of v start.state) t).0 y)),
        );
        moves = λ v fits h e. let x = is.moves v fits h e in (x.0, x.1, (all_below x.0 (tree_of v start.state) x.1).0 x.2);
      }

-- a rule that gives a step has a number below the count of the rules
pub numbers_below : (sys : System) (tables : Tables) (n : ℕ) (s t : Tree) → StepsBy sys tables n s t → n < length sys.rules
numbers_below sys tables n s t x = slice_get_within sys.rules n x.rule x.there
