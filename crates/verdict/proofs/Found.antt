-- The first question that is true, and the flaws that it leaves out.
use Rattle.std.proofs.Common.{arith, ◌≡◌, ℕ, ◌<◌, ◌≤◌, ◌⊎◌, inl, inr, false, IsSome, List, length, take, get_or, slice_get, Some, None, All, Any, refl, sym, ap, ◌∙◌, subst}
use Rattle.std.specs.Prelude.{option_map}
use Rattle.std.proofs.lemmas.Bool.{cases_lt}
use Rattle.std.proofs.lemmas.List.{length-map, length-take-le, get_or-take}
use Rattle.std.proofs.lemmas.List.Elements.{All-weaker}
use Rattle.std.proofs.lemmas.Option.{slice_get-map, same_Some}
use Rattle.data_value.specs.declared.DataSort.{DataSort}
use Rattle.data_value.specs.declared.Value.{Value}
use Rattle.data_value.specs.Nodes.{Seen, IsValuation}
use Rattle.data_value.specs.Truth.{truth, IsCondition}
use Rattle.sort_term.specs.declared.ids.RuleId.{RuleId}
use Rattle.sort_term.specs.declared.points.Point.{Point}
use Rattle.sort_term.specs.declared.problem.Problem.{Problem}
use Rattle.sort_term.specs.declared.term.Sort.TheVariants.{Plain as PlainSort}
use Rattle.sort_term.specs.Relation.{IsPoint, Relates}
use Rattle.sort_term.specs.NodeTerms.{tree_of}
use Rattle.sort_term.proofs.Standing.{get-is, get-below, get-some}
use Rattle.path_condition.specs.declared.leaf.Leaf.{Leaf}
use Rattle.path_condition.specs.Leaves.{SeenLeaf, seen_leaf, seen_leaves, rule_numbers}
use Rattle.ground_step.specs.declared.verdict.SideName.TheVariants as side
use Rattle.prover.specs.Answers.{IsTrueUnder}
use Rattle.point_questions.specs.declared.question.Flaw.{Flaw}
use Rattle.point_questions.specs.declared.question.Flaw.TheVariants.{Outside, Long, Halted, RightFails, RightMisses, LeftFails}
use Rattle.point_questions.specs.declared.searched.SearchedPoint.{SearchedPoint}
use Rattle.point_questions.specs.Posed.{IsPosed, trees}
use Rattle.point_questions.specs.Questions.{SeenPoint, SeenQuestion, seen_point, posed_of, leaf_of, flaw_rank, IsQuestion, IsOutsideFlaw, AreQuestions}
use Rattle.point_questions.specs.QuestionLaws.{IsExcluded, Excludes, CanShow}
use Rattle.point_questions.proofs.Showing.{show_law}
use Rattle.verdict.specs.declared.deciding.FoundFlaw.{FoundFlaw}
use Rattle.verdict.specs.Decided.{AreNeverTrue, IsFoundFirst}
use Rattle.verdict.specs.Shown.{IsShownAt, rules_in, rules_there, IsShownByLeaf}

-- the formulas of questions are nodes of sort bool
pub conditions : {N : Type 0} (Of : Flaw → Type 0) (q : Problem) (variables now : List DataSort) (x : SeenPoint N) (ys : List (SeenQuestion N)) → AreQuestions Of q variables now x ys → All (λ y. IsCondition y.formula) ys
conditions Of q variables now x ys asked = All-weaker (λ y. Of y.flaw × IsQuestion q variables now x y.flaw y.formula) (λ y. IsCondition y.formula) (λ y h. h.1.asks.condition) ys asked.each

module _ {N : Type 0} (Of : Flaw → Type 0) (q : Problem) (variables now : List DataSort) (x : SeenPoint N) (ys : List (SeenQuestion N)) (asked : AreQuestions Of q variables now x ys) where
  -- what is asked of a question at a place
  asked_at : (k : ℕ) (y : SeenQuestion N) → slice_get ys k ≡ Some y → Of y.flaw × IsQuestion q variables now x y.flaw y.formula
  asked_at k y there = subst (λ z. Of z.flaw × IsQuestion q variables now x z.flaw z.formula) (get-is ys k y y there) (asked.each k y (get-below ys k y there))

  excluded_at : (k : ℕ) (y : SeenQuestion N) (flaw : Flaw) → slice_get ys k ≡ Some y → y.flaw ≡ flaw → ((v : List Value) → IsValuation now v → truth y.formula v ≡ false) → IsExcluded q variables x flaw
  excluded_at k y flaw there e never = record { now = now; formula = y.formula; question = subst (λ (f : Flaw). IsQuestion q variables now x f y.formula) e (asked_at k y there).1; never = never }

  -- where none is true, no flaw of the kind can be
  pub all_excluded : AreNeverTrue now ys → Excludes Of q variables x
  all_excluded never flaw of some =
      let a = asked.all flaw of some in
      let there : slice_get ys a.0 ≡ Some a.1 = get-some ys a.0 a.1 a.2 ∙ ap Some a.3 in
      excluded_at a.0 a.1 flaw there a.4 (subst (λ y. (v : List Value) → IsValuation now v → truth y.formula v ≡ false) a.3 (never a.0 a.1 a.2))

  module _ (found : FoundFlaw) (first : IsFoundFirst now ys found) where
    -- the question that is true
    pub found_asks : Of found.flaw × IsQuestion q variables now x found.flaw first.question.formula
    found_asks =
        let h = asked_at first.place first.question first.there in
        subst (λ (f : Flaw). Of f × IsQuestion q variables now x f first.question.formula) first.asks h

    -- no flaw before it in the order of the verdict can be
    pub before_excluded : (flaw : Flaw) → Of flaw → IsSome (leaf_of x flaw) → flaw_rank flaw < flaw_rank found.flaw → IsExcluded q variables x flaw
    before_excluded flaw of some lower = go (cases_lt a.0 first.place)
      where
        a : Any (λ (y : SeenQuestion N). y.flaw ≡ flaw) ys
        a = asked.all flaw of some

        there : slice_get ys a.0 ≡ Some a.1
        there = get-some ys a.0 a.1 a.2 ∙ ap Some a.3

        -- the ranks, by the places
        rank_a : flaw_rank (get_or ys a.0 a.1).flaw ≡ flaw_rank flaw
        rank_a = ap (λ (y : SeenQuestion N). flaw_rank y.flaw) a.3 ∙ ap flaw_rank a.4

        rank_found : (d : SeenQuestion N) → flaw_rank (get_or ys first.place d).flaw ≡ flaw_rank found.flaw
        rank_found d = ap (λ (y : SeenQuestion N). flaw_rank y.flaw) (get-is ys first.place first.question d first.there) ∙ ap flaw_rank first.asks

        go : (a.0 < first.place) ⊎ (first.place ≤ a.0) → IsExcluded q variables x flaw
        go (inl l) =
            let short : length (take first.place ys) ≡ first.place = length-take-le first.place ys (let m = get-below ys first.place first.question first.there in omega arith) in
            let never = first.before a.0 a.1 (omega (arith, l, short)) in
            let same : get_or (take first.place ys) a.0 a.1 ≡ a.1 = get_or-take first.place ys a.0 a.1 l ∙ a.3 in
            excluded_at a.0 a.1 flaw there a.4 (subst (λ y. (v : List Value) → IsValuation now v → truth y.formula v ≡ false) same never)
        go (inr l) = at (cases_lt first.place a.0)
          where
            at : (first.place < a.0) ⊎ (a.0 ≤ first.place) → IsExcluded q variables x flaw
            at (inl m) =
                let ordered : flaw_rank (get_or ys first.place a.1).flaw ≤ flaw_rank (get_or ys a.0 a.1).flaw = asked.ordered first.place a.0 a.1 m a.2 in
                let r = rank_found a.1 in
                absurd (omega (arith, lower, ordered, r, rank_a))
            at (inr m) =
                let e : a.0 ≡ first.place = omega (arith, l, m) in
                let r : flaw_rank (get_or ys a.0 a.1).flaw ≡ flaw_rank found.flaw = subst (λ (j : ℕ). flaw_rank (get_or ys j a.1).flaw ≡ flaw_rank found.flaw) (sym e) (rank_found a.1) in
                absurd (omega (arith, lower, r, rank_a))

-- the question's leaf shows the flaw at the point
module _ {N : Type 0} (q : Problem) (n k : ℕ) (p : Point) (there : IsPoint q k p) (variables now : List DataSort) (x : SeenPoint N) (posed : IsPosed variables q p (posed_of x)) (flaw : Flaw) (s : Seen N) (question : IsQuestion q variables now x flaw s) (can : CanShow q n p variables x flaw) (u : List Value) (holds : IsTrueUnder now s u) where
  as_many : length variables ≡ length p.vars
  as_many = sym (length-map variables PlainSort) ∙ ap length posed.sorts ∙ length-map p.vars (λ y. y.sort)

  pub shown_at : IsShownAt q n k flaw u question.leaf.rules
  shown_at =
      let r = show_law N q n p variables now x posed flaw s question can u holds.fits holds.holds in
      record {
        point = p;
        there = there;
        left = tree_of (take (length variables) u) x.left.start;
        right = tree_of (take (length variables) u) x.right.start;
        last = tree_of (take (length variables) u) question.leaf.state;
        pair = subst (λ (m : ℕ). Relates q p (trees (take m u)) (tree_of (take (length variables) u) x.left.start) (tree_of (take (length variables) u) x.right.start)) as_many r.pair;
        shown = r.shown;
      }

-- the rules of the leaf at a place
leaf_rules : {S N : Type 0} (look : N → Seen N) (leaves : List (Leaf S N)) (i : ℕ) (l : SeenLeaf N) → slice_get (seen_leaves look leaves) i ≡ Some l → (rules : List RuleId) × (rules_in leaves i ≡ Some rules) × (rule_numbers rules ≡ l.rules)
leaf_rules look leaves i l h =
    let within = get-below (seen_leaves look leaves) i l h in
    let many = length-map leaves (seen_leaf look) in
    go (slice_get leaves i) refl (sym (slice_get-map (seen_leaf look) leaves i) ∙ h)
  where
    go : (o : _) → slice_get leaves i ≡ o → option_map (seen_leaf look) (slice_get leaves i) ≡ Some l → (rules : List RuleId) × (rules_in leaves i ≡ Some rules) × (rule_numbers rules ≡ l.rules)
    go None e m = absurd (let z : None ≡ Some l = ap (option_map (seen_leaf look)) (sym e) ∙ m in cc)
    go (Some y) e m =
        let same : seen_leaf look y ≡ l = same_Some (seen_leaf look y) l (ap (option_map (seen_leaf look)) (sym e) ∙ m) in
        (y.rules, ap (option_map (λ z. z.rules)) e, ap (λ (z : SeenLeaf _). z.rules) same)

-- every flaw but "outside" has a leaf with rules
pub rules_of_leaf : {N : Type 0} (look : N → Seen N) (y : SearchedPoint N) (flaw : Flaw) → (IsOutsideFlaw flaw → ⊥) → (l : SeenLeaf N) → leaf_of (seen_point look y) flaw ≡ Some l → (rules : List RuleId) × (rules_there y flaw ≡ Some rules) × (rule_numbers rules ≡ l.rules)
rules_of_leaf look y (Outside s) other l h = absurd (other tt)
rules_of_leaf look y (Long side.Left i) other l h = leaf_rules look y.left.long i l h
rules_of_leaf look y (Long side.Right i) other l h = leaf_rules look y.right.long i l h
rules_of_leaf look y (Halted side.Left i) other l h = leaf_rules look y.left.halted i l h
rules_of_leaf look y (Halted side.Right i) other l h = leaf_rules look y.right.halted i l h
rules_of_leaf look y (RightFails i) other l h = leaf_rules look y.right.met i l h
rules_of_leaf look y (RightMisses i) other l h = leaf_rules look y.right.met i l h
rules_of_leaf look y (LeftFails i) other l h = leaf_rules look y.left.met i l h

-- a question of another kind that is true is shown by its leaf
pub shown_by_leaf : {N : Type 0} (q : Problem) (n k : ℕ) (look : N → Seen N) (y : SearchedPoint N) (found : FoundFlaw) → (IsOutsideFlaw found.flaw → ⊥) → (variables now : List DataSort) (s : Seen N) (question : IsQuestion q variables now (seen_point look y) found.flaw s) → IsShownAt q n k found.flaw found.values question.leaf.rules → IsShownByLeaf q n k y found
shown_by_leaf q n k look y found other variables now s question shown =
    let r = rules_of_leaf look y found.flaw other question.leaf question.there in
    (r.0, r.1, subst (IsShownAt q n k found.flaw found.values) (sym r.2) shown)
