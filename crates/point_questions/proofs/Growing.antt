-- Questions whether a run has no partner, while further variables are made.
use Rattle.std.proofs.Common.{arith, ◌≡◌, ◌↔◌, ◌⊎◌, inl, inr, ℕ, zero, suc, ◌+◌, ◌<◌, ◌≤◌, true, Bool, IsSome, List, [], ◌∷◌, ◌++◌, length, take, drop, slice_get, Some, All, Any, refl, sym, ap, ◌∙◌, subst}
use Rattle.std.proofs.Math.Seq.{drop-append_seam}
use Rattle.std.proofs.lemmas.Bool.{cases_lt}
use Rattle.std.proofs.lemmas.List.{append_assoc, take-append-drop, map-append}
use Rattle.std.proofs.lemmas.List.Elements.{All-nil, All-cons, All-head, All-tail, All-push, All-drop, All-weaker}
use Rattle.data_value.specs.declared.DataSort.{DataSort}
use Rattle.data_value.specs.declared.Value.{Value}
use Rattle.data_value.specs.Sorts.{IsSort}
use Rattle.data_value.specs.Nodes.{Seen, Extends, IsValuation}
use Rattle.data_value.specs.Truth.{truth}
use Rattle.data_value.specs.Views.{BeginsWith, IsViewed}
use Rattle.data_value.proofs.ValuationLemmas.{valuations_join, valuation_parts, some_valuation}
use Rattle.sort_term.specs.declared.problem.Problem.{Problem}
use Rattle.sort_term.specs.Tree.{Tree}
use Rattle.sort_term.specs.Relation.{Related, IsUndefined}
use Rattle.sort_term.specs.NodeTerms.{tree_of}
use Rattle.unify.proofs.Anys.{any_here, any_left, any_right, any_among}
use Rattle.path_condition.specs.Leaves.{SeenLeaf}
use Rattle.probe_keys.specs.Probed.{IsProbed}
use Rattle.probe_keys.proofs.Lengthened.{IsSettled, settled, settled_truth, begins_both}
use Rattle.pair_match.specs.Unmatched.{SomeHolds, IsExcused, HasLeftPartner, HasRightPartner}
use Rattle.point_questions.specs.declared.question.Flaw.{Flaw}
use Rattle.point_questions.specs.declared.question.Flaw.TheVariants.{Outside, Long, Halted, RightFails, RightMisses, LeftFails}
use Rattle.point_questions.specs.declared.question.Question.{Question}
use Rattle.point_questions.specs.Questions.{SeenPoint, SeenQuestion, seen_questions, leaf_of, flaw_rank, IsQuestion, IsRightFailure, IsRightMiss, IsLeftFailure, AreQuestions}
use Rattle.point_questions.specs.Lists.{IsLeafOver, IsOver}
use Rattle.point_questions.proofs.Asking.{pairs_same}

-- further variables are of sorts
more_sorts : (before now : List DataSort) (keys : List DataSort) → now ≡ before ++ keys → All IsSort now → All IsSort keys
more_sorts before now keys e sorts = subst (All IsSort) (drop-append_seam before keys) (All-drop IsSort (length before) (before ++ keys) (subst (All IsSort) e sorts))

module _ {N : Type 0} (holds : List Value → Bool) (P : List Value → Type 0) (s : Seen N) where
  -- a formula says of the first variables what it says of more, where it says it of the first alone
  pub earlier : (variables before now : List DataSort) → BeginsWith before variables → All IsSort before → ((v w : List Value) → IsValuation variables v → holds (v ++ w) ≡ holds v) → ((v w : List Value) → IsValuation variables v → P (v ++ w) ↔ P v) → IsProbed before now holds P s → IsProbed variables now holds P s
  earlier variables before now begins sorts same stays is = record {
    keys = first ++ is.keys;
    grown = is.grown ∙ ap (λ ss. ss ++ is.keys) begins.1 ∙ append_assoc variables first is.keys;
    condition = is.condition;
    sound = λ v w fits keys h.
        let parts = valuation_parts first is.keys w keys in
        let a = take (length first) w in
        let b = drop (length first) w in
        let joined : v ++ w ≡ (v ++ a) ++ b = ap (λ u. v ++ u) (sym (take-append-drop (length first) w)) ∙ sym (append_assoc v a b) in
        let told = is.sound (v ++ a) b (wide v a fits parts.0) parts.1 (ap (truth s) (sym joined) ∙ h) in
        (sym (same v a fits) ∙ told.0, λ p. told.1 ((stays v a fits).1 p));
    decides = λ v fits h.
        let any = some_valuation first (more_sorts variables before first begins.1 sorts) in
        elim (is.decides (v ++ any.0) (wide v any.0 fits any.1) (same v any.0 fits ∙ h)) [
          | inl p ↦ inl ((stays v any.0 fits).0 p)
          | inr r ↦ inr (any.0 ++ r.0, valuations_join first is.keys any.0 r.0 any.1 r.1, ap (truth s) (sym (append_assoc v any.0 r.0)) ∙ r.2)
        ];
  }
    where
      first : List DataSort
      first = begins.0

      wide : (v a : List Value) → IsValuation variables v → IsValuation begins.0 a → IsValuation before (v ++ a)
      wide v a fits k = subst (λ ss. IsValuation ss (v ++ a)) (sym begins.1) (valuations_join variables begins.0 v a fits k)

  -- it still says it when there are more variables
  pub later : (variables after now : List DataSort) → BeginsWith now after → All IsSort now → IsSettled after s → IsProbed variables after holds P s → IsProbed variables now holds P s
  later variables after now begins sorts still is = record {
    keys = is.keys ++ more;
    grown = begins.1 ∙ ap (λ ss. ss ++ more) is.grown ∙ append_assoc variables is.keys more;
    condition = is.condition;
    sound = λ v w fits keys h.
        let parts = valuation_parts is.keys more w keys in
        let a = take (length is.keys) w in
        let b = drop (length is.keys) w in
        let joined : v ++ w ≡ (v ++ a) ++ b = ap (λ u. v ++ u) (sym (take-append-drop (length is.keys) w)) ∙ sym (append_assoc v a b) in
        is.sound v a fits parts.0 (sym (settled_truth after s still (v ++ a) b (wide v a fits parts.0)) ∙ ap (truth s) (sym joined) ∙ h);
    decides = λ v fits h.
        let any = some_valuation more (more_sorts after now more begins.1 sorts) in
        elim (is.decides v fits h) [
          | inl p ↦ inl p
          | inr r ↦ inr (r.0 ++ any.0, valuations_join is.keys more r.0 any.0 r.1 any.1, ap (truth s) (sym (append_assoc v r.0 any.0)) ∙ settled_truth after s still (v ++ r.0) any.0 (wide v r.0 fits r.1) ∙ r.2)
        ];
  }
    where
      more : List DataSort
      more = begins.0

      wide : (v a : List Value) → IsValuation variables v → IsValuation is.keys a → IsValuation after (v ++ a)
      wide v a fits k = subst (λ ss. IsValuation ss (v ++ a)) (sym is.grown) (valuations_join variables is.keys v a fits k)

-- whether some leaf that holds has to do with another doesn't hang on later variables
module _ {N : Type 0} (F : Tree → Tree → Type 0) (variables : List DataSort) (l : SeenLeaf N) (others : List (SeenLeaf N)) (over : IsLeafOver variables l) (all : All (IsLeafOver variables) others) where
  pub holds_stays : (v w : List Value) → IsValuation variables v → SomeHolds (v ++ w) (λ a. F a (tree_of (v ++ w) l.state)) others ↔ SomeHolds v (λ a. F a (tree_of v l.state)) others
  holds_stays v w fits = (
    any_among (IsLeafOver variables) Long Short others all
        (λ o h m. (sym (h.condition v w fits) ∙ m.0, subst (λ t. F (tree_of v o.state) t) (over.state v w fits) (subst (λ t. F t (tree_of (v ++ w) l.state)) (h.state v w fits) m.1))),
    any_among (IsLeafOver variables) Short Long others all
        (λ o h m. (h.condition v w fits ∙ m.0, subst (λ t. F (tree_of (v ++ w) o.state) t) (sym (over.state v w fits)) (subst (λ t. F t (tree_of v l.state)) (sym (h.state v w fits)) m.1))),
  )
    where
      Long : SeenLeaf N → Type 0
      Long o = (truth o.condition (v ++ w) ≡ true) × F (tree_of (v ++ w) o.state) (tree_of (v ++ w) l.state)

      Short : SeenLeaf N → Type 0
      Short o = (truth o.condition v ≡ true) × F (tree_of v o.state) (tree_of v l.state)

-- the questions for the first k leaves
pub record AreAsked {N : Type 0} (Of : Flaw → Type 0) (make : ℕ → Flaw) (q : Problem) (variables now : List DataSort) (x : SeenPoint N) (k : ℕ) (ys : List (SeenQuestion N)) : Type 0 where
  pub each : All (λ y. Of y.flaw × IsQuestion q variables now x y.flaw y.formula) ys
  pub all : (i : ℕ) → i < k → Any (λ y. y.flaw ≡ make i) ys

module _ {N : Type 0} (Of : Flaw → Type 0) (make : ℕ → Flaw) (q : Problem) (variables : List DataSort) (x : SeenPoint N) where
  pub asked_none : (now : List DataSort) → AreAsked Of make q variables now x 0 []
  asked_none now = record { each = All-nil (λ y. Of y.flaw × IsQuestion q variables now x y.flaw y.formula); all = λ i l. absurd (omega (arith, l)) }

  module _ (f g : N → Seen N) (grown : Extends f g) (before now : List DataSort) (views : IsViewed f before) (begins : BeginsWith now before) (sorts : All IsSort now) where
    Was : SeenQuestion N → Type 0
    Was y = Of y.flaw × IsQuestion q variables before x y.flaw y.formula

    Is : SeenQuestion N → Type 0
    Is y = Of y.flaw × IsQuestion q variables now x y.flaw y.formula

    question_stays : (y : Question N) → Was (record { flaw = y.flaw; formula = f y.formula }) → (g y.formula ≡ f y.formula) × Is (record { flaw = y.flaw; formula = f y.formula })
    unfolding Was Is
    question_stays y h =
        let asks = h.1.asks in (
          grown.keeps y.formula asks.condition.valid,
          (h.0, record { leaf = h.1.leaf; there = h.1.there; asks = later _ _ (f y.formula) variables before now begins sorts (settled f before views y.formula asks.condition.valid) asks }),
        )

    questions_stay : (ys : List (Question N)) → All Was (seen_questions f ys) → (seen_questions g ys ≡ seen_questions f ys) × All Is (seen_questions f ys)
    questions_stay [] a = (refl, All-nil Is)
    questions_stay (y ∷ ys) a =
        let one = question_stays y (All-head Was (record { flaw = y.flaw; formula = f y.formula }) (seen_questions f ys) a) in
        let rest = questions_stay ys (All-tail Was (record { flaw = y.flaw; formula = f y.formula }) (seen_questions f ys) a) in (
          ap (λ (s : Seen N). record { flaw = y.flaw; formula = s } ∷ seen_questions g ys) one.0 ∙ ap (λ zs. record { flaw = y.flaw; formula = f y.formula } ∷ zs) rest.0,
          All-cons Is (record { flaw = y.flaw; formula = f y.formula }) (seen_questions f ys) one.1 rest.1,
        )

    -- one more
    pub asked_more : (k : ℕ) (ys new : List (Question N)) (formula : N) → AreAsked Of make q variables before x k (seen_questions f ys) → Of (make k) → IsQuestion q variables now x (make k) (g formula) → new ≡ ys ++ record { flaw = make k; formula = formula } ∷ [] → AreAsked Of make q variables now x (k + 1) (seen_questions g new)
    unfolding Was Is
    asked_more k ys new formula so_far of asks push =
        subst (AreAsked Of make q variables now x (k + 1)) (sym same) (record {
          each = All-push Is (seen_questions f ys) last kept.1 (of, asks);
          all = λ i l. go i (cases_lt i k) l;
        })
      where
        last : SeenQuestion N
        last = record { flaw = make k; formula = g formula }

        kept : (seen_questions g ys ≡ seen_questions f ys) × All Is (seen_questions f ys)
        kept = questions_stay ys so_far.each

        same : seen_questions g new ≡ seen_questions f ys ++ record { flaw = make k; formula = g formula } ∷ []
        same =
            ap (seen_questions g) push ∙ map-append (λ (y : Question N). record { flaw = y.flaw; formula = g y.formula }) ys (record { flaw = make k; formula = formula } ∷ [])
            ∙ ap (λ zs. zs ++ record { flaw = make k; formula = g formula } ∷ []) kept.0

        go : (i : ℕ) → (i < k) ⊎ (k ≤ i) → i < k + 1 → Any (λ (y : SeenQuestion N). y.flaw ≡ make i) (seen_questions f ys ++ record { flaw = make k; formula = g formula } ∷ [])
        go i (inl b) l = any_left (λ (y : SeenQuestion N). y.flaw ≡ make i) (seen_questions f ys) (record { flaw = make k; formula = g formula } ∷ []) (so_far.all i b)
        go i (inr b) l =
            let e : k ≡ i = omega arith in
            any_right (λ (y : SeenQuestion N). y.flaw ≡ make i) (seen_questions f ys) (record { flaw = make k; formula = g formula } ∷ []) (any_here (λ (y : SeenQuestion N). y.flaw ≡ make i) (record { flaw = make k; formula = g formula }) [] (ap make e))

  -- all
  pub asked_all : (now : List DataSort) (k r : ℕ) (ys : List (SeenQuestion N)) → ((flaw : Flaw) → Of flaw → flaw_rank flaw ≡ r) → ((flaw : Flaw) → Of flaw → IsSome (leaf_of x flaw) → (i : ℕ) × (i < k) × (make i ≡ flaw)) → AreAsked Of make q variables now x k ys → AreQuestions Of q variables now x ys
  asked_all now k r ys rank numbers is = record {
    each = is.each;
    all = λ flaw of some. let n = numbers flaw of some in subst (λ (f : Flaw). Any (λ (y : SeenQuestion N). y.flaw ≡ f) ys) n.2 (is.all n.0 n.1);
    ordered = pairs_same r ys (All-weaker (λ y. Of y.flaw × IsQuestion q variables now x y.flaw y.formula) (λ y. flaw_rank y.flaw ≡ r) (λ y h. rank y.flaw h.0) ys is.each);
  }

-- what is there stands before the end
pub some_below : {X : Type 0} (xs : List X) (i n : ℕ) → length xs ≤ n → IsSome (slice_get xs i) → i < n
some_below [] i n l h = absurd (cc)
some_below (x ∷ xs) zero n l h = omega (arith, l)
some_below (x ∷ xs) (suc i) n l h = let r = some_below xs i (length xs) (omega arith) h in omega (arith, l, r)

-- flaws of one kind: their rank, and that there are no more than leaves
pub right_failure_rank : (flaw : Flaw) → IsRightFailure flaw → flaw_rank flaw ≡ 7
right_failure_rank (Outside s) of = absurd of
right_failure_rank (Long s i) of = absurd of
right_failure_rank (Halted s i) of = absurd of
right_failure_rank (RightFails i) of = refl
right_failure_rank (RightMisses i) of = absurd of
right_failure_rank (LeftFails i) of = absurd of

pub right_failure_numbers : {N : Type 0} (x : SeenPoint N) (k : ℕ) → length x.right.met ≤ k → (flaw : Flaw) → IsRightFailure flaw → IsSome (leaf_of x flaw) → (i : ℕ) × (i < k) × (RightFails i ≡ flaw)
right_failure_numbers x k past (Outside s) of some = absurd of
right_failure_numbers x k past (Long s i) of some = absurd of
right_failure_numbers x k past (Halted s i) of some = absurd of
right_failure_numbers x k past (RightFails i) of some = (i, some_below x.right.met i k past some, refl)
right_failure_numbers x k past (RightMisses i) of some = absurd of
right_failure_numbers x k past (LeftFails i) of some = absurd of

pub right_miss_rank : (flaw : Flaw) → IsRightMiss flaw → flaw_rank flaw ≡ 8
right_miss_rank (Outside s) of = absurd of
right_miss_rank (Long s i) of = absurd of
right_miss_rank (Halted s i) of = absurd of
right_miss_rank (RightFails i) of = absurd of
right_miss_rank (RightMisses i) of = refl
right_miss_rank (LeftFails i) of = absurd of

pub right_miss_numbers : {N : Type 0} (x : SeenPoint N) (k : ℕ) → length x.right.met ≤ k → (flaw : Flaw) → IsRightMiss flaw → IsSome (leaf_of x flaw) → (i : ℕ) × (i < k) × (RightMisses i ≡ flaw)
right_miss_numbers x k past (Outside s) of some = absurd of
right_miss_numbers x k past (Long s i) of some = absurd of
right_miss_numbers x k past (Halted s i) of some = absurd of
right_miss_numbers x k past (RightFails i) of some = absurd of
right_miss_numbers x k past (RightMisses i) of some = (i, some_below x.right.met i k past some, refl)
right_miss_numbers x k past (LeftFails i) of some = absurd of

pub left_failure_rank : (flaw : Flaw) → IsLeftFailure flaw → flaw_rank flaw ≡ 9
left_failure_rank (Outside s) of = absurd of
left_failure_rank (Long s i) of = absurd of
left_failure_rank (Halted s i) of = absurd of
left_failure_rank (RightFails i) of = absurd of
left_failure_rank (RightMisses i) of = absurd of
left_failure_rank (LeftFails i) of = refl

pub left_failure_numbers : {N : Type 0} (x : SeenPoint N) (k : ℕ) → length x.left.met ≤ k → (flaw : Flaw) → IsLeftFailure flaw → IsSome (leaf_of x flaw) → (i : ℕ) × (i < k) × (LeftFails i ≡ flaw)
left_failure_numbers x k past (Outside s) of some = absurd of
left_failure_numbers x k past (Long s i) of some = absurd of
left_failure_numbers x k past (Halted s i) of some = absurd of
left_failure_numbers x k past (RightFails i) of some = absurd of
left_failure_numbers x k past (RightMisses i) of some = absurd of
left_failure_numbers x k past (LeftFails i) of some = (i, some_below x.left.met i k past some, refl)

-- the new questions, from the formulas of the leaves
module _ {N : Type 0} (q : Problem) (variables before now : List DataSort) (x : SeenPoint N) (over : IsOver variables before x) (middle : List DataSort) (wider : BeginsWith middle before) (sorts : All IsSort middle) (k : ℕ) (l : SeenLeaf N) (s : Seen N) where
  begins : BeginsWith middle variables
  begins = begins_both variables before middle over.begins wider

  pub right_failure : slice_get x.right.met k ≡ Some l → IsLeafOver variables l → IsProbed middle now (truth l.condition) (IsExcused q l x.left.met) s → IsQuestion q variables now x (RightFails k) s
  right_failure there leaf asks = record {
    leaf = l;
    there = there;
    asks = earlier (truth l.condition) (IsExcused q l x.left.met) s variables middle now begins sorts leaf.condition (holds_stays (λ a t. Related q a t ⊎ IsUndefined q a) variables l x.left.met leaf over.left) asks;
  }

  pub right_miss : slice_get x.right.met k ≡ Some l → IsLeafOver variables l → IsProbed middle now (truth l.condition) (HasLeftPartner q l x.left.met) s → IsQuestion q variables now x (RightMisses k) s
  right_miss there leaf asks = record {
    leaf = l;
    there = there;
    asks = earlier (truth l.condition) (HasLeftPartner q l x.left.met) s variables middle now begins sorts leaf.condition (holds_stays (λ a t. Related q a t) variables l x.left.met leaf over.left) asks;
  }

  pub left_failure : slice_get x.left.met k ≡ Some l → IsLeafOver variables l → IsProbed middle now (truth l.condition) (HasRightPartner q l x.right.met) s → IsQuestion q variables now x (LeftFails k) s
  left_failure there leaf asks = record {
    leaf = l;
    there = there;
    asks = earlier (truth l.condition) (HasRightPartner q l x.right.met) s variables middle now begins sorts leaf.condition (holds_stays (λ b t. Related q t b) variables l x.right.met leaf over.right) asks;
  }
