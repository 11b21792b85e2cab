-- What a valuation shows that makes the formula of a question true.
use Rattle.std.proofs.Common.{◌≡◌, ℕ, true, List, [], length, take, drop, ◌⊎◌, inl, inr, Some, slice_get, refl, sym, ap, ◌∙◌, subst}
use Rattle.std.proofs.lemmas.Option.{same_Some}
use Rattle.std.proofs.lemmas.List.{take-append-drop}
use Rattle.data_value.specs.declared.DataSort.{DataSort}
use Rattle.data_value.specs.declared.Value.{Value}
use Rattle.data_value.specs.Nodes.{IsValuation}
use Rattle.data_value.specs.Truth.{truth}
use Rattle.data_value.proofs.ValuationLemmas.{valuation_parts}
use Rattle.sort_term.specs.declared.points.Point.{Point}
use Rattle.sort_term.specs.declared.problem.Problem.{Problem}
use Rattle.sort_term.specs.Tree.{Tree}
use Rattle.sort_term.specs.Runs.{LongTo, HaltedTo}
use Rattle.sort_term.specs.Relation.{left, right, of_side, Relates, Related, StepsOf, InCutOf, SucceedsOf, IsUndefined}
use Rattle.sort_term.specs.NodeTerms.{tree_of}
use Rattle.sort_term.proofs.Standing.{get-is, get-below}
use Rattle.path_condition.specs.Leaves.{SeenLeaf, Gives}
use Rattle.ground_step.specs.declared.verdict.SideName.{SideName}
use Rattle.ground_step.specs.Shows.{side_of}
use Rattle.ground_step.specs.declared.verdict.SideName.TheVariants as side
use Rattle.point_questions.specs.declared.question.Flaw.{Flaw}
use Rattle.point_questions.specs.declared.question.Flaw.TheVariants.{Outside, Long, Halted, RightFails, RightMisses, LeftFails}
use Rattle.point_questions.specs.Posed.{IsPosed, trees}
use Rattle.point_questions.specs.Questions.{SeenPoint, posed_of, searched_side, leaf_of, Clears}
use Rattle.point_questions.specs.QuestionLaws.{CanShow, ShowsFlaw, TrueQuestionsShow}
use Rattle.point_questions.proofs.Excluding.{short_left, short_right, to_leaf, some_leaf}

-- a leaf of a list that holds says what it says
gives_itself : {N : Type 0} (v : List Value) (leaves : List (SeenLeaf N)) (i : ℕ) (l : SeenLeaf N) → slice_get leaves i ≡ Some l → truth l.condition v ≡ true → Gives v l.rules (tree_of v l.state) leaves
gives_itself v leaves i l there holds = (i, l, get-below leaves i l there, get-is leaves i l l there, record { holds = holds; by = refl; state = refl })

module _ {N : Type 0} (q : Problem) (n : ℕ) (p : Point) (variables : List DataSort) (x : SeenPoint N) (posed : IsPosed variables q p (posed_of x)) (v : List Value) (fits : IsValuation variables v) where
  -- where the condition is true
  module _ (holds : truth x.condition v ≡ true) where
    pair : Relates q p (trees v) (tree_of v x.left.start) (tree_of v x.right.start)
    pair = (posed.exact (trees v) (tree_of v x.left.start) (tree_of v x.right.start)).1 (v, refl, record { fits = fits; holds = holds; left = refl; right = refl })

  of_start : (s : SideName) → of_side (side_of s) (tree_of v x.left.start) (tree_of v x.right.start) ≡ tree_of v (searched_side x s).start
  of_start side.Left = refl
  of_start side.Right = refl

  -- a leaf of each kind that holds, where nothing clears it
  shown : (flaw : Flaw) → CanShow q n p variables x flaw → (l : SeenLeaf N) → leaf_of x flaw ≡ Some l → truth l.condition v ≡ true → ¬ Clears q x flaw l v → ShowsFlaw q n p x flaw l.rules (tree_of v l.state) v
  shown (Outside s) can l there holds none =
      let start : SeenLeaf N = record { condition = x.condition; state = (searched_side x s).start; rules = [] } in
      let same : start ≡ l = same_Some start l there in
      record {
        pair = pair (ap (λ (m : SeenLeaf N). truth m.condition v) same ∙ holds);
        shown = (ap (λ (m : SeenLeaf N). m.rules) (sym same), of_start s ∙ ap (λ (m : SeenLeaf N). tree_of v m.state) same, none);
      }
  shown (Long s i) can l there holds none =
      let e = ((can v fits s).long l.rules (tree_of v l.state)).0 (gives_itself v (searched_side x s).long i l there holds) in
      record { pair = pair e.0; shown = subst (λ t. LongTo (StepsOf q (side_of s)) (InCutOf q (side_of s)) n t l.rules (tree_of v l.state)) (sym (of_start s)) e.1 }
  shown (Halted s i) can l there holds none =
      let e = ((can v fits s).halted l.rules (tree_of v l.state)).0 (gives_itself v (searched_side x s).halted i l there holds) in
      record { pair = pair e.0; shown = subst (λ t. HaltedTo (StepsOf q (side_of s)) (InCutOf q (side_of s)) n t l.rules (tree_of v l.state)) (sym (of_start s)) e.1 }
  shown (RightFails i) can l there holds none =
      let e = ((can.0 v fits side.Right).met l.rules (tree_of v l.state)).0 (gives_itself v x.right.met i l there holds) in
      let r = pair e.0 in
      let leaf = λ (a' : Tree) (h : SucceedsOf q left (tree_of v x.left.start) a'). to_leaf q variables x n can.0 side.Left v fits e.0 (short_left q n p variables x posed can.0 can.1 (trees v) (tree_of v x.left.start) (tree_of v x.right.start) r (tree_of v x.left.start) refl) a' h in
      record {
        pair = r;
        shown = (
          e.1,
          λ a' h m. let o = leaf a' h in none (some_leaf v (λ t. Related q t (tree_of v l.state) ⊎ IsUndefined q t) x.left.met o.0 o.1 o.2 o.3 (inl (subst (λ t. Related q t (tree_of v l.state)) (sym o.4) m))),
          λ a' h u. let o = leaf a' h in none (some_leaf v (λ t. Related q t (tree_of v l.state) ⊎ IsUndefined q t) x.left.met o.0 o.1 o.2 o.3 (inr (subst (IsUndefined q) (sym o.4) u))),
        );
      }
  shown (RightMisses i) can l there holds none =
      let e = ((can.0 v fits side.Right).met l.rules (tree_of v l.state)).0 (gives_itself v x.right.met i l there holds) in
      let r = pair e.0 in
      let leaf = λ (a' : Tree) (h : SucceedsOf q left (tree_of v x.left.start) a'). to_leaf q variables x n can.0 side.Left v fits e.0 (short_left q n p variables x posed can.0 can.1 (trees v) (tree_of v x.left.start) (tree_of v x.right.start) r (tree_of v x.left.start) refl) a' h in
      record {
        pair = r;
        shown = (
          e.1,
          λ a' h m. let o = leaf a' h in none (some_leaf v (λ t. Related q t (tree_of v l.state)) x.left.met o.0 o.1 o.2 o.3 (subst (λ t. Related q t (tree_of v l.state)) (sym o.4) m)),
        );
      }
  shown (LeftFails i) can l there holds none =
      let e = ((can.0 v fits side.Left).met l.rules (tree_of v l.state)).0 (gives_itself v x.left.met i l there holds) in
      let r = pair e.0 in
      let leaf = λ (b' : Tree) (h : SucceedsOf q right (tree_of v x.right.start) b'). to_leaf q variables x n can.0 side.Right v fits e.0 (short_right q n p variables x posed can.0 can.1 (trees v) (tree_of v x.left.start) (tree_of v x.right.start) r (tree_of v x.right.start) refl) b' h in
      record {
        pair = r;
        shown = (
          e.1,
          λ b' h m. let o = leaf b' h in none (some_leaf v (λ t. Related q (tree_of v l.state) t) x.right.met o.0 o.1 o.2 o.3 (subst (λ t. Related q (tree_of v l.state) t) (sym o.4) m)),
        );
      }

pub show_law : (N : Type 0) → TrueQuestionsShow N
show_law N q n p variables now x posed flaw s question can u fits on =
    let asks = question.asks in
    let split = valuation_parts variables asks.keys u (subst (λ ss. IsValuation ss u) asks.grown fits) in
    let v = take (length variables) u in
    let w = drop (length variables) u in
    let told = asks.sound v w split.0 split.1 (ap (truth s) (take-append-drop (length variables) u) ∙ on) in
    shown q n p variables x posed v split.0 flaw can question.leaf question.there told.0 told.1
