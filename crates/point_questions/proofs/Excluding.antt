-- What can't be where no question for it can be true.
use Rattle.std.proofs.Common.{arith, ◌≡◌, ℕ, suc, ◌<◌, ◌≤◌, ◌⊎◌, inl, inr, true, false, Bool, IsSome, List, [], ◌∷◌, ◌++◌, length, Some, slice_get, get_or, All, Any, refl, sym, ap, ◌∙◌, subst}
use Rattle.std.specs.List.{Contains}
use Rattle.std.proofs.lemmas.Option.{same_Some}
use Rattle.std.proofs.lemmas.List.Elements.{All-nil, All-cons, Contains-push, Contains-append_left, Contains-append_right}
use Rattle.data_value.specs.declared.DataSort.{DataSort}
use Rattle.data_value.specs.declared.Value.{Value}
use Rattle.data_value.specs.Nodes.{IsValuation}
use Rattle.data_value.specs.Truth.{truth}
use Rattle.data_value.proofs.ValuationLemmas.{valuations_join}
use Rattle.sort_term.specs.declared.points.Point.{Point}
use Rattle.sort_term.specs.declared.problem.Problem.{Problem}
use Rattle.sort_term.specs.System.{System}
use Rattle.sort_term.specs.Tree.{Tree, Trees}
use Rattle.sort_term.specs.Rules.{IsSemantics}
use Rattle.sort_term.specs.Step.{Tables, StepsBy}
use Rattle.sort_term.specs.Runs.{reached, rules_of, IsMet, IsLong, IsHalted, MetTo}
use Rattle.sort_term.specs.StateSets.{KeepsMeeting}
use Rattle.sort_term.specs.Meeting.{AlwaysMeets}
use Rattle.sort_term.specs.Relation.{Side, left, right, Relates, Related, IsStateOf, StepsOf, InCutOf, SucceedsOf, IsUndefined, Long as IsLongPoint}
use Rattle.sort_term.specs.Simulation.{IsWellGroundedAt}
use Rattle.sort_term.specs.NodeTerms.{tree_of}
use Rattle.sort_term.proofs.Meets.{always_meets}
use Rattle.sort_term.proofs.RunLemmas.{met_short, succeeds_within}
use Rattle.sort_term.proofs.StepRuns.{one_run}
use Rattle.sort_term.proofs.Standing.{get-some, get-is, get-below}
use Rattle.sort_term.proofs.TreeCode.{tree_code}
use Rattle.unify.proofs.Anys.{any_none, any_cases}
use Rattle.path_condition.specs.Leaves.{SeenLeaf, Says, Gives}
use Rattle.probe_keys.specs.Probed.{IsProbed}
use Rattle.pair_match.specs.Unmatched.{SomeHolds}
use Rattle.ground_step.specs.declared.verdict.SideName.{SideName}
use Rattle.ground_step.specs.Shows.{side_of}
use Rattle.ground_step.specs.declared.verdict.SideName.TheVariants as side
use Rattle.point_questions.specs.declared.question.Flaw.{Flaw}
use Rattle.point_questions.specs.declared.question.Flaw.TheVariants.{Outside, Long, Halted, RightFails, RightMisses, LeftFails}
use Rattle.point_questions.specs.Posed.{MeansPair, IsPosed, trees}
use Rattle.point_questions.specs.Questions.{SeenPoint, posed_of, searched_side, leaf_of, Clears, IsOutsideFlaw, IsRunFlaw, IsRightFailure, IsRightMiss, IsLeftFailure}
use Rattle.point_questions.specs.QuestionLaws.{IsSearched, IsExcluded, Excludes, FalsePointsAreVoid, ExcludedOutside, ExcludedLong, ExcludedHalted, ExcludedIsGrounded, ExcludedRightFailures, ExcludedRightMisses, ExcludedLeftFailures}

-- a leaf of a list, by its place
leaf_at : {N : Type 0} (P : SeenLeaf N → Type 0) (leaves : List (SeenLeaf N)) → Any P leaves → (k : ℕ) × (l : SeenLeaf N) × (slice_get leaves k ≡ Some l) × P l
leaf_at P leaves a = (a.0, a.1, get-some leaves a.0 a.1 a.2 ∙ ap Some a.3, a.4)

-- a leaf that holds has a property
pub some_leaf : {N : Type 0} (v : List Value) (P : Tree → Type 0) (leaves : List (SeenLeaf N)) (k : ℕ) (l : SeenLeaf N) → slice_get leaves k ≡ Some l → truth l.condition v ≡ true → P (tree_of v l.state) → SomeHolds v P leaves
some_leaf v P leaves k l there holds has = (k, l, get-below leaves k l there, get-is leaves k l l there, (holds, has))

is_some : {X : Type 0} (o : _) (x : X) → o ≡ Some x → IsSome o
is_some o x e = subst IsSome (sym e) refl

module _ {N : Type 0} (q : Problem) (variables : List DataSort) (x : SeenPoint N) where
  -- where the leaf of an excluded flaw holds, something clears it
  cleared : (flaw : Flaw) → IsExcluded q variables x flaw → (l : SeenLeaf N) → leaf_of x flaw ≡ Some l → (v : List Value) → IsValuation variables v → truth l.condition v ≡ true → Clears q x flaw l v
  cleared flaw e l there v fits holds = elim (asks.decides v fits holds) [ inl c ↦ c | inr r ↦ absurd (never r.0 r.1 r.2) ]
    where
      asks : IsProbed variables e.now (truth l.condition) (Clears q x flaw l) e.formula
      asks = subst (λ m. IsProbed variables e.now (truth m.condition) (Clears q x flaw m) e.formula) (same_Some e.question.leaf l (sym e.question.there ∙ there)) e.question.asks

      never : (w : List Value) → IsValuation asks.keys w → truth e.formula (v ++ w) ≡ true → ⊥
      never w keys h =
          let fit : IsValuation e.now (v ++ w) = subst (λ ss. IsValuation ss (v ++ w)) (sym asks.grown) (valuations_join variables asks.keys v w fits keys) in
          let t : true ≡ false = sym h ∙ e.never (v ++ w) fit in
          cc

  pub inside : (s : SideName) → IsExcluded q variables x (Outside s) → (v : List Value) → IsValuation variables v → truth x.condition v ≡ true → InCutOf q (side_of s) (tree_of v (searched_side x s).start)
  inside s e v fits holds = cleared (Outside s) e (record { condition = x.condition; state = (searched_side x s).start; rules = [] }) refl v fits holds

  module _ (n : ℕ) (searched : IsSearched q n variables x) (s : SideName) (v : List Value) (fits : IsValuation variables v) (holds : truth x.condition v ≡ true) where
    -- the met leaves, where the condition is true
    pub met_where : (rules : List ℕ) (t : Tree) → (Gives v rules t (searched_side x s).met → MetTo (StepsOf q (side_of s)) (InCutOf q (side_of s)) n (tree_of v (searched_side x s).start) rules t) × (MetTo (StepsOf q (side_of s)) (InCutOf q (side_of s)) n (tree_of v (searched_side x s).start) rules t → Gives v rules t (searched_side x s).met)
    met_where rules t = let m = (searched v fits s).met rules t in (λ g. (m.0 g).1, λ e. m.1 (holds, e))

    -- a cut successor of a state from which no run is long is what a met leaf means that holds
    pub to_leaf : ((run : List (ℕ × Tree)) → ¬ IsLong (StepsOf q (side_of s)) (InCutOf q (side_of s)) n (tree_of v (searched_side x s).start) run) → (t : Tree) → SucceedsOf q (side_of s) (tree_of v (searched_side x s).start) t → (k : ℕ) × (l : SeenLeaf N) × (slice_get (searched_side x s).met k ≡ Some l) × (truth l.condition v ≡ true) × (tree_of v l.state ≡ t)
    to_leaf none t h =
        let e = (succeeds_within (StepsOf q (side_of s)) (InCutOf q (side_of s)) (tree_of v (searched_side x s).start) n t none).0 h in
        let l = leaf_at (Says v e.0 t) (searched_side x s).met ((met_where e.0 t).1 e.1) in
        (l.0, l.1, l.2, l.3.holds, l.3.state)

    -- and what a met leaf means that holds is one
    pub from_leaf : (k : ℕ) (l : SeenLeaf N) → slice_get (searched_side x s).met k ≡ Some l → truth l.condition v ≡ true → SucceedsOf q (side_of s) (tree_of v (searched_side x s).start) (tree_of v l.state)
    from_leaf k l there on =
        let e = (met_where l.rules (tree_of v l.state)).0 (k, l, get-below (searched_side x s).met k l there, get-is (searched_side x s).met k l l there, record { holds = on; by = refl; state = refl }) in
        (e.run, e.has.0, e.last)

    pub no_long : ((i : ℕ) → IsSome (leaf_of x (Long s i)) → IsExcluded q variables x (Long s i)) → (run : List (ℕ × Tree)) → ¬ IsLong (StepsOf q (side_of s)) (InCutOf q (side_of s)) n (tree_of v (searched_side x s).start) run
    no_long all run is =
        let given = ((searched v fits s).long (rules_of run) (reached (tree_of v (searched_side x s).start) run)).1 (holds, record { run = run; has = is; by = refl; last = refl }) in
        let l = leaf_at (Says v (rules_of run) (reached (tree_of v (searched_side x s).start) run)) (searched_side x s).long given in
        cleared (Long s l.0) (all l.0 (is_some (leaf_of x (Long s l.0)) l.1 l.2)) l.1 l.2 v fits l.3.holds

    pub no_halted : ((i : ℕ) → IsSome (leaf_of x (Halted s i)) → IsExcluded q variables x (Halted s i)) → (run : List (ℕ × Tree)) → IsHalted (StepsOf q (side_of s)) (InCutOf q (side_of s)) (tree_of v (searched_side x s).start) run → ¬ (length run ≤ n)
    no_halted all run is short =
        let given = ((searched v fits s).halted (rules_of run) (reached (tree_of v (searched_side x s).start) run)).1 (holds, record { run = run; has = (is, short); by = refl; last = refl }) in
        let l = leaf_at (Says v (rules_of run) (reached (tree_of v (searched_side x s).start) run)) (searched_side x s).halted given in
        cleared (Halted s l.0) (all l.0 (is_some (leaf_of x (Halted s l.0)) l.1 l.2)) l.1 l.2 v fits l.3.holds

-- the runs of the leaves that hold
module _ {N : Type 0} (v : List Value) (P : List (ℕ × Tree) → Type 0) where
  -- a run with P, by the rules of the leaf
  Runs : SeenLeaf N → Type 0
  Runs l = (run : List (ℕ × Tree)) × P run × (rules_of run ≡ l.rules)

  record Collected (leaves : List (SeenLeaf N)) : Type 0 where
    runs : List (List (ℕ × Tree))
    sound : All P runs
    complete : (rules : List ℕ) (t : Tree) → Gives v rules t leaves → (run : List (ℕ × Tree)) × Contains runs run × P run × (rules_of run ≡ rules)

  collected : (leaves : List (SeenLeaf N)) → All (λ l. truth l.condition v ≡ true → Runs l) leaves → Collected leaves
  unfolding Runs
  collected [] all = record { runs = []; sound = All-nil P; complete = λ rules t a. absurd (any_none (Says v rules t) a) }
  collected (l ∷ leaves) all = one (truth l.condition v) refl (collected leaves (λ k d h. all (suc k) d (omega (arith, h))))
    where
      one : (b : Bool) → truth l.condition v ≡ b → Collected leaves → Collected (l ∷ leaves)
      one false e rest = record {
        runs = rest.runs;
        sound = rest.sound;
        complete = λ rules t a. elim (any_cases (Says v rules t) l leaves a) [ inl s ↦ absurd (let c : true ≡ false = sym s.holds ∙ e in cc) | inr b ↦ rest.complete rules t b ];
      }
      one true e rest =
          let r = all 0 l (omega arith) e in
          record {
            runs = r.0 ∷ rest.runs;
            sound = All-cons P r.0 rest.runs r.1 rest.sound;
            complete = λ rules t a.
                elim (any_cases (Says v rules t) l leaves a) [
                  | inl s ↦ (r.0, Contains-append_left (r.0 ∷ []) rest.runs r.0 (Contains-push [] r.0), r.1, r.2 ∙ s.by)
                  | inr b ↦ let m = rest.complete rules t b in (m.0, Contains-append_right (r.0 ∷ []) rest.runs m.0 m.1, m.2, m.3)
                ];
          }

-- where a search finds all met runs and none is long or halted, each run meets the cut
module _ {N : Type 0} (sys : System) (lawful : IsSemantics sys) (tables : Tables) (In : Tree → Type 0) (n : ℕ) (v : List Value) (start : Tree) (leaves : List (SeenLeaf N)) (met : (rules : List ℕ) (t : Tree) → (Gives v rules t leaves → MetTo (StepsBy sys tables) In n start rules t) × (MetTo (StepsBy sys tables) In n start rules t → Gives v rules t leaves)) where
  each_run : All (λ l. truth l.condition v ≡ true → (run : List (ℕ × Tree)) × IsMet (StepsBy sys tables) In start run × (rules_of run ≡ l.rules)) leaves
  each_run k d h holds =
      let l = get_or leaves k d in
      let e = (met l.rules (tree_of v l.state)).0 (k, l, h, refl_at k d h, record { holds = holds; by = refl; state = refl }) in
      (e.run, e.has.0, e.by)
    where
      refl_at : (k : ℕ) (d : SeenLeaf N) → k < length leaves → get_or leaves k (get_or leaves k d) ≡ get_or leaves k d
      refl_at k d h = let a = get-some leaves k d h in let b = get-some leaves k (get_or leaves k d) h in same_Some (get_or leaves k (get_or leaves k d)) (get_or leaves k d) (sym b ∙ a)

  pub meets : ((run : List (ℕ × Tree)) → ¬ IsLong (StepsBy sys tables) In n start run) → ((run : List (ℕ × Tree)) → IsHalted (StepsBy sys tables) In start run → ¬ (length run ≤ n)) → AlwaysMeets (StepsBy sys tables) In n start
  unfolding Runs
  meets long halted =
      let c = collected v (IsMet (StepsBy sys tables) In start) leaves each_run in
      always_meets (StepsBy sys tables) In start tree_code n (λ (r : List (ℕ × Tree)). r) c.runs c.sound
      (λ run m.
      let g = (met (rules_of run) (reached start run)).1 (record { run = run; has = (m, met_short (StepsBy sys tables) In start n run long m); by = refl; last = refl }) in
      let f = c.complete (rules_of run) (reached start run) g in
      (f.0, f.1, one_run sys lawful tables start f.0 run f.2.runs m.runs f.3))
      long halted

-- the side by its name
named : Side → SideName
named left = side.Left
named right = side.Right

module _ {N : Type 0} (q : Problem) (p : Point) (variables : List DataSort) (x : SeenPoint N) (posed : IsPosed variables q p (posed_of x)) where
  -- the states of a side are what its configuration means where the condition is true
  pub record Meant (s : SideName) (t : Tree) : Type 0 where
    pub v : List Value
    pub fits : IsValuation variables v
    pub holds : truth x.condition v ≡ true
    pub is : tree_of v (searched_side x s).start ≡ t

  pub meant : (s : SideName) (t : Tree) → IsStateOf q p (side_of s) t → Meant s t
  meant side.Left t h =
      let m = (posed.exact h.valuation h.left_state h.right_state).0 h.relates in
      record { v = m.0; fits = m.2.fits; holds = m.2.holds; is = m.2.left ∙ h.is }
  meant side.Right t h =
      let m = (posed.exact h.valuation h.left_state h.right_state).0 h.relates in
      record { v = m.0; fits = m.2.fits; holds = m.2.holds; is = m.2.right ∙ h.is }

  module _ (n : ℕ) (searched : IsSearched q n variables x) (outside : Excludes IsOutsideFlaw q variables x) (runs : Excludes IsRunFlaw q variables x) where
    semantic : (s : SideName) (v : List Value) → IsValuation variables v → truth x.condition v ≡ true → AlwaysMeets (StepsOf q (side_of s)) (InCutOf q (side_of s)) n (tree_of v (searched_side x s).start)
    semantic side.Left v fits holds =
        meets q.left q.fits.left_semantics q.left_program (InCutOf q left) n v (tree_of v x.left.start) x.left.met (met_where q variables x n searched side.Left v fits holds)
        (no_long q variables x n searched side.Left v fits holds (λ i. runs (Long side.Left i) tt)) (no_halted q variables x n searched side.Left v fits holds (λ i. runs (Halted side.Left i) tt))
    semantic side.Right v fits holds =
        meets q.right q.fits.right_semantics q.right_program (InCutOf q right) n v (tree_of v x.right.start) x.right.met (met_where q variables x n searched side.Right v fits holds)
        (no_long q variables x n searched side.Right v fits holds (λ i. runs (Long side.Right i) tt)) (no_halted q variables x n searched side.Right v fits holds (λ i. runs (Halted side.Right i) tt))

    keeps : (s : SideName) → KeepsMeeting (StepsOf q (side_of s)) (InCutOf q (side_of s)) n (IsStateOf q p (side_of s))
    keeps s = record {
      inside = λ t h. let m = meant s t h in subst (InCutOf q (side_of s)) m.is (inside q variables x s (outside (Outside s) tt refl) m.v m.fits m.holds);
      meets = λ t h. let m = meant s t h in subst (AlwaysMeets (StepsOf q (side_of s)) (InCutOf q (side_of s)) n) m.is (semantic s m.v m.fits m.holds);
    }

    each_side : (s : Side) → KeepsMeeting (StepsOf q s) (InCutOf q s) n (IsStateOf q p s)
    each_side left = keeps side.Left
    each_side right = keeps side.Right

    pub grounded : (v : List Value) → IsValuation variables v → truth x.condition v ≡ true → IsWellGroundedAt q n p
    grounded v fits holds =
        let r = (posed.exact (trees v) (tree_of v x.left.start) (tree_of v x.right.start)).1 (v, refl, record { fits = fits; holds = holds; left = refl; right = refl }) in
        record { held = (trees v, r.holds); sides = each_side }

module _ {N : Type 0} (q : Problem) (n : ℕ) (p : Point) (variables : List DataSort) (x : SeenPoint N) (posed : IsPosed variables q p (posed_of x)) (searched : IsSearched q n variables x) where
  -- from the state of a side that is never long no run is long
  pub short_right : ¬ IsLongPoint q n p right → (w : Trees) (a b : Tree) → Relates q p w a b → (t : Tree) → t ≡ b → (run : List (ℕ × Tree)) → ¬ IsLong (StepsOf q right) (InCutOf q right) n t run
  short_right short w a b r t e run is = short (t, record { valuation = w; left_state = a; right_state = b; relates = r; is = sym e }, (run, is))

  pub short_left : ¬ IsLongPoint q n p left → (w : Trees) (a b : Tree) → Relates q p w a b → (t : Tree) → t ≡ a → (run : List (ℕ × Tree)) → ¬ IsLong (StepsOf q left) (InCutOf q left) n t run
  short_left short w a b r t e run is = short (t, record { valuation = w; left_state = a; right_state = b; relates = r; is = sym e }, (run, is))

  module _ (w : Trees) (a b : Tree) (r : Relates q p w a b) where
    -- the values of the variables under which the configurations mean the pair
    values : (v : List Value) × (w ≡ trees v) × MeansPair variables (posed_of x) v a b
    values = (posed.exact w a b).0 r

    pub v : List Value
    v = values.0

    pair : MeansPair variables (posed_of x) v a b
    unfolding v
    pair = values.2

    right_leaf : ¬ IsLongPoint q n p right → (b' : Tree) → SucceedsOf q right b b' → (k : ℕ) × (l : SeenLeaf N) × (slice_get x.right.met k ≡ Some l) × (truth l.condition v ≡ true) × (tree_of v l.state ≡ b')
    right_leaf short b' h =
        to_leaf q variables x n searched side.Right v pair.fits pair.holds (short_right short w a b r (tree_of v x.right.start) pair.right) b'
        (subst (λ t. SucceedsOf q right t b') (sym pair.right) h)

    left_leaf : ¬ IsLongPoint q n p left → (a' : Tree) → SucceedsOf q left a a' → (k : ℕ) × (l : SeenLeaf N) × (slice_get x.left.met k ≡ Some l) × (truth l.condition v ≡ true) × (tree_of v l.state ≡ a')
    left_leaf short a' h =
        to_leaf q variables x n searched side.Left v pair.fits pair.holds (short_left short w a b r (tree_of v x.left.start) pair.left) a'
        (subst (λ t. SucceedsOf q left t a') (sym pair.left) h)

    -- a leaf with a property that holds means a cut successor with it
    left_successor : (P : Tree → Type 0) → SomeHolds v P x.left.met → (a' : Tree) × SucceedsOf q left a a' × P a'
    left_successor P some =
        let l = leaf_at (λ (o : SeenLeaf N). (truth o.condition v ≡ true) × P (tree_of v o.state)) x.left.met some in
        (tree_of v l.1.state, subst (λ t. SucceedsOf q left t (tree_of v l.1.state)) pair.left (from_leaf q variables x n searched side.Left v pair.fits pair.holds l.0 l.1 l.2 l.3.0), l.3.1)

    right_successor : (P : Tree → Type 0) → SomeHolds v P x.right.met → (b' : Tree) × SucceedsOf q right b b' × P b'
    right_successor P some =
        let l = leaf_at (λ (o : SeenLeaf N). (truth o.condition v ≡ true) × P (tree_of v o.state)) x.right.met some in
        (tree_of v l.1.state, subst (λ t. SucceedsOf q right t (tree_of v l.1.state)) pair.right (from_leaf q variables x n searched side.Right v pair.fits pair.holds l.0 l.1 l.2 l.3.0), l.3.1)

    excused : ¬ IsLongPoint q n p right → Excludes IsRightFailure q variables x → (b' : Tree) → SucceedsOf q right b b' → ((a' : Tree) × SucceedsOf q left a a' × Related q a' b') ⊎ ((a' : Tree) × SucceedsOf q left a a' × IsUndefined q a')
    excused short none b' h =
        let l = right_leaf short b' h in
        let c = cleared q variables x (RightFails l.0) (none (RightFails l.0) tt (is_some (leaf_of x (RightFails l.0)) l.1 l.2)) l.1 l.2 v pair.fits l.3 in
        let s = left_successor (λ t. Related q t (tree_of v l.1.state) ⊎ IsUndefined q t) c in
        elim s.2 [ inl m ↦ inl (s.0, s.1, subst (Related q s.0) l.4 m) | inr u ↦ inr (s.0, s.1, u) ]

    right_partner : ¬ IsLongPoint q n p right → Excludes IsRightMiss q variables x → (b' : Tree) → SucceedsOf q right b b' → (a' : Tree) × SucceedsOf q left a a' × Related q a' b'
    right_partner short none b' h =
        let l = right_leaf short b' h in
        let c = cleared q variables x (RightMisses l.0) (none (RightMisses l.0) tt (is_some (leaf_of x (RightMisses l.0)) l.1 l.2)) l.1 l.2 v pair.fits l.3 in
        let s = left_successor (λ t. Related q t (tree_of v l.1.state)) c in
        (s.0, s.1, subst (Related q s.0) l.4 s.2)

    left_partner : ¬ IsLongPoint q n p left → Excludes IsLeftFailure q variables x → (a' : Tree) → SucceedsOf q left a a' → (b' : Tree) × SucceedsOf q right b b' × Related q a' b'
    left_partner short none a' h =
        let l = left_leaf short a' h in
        let c = cleared q variables x (LeftFails l.0) (none (LeftFails l.0) tt (is_some (leaf_of x (LeftFails l.0)) l.1 l.2)) l.1 l.2 v pair.fits l.3 in
        let s = right_successor (λ t. Related q (tree_of v l.1.state) t) c in
        (s.0, s.1, subst (λ t. Related q t s.0) l.4 s.2)

pub right_failures_law : (N : Type 0) → ExcludedRightFailures N
right_failures_law N q n p variables x posed searched short none w a b r = excused q n p variables x posed searched w a b r short none

pub right_misses_law : (N : Type 0) → ExcludedRightMisses N
right_misses_law N q n p variables x posed searched short none w a b r = right_partner q n p variables x posed searched w a b r short none

pub left_failures_law : (N : Type 0) → ExcludedLeftFailures N
left_failures_law N q n p variables x posed searched short none w a b r = left_partner q n p variables x posed searched w a b r short none

pub void_law : (N : Type 0) → FalsePointsAreVoid N
void_law N q p variables x posed never w holds =
    let m = (posed.exact w _ _).0 (record { holds = holds; left = refl; right = refl }) in
    let t : true ≡ false = sym m.2.holds ∙ never m.0 m.2.fits in
    cc

pub outside_law : (N : Type 0) → ExcludedOutside N
outside_law N q variables x s e = inside q variables x s e

pub long_law : (N : Type 0) → ExcludedLong N
long_law N q n variables x s searched all v fits holds = no_long q variables x n searched s v fits holds all

pub halted_law : (N : Type 0) → ExcludedHalted N
halted_law N q n variables x s searched all v fits holds = no_halted q variables x n searched s v fits holds all

pub grounded_law : (N : Type 0) → ExcludedIsGrounded N
grounded_law N q n p variables x posed searched v fits holds outside runs = grounded q p variables x posed n searched outside runs v fits holds
