-- What follows where a question can't be true, and where it is.
use Rattle.std.specs.Prelude.{◌≡◌, ◌↔◌, ℕ, ◌≤◌, true, false, List, [], length, take, IsSome, ⊤}
use Rattle.data_value.specs.declared.DataSort.{DataSort}
use Rattle.data_value.specs.declared.Value.{Value}
use Rattle.data_value.specs.Nodes.{Seen, IsValuation}
use Rattle.data_value.specs.Truth.{truth}
use Rattle.sort_term.specs.declared.points.Point.{Point}
use Rattle.sort_term.specs.declared.problem.Problem.{Problem}
use Rattle.sort_term.specs.Tree.{Tree}
use Rattle.sort_term.specs.Runs.{IsLong, IsHalted, MetTo, LongTo, HaltedTo}
use Rattle.sort_term.specs.Relation.{left, right, of_side, Relates, Related, StepsOf, InCutOf, SucceedsOf, IsUndefined, Void, Long as IsLongPoint}
use Rattle.sort_term.specs.Simulation.{IsWellGroundedAt, RightMatches, LeftMatches, RightIsExcused}
use Rattle.sort_term.specs.NodeTerms.{tree_of}
use Rattle.path_condition.specs.Leaves.{Gives}
use Rattle.ground_step.specs.declared.verdict.SideName.{SideName}
use Rattle.ground_step.specs.Shows.{side_of}
use Rattle.point_questions.specs.declared.question.Flaw.{Flaw}
use Rattle.point_questions.specs.declared.question.Flaw.TheVariants.{Outside, Long, Halted, RightFails, RightMisses, LeftFails}
use Rattle.point_questions.specs.Posed.{SeenPosed, IsPosed, trees}
use Rattle.point_questions.specs.Questions.{SeenSide, SeenPoint, posed_of, searched_side, leaf_of, IsQuestion, IsOutsideFlaw, IsRunFlaw, IsRightFailure, IsRightMiss, IsLeftFailure}

-- Where the domain's variables have the values v, the leaves of a side give exactly its met, long and halted runs of at most n steps, where
-- the condition is true. A search promises it where none of the leaves that it dropped holds.
pub record IsSearchedAt {N : Type 0} (Steps : ℕ → Tree → Tree → Type 0) (In : Tree → Type 0) (n : ℕ) (condition : Seen N) (x : SeenSide N) (v : List Value) : Type 0 where
  pub met : (rules : List ℕ) (t : Tree) → Gives v rules t x.met ↔ ((truth condition v ≡ true) × MetTo Steps In n (tree_of v x.start) rules t)
  pub long : (rules : List ℕ) (t : Tree) → Gives v rules t x.long ↔ ((truth condition v ≡ true) × LongTo Steps In n (tree_of v x.start) rules t)
  pub halted : (rules : List ℕ) (t : Tree) → Gives v rules t x.halted ↔ ((truth condition v ≡ true) × HaltedTo Steps In n (tree_of v x.start) rules t)

-- so it is with both sides of a point, under all valuations
abbrev pub IsSearched : {N : Type 0} → Problem → ℕ → List DataSort → SeenPoint N → Type 0
IsSearched q n variables x =
    (v : List Value) → IsValuation variables v → (side : SideName) → IsSearchedAt (StepsOf q (side_of side)) (InCutOf q (side_of side)) n x.condition (searched_side x side) v

-- a question for the flaw can't be true: it is under no valuation of the variables that there were when it was asked
pub record IsExcluded {N : Type 0} (q : Problem) (variables : List DataSort) (x : SeenPoint N) (flaw : Flaw) : Type 0 where
  pub now : List DataSort
  pub formula : Seen N
  pub question : IsQuestion q variables now x flaw formula
  pub never : (u : List Value) → IsValuation now u → truth formula u ≡ false

-- no flaw of a kind can be: for each leaf that there is
abbrev pub Excludes : {N : Type 0} → (Flaw → Type 0) → Problem → List DataSort → SeenPoint N → Type 0
Excludes Of q variables x = (flaw : Flaw) → Of flaw → IsSome (leaf_of x flaw) → IsExcluded q variables x flaw

-- Where a condition is true under no valuation, the point is void.
abbrev pub FalsePointsAreVoid : Type 0 → Type 0
FalsePointsAreVoid N =
    (q : Problem) (p : Point) (variables : List DataSort) (x : SeenPosed N) → IsPosed variables q p x → ((v : List Value) → IsValuation variables v → truth x.condition v ≡ false) → Void q p

-- Where no question "outside" of a side can be true, what its configuration means is in the cut.
abbrev pub ExcludedOutside : Type 0 → Type 0
ExcludedOutside N =
    (q : Problem) (variables : List DataSort) (x : SeenPoint N) (side : SideName) → IsExcluded q variables x (Outside side) → (v : List Value) → IsValuation variables v → truth x.condition v ≡ true → InCutOf q (side_of side) (tree_of v (searched_side x side).start)

-- Where no question "long" of a side can be true, no run from there of n steps stays outside the cut.
abbrev pub ExcludedLong : Type 0 → Type 0
ExcludedLong N =
    (q : Problem) (n : ℕ) (variables : List DataSort) (x : SeenPoint N) (side : SideName) → IsSearched q n variables x → ((i : ℕ) → IsSome (leaf_of x (Long side i)) → IsExcluded q variables x (Long side i)) → (v : List Value) → IsValuation variables v → truth x.condition v ≡ true → (run : List (ℕ × Tree)) → ¬ IsLong (StepsOf q (side_of side)) (InCutOf q (side_of side)) n (tree_of v (searched_side x side).start) run

-- Where no question "halted" of a side can be true, no run from there of at most n steps stops outside the cut.
abbrev pub ExcludedHalted : Type 0 → Type 0
ExcludedHalted N =
    (q : Problem) (n : ℕ) (variables : List DataSort) (x : SeenPoint N) (side : SideName) → IsSearched q n variables x → ((i : ℕ) → IsSome (leaf_of x (Halted side i)) → IsExcluded q variables x (Halted side i)) → (v : List Value) → IsValuation variables v → truth x.condition v ≡ true → (run : List (ℕ × Tree)) → IsHalted (StepsOf q (side_of side)) (InCutOf q (side_of side)) (tree_of v (searched_side x side).start) run → ¬ (length run ≤ n)

-- Where some valuation makes the condition true, and no question of these three kinds can be true, the point is well grounded for n steps.
abbrev pub ExcludedIsGrounded : Type 0 → Type 0
ExcludedIsGrounded N =
    (q : Problem) (n : ℕ) (p : Point) (variables : List DataSort) (x : SeenPoint N) → IsPosed variables q p (posed_of x) → IsSearched q n variables x → (v : List Value) → IsValuation variables v → truth x.condition v ≡ true → Excludes IsOutsideFlaw q variables x → Excludes IsRunFlaw q variables x → IsWellGroundedAt q n p

-- Where no question "right fails" can be true, and no run of the right is long, each right cut successor has a partner, or the left comes to
-- an undefined state.
abbrev pub ExcludedRightFailures : Type 0 → Type 0
ExcludedRightFailures N =
    (q : Problem) (n : ℕ) (p : Point) (variables : List DataSort) (x : SeenPoint N) → IsPosed variables q p (posed_of x) → IsSearched q n variables x → ¬ IsLongPoint q n p right → Excludes IsRightFailure q variables x → RightIsExcused q p

-- Where no question "right misses" can be true, and no run of the right is long, each right cut successor has a partner.
abbrev pub ExcludedRightMisses : Type 0 → Type 0
ExcludedRightMisses N =
    (q : Problem) (n : ℕ) (p : Point) (variables : List DataSort) (x : SeenPoint N) → IsPosed variables q p (posed_of x) → IsSearched q n variables x → ¬ IsLongPoint q n p right → Excludes IsRightMiss q variables x → RightMatches q p

-- Where no question "left fails" can be true, and no run of the left is long, each left cut successor has a partner.
abbrev pub ExcludedLeftFailures : Type 0 → Type 0
ExcludedLeftFailures N =
    (q : Problem) (n : ℕ) (p : Point) (variables : List DataSort) (x : SeenPoint N) → IsPosed variables q p (posed_of x) → IsSearched q n variables x → ¬ IsLongPoint q n p left → Excludes IsLeftFailure q variables x → LeftMatches q p

-- a run of the flaw's side with these rules to the state t shows the flaw of the states a and b, for n steps
abbrev pub IsFlaw : Problem → ℕ → Flaw → Tree → Tree → List ℕ → Tree → Type 0
IsFlaw q n (Outside s) a b rules t = (rules ≡ []) × (of_side (side_of s) a b ≡ t) × ¬ InCutOf q (side_of s) t
IsFlaw q n (Long s i) a b rules t = LongTo (StepsOf q (side_of s)) (InCutOf q (side_of s)) n (of_side (side_of s) a b) rules t
IsFlaw q n (Halted s i) a b rules t = HaltedTo (StepsOf q (side_of s)) (InCutOf q (side_of s)) n (of_side (side_of s) a b) rules t
IsFlaw q n (RightFails i) a b rules t =
    MetTo (StepsOf q right) (InCutOf q right) n b rules t × ((a' : Tree) → SucceedsOf q left a a' → ¬ Related q a' t) × ((a' : Tree) → SucceedsOf q left a a' → ¬ IsUndefined q a')
IsFlaw q n (RightMisses i) a b rules t = MetTo (StepsOf q right) (InCutOf q right) n b rules t × ((a' : Tree) → SucceedsOf q left a a' → ¬ Related q a' t)
IsFlaw q n (LeftFails i) a b rules t = MetTo (StepsOf q left) (InCutOf q left) n a rules t × ((b' : Tree) → SucceedsOf q right b b' → ¬ Related q t b')

-- what a question for the flaw needs to show it: that both sides are searched, and of a missing partner that no run of the other side is long
abbrev pub CanShow : {N : Type 0} → Problem → ℕ → Point → List DataSort → SeenPoint N → Flaw → Type 0
CanShow q n p variables x (Outside s) = ⊤
CanShow q n p variables x (Long s i) = IsSearched q n variables x
CanShow q n p variables x (Halted s i) = IsSearched q n variables x
CanShow q n p variables x (RightFails i) = IsSearched q n variables x × ¬ IsLongPoint q n p left
CanShow q n p variables x (RightMisses i) = IsSearched q n variables x × ¬ IsLongPoint q n p left
CanShow q n p variables x (LeftFails i) = IsSearched q n variables x × ¬ IsLongPoint q n p right

-- under the values v the configurations mean a related pair of the point, and the flaw's leaf a run that shows the flaw
pub record ShowsFlaw {N : Type 0} (q : Problem) (n : ℕ) (p : Point) (x : SeenPoint N) (flaw : Flaw) (rules : List ℕ) (t : Tree) (v : List Value) : Type 0 where
  pub pair : Relates q p (trees v) (tree_of v x.left.start) (tree_of v x.right.start)
  pub shown : IsFlaw q n flaw (tree_of v x.left.start) (tree_of v x.right.start) rules t

-- Where a valuation makes the formula of a question true, the values of the point's variables in it show the flaw.
abbrev pub TrueQuestionsShow : Type 0 → Type 0
TrueQuestionsShow N =
    (q : Problem) (n : ℕ) (p : Point) (variables now : List DataSort) (x : SeenPoint N) → IsPosed variables q p (posed_of x) → (flaw : Flaw) (s : Seen N) (question : IsQuestion q variables now x flaw s) → CanShow q n p variables x flaw → (u : List Value) → IsValuation now u → truth s u ≡ true → ShowsFlaw q n p x flaw question.leaf.rules (tree_of (take (length variables) u) question.leaf.state) (take (length variables) u)
