-- What the parts of a search find.
use Rattle.std.specs.Prelude.{◌≢◌, ◌⊎◌, ℕ, Bool, true, false, List, [], All, map}
use Rattle.data_value.specs.declared.DataSort.{DataSort}
use Rattle.data_value.specs.Nodes.{Seen}
use Rattle.sort_term.specs.declared.term.Term.{Term}
use Rattle.sort_term.specs.System.{System}
use Rattle.sort_term.specs.Tree.{Tree}
use Rattle.sort_term.specs.Runs.{IsStuck, After, MetTo, LongTo, HaltedTo}
use Rattle.path_condition.specs.declared.leaf.Leaf.{Leaf}
use Rattle.path_condition.specs.Leaves.{SeenLeaf, seen_leaves}
use Rattle.cut_search.specs.declared.reach.Reach.{Reach}
use Rattle.cut_search.specs.Drops.{Giving, AreAmong, AreLeavesBut, EndsFrom, OpenTo, IsSettled}

-- the leaf under another condition
abbrev pub under : {N : Type 0} → Seen N → SeenLeaf N → SeenLeaf N
under condition l = record { condition = condition; state = l.state; rules = l.rules }

-- the lists of a reach, with each leaf seen as all that it is
pub record SeenReach (N : Type 0) : Type 0 where
  pub met : List (SeenLeaf N)
  pub long : List (SeenLeaf N)
  pub halted : List (SeenLeaf N)
  pub dropped : List (SeenLeaf N)

abbrev pub seen_reach : {S N : Type 0} → (N → Seen N) → Reach S N → SeenReach N
seen_reach look r = record { met = seen_leaves look r.met; long = seen_leaves look r.long; halted = seen_leaves look r.halted; dropped = seen_leaves look r.dropped }

-- what the lists of a reach give
pub record Found : Type 1 where
  pub met : Giving
  pub long : Giving
  pub halted : Giving
  pub dropped : Giving

-- what holds of the conditions of leaves that were dropped, for true, and of leaves that were kept, for false
abbrev pub Judgement : Type 0 → Type 1
Judgement N = Bool → Seen N → Type 0

abbrev pub judged_by : {N : Type 0} → (List DataSort → Seen N → Type 0) → (List DataSort → Seen N → Type 0) → List DataSort → List (Seen N) → Judgement N
judged_by Allows Keeps variables before true c = Allows variables c
judged_by Allows Keeps variables before false c = IsSettled (Keeps variables) before c

-- the conditions of leaves
abbrev pub conditions_of : {S N : Type 0} → (N → Seen N) → List (Leaf S N) → List (Seen N)
conditions_of look leaves = map (λ l. look l.condition) leaves

-- the lists give this but for what was dropped, and the conditions of all leaves are as they were judged
pub record IsReach {N : Type 0} (variables : List DataSort) (sys : System) (Judged : Judgement N) (found : Found) (r : SeenReach N) : Type 0 where
  pub met : AreLeavesBut variables sys r.dropped found.met r.met
  pub long : AreLeavesBut variables sys r.dropped found.long r.long
  pub halted : AreLeavesBut variables sys r.dropped found.halted r.halted
  pub dropped : AreAmong variables sys found.dropped r.dropped
  pub allowed : All (λ l. Judged true l.condition) r.dropped
  pub met_kept : All (λ l. Judged false l.condition) r.met
  pub long_kept : All (λ l. Judged false l.condition) r.long
  pub halted_kept : All (λ l. Judged false l.condition) r.halted

-- the leaves give what P relates but for what was dropped of it, and the conditions of all are as they were judged
pub record IsSifted {N : Type 0} (variables : List DataSort) (sys : System) (Judged : Judgement N) (P : Giving) (stay go : List (SeenLeaf N)) : Type 0 where
  pub kept : AreLeavesBut variables sys go P stay
  pub dropped : AreAmong variables sys P go
  pub allowed : All (λ l. Judged true l.condition) go
  pub settled : All (λ l. Judged false l.condition) stay

-- nothing
abbrev pub Nothing : Giving
Nothing v rules t = ⊥

-- of what A relates, the leaves in the cut and the others
abbrev pub SplitOf : (Tree → Type 0) → Giving → Found
SplitOf In A = record {
  met = λ v rules t. A v rules t × In t;
  long = λ v rules t. A v rules t × (¬ In t);
  halted = Nothing;
  dropped = A;
}

-- of what A relates, the runs of at least one step, as halted ones
abbrev pub MovedOf : Giving → Found
MovedOf A = record {
  met = Nothing;
  long = Nothing;
  halted = λ v rules t. A v rules t × (rules ≢ []);
  dropped = λ v rules t. A v rules t × (rules ≢ []);
}

-- of what A relates, the runs of at least one step that end without a next one
abbrev pub StopsOf : (ℕ → Tree → Tree → Type 0) → Giving → Found
StopsOf Steps A = record {
  met = Nothing;
  long = Nothing;
  halted = λ v rules t. A v rules t × ((rules ≢ []) × IsStuck Steps t);
  dropped = λ v rules t. A v rules t × (rules ≢ []);
}

-- one step more than what A relates, and the runs of at least one step that end there
abbrev pub NextOf : (ℕ → Tree → Tree → Type 0) → (Tree → Type 0) → Giving → Found
NextOf Steps In A = record {
  met = λ v. After Steps (A v) In;
  long = λ v. After Steps (A v) (λ t. ¬ In t);
  halted = λ v rules t. A v rules t × ((rules ≢ []) × IsStuck Steps t);
  dropped = λ v rules t. After Steps (A v) (λ _. Unit {0}) rules t ⊎ (A v rules t × (rules ≢ []));
}

-- what a search of at most n steps finds from what the configuration means, where the condition is true
abbrev pub SearchOf : {N : Type 0} → Seen N → Term (Seen N) → (ℕ → Tree → Tree → Type 0) → (Tree → Type 0) → ℕ → Found
SearchOf condition start Steps In n = record {
  met = EndsFrom condition start (MetTo Steps In n);
  long = EndsFrom condition start (LongTo Steps In n);
  halted = EndsFrom condition start (HaltedTo Steps In n);
  dropped = EndsFrom condition start (OpenTo Steps In n);
}
