-- What is left to do of a walk. Lists of tasks, and of places that were found, have the next one first.
use Rattle.std.specs.Prelude.{◌≡◌, ℕ, ◌+◌, ◌*◌, ◌<◌, IsTrue, List, [], ◌∷◌, ◌++◌, map, reverse, take, drop, length, Option, Some, None}
use Rattle.data_value.specs.Nodes.{Seen}
use Rattle.data_value.specs.Views.{BeginsWith, shown_args}
use Rattle.node_list.specs.declared.line.Line.{Line}
use Rattle.node_list.specs.declared.walk.Task.{Task}
use Rattle.node_list.specs.declared.walk.Task.TheVariants.{Find, Append}
use Rattle.node_list.specs.Listed.{StandsAt, StandAt, IsListing}

-- how many arguments a node has
abbrev pub arity : {N : Type 0} → Seen N → ℕ
arity s = length (shown_args s.shown)

-- the tasks find a place of each node in turn, and append the line of a node from places of its arguments that were found; at the end
-- one place was found, which is the last one, and there stands the root
abbrev pub LeadsTo : {N : Type 0} → (N → Seen N) → Seen N → List (Task N) → List (Line N) → List ℕ → Type 0
LeadsTo look root [] lines found = (p : ℕ) × (found ≡ p ∷ []) × (length lines ≡ p + 1) × StandsAt look lines p root
LeadsTo {N} look root (Find n ∷ tasks) lines found =
    (more : List (Line N)) (p : ℕ) → BeginsWith more lines → StandsAt look more p (look n) → LeadsTo look root tasks more (p ∷ found)
LeadsTo {N} look root (Append n ∷ tasks) lines found =
    StandAt look lines (take (arity (look n)) found) (shown_args (look n).shown)
    × ((more : List (Line N)) (p : ℕ) → BeginsWith more lines → length more ≡ p + 1 → StandsAt look more p (look n) → LeadsTo look root tasks more (p ∷ drop (arity (look n)) found))

-- the nodes whose lines are to be appended stand higher than h
abbrev pub AreAbove : {N : Type 0} → (N → Seen N) → ℕ → List (Task N) → Type 0
AreAbove look h [] = Unit {0}
AreAbove look h (Find n ∷ tasks) = AreAbove look h tasks
AreAbove look h (Append n ∷ tasks) = (h < (look n).height) × AreAbove look h tasks

-- no place is kept under the number of the node
abbrev pub IsNew : {N : Type 0} → Seen N → (ℕ → Option ℕ) → Type 0
IsNew s places = (i : ℕ) → s.id ≡ Some i → places i ≡ None

-- the tasks are of nodes, those whose lines are to be appended have none yet, and each task is of a lower node than those behind it
abbrev pub AreOpen : {N : Type 0} → (N → Seen N) → (ℕ → Option ℕ) → List (Task N) → Type 0
AreOpen look places [] = Unit {0}
AreOpen look places (Find n ∷ tasks) = IsTrue (look n).valid × AreAbove look (look n).height tasks × AreOpen look places tasks
AreOpen look places (Append n ∷ tasks) = IsTrue (look n).valid × AreAbove look (look n).height tasks × IsNew (look n) places × AreOpen look places tasks

-- how many turns the tasks may take
abbrev pub turns : {N : Type 0} → (N → Seen N) → List (Task N) → ℕ
turns look [] = 0
turns look (Find n ∷ tasks) = 2 * (look n).size + turns look tasks
turns look (Append n ∷ tasks) = 1 + turns look tasks

-- before the tasks stand those that find nodes which look as these, the last one first
pub record HasFinds {N : Type 0} (look : N → Seen N) (nodes : List N) (before after : List (Task N)) : Type 0 where
  pub finds : List N
  pub alike : map look (reverse finds) ≡ map look nodes
  pub is : after ≡ map Find finds ++ before

-- a node that looks as s is opened: its line is to be appended once its arguments are found
pub record IsOpened {N : Type 0} (look : N → Seen N) (s : Seen N) (before after : List (Task N)) : Type 0 where
  pub last : N
  pub same : look last ≡ s
  pub args : HasFinds look (shown_args s.shown) (Append last ∷ before) after

-- a place of the node is found, or the node is opened
pub data IsSought {N : Type 0} (look : N → Seen N) (s : Seen N) (lines : List (Line N)) (places : ℕ → Option ℕ) (tasks after : List (Task N)) (found more : List ℕ) : Type 0 where
  known : (p : ℕ) → StandsAt look lines p s → more ≡ p ∷ found → after ≡ tasks → IsSought look s lines places tasks after found more
  opened : IsNew s places → IsOpened look s tasks after → more ≡ found → IsSought look s lines places tasks after found more

-- the line of a node is appended, and its place is found in place of those of its arguments
pub record IsAppended {N : Type 0} (look : N → Seen N) (s : Seen N) (lines more : List (Line N)) (places after : ℕ → Option ℕ) (found next : List ℕ) : Type 0 where
  pub begins : BeginsWith more lines
  pub place : ℕ
  pub end : length more ≡ place + 1
  pub stands : StandsAt look more place s
  pub is : next ≡ place ∷ drop (arity s) found
  pub others : (i : ℕ) → (s.id ≡ Some i → ⊥) → after i ≡ places i

-- what is known of a walk from a node that looks as root
pub record IsWalk {N : Type 0} (look : N → Seen N) (root : Seen N) (tasks : List (Task N)) (lines : List (Line N)) (places : ℕ → Option ℕ) (found : List ℕ) : Type 0 where
  pub listing : IsListing look lines places
  pub pending : AreOpen look places tasks
  pub leads : LeadsTo look root tasks lines found
