-- What the nodes of a symbolic domain show.
use Rattle.std.specs.Prelude.{◌≡◌, ℕ, ◌+◌, ◌<◌, max, false, IsTrue, List, [], ◌∷◌, ◌++◌, slice_get, slice_index_or, All, Option, Some, None}
use Rattle.data_value.specs.declared.DataSort.{DataSort}
use Rattle.data_value.specs.declared.Scalar.{Scalar}
use Rattle.data_value.specs.declared.Scalar.TheVariants as scalar
use Rattle.data_value.specs.declared.Value.{Value}
use Rattle.data_value.specs.declared.Value.TheVariants as value
use Rattle.data_value.specs.declared.symbolic.View.{View}
use Rattle.data_value.specs.declared.symbolic.View.TheVariants as view
use Rattle.data_value.specs.Sorts.{op_sort}
use Rattle.data_value.specs.Values.{IsValue, value_sort}
use Rattle.data_value.specs.Ops.{op_value}
use Rattle.data_value.specs.Nodes.{Seen, Shown, Variable, Constant, Apply, AllValid, sorts_of, meanings_of, sizes_of, known_scalar}

-- What a view shows.
abbrev pub shown_in : {N : Type 0} → View N → Shown N
shown_in (view.Variable i) = Variable i
shown_in (view.Constant x) = Constant x.now
shown_in (view.Apply op nodes) = Apply op nodes.now

-- A list begins with another.
abbrev pub BeginsWith : {X : Type 0} → List X → List X → Type 0
BeginsWith {X} whole front = (rest : List X) × (whole ≡ front ++ rest)

-- The value that a valuation gives the variable i.
abbrev pub value_at : List Value → ℕ → Value
value_at v i = slice_index_or v i (value.One (scalar.Flag false))

-- The value, the sort, the known scalar, the arguments and the size as a tree of what is shown.
abbrev pub shown_value : {N : Type 0} → (N → Seen N) → List Value → Shown N → Value
shown_value look v (Variable i) = value_at v i
shown_value look v (Constant x) = x
shown_value look v (Apply op nodes) = op_value op (meanings_of look v nodes)

abbrev pub shown_sort : {N : Type 0} → (N → Seen N) → List DataSort → Shown N → Option DataSort
shown_sort look variables (Variable i) = slice_get variables i
shown_sort look variables (Constant x) = Some (value_sort x)
shown_sort look variables (Apply op nodes) = op_sort op (sorts_of look nodes)

abbrev pub shown_known : {N : Type 0} → Shown N → Option Scalar
shown_known (Variable i) = None
shown_known (Constant x) = known_scalar x
shown_known (Apply op nodes) = None

abbrev pub shown_args : {N : Type 0} → Shown N → List N
shown_args (Variable i) = []
shown_args (Constant x) = []
shown_args (Apply op nodes) = nodes

abbrev pub shown_size : {N : Type 0} → (N → Seen N) → Shown N → ℕ
shown_size look shown = 1 + sizes_of look (shown_args shown)

-- Where the second number is there, so is the first, and it is smaller.
abbrev pub IsBelow : Option ℕ → Option ℕ → Type 0
IsBelow j None = Unit {0}
IsBelow None (Some i) = ⊥
IsBelow (Some j) (Some i) = j < i

-- A constant that is shown is a value.
abbrev pub IsShownValue : {N : Type 0} → Shown N → Type 0
IsShownValue (Variable i) = Unit {0}
IsShownValue (Constant x) = IsValue x
IsShownValue (Apply op nodes) = Unit {0}

-- A node is what it shows, over arguments that are nodes too and stand lower.
pub record IsShown {N : Type 0} (look : N → Seen N) (variables : List DataSort) (n : N) : Type 0 where
  pub means : (v : List Value) → (look n).meaning v ≡ shown_value look v (look n).shown
  pub sort : shown_sort look variables (look n).shown ≡ Some (look n).sort
  -- it is known exactly where a scalar constant is shown
  pub known : (look n).known ≡ shown_known (look n).shown
  pub size : (look n).size ≡ shown_size look (look n).shown
  pub lawful : IsShownValue (look n).shown
  pub args_valid : AllValid look (shown_args (look n).shown)
  pub args_lower : All (λ m. (look m).height < (look n).height) (shown_args (look n).shown)
  -- where it is kept under a number, its arguments are kept under smaller ones
  pub args_earlier : All (λ m. IsBelow (look m).id (look n).id) (shown_args (look n).shown)

-- What holds of every symbolic domain.
pub record IsViewed {N : Type 0} (look : N → Seen N) (variables : List DataSort) : Type 0 where
  pub shows : (n : N) → IsTrue (look n).valid → IsShown look variables n
  -- nodes that are kept under one number are the same in all that they are
  pub one_by_id : (m n : N) (i : ℕ) → IsTrue (look m).valid → IsTrue (look n).valid → (look m).id ≡ Some i → (look n).id ≡ Some i → look m ≡ look n

-- Two nodes that are kept under one number.
abbrev pub HaveOneId : {N : Type 0} → Seen N → Seen N → Type 0
HaveOneId s t = (i : ℕ) × (s.id ≡ Some i) × (t.id ≡ Some i)

-- A node that means the value of the variable i.
pub record IsVariable {N : Type 0} (look : N → Seen N) (variables : List DataSort) (i : ℕ) (n : N) : Type 0 where
  pub valid : IsTrue (look n).valid
  pub sort : slice_get variables i ≡ Some (look n).sort
  pub means : (v : List Value) → (look n).meaning v ≡ value_at v i

-- Two valuations give each of the first n variables one value.
pub record AgreeBelow (n : ℕ) (v w : List Value) : Type 0 where
  pub at : (i : ℕ) → i < n → value_at v i ≡ value_at w i

-- A number above the height of each of these nodes, for walks from a node to its arguments.
abbrev pub heights : {N : Type 0} → (N → Seen N) → List N → ℕ
heights look [] = 0
heights look (n ∷ nodes) = max ((look n).height + 1) (heights look nodes)
