-- What is decided of a condition.
use Rattle.std.specs.Prelude.{◌≡◌, true, false, List}
use Rattle.data_value.specs.declared.DataSort.{DataSort}
use Rattle.data_value.specs.declared.Value.{Value}
use Rattle.data_value.specs.Nodes.{Seen, IsValuation}
use Rattle.data_value.specs.Truth.{truth, IsCondition}
use Rattle.prover.specs.declared.answer.Answer.{Answer}
use Rattle.prover.specs.declared.answer.Answer.TheVariants.{Never, Holds}

-- A fact of the answer "never", or a fact of a valuation.
abbrev pub MatchAnswer : Answer → Type 0 → (List Value → Type 0) → Type 0
MatchAnswer Never P Q = P
MatchAnswer (Holds v) P Q = Q v

-- The answer is "never".
abbrev pub IsNever : Answer → Type 0
IsNever a = MatchAnswer a (Unit {0}) (λ _. ⊥)

-- The answer is a valuation.
abbrev pub IsHolds : Answer → Type 0
IsHolds a = MatchAnswer a ⊥ (λ _. Unit {0})

-- A valuation of the variables makes a condition true.
pub record IsTrueUnder {N : Type 0} (variables : List DataSort) (s : Seen N) (v : List Value) : Type 0 where
  pub fits : IsValuation variables v
  pub holds : truth s v ≡ true

-- No valuation of the variables makes a condition true.
abbrev pub IsNeverTrue : {N : Type 0} → List DataSort → Seen N → Type 0
IsNeverTrue variables s = (v : List Value) → IsValuation variables v → truth s v ≡ false

-- Some valuation of the variables makes a condition true.
abbrev pub IsSometimesTrue : {N : Type 0} → List DataSort → Seen N → Type 0
IsSometimesTrue variables s = (v : List Value) × IsTrueUnder variables s v

-- A condition t is true under the same valuations of the variables as s.
pub record IsTrueWith {N : Type 0} (variables : List DataSort) (s t : Seen N) : Type 0 where
  pub condition : IsCondition t
  pub means : (v : List Value) → IsValuation variables v → truth t v ≡ truth s v
