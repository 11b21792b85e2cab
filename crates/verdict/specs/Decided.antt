-- Questions that are decided one after the other.
use Rattle.std.specs.Prelude.{◌≡◌, ℕ, List, take, slice_get, Option, Some, All, MatchOption}
use Rattle.data_value.specs.declared.DataSort.{DataSort}
use Rattle.prover.specs.Answers.{IsNeverTrue, IsTrueUnder}
use Rattle.point_questions.specs.Questions.{SeenQuestion}
use Rattle.verdict.specs.declared.deciding.FoundFlaw.{FoundFlaw}

-- these questions are true under no valuation
abbrev pub AreNeverTrue : {N : Type 0} → List DataSort → List (SeenQuestion N) → Type 0
AreNeverTrue variables questions = All (λ y. IsNeverTrue variables y.formula) questions

-- the first question that is true under some valuation asks for the flaw, and is true under the values
pub record IsFoundFirst {N : Type 0} (variables : List DataSort) (questions : List (SeenQuestion N)) (found : FoundFlaw) : Type 0 where
  pub place : ℕ
  pub question : SeenQuestion N
  pub there : slice_get questions place ≡ Some question
  pub asks : question.flaw ≡ found.flaw
  pub holds : IsTrueUnder variables question.formula found.values
  pub before : AreNeverTrue variables (take place questions)

-- it, or none where all are true under no valuation
abbrev pub IsFirstTrue : {N : Type 0} → List DataSort → List (SeenQuestion N) → Option FoundFlaw → Type 0
IsFirstTrue variables questions found = MatchOption found (AreNeverTrue variables questions) (IsFoundFirst variables questions)
