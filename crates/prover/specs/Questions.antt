-- Conditions as clauses.
use Rattle.std.specs.Prelude.{Bool, List}
use Rattle.data_value.specs.declared.DataSort.{DataSort}
use Rattle.data_value.specs.declared.Value.{Value}
use Rattle.data_value.specs.Nodes.{Seen}
use Rattle.refute_check.specs.Truth.{assigned}
use Rattle.clause_search.specs.Found.{IsModelOf, IsSatisfiable}
use Rattle.bv_blast.specs.Inputs.{words_of}
use Rattle.map_reads.specs.Lifted.{lifted}
use Rattle.prover.specs.declared.question.Question.{Question}
use Rattle.prover.specs.Answers.{IsTrueUnder, IsSometimesTrue}

-- The truth values are a model of a question's clauses.
abbrev pub IsModelFor : Question → List Bool → Type 0
IsModelFor q model = IsModelOf q.circuit.clauses.vars q.circuit.clauses.list model

-- The valuation that a model of a question's clauses spells.
abbrev pub spelled : Question → List Bool → List Value
spelled q model = lifted q.reads (words_of (assigned model) q.circuit.inputs)

-- A question whose clauses have a model exactly where some valuation of the variables makes s true, and each model of which spells such a valuation.
pub record IsQuestion {N : Type 0} (variables : List DataSort) (s : Seen N) (q : Question) : Type 0 where
  pub models : (model : List Bool) → IsModelFor q model → IsTrueUnder variables s (spelled q model)
  pub complete : IsSometimesTrue variables s → IsSatisfiable q.circuit.clauses.list
