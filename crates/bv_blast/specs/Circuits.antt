-- What it is for clauses to say what a formula says.
use Rattle.std.specs.Prelude.{ℕ, ◌≡◌, Bool, true, List}
use Rattle.refute_check.specs.Truth.{all_true, assigned}
use Rattle.data_value.specs.declared.flat_formula.Flat.{Flat}
use Rattle.data_value.specs.Flat.{AreWords, MakesTrue}
use Rattle.bv_blast.specs.declared.circuit.Circuit.{Circuit}
use Rattle.bv_blast.specs.Inputs.{words_of, widths_of}

-- the words make the formula true
abbrev pub IsTrueOf : Flat → List ℕ → Type 0
IsTrueOf flat words = AreWords flat.widths words × MakesTrue flat.widths flat.nodes flat.root words

-- an assignment makes the clauses of a circuit true
abbrev pub Satisfies : (ℕ → Bool) → Circuit → Type 0
Satisfies a circuit = all_true a circuit.clauses.list ≡ true

-- an assignment that makes the clauses true, and whose inputs spell these words
pub record Spelling (circuit : Circuit) (words : List ℕ) : Type 0 where
  pub bits : ℕ → Bool
  pub holds : Satisfies bits circuit
  pub spells : words_of bits circuit.inputs ≡ words

-- The inputs have the formula's widths; every assignment that makes the clauses true spells words that make the formula true; and
-- all words that make it true are spelled by such an assignment.
pub record IsCircuitOf (flat : Flat) (circuit : Circuit) : Type 0 where
  pub widths : widths_of circuit.inputs ≡ flat.widths
  pub sound : (a : ℕ → Bool) → Satisfies a circuit → IsTrueOf flat (words_of a circuit.inputs)
  pub complete : (words : List ℕ) → IsTrueOf flat words → Spelling circuit words

-- What a model of a formula's circuit spells makes the formula true.
abbrev pub ModelsMakeTrue : Type 0
ModelsMakeTrue = (flat : Flat) (circuit : Circuit) (model : List Bool) → IsCircuitOf flat circuit → Satisfies (assigned model) circuit → IsTrueOf flat (words_of (assigned model) circuit.inputs)
