-- Which text is that of a program of a semantics, and which that of a state.
use Rattle.std.specs.Prelude.{ℕ, List, Some}
use Rattle.rule_text.specs.Faults.{IsWholeText}
use Rattle.sort_term.specs.Step.{Tables}
use Rattle.sort_term.specs.System.{System}
use Rattle.sort_term.specs.Tree.{Tree}
use Rattle.program_text.specs.Rows.{no_rows, program_loading}
use Rattle.program_text.specs.States.{no_start, start_loading}

-- the text is that of items that make the rows of the program
pub record IsProgramText (s : System) (bytes : List ℕ) (program : Tables) : Type 0 where
  pub whole : IsWholeText program_loading (no_rows s) bytes (record { semantics = s; rows = program })

-- the text is that of one item, which writes the tree
pub record IsStartText (s : System) (bytes : List ℕ) (tree : Tree) : Type 0 where
  pub whole : IsWholeText start_loading (no_start s) bytes (record { semantics = s; tree = Some tree })
