-- Which text is that of a semantics.
use Rattle.std.specs.Prelude.{ℕ, List, Some}
use Rattle.rule_text.specs.Faults.{IsWholeText}
use Rattle.sort_term.specs.System.{System}
use Rattle.semantics_load.specs.Declaring.{Declared, nothing}
use Rattle.semantics_load.specs.Loads.{semantics_loading}

-- all that a semantics declares
abbrev pub declared_by : System → Declared
declared_by s = record { sorts = s.sorts; cons = s.cons; tables = s.tables; config = Some s.config; rules = s.rules }

-- the text is that of items that declare the semantics
pub record IsSemanticsText (bytes : List ℕ) (s : System) : Type 0 where
  pub whole : IsWholeText semantics_loading nothing bytes (declared_by s)
