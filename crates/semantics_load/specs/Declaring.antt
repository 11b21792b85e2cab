-- What the items of a semantics declare, one after the other.
use Rattle.std.specs.Prelude.{ℕ, List, [], Option, None, refl}
use Rattle.std.specs.Coded.{Coded, code_by, coded×, coded_ℕ, coded_list, coded_option}
use Rattle.sort_term.specs.declared.ids.SortId.{SortId}
use Rattle.sort_term.specs.declared.semantics.Con.{Con}
use Rattle.sort_term.specs.declared.semantics.Table.{Table}
use Rattle.sort_term.specs.declared.rule.Rule.{Rule}
use Rattle.sort_term.specs.contracts.ids.SortId as sort_id
use Rattle.sort_term.specs.contracts.semantics.Con as con
use Rattle.sort_term.specs.contracts.semantics.Table as table
use Rattle.sort_term.specs.contracts.rule.Rule as rule
use Rattle.name_resolution.specs.Known.{Vocabulary}

-- sorts, constructors, tables, the sort of the states if it is told, and rules, each in the order of the text
pub record Declared : Type 0 where
  pub sorts : List (List ℕ)
  pub cons : List Con
  pub tables : List Table
  pub config : Option SortId
  pub rules : List Rule

-- how a proof tells two of these apart: by their parts
abbrev pub declared_code : Coded Declared
declared_code =
    code_by (List (List ℕ) × (List Con × (List Table × (Option SortId × List Rule))))
    (coded× (coded_list (coded_list coded_ℕ)) (coded× (coded_list con.the_row.coded) (coded× (coded_list table.the_row.coded) (coded× (coded_option sort_id.the_row.coded) (coded_list rule.the_row.coded)))))
    (λ d. (d.sorts, (d.cons, (d.tables, (d.config, d.rules)))))
    (λ p. record { sorts = p.0; cons = p.1.0; tables = p.1.1.0; config = p.1.1.1.0; rules = p.1.1.1.1 })
    (λ _. refl)

-- before the first item nothing is declared
abbrev pub nothing : Declared
nothing = record { sorts = []; cons = []; tables = []; config = None; rules = [] }

-- what an item may name
abbrev pub known_in : Declared → Vocabulary
known_in d = record { sorts = d.sorts; cons = d.cons; tables = d.tables }
