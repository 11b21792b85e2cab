-- A semantics as contracts see it: without its side, so that a definition speaks of both sides.
use Rattle.std.specs.Prelude.{ℕ, List, refl}
use Rattle.std.specs.Coded.{Coded, code_by, coded×, coded_ℕ, coded_list}
use Rattle.sort_term.specs.declared.ids.SortId.{SortId}
use Rattle.sort_term.specs.declared.semantics.Con.{Con}
use Rattle.sort_term.specs.declared.semantics.Table.{Table}
use Rattle.sort_term.specs.declared.rule.Rule.{Rule}
use Rattle.sort_term.specs.contracts.ids.SortId as sort_id
use Rattle.sort_term.specs.contracts.semantics.Con as con
use Rattle.sort_term.specs.contracts.semantics.Table as table
use Rattle.sort_term.specs.contracts.rule.Rule as rule

-- the names of the declared sorts, the constructors, the tables and the rules, each in the order of the text, and the sort of the states
pub record System : Type 0 where
  pub sorts : List (List ℕ)
  pub cons : List Con
  pub tables : List Table
  pub rules : List Rule
  pub config : SortId

-- the semantics with these parts
abbrev pub system_of : List (List ℕ) → List Con → List Table → List Rule → SortId → System
system_of sorts cons tables rules config = record { sorts = sorts; cons = cons; tables = tables; rules = rules; config = config }

-- how a proof tells two semantics apart: by their parts
abbrev pub system_code : Coded System
system_code =
    code_by (List (List ℕ) × (List Con × (List Table × (List Rule × SortId))))
    (coded× (coded_list (coded_list coded_ℕ)) (coded× (coded_list con.the_row.coded) (coded× (coded_list table.the_row.coded) (coded× (coded_list rule.the_row.coded) sort_id.the_row.coded))))
    (λ s. (s.sorts, (s.cons, (s.tables, (s.rules, s.config)))))
    (λ p. record { sorts = p.0; cons = p.1.0; tables = p.1.1.0; rules = p.1.1.1.0; config = p.1.1.1.1 })
    (λ _. refl)
