-- What is there of a semantics is lawful, as far as it is there.
use Rattle.std.specs.Prelude.{◌≡◌, List, [], Option, Some, None, IsTrue}
use Rattle.sort_term.specs.declared.ids.SortId.{SortId}
use Rattle.sort_term.specs.declared.semantics.Con.{Con}
use Rattle.sort_term.specs.declared.semantics.Table.{Table}
use Rattle.sort_term.specs.declared.rule.Rule.{Rule}
use Rattle.sort_term.specs.Signature.{has_con, AreSorts, AreCons, AreTables}
use Rattle.sort_term.specs.Rules.{AreRules}
use Rattle.semantics_load.specs.Declaring.{Declared}

-- the sort of the states has a constructor, and the rules are lawful; there are none before it is told
abbrev pub AreRulesOf : List Con → List Table → Option SortId → List Rule → Type 0
AreRulesOf cons tables (Some config) rules = IsTrue (has_con cons config) × AreRules cons tables config rules
AreRulesOf cons tables None rules = rules ≡ []

-- the sorts, constructors, tables and rules so far are lawful
pub record IsDraft (d : Declared) : Type 0 where
  pub sorts_pass : AreSorts d.sorts
  pub cons_pass : AreCons d.sorts d.cons
  pub tables_pass : AreTables d.cons d.tables
  pub rules_pass : AreRulesOf d.cons d.tables d.config d.rules
