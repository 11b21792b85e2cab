-- Variables as they are written: what is asked of their names, sorts and number.
use Rattle.std.specs.Prelude.{ℕ, ◌≤◌, IsTrue, List, map, length, All}
use Rattle.rule_text.specs.declared.item.RawVar.{RawVar}
use Rattle.name_resolution.specs.Known.{Vocabulary}
use Rattle.name_resolution.specs.Named.{is_named_sort, AreVarNames}
use Rattle.name_resolution.specs.Within.{is_within_sort}

-- the names of variables
abbrev pub names_of : List RawVar → List (List ℕ)
names_of raws = map (λ x. x.name) raws

-- variables have names of their own, and sorts that are known
pub record AreVarsNamed (known : Vocabulary) (raws : List RawVar) : Type 0 where
  pub names : AreVarNames raws
  pub sorts : All (λ x. IsTrue (is_named_sort known x.sort)) raws

-- at most 64 variables, of sorts with widths from 1 to 64
pub record AreVarsWithin (raws : List RawVar) : Type 0 where
  pub few : length raws ≤ 64
  pub sorts : All (λ x. IsTrue (is_within_sort x.sort)) raws
