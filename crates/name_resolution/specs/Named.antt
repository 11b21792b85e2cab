-- Which trees, sorts and variables name only what is known.
use Rattle.std.specs.Prelude.{ℕ, Bool, true, ◌&&◌, List, map, All, is_some, ◌≡◌, Option, Some, None}
use Rattle.std.specs.List.{list_all}
use Rattle.rule_text.specs.declared.item.RawSort.{RawSort}
use Rattle.rule_text.specs.declared.item.RawSort.TheVariants.{Named}
use Rattle.rule_text.specs.declared.item.RawVar.{RawVar}
use Rattle.rule_text.specs.declared.item.RawTree.{RawTree, RawTree-F, fold-RawTree}
use Rattle.sort_term.specs.Names.{IsFree, AreDistinct}
use Rattle.name_resolution.specs.Names.{place_of}
use Rattle.name_resolution.specs.Known.{Vocabulary, declared_sort, con_of}

-- A tree by its kind, whose arguments are told to name only what is known or not: a word is one of these variables, of which
-- a ground term has none, and a constructor is declared.
abbrev pub is_named_node : Vocabulary → List (List ℕ) → RawTree-F Bool → Bool
is_named_node known vars (RawTree-F.Word name) = is_some (place_of name vars)
is_named_node known vars (RawTree-F.Number n) = true
is_named_node known vars (RawTree-F.Flag flag) = true
is_named_node known vars (RawTree-F.Bits width n) = true
is_named_node known vars (RawTree-F.Map key word entries) = true
is_named_node known vars (RawTree-F.Con name args) = is_some (con_of known name) && list_all (λ arg. arg) args
is_named_node known vars (RawTree-F.Op name numbers args) = list_all (λ arg. arg) args

-- whether a tree names only what is known
abbrev pub is_named_tree : Vocabulary → List (List ℕ) → RawTree → Bool
is_named_tree known vars = fold-RawTree Bool (is_named_node known vars)

-- whether a sort that is written is one of data or a declared one
abbrev pub is_named_sort : Vocabulary → RawSort → Bool
is_named_sort known (Named name) = is_some (declared_sort known name)
is_named_sort known _ = true

-- variables have names that aren't reserved, no two the same
pub record AreVarNames (raws : List RawVar) : Type 0 where
  pub free : All (λ x. IsFree x.name) raws
  pub distinct : AreDistinct (λ x. x.name) raws

-- the names of the variables, where they may have them; none where they may not
abbrev pub IsNamesOf : List RawVar → Option (List (List ℕ)) → Type 0
IsNamesOf raws (Some names) = AreVarNames raws × (names ≡ map (λ x. x.name) raws)
IsNamesOf raws None = ¬ AreVarNames raws
