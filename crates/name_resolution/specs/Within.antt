-- Which trees and sorts keep the limits on numbers.
use Rattle.std.specs.Prelude.{ℕ, ◌≤◌, ◌^◌, Bool, true, ◌&&◌, nat_lt, is_some, IsTrue, List, [], ◌∷◌, Option, Some, None}
use Rattle.data_value.specs.declared.DataSort.TheVariants.{Bits as BitsSort}
use Rattle.data_value.specs.Sorts.{is_width}
use Rattle.rule_text.specs.declared.item.RawSort.{RawSort}
use Rattle.rule_text.specs.declared.item.RawSort.TheVariants as sort
use Rattle.rule_text.specs.declared.item.RawTree.{RawTree, RawTree-F, fold-RawTree}
use Rattle.sort_term.specs.declared.ids.ConId.{ConId}
use Rattle.sort_term.specs.declared.term.Sort.{Sort}
use Rattle.sort_term.specs.declared.term.Sort.TheVariants.{Plain}
use Rattle.sort_term.specs.declared.semantics.Con.{Con}
use Rattle.name_resolution.specs.Known.{Vocabulary, con_of, literal_of, are_entries}
use Rattle.name_resolution.specs.Operators.{are_numbers_within}
use Rattle.name_resolution.specs.Sizes.{forms_of}

-- what a tree asks for by itself: a bare number, which its place tests; or whether all its numbers keep their limits
pub data Asked : Type 0 where
  bare : ℕ → Asked
  tested : Bool → Asked

-- a bare number in a place of bit vectors fits their width; in every other place none is tested
abbrev pub fits_place : Option Sort → ℕ → Bool
fits_place (Some (Plain (BitsSort width))) n = nat_lt n (2 ^ width)
fits_place _ n = true

-- whether all numbers keep their limits in a place of this sort, if the place has one
abbrev pub is_within_place : Option Sort → Asked → Bool
is_within_place place (bare n) = fits_place place n
is_within_place place (tested within) = within

-- the same of arguments in places of these sorts; places behind the last sort have none
abbrev pub are_within_places : List Sort → List Asked → Bool
are_within_places sorts [] = true
are_within_places [] (part ∷ more) = is_within_place None part && are_within_places [] more
are_within_places (a ∷ rest) (part ∷ more) = is_within_place (Some a) part && are_within_places rest more

-- the sorts of a constructor's arguments
abbrev pub argument_sorts : Option (ConId × Con) → List Sort
argument_sorts None = []
argument_sorts (Some con) = con.1.args

-- A tree by its kind, of whose arguments it is told what they ask for: a literal fits its width, the keys of a map rise,
-- widths are from 1 to 64, and a bare number fits the width of its place.
abbrev pub asked_node : Vocabulary → RawTree-F Asked → Asked
asked_node known (RawTree-F.Word name) = tested true
asked_node known (RawTree-F.Number n) = bare n
asked_node known (RawTree-F.Flag flag) = tested true
asked_node known (RawTree-F.Bits width n) = tested (is_some (literal_of width n))
asked_node known (RawTree-F.Map key word entries) = tested (are_entries key word entries)
asked_node known (RawTree-F.Con name args) = tested (are_within_places (argument_sorts (con_of known name)) args)
asked_node known (RawTree-F.Op name numbers args) = tested (are_numbers_within name numbers && are_within_places [] args)

-- what a tree asks for by itself
abbrev pub asked : Vocabulary → RawTree → Asked
asked known = fold-RawTree Asked (asked_node known)

-- whether a tree, which stands where nothing tells a width, keeps the limits on numbers
abbrev pub is_within : Vocabulary → RawTree → Bool
is_within known raw = is_within_place None (asked known raw)

-- a written term keeps all limits: it has at most 4,096 forms, and its numbers keep theirs
pub record IsWithinTree (known : Vocabulary) (raw : RawTree) : Type 0 where
  pub short : forms_of raw ≤ 4096
  pub numbers : IsTrue (is_within known raw)

-- whether the widths of a sort are from 1 to 64
abbrev pub is_within_sort : RawSort → Bool
is_within_sort sort.Bool = true
is_within_sort (sort.Bits width) = is_width width
is_within_sort (sort.Map key word) = is_width key && is_width word
is_within_sort (sort.Named name) = true
