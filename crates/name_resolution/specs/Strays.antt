-- Which numbers of a written tree say nothing: those whose place tells no width, and bits above the highest.
use Rattle.std.specs.Prelude.{ℕ, Bool, false, not, ◌&&◌, ◌||◌, nat_lt, List, [], ◌∷◌, Option, Some, None, codes, bytes_eq}
use Rattle.std.specs.List.{list_all}
use Rattle.data_value.specs.declared.DataSort.TheVariants.{Bits as BitsSort}
use Rattle.data_value.specs.Sorts.{is_width}
use Rattle.rule_text.specs.declared.item.RawTree.{RawTree, RawTree-F, fold-RawTree}
use Rattle.sort_term.specs.declared.term.Sort.{Sort}
use Rattle.sort_term.specs.declared.term.Sort.TheVariants.{Plain}
use Rattle.name_resolution.specs.Known.{Vocabulary, con_of}
use Rattle.name_resolution.specs.Within.{argument_sorts}

-- what is found in a tree: it is a bare number, which is stray by its place; or whether a number within it is stray
pub data Found : Type 0 where
  bare : Found
  inside : Bool → Found

-- whether a place has a sort of bit vectors, whose width is from 1 to 64
abbrev pub tells_width : Option Sort → Bool
tells_width (Some (Plain (BitsSort width))) = is_width width
tells_width _ = false

-- whether a tree in a place of this sort, if the place has one, has a stray number
abbrev pub is_stray_at : Option Sort → Found → Bool
is_stray_at place bare = not (tells_width place)
is_stray_at place (inside stray) = stray

-- whether one of the arguments in places of these sorts has; places behind the last sort have none
abbrev pub is_one_stray : List Sort → List Found → Bool
is_one_stray sorts [] = false
is_one_stray [] (part ∷ more) = is_stray_at None part || is_one_stray [] more
is_one_stray (a ∷ rest) (part ∷ more) = is_stray_at (Some a) part || is_one_stray rest more

-- whether a name with the numbers behind it takes out bits above the highest, which is 63
abbrev pub is_above_bits : List ℕ → List ℕ → Bool
is_above_bits name numbers = bytes_eq name (codes "extract") && not (list_all (λ n. nat_lt n 64) numbers)

-- a tree by its kind, where it is told what is found in its arguments
abbrev pub found_node : Vocabulary → RawTree-F Found → Found
found_node known (RawTree-F.Word name) = inside false
found_node known (RawTree-F.Number n) = bare
found_node known (RawTree-F.Flag flag) = inside false
found_node known (RawTree-F.Bits width n) = inside false
found_node known (RawTree-F.Map key word entries) = inside false
found_node known (RawTree-F.Con name args) = inside (is_one_stray (argument_sorts (con_of known name)) args)
found_node known (RawTree-F.Op name numbers args) = inside (is_above_bits name numbers || is_one_stray [] args)

-- what is found in a tree
abbrev pub found_in : Vocabulary → RawTree → Found
found_in known = fold-RawTree Found (found_node known)

-- whether a tree, which stands where nothing tells a width, has a stray number
abbrev pub has_stray_number : Vocabulary → RawTree → Bool
has_stray_number known raw = is_stray_at None (found_in known raw)
