-- How many forms a tree is written with.
use Rattle.std.specs.Prelude.{ℕ, ◌+◌, ◌*◌, sum, length}
use Rattle.rule_text.specs.declared.item.RawTree.{RawTree, RawTree-F, fold-RawTree}

-- each word, number and list counts, so that `(bits 8 1)` has four and `(map 8 8 (1 2))` has seven
abbrev pub forms_in : RawTree-F ℕ → ℕ
forms_in (RawTree-F.Word name) = 1
forms_in (RawTree-F.Number n) = 1
forms_in (RawTree-F.Flag flag) = 1
forms_in (RawTree-F.Bits width n) = 4
forms_in (RawTree-F.Map key word entries) = 4 + 3 * length entries
forms_in (RawTree-F.Con name counts) = 2 + sum counts
forms_in (RawTree-F.Op name numbers counts) = 2 + length numbers + sum counts

abbrev pub forms_of : RawTree → ℕ
forms_of = fold-RawTree ℕ forms_in
