-- What an item that writes a row passes, told of the table that it names.
use Rattle.std.proofs.Common.{◌≡◌, ◌==◌, ℕ, List, true, false, Some, None, refl, sym, ◌∙◌, subst}
use Rattle.std.specs.List.{list_any}
use Rattle.std.proofs.lemmas.Option.{same_Some}
use Rattle.rule_text.specs.Faults.{IsFirstIn, TakesItem}
use Rattle.rule_text.specs.declared.item.RawTree.{RawTree}
use Rattle.rule_text.specs.declared.item.Item.{Item}
use Rattle.rule_text.specs.declared.item.Item.TheVariants as item
use Rattle.rule_text.specs.declared.error.ItemFault.TheVariants as fault
use Rattle.rule_text.proofs.Firsts.{lawful_by, first_shape, first_name, first_limit, first_sort, first_double_key}
use Rattle.sort_term.specs.declared.ids.TableId.{TableId}
use Rattle.sort_term.specs.declared.semantics.Table.{Table}
use Rattle.sort_term.specs.Sorted.{IsTreeOf}
use Rattle.sort_term.specs.Tree.{Tree}
use Rattle.program_text.specs.Grounds.{IsSortedTerm}
use Rattle.program_text.specs.Rows.{RowsOf, rows_at, with_row, IsTableOf, HasNames, IsRowWithin, IsWithinLimits, HasSorts, IsNewKey, IsRowItem, program_loading}

module _ (d : RowsOf) (name : List ℕ) (key : ℕ) (raw : RawTree) where
  -- the item that writes the row
  abbrev pub written : Item
  written = item.Row name key raw

  -- a row whose table or constructors are unknown
  pub unnamed : ¬ HasNames d written → IsFirstIn program_loading d written fault.Name
  unnamed fails = first_name program_loading d written tt fails

  module _ (t : TableId × Table) (is : IsTableOf d name t) (named : HasNames d written) where
    -- the table with this name is this one
    the_table : (u : TableId × Table) → IsTableOf d name u → t ≡ u
    the_table u other = same_Some t u (sym is ∙ other)

    limits : IsRowWithin d t key raw → IsWithinLimits d written
    limits within u other = subst (λ (a : TableId × Table). IsRowWithin d a key raw) (the_table u other) within

    -- a row that passes a limit
    pub beyond : ¬ IsRowWithin d t key raw → IsFirstIn program_loading d written fault.Limit
    beyond fails = first_limit program_loading d written tt named (λ within. fails (within t is))

    module _ (within : IsRowWithin d t key raw) where
      no_sorts : IsSortedTerm d.semantics t.1.sort raw None → ¬ HasSorts d name key raw
      no_sorts none sorts =
          let same = the_table sorts.t sorts.says.is_table in
          none sorts.r.term sorts.says.reads (subst (λ (a : TableId × Table). IsTreeOf d.semantics.cons a.1.sort sorts.r.term) (sym same) sorts.sorted)

      -- a row whose term is none of the table's sort
      pub unsorted : IsSortedTerm d.semantics t.1.sort raw None → IsFirstIn program_loading d written fault.Sort
      unsorted none = first_sort program_loading d written tt named (limits within) (no_sorts none)

      module _ (term : Tree) (sorted : IsSortedTerm d.semantics t.1.sort raw (Some term)) where
        sorts : HasSorts d name key raw
        sorts = record { t = t; r = record { key = key; term = term }; says = record { is_table = is; same_key = refl; reads = sorted.0 }; sorted = sorted.1 }

        -- a row whose key an earlier row of the table has
        pub double : list_any (λ r. r.key == key) (rows_at d t.0) ≡ true → IsFirstIn program_loading d written fault.DoubleKey
        double found = first_double_key program_loading d written tt named (limits within) sorts tt (λ new. old (new t is))
          where
            old : list_any (λ r. r.key == key) (rows_at d t.0) ≡ false → ⊥
            old none = let both : true ≡ false = sym found ∙ none in cc

        -- a row that passes all checks
        pub lawful : list_any (λ r. r.key == key) (rows_at d t.0) ≡ false → TakesItem program_loading d written (with_row d t.0 (record { key = key; term = term }))
        lawful none =
            record {
              lawful = lawful_by program_loading d written tt named (limits within) sorts tt new tt;
              adds = record { t = t; r = record { key = key; term = term }; says = record { is_table = is; same_key = refl; reads = sorted.0 }; is = refl };
            }
          where
            new : IsNewKey d written
            new u other = subst (λ (a : TableId × Table). list_any (λ r. r.key == key) (rows_at d a.0) ≡ false) (the_table u other) none

-- what holds of each item that writes a row holds of each row's item
pub of_rows : (P : Item → Type 0) → ((name : List ℕ) (key : ℕ) (raw : RawTree) → P (item.Row name key raw)) → (i : Item) → IsRowItem i → P i
of_rows P row (item.Row name key raw) is = row name key raw
of_rows P row (item.Sort _) is = absurd is
of_rows P row (item.Con _ _ _) is = absurd is
of_rows P row (item.Table _ _ _) is = absurd is
of_rows P row (item.Config _) is = absurd is
of_rows P row (item.Rule _ _ _ _ _) is = absurd is
of_rows P row (item.Cut _ _ _ _ _) is = absurd is
of_rows P row (item.Point _ _ _ _ _) is = absurd is
of_rows P row (item.Start _) is = absurd is

-- an item that writes no row
pub other_item : (d : RowsOf) (i : Item) → ((name : List ℕ) (key : ℕ) (raw : RawTree) → i ≡ item.Row name key raw → ⊥) → IsFirstIn program_loading d i fault.Shape
other_item d i other = first_shape program_loading d i (λ row. of_rows (λ j. i ≡ j → ⊥) other i row refl)
