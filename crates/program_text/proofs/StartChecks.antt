-- What an item that writes a start state passes.
use Rattle.std.proofs.Common.{◌≡◌, true, false, is_some, [], Option, Some, None, refl, sym, ap, ◌∙◌}
use Rattle.std.proofs.lemmas.Bool.{true≢false}
use Rattle.rule_text.specs.Faults.{IsFirstIn, TakesItem}
use Rattle.rule_text.specs.declared.item.RawTree.{RawTree}
use Rattle.rule_text.specs.declared.item.Item.{Item}
use Rattle.rule_text.specs.declared.item.Item.TheVariants as item
use Rattle.rule_text.specs.declared.error.ItemFault.TheVariants as fault
use Rattle.rule_text.proofs.Firsts.{lawful_by, first_shape, first_name, first_limit, first_sort}
use Rattle.sort_term.specs.declared.term.Sort.TheVariants.{Own}
use Rattle.sort_term.specs.Tree.{Tree}
use Rattle.name_resolution.specs.Known.{vocabulary_in}
use Rattle.name_resolution.specs.Named.{is_named_tree}
use Rattle.name_resolution.specs.Within.{IsWithinTree}
use Rattle.program_text.specs.Grounds.{IsSortedTerm}
use Rattle.program_text.specs.States.{StartOf, IsStartItem, start_loading}

module _ (d : StartOf) (raw : RawTree) where
  -- the item that writes the tree
  abbrev pub written : Item
  written = item.Start raw

  -- a tree is told already
  pub second : is_some d.tree ≡ true → IsFirstIn start_loading d written fault.Shape
  second is = first_shape start_loading d written (λ first. true≢false (sym is ∙ ap is_some first))

  module _ (no_tree : is_some d.tree ≡ false) where
    first : d.tree ≡ None
    first = untold d.tree no_tree
      where
        untold : (o : Option Tree) → is_some o ≡ false → o ≡ None
        untold None is = refl
        untold (Some t) is = absurd (true≢false is)

    -- a term with constructors or words that are unknown
    pub unnamed : is_named_tree (vocabulary_in d.semantics) [] raw ≡ false → IsFirstIn start_loading d written fault.Name
    unnamed is = first_name start_loading d written first (λ named. true≢false (sym named ∙ is))

    module _ (named : is_named_tree (vocabulary_in d.semantics) [] raw ≡ true) where
      -- a term that passes a limit
      pub beyond : ¬ IsWithinTree (vocabulary_in d.semantics) raw → IsFirstIn start_loading d written fault.Limit
      beyond fails = first_limit start_loading d written first named fails

      module _ (within : IsWithinTree (vocabulary_in d.semantics) raw) where
        -- a term that is none of the configuration sort
        pub unsorted : IsSortedTerm d.semantics (Own d.semantics.config) raw None → IsFirstIn start_loading d written fault.Sort
        unsorted none = first_sort start_loading d written first named within (λ sorts. none sorts.tree sorts.says sorts.sorted)

        -- a term that passes all checks
        pub lawful : (tree : Tree) → IsSortedTerm d.semantics (Own d.semantics.config) raw (Some tree) → TakesItem start_loading d written (record { semantics = d.semantics; tree = Some tree })
        lawful tree sorted =
            record {
              lawful = lawful_by start_loading d written first named within (record { tree = tree; says = sorted.0; sorted = sorted.1 }) tt tt tt;
              adds = record { tree = tree; says = sorted.0; is = refl };
            }

-- what holds of each item that writes a start state holds of each first item of a start text
pub of_starts : (d : StartOf) (P : Item → Type 0) → ((raw : RawTree) → P (item.Start raw)) → (i : Item) → IsStartItem d i → P i
of_starts d P start (item.Start raw) is = start raw
of_starts d P start (item.Row _ _ _) is = absurd is
of_starts d P start (item.Sort _) is = absurd is
of_starts d P start (item.Con _ _ _) is = absurd is
of_starts d P start (item.Table _ _ _) is = absurd is
of_starts d P start (item.Config _) is = absurd is
of_starts d P start (item.Rule _ _ _ _ _) is = absurd is
of_starts d P start (item.Cut _ _ _ _ _) is = absurd is
of_starts d P start (item.Point _ _ _ _ _) is = absurd is

-- an item that writes no state
pub other_item : (d : StartOf) (i : Item) → ((raw : RawTree) → i ≡ item.Start raw → ⊥) → IsFirstIn start_loading d i fault.Shape
other_item d i other = first_shape start_loading d i (λ start. of_starts d (λ j. i ≡ j → ⊥) other i start refl)
