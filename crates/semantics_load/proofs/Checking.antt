-- An item passes all checks, or fails one, by what its checks tell.
use Rattle.std.proofs.Common.{◌≡◌, Some, None, sym, ◌∙◌, subst}
use Rattle.std.proofs.lemmas.Option.{same_Some, none-some}
use Rattle.rule_text.specs.Faults.{IsLawfulIn, TakesItem}
use Rattle.rule_text.specs.declared.item.Item.{Item}
use Rattle.rule_text.proofs.Firsts.{lawful_by}
use Rattle.semantics_load.specs.declared.piece.Piece.{Piece}
use Rattle.semantics_load.specs.Declaring.{Declared}
use Rattle.semantics_load.specs.Pieces.{piece_of, with_piece}
use Rattle.semantics_load.specs.Sorts.{IsPieceSorted, HasSorts, IsPieceBound, BindsAll}
use Rattle.semantics_load.specs.Loads.{semantics_loading}
use Rattle.semantics_load.specs.Checks.{SaysSorted, SaysLawfully}

module _ (d : Declared) (i : Item) where
  pub says_nothing : piece_of d i ≡ None → ¬ HasSorts d i
  says_nothing none h = none-some h.piece (sym none ∙ h.says)

  pub is_not_sorted : (p : Piece) → piece_of d i ≡ Some p → ¬ IsPieceSorted d p → ¬ HasSorts d i
  is_not_sorted p says fails h = fails (subst (IsPieceSorted d) (same_Some h.piece p (sym h.says ∙ says)) h.sorted)

  pub has_sorts : (p : Piece) → SaysSorted d i p → HasSorts d i
  has_sorts p h = record { piece = p; says = h.says; sorted = h.sorted }

  pub is_not_bound : (p : Piece) → piece_of d i ≡ Some p → ¬ IsPieceBound p → ¬ BindsAll d i
  is_not_bound p says fails h = fails (h p says)

  pub passes_all : (p : Piece) → SaysLawfully d i p → IsLawfulIn semantics_loading d i
  passes_all p h =
      lawful_by semantics_loading d i h.form.shape h.form.named h.form.within (has_sorts p h.said)
      (λ q says. subst IsPieceBound (same_Some p q (sym h.said.says ∙ says)) h.bound) tt tt

  pub takes : (p : Piece) (e : Declared) → SaysLawfully d i p → e ≡ with_piece d p → TakesItem semantics_loading d i e
  takes p e h is = record { lawful = passes_all p h; adds = record { piece = p; says = h.said.says; is = is } }
