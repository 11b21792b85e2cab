-- What is known of an item that passes its checks.
use Rattle.std.specs.Prelude.{◌≡◌, Some}
use Rattle.rule_text.specs.declared.item.Item.{Item}
use Rattle.semantics_load.specs.declared.piece.Piece.{Piece}
use Rattle.semantics_load.specs.Declaring.{Declared}
use Rattle.semantics_load.specs.Pieces.{piece_of}
use Rattle.semantics_load.specs.Names.{HasNames}
use Rattle.semantics_load.specs.Limits.{IsWithinLimits}
use Rattle.semantics_load.specs.Sorts.{IsPieceSorted, IsPieceBound}
use Rattle.semantics_load.specs.Loads.{IsSemanticsItem}

-- an item of a semantics has its names, and keeps the limits
pub record IsInForm (d : Declared) (i : Item) : Type 0 where
  pub shape : IsSemanticsItem i
  pub named : HasNames d i
  pub within : IsWithinLimits d i

-- what an item says is well sorted
pub record SaysSorted (d : Declared) (i : Item) (p : Piece) : Type 0 where
  pub says : piece_of d i ≡ Some p
  pub sorted : IsPieceSorted d p

-- an item that passes all checks says this
pub record SaysLawfully (d : Declared) (i : Item) (p : Piece) : Type 0 where
  pub form : IsInForm d i
  pub said : SaysSorted d i p
  pub bound : IsPieceBound p
