-- How the items of a points text act, one after the other.
use Rattle.std.specs.Prelude.{◌≡◌, List, [], ◌∷◌, Option, Some, None, ⊤}
use Rattle.rule_text.specs.Faults.{Loading, IsLawfulIn}
use Rattle.rule_text.specs.declared.item.FileKind.TheVariants as file
use Rattle.rule_text.specs.declared.item.Item.{Item}
use Rattle.rule_text.specs.declared.item.Item.TheVariants as item
use Rattle.rule_text.specs.declared.error.ItemFault.{ItemFault}
use Rattle.rule_text.specs.declared.error.ItemFault.TheVariants.{Shape, Name, Limit, Sort, Unbound, DoubleKey, Undetermined}
use Rattle.rule_text.specs.declared.error.LoadFault.{LoadFault}
use Rattle.rule_text.specs.declared.error.LoadFault.TheVariants.{NoPoint}
use Rattle.sort_term.specs.declared.points.Point.{Point}
use Rattle.sync_points.specs.declared.piece.Piece.{Piece}
use Rattle.sync_points.specs.Pieces.{PointsOf, piece_of, with_piece}
use Rattle.sync_points.specs.Names.{HasNames}
use Rattle.sync_points.specs.Limits.{IsWithinLimits}
use Rattle.sync_points.specs.Sorts.{HasSorts, BindsAll, DeterminesAll}

-- an item of a points text
abbrev pub IsPointsItem : Item → Type 0
IsPointsItem (item.Cut left name vars pattern whens) = ⊤
IsPointsItem (item.Point name vars left right whens) = ⊤
IsPointsItem _ = ⊥

-- the check of an item for each kind of fault, behind others that make d
abbrev pub Passes : ItemFault → PointsOf → Item → Type 0
Passes Shape d i = IsPointsItem i
Passes Name d i = HasNames d i
Passes Limit d i = IsWithinLimits d i
Passes Sort d i = HasSorts d.left d.right i
Passes Unbound d i = BindsAll d.left d.right i
Passes DoubleKey d i = ⊤
Passes Undetermined d i = DeterminesAll d.left d.right i

-- with an item behind others that make d they make e
pub record Adds (d : PointsOf) (i : Item) (e : PointsOf) : Type 0 where
  pub piece : Piece
  pub says : piece_of d.left d.right i ≡ Some piece
  pub is : e ≡ with_piece d piece

-- a text without a point
abbrev pub lacking_point : List Point → Option LoadFault
lacking_point [] = Some NoPoint
lacking_point (p ∷ more) = None

-- the loading of cuts and points
abbrev pub points_loading : Loading PointsOf
points_loading = record { kind = file.Points; Passes = Passes; Adds = Adds; lacking = λ d. lacking_point d.points.points }

-- behind others that make d the item passes all checks and says this
pub record IsLawfulPiece (d : PointsOf) (i : Item) (p : Piece) : Type 0 where
  pub lawful : IsLawfulIn points_loading d i
  pub says : piece_of d.left d.right i ≡ Some p
