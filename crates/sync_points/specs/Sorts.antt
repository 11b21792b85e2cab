-- Which items of a points text are well sorted, bind their variables and determine them.
use Rattle.std.specs.Prelude.{◌≡◌, [], ◌∷◌, All, Some, ⊤}
use Rattle.data_value.specs.declared.DataSort.TheVariants.{Bool as BoolSort}
use Rattle.rule_text.specs.declared.item.Item.{Item}
use Rattle.sort_term.specs.declared.points.Cut.{Cut}
use Rattle.sort_term.specs.declared.points.Point.{Point}
use Rattle.sort_term.specs.declared.term.Sort.TheVariants.{Own, Plain}
use Rattle.sort_term.specs.Problems.{IsConfigExpr, AreDetermined}
use Rattle.sort_term.specs.Rules.{RepeatsOnlyScalars, AllStandIn}
use Rattle.sort_term.specs.Sorted.{IsPatternOf, IsExprOf}
use Rattle.sort_term.specs.System.{System}
use Rattle.sync_points.specs.declared.piece.Piece.{Piece}
use Rattle.sync_points.specs.declared.piece.Piece.TheVariants as piece
use Rattle.sync_points.specs.Pieces.{piece_of}

-- the pattern of an item of a cut is of the configuration sort, a variable that stands more than once in it is scalar, and its
-- conditions are of sort bool
pub record IsCutSorted {S : Type 0} (s : System) (c : Cut S) : Type 0 where
  pub pattern : IsPatternOf s.cons c.vars (Own s.config) c.pattern
  pub repeats : RepeatsOnlyScalars c.vars (c.pattern ∷ [])
  pub whens : All (IsExprOf s.cons c.vars (Plain BoolSort)) c.whens

-- the terms of a point are of the configuration sorts of their sides, and its conditions are of sort bool
pub record IsPointSorted (left right : System) (p : Point) : Type 0 where
  pub left_term : IsConfigExpr left p.vars p.left
  pub right_term : IsConfigExpr right p.vars p.right
  pub whens : All (IsExprOf [] p.vars (Plain BoolSort)) p.whens

-- what an item says is well sorted
abbrev pub IsPieceSorted : System → System → Piece → Type 0
IsPieceSorted left right (piece.LeftCut c) = IsCutSorted left c
IsPieceSorted left right (piece.RightCut c) = IsCutSorted right c
IsPieceSorted left right (piece.Point p) = IsPointSorted left right p

-- an item says something, which is well sorted
pub record HasSorts (left right : System) (i : Item) : Type 0 where
  pub piece : Piece
  pub says : piece_of left right i ≡ Some piece
  pub sorted : IsPieceSorted left right piece

-- each variable of an item of a cut stands in its pattern
abbrev pub IsPieceBound : Piece → Type 0
IsPieceBound (piece.LeftCut c) = AllStandIn c.vars (c.pattern ∷ [])
IsPieceBound (piece.RightCut c) = AllStandIn c.vars (c.pattern ∷ [])
IsPieceBound (piece.Point p) = ⊤

abbrev pub BindsAll : System → System → Item → Type 0
BindsAll left right i = (p : Piece) → piece_of left right i ≡ Some p → IsPieceBound p

-- a related pair determines each variable of a point
abbrev pub IsPieceDetermined : Piece → Type 0
IsPieceDetermined (piece.LeftCut c) = ⊤
IsPieceDetermined (piece.RightCut c) = ⊤
IsPieceDetermined (piece.Point p) = AreDetermined p.vars p.left p.right

abbrev pub DeterminesAll : System → System → Item → Type 0
DeterminesAll left right i = (p : Piece) → piece_of left right i ≡ Some p → IsPieceDetermined p
