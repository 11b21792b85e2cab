-- What an item of a points text says, with numbers in the place of names.
use Rattle.std.specs.Prelude.{ℕ, true, false, List, [], ◌∷◌, ◌++◌, Option, Some, None, option_map, refl}
use Rattle.std.specs.Coded.{Coded, code_by, coded×}
use Rattle.rule_text.specs.declared.item.RawVar.{RawVar}
use Rattle.rule_text.specs.declared.item.RawTree.{RawTree}
use Rattle.rule_text.specs.declared.item.Item.{Item}
use Rattle.rule_text.specs.declared.item.Item.TheVariants as item
use Rattle.sort_term.specs.declared.points.Cut.{Cut}
use Rattle.sort_term.specs.declared.points.Point.{Point}
use Rattle.sort_term.specs.declared.points.Points.{Points}
use Rattle.sort_term.specs.declared.rule.Var.{Var}
use Rattle.sort_term.specs.declared.rule.Pattern.{Pattern}
use Rattle.sort_term.specs.declared.rule.RuleExpr.{RuleExpr}
use Rattle.sort_term.specs.contracts.points.Points as points
use Rattle.sort_term.specs.System.{System, system_code}
use Rattle.name_resolution.specs.Known.{Vocabulary, vocabulary_in}
use Rattle.name_resolution.specs.Reads.{pattern_of, expression_of, expressions_of, variables_of}
use Rattle.name_resolution.specs.Variables.{names_of}
use Rattle.sync_points.specs.declared.piece.Piece.{Piece}
use Rattle.sync_points.specs.declared.piece.Piece.TheVariants as piece

-- two semantics, and the cuts and points between them so far
pub record PointsOf : Type 0 where
  pub left : System
  pub right : System
  pub points : Points

-- how a proof tells two of these apart: by their parts
abbrev pub points_code : Coded PointsOf
points_code =
    code_by (System × (System × Points))
    (coded× system_code (coded× system_code points.the_row.coded))
    (λ d. (d.left, (d.right, d.points)))
    (λ p. record { left = p.0; right = p.1.0; points = p.1.1 })
    (λ _. refl)

-- no cuts and no points
abbrev pub nothing : Points
nothing = record { left_cuts = []; right_cuts = []; undefs = []; points = [] }

-- before the first item there are none
abbrev pub no_points : System → System → PointsOf
no_points left right = record { left = left; right = right; points = nothing }

-- what is known where no name is
abbrev pub no_names : Vocabulary
no_names = record { sorts = []; cons = []; tables = [] }

-- one thing more
abbrev pub points_with : Points → Piece → Points
points_with p (piece.LeftCut c) = record { left_cuts = p.left_cuts ++ c ∷ []; right_cuts = p.right_cuts; undefs = p.undefs; points = p.points }
points_with p (piece.RightCut c) = record { left_cuts = p.left_cuts; right_cuts = p.right_cuts ++ c ∷ []; undefs = p.undefs; points = p.points }
points_with p (piece.Point q) = record { left_cuts = p.left_cuts; right_cuts = p.right_cuts; undefs = p.undefs; points = p.points ++ q ∷ [] }

abbrev pub with_piece : PointsOf → Piece → PointsOf
with_piece d p = record { left = d.left; right = d.right; points = points_with d.points p }

-- an item of a cut, where its parts are there
abbrev pub cut_from : {S : Type 0} → List ℕ → Option (List Var) → Option Pattern → Option (List RuleExpr) → Option (Cut S)
cut_from name (Some vars) (Some pattern) (Some whens) = Some (record { name = name; vars = vars; pattern = pattern; whens = whens; side = record {} })
cut_from name _ _ _ = None

-- the item of a cut that is written, over what is known
abbrev pub cut_of : {S : Type 0} → Vocabulary → List ℕ → List RawVar → RawTree → List RawTree → Option (Cut S)
cut_of known name vars pattern whens = cut_from name (variables_of known vars) (pattern_of known (names_of vars) pattern) (expressions_of known (names_of vars) whens)

-- a point, where its parts are there
abbrev pub point_from : List ℕ → Option (List Var) → Option RuleExpr → Option RuleExpr → Option (List RuleExpr) → Option Point
point_from name (Some vars) (Some left) (Some right) (Some whens) = Some (record { name = name; vars = vars; left = left; right = right; whens = whens })
point_from name _ _ _ _ = None

-- the point that is written: its variables have sorts of data, each term is one of its side's semantics, and in the
-- conditions no constructor is known
abbrev pub point_of : Vocabulary → Vocabulary → List ℕ → List RawVar → RawTree → RawTree → List RawTree → Option Point
point_of left right name vars left_term right_term whens = point_from name (variables_of no_names vars) (expression_of left (names_of vars) left_term) (expression_of right (names_of vars) right_term) (expressions_of no_names (names_of vars) whens)

-- what an item says between two semantics
abbrev pub piece_of : System → System → Item → Option Piece
piece_of left right (item.Cut true name vars pattern whens) = option_map piece.LeftCut (cut_of (vocabulary_in left) name vars pattern whens)
piece_of left right (item.Cut false name vars pattern whens) = option_map piece.RightCut (cut_of (vocabulary_in right) name vars pattern whens)
piece_of left right (item.Point name vars left_term right_term whens) = option_map piece.Point (point_of (vocabulary_in left) (vocabulary_in right) name vars left_term right_term whens)
piece_of left right _ = None
