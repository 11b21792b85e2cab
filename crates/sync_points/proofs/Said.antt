-- What an item says has the item's name, and is all that it adds.
use Rattle.std.proofs.Common.{◌≡◌, ℕ, List, map, true, false, Option, None, Some, option_map, sym, subst}
use Rattle.rule_text.specs.declared.item.Item.{Item}
use Rattle.rule_text.specs.declared.item.Item.TheVariants as item
use Rattle.rule_text.specs.declared.error.ItemFault.TheVariants.{Name}
use Rattle.rule_text.specs.Faults.{TakesItem}
use Rattle.sort_term.specs.declared.points.Cut.{Cut}
use Rattle.sort_term.specs.declared.points.Point.{Point}
use Rattle.sort_term.specs.declared.rule.Var.{Var}
use Rattle.sort_term.specs.declared.rule.Pattern.{Pattern}
use Rattle.sort_term.specs.declared.rule.RuleExpr.{RuleExpr}
use Rattle.name_resolution.specs.Names.{IsNew}
use Rattle.sync_points.specs.declared.piece.Piece.{Piece}
use Rattle.sync_points.specs.declared.piece.Piece.TheVariants as piece
use Rattle.sync_points.specs.Pieces.{PointsOf, cut_from, point_from, piece_of, with_piece}
use Rattle.sync_points.specs.Names.{HasNames, IsPieceNew}
use Rattle.sync_points.specs.Loads.{points_loading, IsLawfulPiece}

-- an item of a cut that is there has the name that is written, and its parts are there
pub record IsCutFrom {S : Type 0} (name : List ℕ) (vars : Option (List Var)) (pattern : Option Pattern) (whens : Option (List RuleExpr)) (c : Cut S) : Type 0 where
  pub named : c.name ≡ name
  pub vars_there : vars ≡ Some c.vars
  pub pattern_there : pattern ≡ Some c.pattern
  pub whens_there : whens ≡ Some c.whens

pub cut_parts : {S : Type 0} (name : List ℕ) (vars : Option (List Var)) (pattern : Option Pattern) (whens : Option (List RuleExpr)) (c : Cut S) → cut_from name vars pattern whens ≡ Some c → IsCutFrom name vars pattern whens c
cut_parts name (Some vars) (Some pattern) (Some whens) c is = record { named = cc; vars_there = cc; pattern_there = cc; whens_there = cc }
cut_parts name None pattern whens c is = absurd cc
cut_parts name (Some vars) None whens c is = absurd cc
cut_parts name (Some vars) (Some pattern) None c is = absurd cc

-- so has a point
pub record IsPointFrom (name : List ℕ) (vars : Option (List Var)) (left right : Option RuleExpr) (whens : Option (List RuleExpr)) (p : Point) : Type 0 where
  pub named : p.name ≡ name
  pub vars_there : vars ≡ Some p.vars
  pub left_there : left ≡ Some p.left
  pub right_there : right ≡ Some p.right
  pub whens_there : whens ≡ Some p.whens

pub point_parts : (name : List ℕ) (vars : Option (List Var)) (left right : Option RuleExpr) (whens : Option (List RuleExpr)) (p : Point) → point_from name vars left right whens ≡ Some p → IsPointFrom name vars left right whens p
point_parts name (Some vars) (Some left) (Some right) (Some whens) p is = record { named = cc; vars_there = cc; left_there = cc; right_there = cc; whens_there = cc }
point_parts name None left right whens p is = absurd cc
point_parts name (Some vars) None right whens p is = absurd cc
point_parts name (Some vars) (Some left) None whens p is = absurd cc
point_parts name (Some vars) (Some left) (Some right) None p is = absurd cc

-- what is made of something that is there
pub made_of : {X Y : Type 0} (f : X → Y) (o : Option X) (y : Y) → option_map f o ≡ Some y → (x : X) × (o ≡ Some x) × (f x ≡ y)
made_of f (Some x) y is = (x, cc, cc)
made_of f None y is = absurd cc

-- what an item says has a new name where the item has
module _ (d : PointsOf) where
  pub piece_new : (i : Item) (p : Piece) → HasNames d i → piece_of d.left d.right i ≡ Some p → IsPieceNew d.points p
  piece_new (item.Cut true name vars pattern whens) p named is =
      let m = made_of piece.LeftCut _ p is in
      let c = cut_parts name _ _ _ m.0 m.1 in
      subst (IsPieceNew d.points) m.2 (subst (λ n. IsNew n (map (λ other. other.name) d.points.left_cuts)) (sym c.named) named.0)
  piece_new (item.Cut false name vars pattern whens) p named is =
      let m = made_of piece.RightCut _ p is in
      let c = cut_parts name _ _ _ m.0 m.1 in
      subst (IsPieceNew d.points) m.2 (subst (λ n. IsNew n (map (λ other. other.name) d.points.right_cuts)) (sym c.named) named.0)
  piece_new (item.Point name vars left right whens) p named is =
      let m = made_of piece.Point _ p is in
      let q = point_parts name _ _ _ _ m.0 m.1 in
      subst (IsPieceNew d.points) m.2 (subst (λ n. IsNew n (map (λ other. other.name) d.points.points)) (sym q.named) named.0)
  piece_new (item.Sort name) p named is = absurd cc
  piece_new (item.Con name args sort) p named is = absurd cc
  piece_new (item.Table name key sort) p named is = absurd cc
  piece_new (item.Config name) p named is = absurd cc
  piece_new (item.Rule name vars head demands outcome) p named is = absurd cc
  piece_new (item.Row table key term) p named is = absurd cc
  piece_new (item.Start tree) p named is = absurd cc

  pub lawful_new : (i : Item) (p : Piece) → IsLawfulPiece d i p → IsPieceNew d.points p
  lawful_new i p h = piece_new i p (h.lawful Name) h.says

  pub taken : (i : Item) (p : Piece) (e : PointsOf) → IsLawfulPiece d i p → e ≡ with_piece d p → TakesItem points_loading d i e
  taken i p e h is = record { lawful = h.lawful; adds = record { piece = p; says = h.says; is = is } }
