-- An item that passes the checks up to its sorts: the faults behind them, and that it passes all.
use Rattle.std.proofs.Common.{◌≡◌, IsTrue, true, false, ℕ, List, Option, Some, sym, ◌∙◌, subst}
use Rattle.rule_text.specs.declared.item.Item.{Item}
use Rattle.rule_text.specs.declared.item.RawVar.{RawVar}
use Rattle.rule_text.specs.declared.error.ItemFault.TheVariants.{Unbound, Undetermined}
use Rattle.rule_text.specs.Faults.{IsFirstIn}
use Rattle.rule_text.proofs.Firsts.{lawful_by, first_unbound, first_undetermined}
use Rattle.name_resolution.specs.Variables.{names_of}
use Rattle.sync_points.specs.declared.piece.Piece.{Piece}
use Rattle.sync_points.specs.Pieces.{PointsOf, piece_of}
use Rattle.sync_points.specs.Names.{HasNames, AreNamesIf}
use Rattle.sync_points.specs.Limits.{IsWithinLimits}
use Rattle.sync_points.specs.Sorts.{HasSorts, IsPieceSorted, IsPieceBound, BindsAll, IsPieceDetermined, DeterminesAll}
use Rattle.sync_points.specs.Loads.{IsPointsItem, points_loading, IsLawfulPiece}

-- names that are there
pub names_there : (P : Type 0) (raws : List RawVar) (found : Option (List (List ℕ))) (names : List (List ℕ)) → AreNamesIf P raws found → found ≡ Some names → P × (names ≡ names_of raws)
names_there P raws found names told is = subst (AreNamesIf P raws) is told

-- what makes a test pass that failed doesn't hold
pub failed : {P : Type 0} → (P → IsTrue false) → ¬ P
failed test holds = let e : false ≡ true = test holds in absurd cc

-- there is one thing that an item says
pub same_piece : {X : Type 0} (o : Option X) (p q : X) → o ≡ Some p → o ≡ Some q → p ≡ q
same_piece o p q a b = let e : Some p ≡ Some q = sym a ∙ b in cc

module _ (d : PointsOf) (i : Item) (p : Piece) (shape : IsPointsItem i) (name : HasNames d i) (limit : IsWithinLimits d i) (says : piece_of d.left d.right i ≡ Some p) (sorted : IsPieceSorted d.left d.right p) where
  sorts : HasSorts d.left d.right i
  sorts = record { piece = p; says = says; sorted = sorted }

  pub unbound : ¬ IsPieceBound p → IsFirstIn points_loading d i Unbound
  unbound fails = first_unbound points_loading d i shape name limit sorts (λ all. fails (all p says))

  binds : IsPieceBound p → BindsAll d.left d.right i
  binds bound q is = subst IsPieceBound (same_piece (piece_of d.left d.right i) p q says is) bound

  determines : IsPieceDetermined p → DeterminesAll d.left d.right i
  determines determined q is = subst IsPieceDetermined (same_piece (piece_of d.left d.right i) p q says is) determined

  pub undetermined : IsPieceBound p → ¬ IsPieceDetermined p → IsFirstIn points_loading d i Undetermined
  undetermined bound fails = first_undetermined points_loading d i shape name limit sorts (binds bound) tt (λ all. fails (all p says))

  pub lawful_piece : IsPieceBound p → IsPieceDetermined p → IsLawfulPiece d i p
  lawful_piece bound determined = record { lawful = lawful_by points_loading d i shape name limit sorts (binds bound) tt (determines determined); says = says }
