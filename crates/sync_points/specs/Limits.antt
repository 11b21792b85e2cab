-- Which items of a points text keep the limits.
use Rattle.std.specs.Prelude.{◌<◌, ◌≤◌, true, false, List, length, All, ⊤}
use Rattle.rule_text.specs.declared.item.RawVar.{RawVar}
use Rattle.rule_text.specs.declared.item.RawTree.{RawTree}
use Rattle.rule_text.specs.declared.item.Item.{Item}
use Rattle.rule_text.specs.declared.item.Item.TheVariants as item
use Rattle.sort_term.specs.declared.points.Cut.{Cut}
use Rattle.sort_term.specs.System.{System}
use Rattle.name_resolution.specs.Known.{Vocabulary, vocabulary_in}
use Rattle.name_resolution.specs.Within.{IsWithinTree}
use Rattle.name_resolution.specs.Variables.{AreVarsWithin}
use Rattle.sync_points.specs.Pieces.{PointsOf, no_names}

-- at most 16 conditions, which keep the limits
pub record AreWhensWithin (known : Vocabulary) (whens : List RawTree) : Type 0 where
  pub few : length whens ≤ 16
  pub each : All (IsWithinTree known) whens

-- the parts of an item of a cut keep the limits
pub record IsCutWithin (known : Vocabulary) (vars : List RawVar) (pattern : RawTree) (whens : List RawTree) : Type 0 where
  pub vars_within : AreVarsWithin vars
  pub pattern_within : IsWithinTree known pattern
  pub whens_within : AreWhensWithin known whens

-- an item of a cut keeps the limits, over its side's semantics and the items of that cut before it, of which there are fewer than 64
abbrev pub KeepsCutLimits : {S : Type 0} → System → List (Cut S) → List RawVar → RawTree → List RawTree → Type 0
KeepsCutLimits s before vars pattern whens = (length before < 64) × IsCutWithin (vocabulary_in s) vars pattern whens

-- the parts of a point keep the limits
pub record IsPointWithin (left right : Vocabulary) (vars : List RawVar) (left_term right_term : RawTree) (whens : List RawTree) : Type 0 where
  pub vars_within : AreVarsWithin vars
  pub left_within : IsWithinTree left left_term
  pub right_within : IsWithinTree right right_term
  pub whens_within : AreWhensWithin no_names whens

-- an item is not one thing too many, and its widths, numbers and terms keep their limits
abbrev pub IsWithinLimits : PointsOf → Item → Type 0
IsWithinLimits d (item.Cut true name vars pattern whens) = KeepsCutLimits d.left d.points.left_cuts vars pattern whens
IsWithinLimits d (item.Cut false name vars pattern whens) = KeepsCutLimits d.right d.points.right_cuts vars pattern whens
IsWithinLimits d (item.Point name vars left_term right_term whens) = (length d.points.points < 64) × IsPointWithin (vocabulary_in d.left) (vocabulary_in d.right) vars left_term right_term whens
IsWithinLimits d _ = ⊤
