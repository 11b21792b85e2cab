-- What it says of a form that a reader of shapes refuses it.
use Rattle.std.specs.Prelude.{Result, IsErrOf}
use Rattle.rule_text.specs.declared.refused.ShapeError.{ShapeError}
use Rattle.rule_text.specs.declared.refused.ShapeError.TheVariants.{NoItem}

-- the answer is `NoItem` only where no value fits
abbrev pub RefusedOnlyIfNone : {X : Type 0} → Result X ShapeError → (X → Type 0) → Type 0
RefusedOnlyIfNone result Fits = IsErrOf result NoItem → (x : _) → ¬ Fits x
