-- What each item that is taken keeps is kept by all of them.
use Rattle.std.proofs.Common.{ℕ, List, [], ◌∷◌, map, subst}
use Rattle.sexp_text.specs.Printed.{without_spans}
use Rattle.sexp_text.specs.declared.form.Form.{Form}
use Rattle.rule_text.specs.Turns.{InTurn}
use Rattle.rule_text.specs.declared.item.Item.{Item}
use Rattle.rule_text.specs.Faults.{Loading, TakesItem, TakesForm, AreTaken, IsTextOf}

module _ {D : Type 0} (l : Loading D) (start : D) (P : D → Type 0) (begins : P start) (keeps : (d : D) (i : Item) (e : D) → P d → TakesItem l d i e → P e) where
  turns_keep : (d e : D) (forms : List Form) → P d → InTurn (TakesForm l) d forms e → P e
  turns_keep d e [] holds t = subst P t holds
  turns_keep d e (form ∷ forms) holds t = turns_keep t.0 e forms (keeps d t.1.item t.0 holds t.1.takes) t.2

  -- what holds where nothing is taken, and is kept by each item that is taken, holds of what forms make
  pub taken_keeps : (forms : List Form) (d : D) → AreTaken l start forms d → P d
  taken_keeps forms d taken = turns_keep start d (map without_spans forms) begins taken

  -- and of what a text makes
  pub text_keeps : (bytes : List ℕ) (d : D) → IsTextOf l start bytes d → P d
  text_keeps bytes d text = taken_keeps text.forms d text.taken
