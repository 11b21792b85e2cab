-- Forms that act one after the other: what is known of one behind those before it, and of all of them.
use Rattle.std.proofs.Common.{◌≡◌, ◌<◌, ◌≤◌, ◌+◌, ℕ, List, map, take, length, get_or, Some, Result, IfOk, IfErr, refl, sym, ◌∙◌, ap, subst}
use Rattle.std.proofs.lemmas.List.{take_all, take-map, length-map, get_or-map}
use Rattle.std.proofs.lemmas.Option.{slice_get_read}
use Rattle.std.proofs.lemmas.Result.{IfOk-weaker, IfErr-weaker}
use Rattle.sexp_text.specs.declared.form.Form.{Form}
use Rattle.sexp_text.specs.declared.fault.ReadError.{ReadError}
use Rattle.sexp_text.specs.declared.fault.ReadError.TheVariants as read
use Rattle.sexp_text.specs.Faults.{IsReadError}
use Rattle.sexp_text.specs.Printed.{without_spans}
use Rattle.sexp_text.specs.Text.{IsText}
use Rattle.rule_text.specs.Turns.{InTurn}
use Rattle.rule_text.specs.Writes.{WritesItem}
use Rattle.rule_text.specs.Shapes.{IsShapeError}
use Rattle.rule_text.specs.declared.item.FileKind.{FileKind}
use Rattle.rule_text.specs.declared.item.Item.{Item}
use Rattle.rule_text.specs.declared.error.ItemFault.{ItemFault}
use Rattle.rule_text.specs.declared.error.ItemFault.TheVariants.{Shape, Name, Limit, Sort, Unbound, DoubleKey, Undetermined}
use Rattle.rule_text.specs.declared.error.ItemError.{ItemError}
use Rattle.rule_text.specs.declared.error.ItemError.TheVariants.{Fault, NoMemory}
use Rattle.rule_text.specs.declared.error.LoadFault.{LoadFault}
use Rattle.rule_text.specs.declared.error.LoadError.{LoadError}
use Rattle.rule_text.specs.declared.error.LoadError.TheVariants as error
use Rattle.rule_text.specs.Faults.{Loading, error_in, error_of_text, TakesItem, TakesForm, IsFirstIn, IsItemError, IsFormFault, no_item, of_item, IsFormError, AreTaken, IsFaultyAt, IsFaultOf, in_bytes, in_item, in_whole, IsLoadError}
use Rattle.rule_text.proofs.Turns.{in_turn_next}

-- a form at its place
at_place : (forms : List Form) (k : ℕ) (form : Form) → k < length forms → form ≡ get_or forms k form → without_spans form ≡ get_or (map without_spans forms) k (without_spans form)
at_place forms k form within is = ap without_spans is ∙ sym (get_or-map without_spans forms k form (without_spans form) within)

module _ {D : Type 0} (l : Loading D) where
  -- the form of an item that those before take
  pub form_taken : (kind : FileKind) (d : D) (form : Form) (i : Item) (e : D) → kind ≡ l.kind → WritesItem kind form i → TakesItem l d i e → TakesForm l d form e
  form_taken kind d form i e same w t = record { item = i; written = subst (λ k. WritesItem k form i) same w; takes = t }

  pub form_taken_if : (kind : FileKind) (d : D) (form : Form) (i : Item) (r : Result D ItemError) → kind ≡ l.kind → WritesItem kind form i → IfOk r (TakesItem l d i) → IfOk r (TakesForm l d form)
  form_taken_if kind d form i r same w taken = IfOk-weaker r (TakesItem l d i) (TakesForm l d form) (λ e t. form_taken kind d form i e same w t) taken

  -- the form of no item
  pub shape_refused : (kind : FileKind) (d : D) (form : Form) (e : ItemError) → kind ≡ l.kind → IsShapeError kind form e → IsFormError l d form e
  shape_refused kind d form (Fault Shape) same none = no_item (λ i w. none i (subst (λ k. WritesItem k form i) (sym same) w))
  shape_refused kind d form (Fault Name) same none = absurd none
  shape_refused kind d form (Fault Limit) same none = absurd none
  shape_refused kind d form (Fault Sort) same none = absurd none
  shape_refused kind d form (Fault Unbound) same none = absurd none
  shape_refused kind d form (Fault DoubleKey) same none = absurd none
  shape_refused kind d form (Fault Undetermined) same none = absurd none
  shape_refused kind d form NoMemory same none = tt

  -- the form of an item that is refused
  pub item_refused : (kind : FileKind) (d : D) (form : Form) (i : Item) (e : ItemError) → kind ≡ l.kind → WritesItem kind form i → IsItemError l d i e → IsFormError l d form e
  item_refused kind d form i (Fault fault) same w has = of_item i fault (subst (λ k. WritesItem k form i) same w) has
  item_refused kind d form i NoMemory same w has = tt

  pub item_refused_if : (kind : FileKind) (d : D) (form : Form) (i : Item) (r : Result D ItemError) → kind ≡ l.kind → WritesItem kind form i → IfErr r (IsItemError l d i) → IfErr r (IsFormError l d form)
  item_refused_if kind d form i r same w refused = IfErr-weaker r (IsItemError l d i) (IsFormError l d form) (λ e has. item_refused kind d form i e same w has) refused

module _ {D : Type 0} (l : Loading D) (start : D) where
  -- one form more
  pub next_taken : (forms : List Form) (k : ℕ) (form : Form) (d e : D) → k < length forms → form ≡ get_or forms k form → AreTaken l start (take k forms) d → TakesForm l d (without_spans form) e → AreTaken l start (take (k + 1) forms) e
  next_taken forms k form d e within is so_far step =
      subst (λ (fs : List Form). InTurn (TakesForm l) start fs e) (take-map without_spans (k + 1) forms)
      (in_turn_next (TakesForm l) start d e (map without_spans forms) k (without_spans form) (rw (length-map forms without_spans) within) (at_place forms k form within is)
      (subst (λ (fs : List Form). InTurn (TakesForm l) start fs d) (sym (take-map without_spans k forms)) so_far) step)

  -- the loop has come to the end
  pub all_taken : (forms : List Form) (k : ℕ) (d : D) → length forms ≤ k → AreTaken l start (take k forms) d → AreTaken l start forms d
  all_taken forms k d end so_far = subst (λ fs. AreTaken l start fs d) (take_all k forms end) so_far

  -- a form is refused behind those before it
  pub refused_at : (forms : List Form) (k : ℕ) (form : Form) (d : D) (e : ItemError) → k < length forms → form ≡ get_or forms k form → AreTaken l start (take k forms) d → IsFormError l d (without_spans form) e → IsFaultyAt l start forms (error_in e (k + 1))
  refused_at forms k form d (Fault fault) within is so_far has =
      (k, fault, refl, record { before = d; taken = so_far; form = form; there = slice_get_read forms (length forms) k form refl within is; has = has })
  refused_at forms k form d NoMemory within is so_far has = tt

  -- the bytes aren't read
  pub unread_text : (bytes : List ℕ) (e : ReadError) → IsReadError bytes e → IsLoadError l start bytes (error_of_text e)
  unread_text bytes (read.Text fault) first = in_bytes fault first
  unread_text bytes read.NoMemory first = tt

  -- a form of the text is refused
  pub faulty_text : (bytes : List ℕ) (forms : List Form) (e : LoadError) → IsText bytes forms → IsFaultyAt l start forms e → IsLoadError l start bytes e
  faulty_text bytes forms (error.Fault found) text at = subst (IsFaultOf l start bytes) (sym at.2) (in_item forms at.0 at.1 text at.3)
  faulty_text bytes forms error.NoMemory text at = tt

  -- something lacks of the whole
  pub lacking_text : (bytes : List ℕ) (forms : List Form) (d : D) (fault : LoadFault) → IsText bytes forms → AreTaken l start forms d → l.lacking d ≡ Some fault → IsFaultOf l start bytes fault
  lacking_text bytes forms d fault text taken lacks = in_whole d fault record { forms = forms; text = text; taken = taken } lacks
