-- Forms are those of items up to a first one of no shape.
use Rattle.std.proofs.Common.{◌≡◌, ◌<◌, ◌≤◌, ◌+◌, ◌⊎◌, inl, inr, ℕ, zero, suc, List, [], ◌∷◌, ◌++◌, map, take, length, get_or, slice_get, Some, None, All, refl, sym, ◌∙◌, ap, arith}
use Rattle.std.proofs.lemmas.Bool.{cases_lt}
use Rattle.std.proofs.lemmas.List.{take_all, length-map}
use Rattle.std.proofs.lemmas.List.Elements.{All-head, All-tail}
use Rattle.std.proofs.lemmas.Option.{same_Some, slice_get_read}
use Rattle.sexp_text.specs.Printed.{without_spans}
use Rattle.sexp_text.specs.declared.form.Form.{Form}
use Rattle.rule_text.specs.Written.{written_item}
use Rattle.rule_text.specs.Lawful.{IsItemOf}
use Rattle.rule_text.specs.Writes.{WritesItem, AreWritten, WritesItems}
use Rattle.rule_text.specs.Shapes.{IsShapeError, IsMisfit, no_item, second, missing, IsItemsError}
use Rattle.rule_text.specs.Faults.{error_in}
use Rattle.rule_text.specs.declared.item.FileKind.{FileKind}
use Rattle.rule_text.specs.declared.item.FileKind.TheVariants.{Start}
use Rattle.rule_text.specs.declared.item.Item.{Item}
use Rattle.rule_text.specs.declared.error.ItemFault.TheVariants.{Shape, Name, Limit, Sort, Unbound, DoubleKey, Undetermined}
use Rattle.rule_text.specs.declared.error.ItemError.{ItemError}
use Rattle.rule_text.specs.declared.error.ItemError.TheVariants.{Fault, NoMemory}
use Rattle.rule_text.proofs.Lists.{map_pushed, All_pushed}
use Rattle.rule_text.proofs.Slices.{length_of}

-- no forms are those of no items
pub none_written : (kind : FileKind) → AreWritten kind [] []
none_written kind = record { spelled = refl; lawful = λ k d within. absurd (omega arith) }

-- one item more
pub one_more : (kind : FileKind) (forms : List Form) (k : ℕ) (form : Form) (items more : List Item) (i : Item) → k < length forms → form ≡ get_or forms k form → AreWritten kind (take k forms) items → WritesItem kind (without_spans form) i → more ≡ items ++ i ∷ [] → AreWritten kind (take (k + 1) forms) more
one_more kind forms k form items more i within is so_far w pushed = record {
  spelled = map_pushed without_spans written_item forms k form items more i within is so_far.spelled w.spelled pushed;
  lawful = All_pushed (IsItemOf kind) items more i so_far.lawful w.lawful pushed;
}

-- a form of no item behind those of items
pub misread : (kind : FileKind) (forms : List Form) (k : ℕ) (form : Form) (items : List Item) (e : ItemError) → (kind ≡ Start → k ≡ 0) → k < length forms → form ≡ get_or forms k form → AreWritten kind (take k forms) items → IsShapeError kind (without_spans form) e → IsItemsError kind forms (error_in e (k + 1))
misread kind forms k form items (Fault Shape) first within is so_far none = (k, refl, no_item k items form so_far (slice_get_read forms (length forms) k form refl within is) none first)
misread kind forms k form items (Fault Name) first within is so_far none = absurd none
misread kind forms k form items (Fault Limit) first within is so_far none = absurd none
misread kind forms k form items (Fault Sort) first within is so_far none = absurd none
misread kind forms k form items (Fault Unbound) first within is so_far none = absurd none
misread kind forms k form items (Fault DoubleKey) first within is so_far none = absurd none
misread kind forms k form items (Fault Undetermined) first within is so_far none = absurd none
misread kind forms k form items NoMemory first within is so_far none = tt

-- the first form of a start text is that of its item
pub first_written : (forms : List Form) (form : Form) (i : Item) → 1 ≤ length forms → form ≡ get_or forms 0 form → WritesItem Start (without_spans form) i → AreWritten Start (take 1 forms) (i ∷ [])
first_written forms form i some is w = one_more Start forms 0 form [] (i ∷ []) i (omega arith) is (none_written Start) w refl

-- there is a second form
pub second_form : (forms : List Form) (form : Form) (i : Item) → 1 ≤ length forms → form ≡ get_or forms 0 form → WritesItem Start (without_spans form) i → 1 < length forms → IsMisfit Start forms 1
second_form forms form i some is w more = second (i ∷ []) refl (first_written forms form i some is w) more

-- the form before a place is that of an item
written_before : (kind : FileKind) (forms : List Form) (items : List Item) (q p : ℕ) (form : Form) → map without_spans (take q forms) ≡ map written_item items → All (IsItemOf kind) items → p < q → slice_get forms p ≡ Some form → (i : Item) × WritesItem kind (without_spans form) i
written_before kind [] items q p form e all below there = let none : None ≡ Some form = there in absurd cc
written_before kind (f ∷ forms) items zero p form e all below there = absurd (omega arith)
written_before kind (f ∷ forms) [] (suc q) p form e all below there = absurd cc
written_before kind (f ∷ forms) (i ∷ items) (suc q) zero form e all below there =
    let same : form ≡ f = same_Some form f (sym there) in
    let first : without_spans f ≡ written_item i = cc in
    (i, record { spelled = ap without_spans same ∙ first; lawful = All-head (IsItemOf kind) i items all })
written_before kind (f ∷ forms) (i ∷ items) (suc q) (suc p) form e all below there =
    let later : slice_get forms p ≡ Some form = there in
    written_before kind forms items q p form (cc) (All-tail (IsItemOf kind) i items all) (omega arith) later

-- and so is each of forms that are those of items
within_of : {X : Type 0} (xs : List X) (p : ℕ) (x : X) → slice_get xs p ≡ Some x → p < length xs
within_of [] p x there = let none : None ≡ Some x = there in absurd cc
within_of (y ∷ xs) zero x there = omega arith
within_of (y ∷ xs) (suc p) x there = let later : slice_get xs p ≡ Some x = there in let rest = within_of xs p x later in omega arith

written_at : (kind : FileKind) (forms : List Form) (items : List Item) (p : ℕ) (form : Form) → AreWritten kind forms items → slice_get forms p ≡ Some form → (i : Item) × WritesItem kind (without_spans form) i
written_at kind forms items p form w there =
    written_before kind forms items (length forms) p form (ap (map without_spans) (take_all (length forms) forms (omega arith)) ∙ w.spelled) w.lawful (within_of forms p form there) there

-- what writes items has no misfit
pub no_misfit : (kind : FileKind) (forms : List Form) (items : List Item) (place : ℕ) → WritesItems kind forms items → IsMisfit kind forms place → ⊥
no_misfit kind forms items _ w (no_item place before form written there none first) =
    let here = written_at kind forms items place form w.written there in none here.0 here.1
no_misfit kind forms items _ w (second before is written more) =
    let one = w.one is in
    let count : length forms ≡ length items = length_of without_spans forms (map written_item items) w.written.spelled ∙ length-map items written_item in absurd (omega arith)
no_misfit kind forms items _ w (missing is none) =
    let one = w.one is in
    let count : length forms ≡ length items = length_of without_spans forms (map written_item items) w.written.spelled ∙ length-map items written_item in
    let empty : length forms ≡ 0 = ap length none in absurd (omega arith)

-- two misfits are one
pub one_misfit : (kind : FileKind) (forms : List Form) (p q : ℕ) → IsMisfit kind forms p → IsMisfit kind forms q → p ≡ q
one_misfit kind forms _ _ (no_item p before form written there none first) (no_item q before' form' written' there' none' first') =
    by (cases_lt p q) (cases_lt q p)
  where
    by : (p < q) ⊎ (q ≤ p) → (q < p) ⊎ (p ≤ q) → p ≡ q
    by (inl low) other = let here = written_before kind forms before' q p form written'.spelled written'.lawful low there in absurd (none here.0 here.1)
    by (inr high) (inl low) = let here = written_before kind forms before p q form' written.spelled written.lawful low there' in absurd (none' here.0 here.1)
    by (inr high) (inr low) = omega arith
one_misfit kind forms _ _ (no_item p before form written there none first) (second before' is written' more) =
    let start : p ≡ 0 = first is in
    let here = written_before kind forms before' 1 p form written'.spelled written'.lawful (omega arith) there in absurd (none here.0 here.1)
one_misfit kind forms _ _ (no_item p before form written there none first) (missing is empty) = first is
one_misfit kind forms _ _ (second before' is written' more) (no_item p before form written there none first) =
    let start : p ≡ 0 = first is in
    let here = written_before kind forms before' 1 p form written'.spelled written'.lawful (omega arith) there in absurd (none here.0 here.1)
one_misfit kind forms _ _ (second before is written more) (second before' is' written' more') = refl
one_misfit kind forms _ _ (second before is written more) (missing is' empty) = let none : length forms ≡ 0 = ap length empty in absurd (omega arith)
one_misfit kind forms _ _ (missing is empty) (no_item p before form written there none first) = sym (first is)
one_misfit kind forms _ _ (missing is empty) (second before is' written more) = let none : length forms ≡ 0 = ap length empty in absurd (omega arith)
one_misfit kind forms _ _ (missing is empty) (missing is' empty') = refl
