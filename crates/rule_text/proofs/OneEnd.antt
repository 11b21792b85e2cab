-- A text makes one value or has one first fault, where what an item adds is determined.
use Rattle.std.proofs.Common.{◌≡◌, ◌<◌, ◌≤◌, ◌+◌, ◌==◌, if◌then◌else◌, option_map, ◌⊎◌, inl, inr, ℕ, zero, suc, List, [], ◌∷◌, map, take, slice_get, Some, None, refl, sym, ◌∙◌, ap, subst, arith}
use Rattle.std.proofs.lemmas.Bool.{cases_lt}
use Rattle.std.proofs.lemmas.List.{take-map}
use Rattle.std.proofs.lemmas.Option.{same_Some, slice_get-map}
use Rattle.sexp_text.specs.declared.form.Form.{Form}
use Rattle.sexp_text.specs.declared.fault.TextFault.{TextFault}
use Rattle.sexp_text.specs.Faults.{IsFirstFault}
use Rattle.sexp_text.specs.Printed.{without_spans}
use Rattle.sexp_text.specs.Text.{IsText}
use Rattle.sexp_text.proofs.Apart.{apart}
use Rattle.sexp_text.proofs.Sound.{text_faultless}
use Rattle.sexp_text.proofs.Unique.{unique}
use Rattle.rule_text.specs.Turns.{InTurn}
use Rattle.rule_text.specs.declared.item.Item.{Item}
use Rattle.rule_text.specs.declared.error.ItemFault.{ItemFault}
use Rattle.rule_text.specs.declared.error.ItemFault.TheVariants.{Shape, Name, Limit, Sort, Unbound, DoubleKey, Undetermined}
use Rattle.rule_text.specs.declared.error.LoadFault.{LoadFault}
use Rattle.rule_text.specs.declared.error.LoadFault.TheVariants as load
use Rattle.rule_text.specs.Faults.{Loading, AddsOne, number_of, fault_in, IsFirstIn, TakesForm, IsFormFault, no_item, of_item, AreTaken, IsFaultAt, IsTextOf, IsWholeText, IsFaultOf, in_bytes, in_item, in_whole}
use Rattle.rule_text.proofs.Turns.{same_turns}
use Rattle.rule_text.proofs.UniqueItems.{one_item}

-- the kind of fault with a number
of_number : ℕ → ItemFault
of_number n = if n == 2 then Shape else if n == 3 then Name else if n == 4 then Limit else if n == 5 then Sort else if n == 6 then Unbound else if n == 8 then DoubleKey else Undetermined

numbered : (fault : ItemFault) → of_number (number_of fault) ≡ fault
unfolding of_number
numbered Shape = refl
numbered Name = refl
numbered Limit = refl
numbered Sort = refl
numbered Unbound = refl
numbered DoubleKey = refl
numbered Undetermined = refl

-- the things before this one take d to some end, behind which it has this fault
record HasAt {D X : Type 0} (Step : D → X → D → Type 0) (Has : D → X → ItemFault → Type 0) (d : D) (xs : List X) (place : ℕ) (fault : ItemFault) : Type 0 where
  before : D
  taken : InTurn Step d (take place xs) before
  x : X
  there : slice_get xs place ≡ Some x
  has : Has before x fault

-- where each thing leads to one end or has one fault, so do several
module _ {D X : Type 0} (Step : D → X → D → Type 0) (Has : D → X → ItemFault → Type 0) (one : (d : D) (x : X) (e f : D) → Step d x e → Step d x f → e ≡ f) (never : (d : D) (x : X) (e : D) (f : ItemFault) → Step d x e → Has d x f → ⊥) (single : (d : D) (x : X) (f g : ItemFault) → Has d x f → Has d x g → f ≡ g) where
  at_front : (d : D) (x : X) (xs : List X) (f : ItemFault) → HasAt Step Has d (x ∷ xs) zero f → Has d x f
  at_front d x xs f a =
      let same : a.x ≡ x = same_Some a.x x (sym a.there) in
      let start : a.before ≡ d = sym a.taken in
      subst (λ (b : D). Has b x f) start (subst (λ (y : X). Has a.before y f) same a.has)

  behind_front : (d m : D) (x : X) (xs : List X) (place : ℕ) (f : ItemFault) → Step d x m → HasAt Step Has d (x ∷ xs) (suc place) f → HasAt Step Has m xs place f
  behind_front d m x xs place f step a =
      let there : slice_get xs place ≡ Some a.x = a.there in
      let same : a.taken.0 ≡ m = one d x a.taken.0 m a.taken.1 step in
      record { before = a.before; taken = subst (λ (b : D). InTurn Step b (take place xs) a.before) same a.taken.2; x = a.x; there = there; has = a.has }

  no_fault : (d e : D) (xs : List X) (place : ℕ) (f : ItemFault) → InTurn Step d xs e → HasAt Step Has d xs place f → ⊥
  no_fault d e [] place f t a = let none : None ≡ Some a.x = a.there in absurd cc
  no_fault d e (x ∷ xs) zero f t a = never d x t.0 f t.1 (at_front d x xs f a)
  no_fault d e (x ∷ xs) (suc place) f t a = no_fault t.0 e xs place f t.2 (behind_front d t.0 x xs place f t.1 a)

  one_fault_at : (d : D) (xs : List X) (p q : ℕ) (f g : ItemFault) → HasAt Step Has d xs p f → HasAt Step Has d xs q g → (p ≡ q) × (f ≡ g)
  one_fault_at d [] p q f g a b = let none : None ≡ Some a.x = a.there in absurd cc
  one_fault_at d (x ∷ xs) zero zero f g a b = (refl, single d x f g (at_front d x xs f a) (at_front d x xs g b))
  one_fault_at d (x ∷ xs) zero (suc q) f g a b = absurd (never d x b.taken.0 f b.taken.1 (at_front d x xs f a))
  one_fault_at d (x ∷ xs) (suc p) zero f g a b = absurd (never d x a.taken.0 g a.taken.1 (at_front d x xs g b))
  one_fault_at d (x ∷ xs) (suc p) (suc q) f g a b =
      let rest = one_fault_at a.taken.0 xs p q f g (behind_front d a.taken.0 x xs p f a.taken.1 a) (behind_front d a.taken.0 x xs q g a.taken.1 b) in
      (ap suc rest.0, rest.1)

-- the forms of a text are its only ones
same_forms : (bytes : List ℕ) (fs gs : List Form) → IsText bytes fs → IsText bytes gs → fs ≡ gs
same_forms bytes fs gs t u = unique bytes fs gs t.spelled u.spelled

-- a text has one first fault of its bytes
same_fault : (bytes : List ℕ) (a b : TextFault) → IsFirstFault bytes a → IsFirstFault bytes b → a ≡ b
same_fault bytes a b f g = let le = f.first b g.has in let ge = g.first a f.has in apart bytes a b f.has g.has (omega arith)

module _ {D : Type 0} (l : Loading D) (adds_one : AddsOne l) where
  first_one : (d : D) (i : Item) (f g : ItemFault) → IsFirstIn l d i f → IsFirstIn l d i g → number_of f ≡ number_of g
  first_one d i f g a b = by (cases_lt (number_of f) (number_of g)) (cases_lt (number_of g) (number_of f))
    where
      by : (number_of f < number_of g) ⊎ (number_of g ≤ number_of f) → (number_of g < number_of f) ⊎ (number_of f ≤ number_of g) → number_of f ≡ number_of g
      by (inl low) other = absurd (a.fails (b.lower f low))
      by (inr high) (inl low) = absurd (b.fails (a.lower g low))
      by (inr high) (inr low) = omega arith

  -- an item has one first fault at most
  pub one_first : (d : D) (i : Item) (f g : ItemFault) → IsFirstIn l d i f → IsFirstIn l d i g → f ≡ g
  one_first d i f g a b = sym (numbered f) ∙ ap of_number (first_one d i f g a b) ∙ numbered g

  form_end : (d : D) (form : Form) (e f : D) → TakesForm l d form e → TakesForm l d form f → e ≡ f
  form_end d form e f t u = adds_one d t.item e f t.takes.adds (subst (λ i. l.Adds d i f) (one_item l.kind form u.item t.item u.written t.written) u.takes.adds)

  form_never : (d : D) (form : Form) (e : D) (f : ItemFault) → TakesForm l d form e → IsFormFault l d form f → ⊥
  form_never d form e Shape t (no_item none) = none t.item t.written
  form_never d form e f t (of_item i _ w first) = first.fails (subst (λ j. l.Passes f d j) (one_item l.kind form t.item i t.written w) (t.takes.lawful f))

  form_single : (d : D) (form : Form) (f g : ItemFault) → IsFormFault l d form f → IsFormFault l d form g → f ≡ g
  form_single d form Shape Shape (no_item none) (no_item _) = refl
  form_single d form Shape g (no_item none) (of_item i _ w first) = absurd (none i w)
  form_single d form f Shape (of_item i _ w first) (no_item none) = absurd (none i w)
  form_single d form f g (of_item i _ w first) (of_item j _ v second) = one_first d i f g first (subst (λ k. IsFirstIn l d k g) (one_item l.kind form j i v w) second)

module _ {D : Type 0} (l : Loading D) (adds_one : AddsOne l) (start : D) where
  has_at : (forms : List Form) (place : ℕ) (fault : ItemFault) → IsFaultAt l start forms place fault → HasAt (TakesForm l) (IsFormFault l) start (map without_spans forms) place fault
  has_at forms place fault a = record {
    before = a.before;
    taken = subst (λ (fs : List Form). InTurn (TakesForm l) start fs a.before) (sym (take-map without_spans place forms)) a.taken;
    x = without_spans a.form;
    there = slice_get-map without_spans forms place ∙ ap (option_map without_spans) a.there;
    has = a.has;
  }

  taken_end : (forms : List Form) (d e : D) → AreTaken l start forms d → AreTaken l start forms e → d ≡ e
  taken_end forms d e t u = same_turns (TakesForm l) (form_end l adds_one) start d e (map without_spans forms) t u

  text_end : (bytes : List ℕ) (d e : D) → IsTextOf l start bytes d → IsTextOf l start bytes e → d ≡ e
  text_end bytes d e t u = taken_end t.forms d e t.taken (subst (λ fs. AreTaken l start fs e) (same_forms bytes u.forms t.forms u.text t.text) u.taken)

  -- an item's fault and the value of a text exclude each other
  no_fault_in_text : (bytes : List ℕ) (d : D) (forms : List Form) (place : ℕ) (fault : ItemFault) → IsTextOf l start bytes d → IsText bytes forms → IsFaultAt l start forms place fault → ⊥
  no_fault_in_text bytes d forms place fault t text a =
      let taken = subst (λ fs. AreTaken l start fs d) (same_forms bytes t.forms forms t.text text) t.taken in
      no_fault (TakesForm l) (IsFormFault l) (form_end l adds_one) (form_never l adds_one) (form_single l adds_one) start d (map without_spans forms) place fault taken (has_at forms place fault a)

  same_place : (bytes : List ℕ) (fs gs : List Form) (p q : ℕ) (f g : ItemFault) → IsText bytes fs → IsFaultAt l start fs p f → IsText bytes gs → IsFaultAt l start gs q g → fault_in f (p + 1) ≡ fault_in g (q + 1)
  same_place bytes fs gs p q f g t a u b =
      let there = subst (λ hs. IsFaultAt l start hs q g) (same_forms bytes gs fs u t) b in
      let same = one_fault_at (TakesForm l) (IsFormFault l) (form_end l adds_one) (form_never l adds_one) (form_single l adds_one) start (map without_spans fs) p q f g (has_at fs p f a) (has_at fs q g there) in
      ap (λ k. fault_in k (p + 1)) same.1 ∙ ap (λ n. fault_in g (n + 1)) same.0

  -- a text makes one value at most
  pub one_value : (bytes : List ℕ) (d e : D) → IsWholeText l start bytes d → IsWholeText l start bytes e → d ≡ e
  one_value bytes d e t u = text_end bytes d e t.text u.text

  -- a text has one first fault at most
  pub one_fault : (bytes : List ℕ) (f g : LoadFault) → IsFaultOf l start bytes f → IsFaultOf l start bytes g → f ≡ g
  one_fault bytes _ _ (in_bytes a first) (in_bytes b second) = ap load.Text (same_fault bytes a b first second)
  one_fault bytes _ _ (in_bytes a first) (in_item forms place fault text at) = absurd (text_faultless bytes forms text a first.has)
  one_fault bytes _ _ (in_bytes a first) (in_whole d fault t lacks) = absurd (text_faultless bytes t.forms t.text a first.has)
  one_fault bytes _ _ (in_item forms place fault text at) (in_bytes b second) = absurd (text_faultless bytes forms text b second.has)
  one_fault bytes _ _ (in_item fs p f t a) (in_item gs q g u b) = same_place bytes fs gs p q f g t a u b
  one_fault bytes _ _ (in_item forms place fault text at) (in_whole d other t lacks) = absurd (no_fault_in_text bytes d forms place fault t text at)
  one_fault bytes _ _ (in_whole d fault t lacks) (in_bytes b second) = absurd (text_faultless bytes t.forms t.text b second.has)
  one_fault bytes _ _ (in_whole d other t lacks) (in_item forms place fault text at) = absurd (no_fault_in_text bytes d forms place fault t text at)
  one_fault bytes _ _ (in_whole d f t lacks) (in_whole e g u lacks') = same_Some f g (sym lacks ∙ ap l.lacking (text_end bytes d e t u) ∙ lacks')

  -- a text that makes a value has no fault
  pub no_value_and_fault : (bytes : List ℕ) (d : D) (f : LoadFault) → IsWholeText l start bytes d → IsFaultOf l start bytes f → ⊥
  no_value_and_fault bytes d _ w (in_bytes a first) = text_faultless bytes w.text.forms w.text.text a first.has
  no_value_and_fault bytes d _ w (in_item forms place fault text at) = no_fault_in_text bytes d forms place fault w.text text at
  no_value_and_fault bytes d _ w (in_whole e f t lacks) =
      let none : None ≡ Some f = sym w.whole ∙ ap l.lacking (text_end bytes d e w.text t) ∙ lacks in cc
