-- What a node shows determines that its meaning depends on the domain's variables alone, and that it is of the node's sort.
use Rattle.std.proofs.Common.{arith, ◌≡◌, ℕ, zero, suc, ◌<◌, ◌≤◌, IsTrue, List, [], ◌∷◌, length, map, get_or, slice_get, All, Some, refl, sym, ap, ◌∙◌, subst}
use Rattle.std.proofs.lemmas.List.Elements.{All-nil, All-cons, All-head, All-tail}
use Rattle.data_value.specs.declared.DataSort.{DataSort}
use Rattle.data_value.specs.declared.Op.{Op}
use Rattle.data_value.specs.declared.Scalar.TheVariants.{Flag, Bits}
use Rattle.data_value.specs.declared.Value.{Value}
use Rattle.data_value.specs.declared.Value.TheVariants.{One, Map}
use Rattle.data_value.specs.Sorts.{IsSort, op_sort}
use Rattle.data_value.specs.Values.{IsValue, IsValueOf, value_sort}
use Rattle.data_value.specs.Ops.{op_value}
use Rattle.data_value.specs.Trials.{trial}
use Rattle.data_value.specs.Nodes.{Seen, Shown, Variable, Constant, Apply, Extends, IsValuation, IsLawful, AllValid, sorts_of, meanings_of}
use Rattle.data_value.specs.Views.{IsShown, IsShownValue, AgreeBelow, shown_args, shown_value, shown_sort, value_at, heights}
use Rattle.data_value.specs.NodeLaws.{MeansItsSort, HasSort, MeansWhatIsKnown, DependsOnVariables}
use Rattle.data_value.proofs.OpLemmas.{operator_keeps_sort}
use Rattle.data_value.proofs.TrialLemmas.{trial_fits}

-- arguments that stand below h stand below any number above
lower_all : {N : Type 0} (f : N → Seen N) (P : N → Type 0) (h k : ℕ) → h ≤ k → ((n : N) → (f n).height < k → IsTrue (f n).valid → P n) → (ns : List N) → AllValid f ns → All (λ m. (f m).height < h) ns → All P ns
lower_all f P h k le below [] ok low = All-nil P
lower_all f P h k le below (n ∷ ns) ok low =
    let lower = All-head (λ m. (f m).height < h) n ns low in
    All-cons P n ns (below n (omega arith) (All-head (λ m. IsTrue (f m).valid) n ns ok)) (lower_all f P h k le below ns (All-tail (λ m. IsTrue (f m).valid) n ns ok) (All-tail (λ m. (f m).height < h) n ns low))

-- what holds of a node where it holds of the arguments that it shows holds of every node
module _ {N : Type 0} (f : N → Seen N) (sorts : List DataSort) (shows : (n : N) → IsTrue (f n).valid → IsShown f sorts n) (P : N → Type 0) (step : (n : N) → IsTrue (f n).valid → All P (shown_args (f n).shown) → P n) where
  below_all : (k : ℕ) (n : N) → (f n).height < k → IsTrue (f n).valid → P n
  below_all zero = λ n lt ok. absurd (omega arith)
  below_all (suc k) = λ n lt ok.
      let is = shows n ok in
      step n ok (lower_all f P (f n).height k (omega arith) (below_all k) (shown_args (f n).shown) is.args_valid is.args_lower)

  pub by_arguments : (n : N) → IsTrue (f n).valid → P n
  by_arguments n ok = below_all (suc (f n).height) n (omega arith) ok

variable_within : (sorts : List DataSort) (i : ℕ) (s : DataSort) → slice_get sorts i ≡ Some s → i < length sorts
variable_within [] i s e = cc
variable_within (r ∷ rs) zero s e = omega arith
variable_within (r ∷ rs) (suc i) s e = let h = variable_within rs i s e in omega arith

module _ {N : Type 0} (f : N → Seen N) (sorts : List DataSort) (shows : (n : N) → IsTrue (f n).valid → IsShown f sorts n) where
  module _ (v w : List Value) (agree : AgreeBelow (length sorts) v w) where
    abbrev Same : N → Type 0
    Same n = (f n).meaning v ≡ (f n).meaning w

    same_all : (ns : List N) → All Same ns → meanings_of f v ns ≡ meanings_of f w ns
    same_all [] a = refl
    same_all (n ∷ ns) a =
        let here : (f n).meaning v ≡ (f n).meaning w = All-head Same n ns a in
        let rest : meanings_of f v ns ≡ meanings_of f w ns = same_all ns (All-tail Same n ns a) in
        cc

    same_shown : (x : Shown N) (s : DataSort) → shown_sort f sorts x ≡ Some s → All Same (shown_args x) → shown_value f v x ≡ shown_value f w x
    same_shown (Variable i) s e a = agree.at i (variable_within sorts i s e)
    same_shown (Constant x) s e a = refl
    same_shown (Apply op ns) s e a = ap (op_value op) (same_all ns a)

    same_step : (n : N) → IsTrue (f n).valid → All Same (shown_args (f n).shown) → Same n
    same_step n ok a = let is = shows n ok in is.means v ∙ same_shown (f n).shown (f n).sort is.sort a ∙ sym (is.means w)

    same : (n : N) → IsTrue (f n).valid → Same n
    same = by_arguments f sorts shows Same same_step

  pub depends : (n : N) → DependsOnVariables f sorts n
  depends n = λ ok v w agree. same v w agree n ok

  module _ (v : List Value) (fits : IsValuation sorts v) where
    abbrev Sorted : N → Type 0
    Sorted n = IsValueOf (f n).sort ((f n).meaning v)

    sorted_variable : (vs : List Value) (ss : List DataSort) (i : ℕ) (s : DataSort) → All IsValue vs → map value_sort vs ≡ ss → slice_get ss i ≡ Some s → IsValueOf s (value_at vs i)
    sorted_variable [] ss i s a e h = absurd (let q : [] ≡ ss = e in let r : slice_get [] i ≡ Some s = ap (λ l. slice_get l i) q ∙ h in cc)
    sorted_variable (x ∷ vs) [] i s a e h = absurd (cc)
    sorted_variable (x ∷ vs) (r ∷ ss) zero s a e h = record { value = All-head IsValue x vs a; sort = cc }
    sorted_variable (x ∷ vs) (r ∷ ss) (suc i) s a e h = let q : map value_sort vs ≡ ss = cc in sorted_variable vs ss i s (All-tail IsValue x vs a) q h

    values_all : (ns : List N) → All Sorted ns → All IsValue (meanings_of f v ns)
    values_all [] a = All-nil IsValue
    values_all (n ∷ ns) a = All-cons IsValue ((f n).meaning v) (meanings_of f v ns) (All-head Sorted n ns a).value (values_all ns (All-tail Sorted n ns a))

    sorts_all : (ns : List N) → All Sorted ns → map value_sort (meanings_of f v ns) ≡ sorts_of f ns
    sorts_all [] a = refl
    sorts_all (n ∷ ns) a =
        let here : value_sort ((f n).meaning v) ≡ (f n).sort = (All-head Sorted n ns a).sort in
        let rest : map value_sort (meanings_of f v ns) ≡ sorts_of f ns = sorts_all ns (All-tail Sorted n ns a) in
        cc

    sorted_shown : (x : Shown N) (s : DataSort) → shown_sort f sorts x ≡ Some s → IsShownValue x → All Sorted (shown_args x) → IsValueOf s (shown_value f v x)
    sorted_shown (Variable i) s e l a = sorted_variable v sorts i s fits.values fits.sorted e
    sorted_shown (Constant x) s e l a = record { value = l; sort = cc }
    sorted_shown (Apply op ns) s e l a = operator_keeps_sort op (meanings_of f v ns) s (values_all ns a) (ap (op_sort op) (sorts_all ns a) ∙ e)

    sorted_step : (n : N) → IsTrue (f n).valid → All Sorted (shown_args (f n).shown) → Sorted n
    sorted_step n ok a = let is = shows n ok in subst (IsValueOf (f n).sort) (sym (is.means v)) (sorted_shown (f n).shown (f n).sort is.sort is.lawful a)

    sorted : (n : N) → IsTrue (f n).valid → Sorted n
    sorted = by_arguments f sorts shows Sorted sorted_step

  -- so a symbolic domain's nodes mean values of their sorts by what they show
  pub sorted_by_shown : (n : N) → MeansItsSort f sorts n
  sorted_by_shown n = λ ok v fits. sorted v fits n ok

-- a node that is there before a domain grows doesn't depend on what comes later
pub depends_later : {N : Type 0} (f g : N → Seen N) (sorts : List DataSort) → Extends f g → ((n : N) → IsTrue (f n).valid → IsShown f sorts n) → (n : N) → IsTrue (f n).valid → (v w : List Value) → AgreeBelow (length sorts) v w → (g n).meaning v ≡ (g n).meaning w
depends_later f g sorts grown shows n ok v w agree =
    let kept = grown.keeps n ok in
    ap (λ s. s.meaning v) kept ∙ depends f sorts shows n ok v w agree ∙ sym (ap (λ s. s.meaning w) kept)

value_has_sort : (x : Value) → IsValue x → IsSort (value_sort x)
value_has_sort (One (Flag b)) h = tt
value_has_sort (One (Bits w x)) h = h.0
value_has_sort (Map m) h = (h.key_width, h.word_width)

module _ {N : Type 0} (f : N → Seen N) (sorts : List DataSort) (laws : IsLawful f sorts) where
  first_trial : IsValuation sorts (trial 0 sorts)
  first_trial = let t = trial_fits 0 sorts laws.sorts in record { values = t.0; sorted = t.1 }

  pub has_sort : (n : N) → HasSort f n
  has_sort n ok =
      let is = laws.sorted n ok (trial 0 sorts) first_trial in
      subst IsSort is.sort (value_has_sort ((f n).meaning (trial 0 sorts)) is.value)

  pub means_known : (n : N) → MeansWhatIsKnown f n
  means_known n ok c e =
      let is = laws.sorted n ok (trial 0 sorts) first_trial in
      (subst (IsValueOf (f n).sort) (laws.known n c ok e (trial 0 sorts)) is, laws.known n c ok e)

-- the arguments that a node shows stand lower
module _ {N : Type 0} (f : N → Seen N) where
  pub height_at : (ns : List N) (i : ℕ) (n : N) → i < length ns → n ≡ get_or ns i n → (f n).height < heights f ns
  height_at [] i n lt is = absurd (omega arith)
  height_at (m ∷ ns) zero n lt is = let e = ap (λ x. (f x).height) is in omega arith
  height_at (m ∷ ns) (suc i) n lt is = let h = height_at ns i n (omega arith) is in omega arith

  heights_below : (ns : List N) (h : ℕ) → All (λ m. (f m).height < h) ns → heights f ns ≤ h
  heights_below [] h a = omega arith
  heights_below (n ∷ ns) h a =
      let here = All-head (λ m. (f m).height < h) n ns a in
      let rest = heights_below ns h (All-tail (λ m. (f m).height < h) n ns a) in
      omega arith

  pub args_lower : (sorts : List DataSort) (n : N) (op : Op) (ns : List N) → Apply op ns ≡ (f n).shown → IsShown f sorts n → heights f ns ≤ (f n).height
  args_lower sorts n op ns e shown =
      let h = heights_below (shown_args (f n).shown) (f n).height shown.args_lower in
      let d = ap (λ s. heights f (shown_args s)) e in
      omega arith

  pub args_valid : (sorts : List DataSort) (n : N) (op : Op) (ns : List N) → Apply op ns ≡ (f n).shown → IsShown f sorts n → AllValid f ns
  args_valid sorts n op ns e shown = subst (λ s. AllValid f (shown_args s)) (sym e) shown.args_valid
