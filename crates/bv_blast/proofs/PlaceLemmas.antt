-- Places and the values that they spell.
use Rattle.std.proofs.Common.{ℕ, zero, suc, ◌≡◌, ◌<◌, ◌+◌, ◌^◌, Bool, true, false, not, if◌then◌else◌, List, [], ◌∷◌, ◌++◌, length, take, map, get_or, All, Some, None, Option, IsSome, IsTrue, is_some, unwrap_or, nat_lt, refl, ap, ◌∙◌, sym, subst, arith}
use Rattle.std.specs.List.{list_all}
use Rattle.std.proofs.lemmas.Bool.{and_parts, ltb-true}
use Rattle.std.proofs.lemmas.List.{length-map, map_push, get_or_read, get_or-map}
use Rattle.std.proofs.lemmas.List.Elements.{All-get_or, All-nil, All-push, All-same, All-weaker, All-map}
use Rattle.std.proofs.Math.Nat.{mod-eq_of_lt}
use Rattle.refute_check.specs.declared.lit.Lit.{Lit}
use Rattle.refute_check.specs.Truth.{lit_true, flipped}
use Rattle.refute_check.proofs.TruthLemmas.{flipped_true}
use Rattle.data_value.specs.declared.DataSort.{DataSort}
use Rattle.data_value.specs.declared.DataSort.TheVariants.{Bool as BoolSort, Bits as BitsSort}
use Rattle.data_value.specs.declared.Scalar.{Scalar}
use Rattle.data_value.specs.declared.Scalar.TheVariants.{Flag as FlagValue, Bits as WordValue}
use Rattle.data_value.specs.declared.Op.{Op}
use Rattle.data_value.specs.declared.Op.TheVariants.{Not, Eq}
use Rattle.data_value.specs.declared.flat_formula.FlatNode.{FlatNode}
use Rattle.data_value.specs.declared.flat_formula.FlatNode.TheVariants.{Input, Fixed, Apply}
use Rattle.data_value.specs.Sorts.{IsWidth, IsSort, op_sort}
use Rattle.data_value.specs.Words.{wrap}
use Rattle.data_value.specs.Values.{scalar_sort, is_scalar}
use Rattle.data_value.specs.Ops.{scalar_value}
use Rattle.data_value.specs.Flat.{at_places, in_turn, node_sort, node_value, flat_sorts, flat_values}
use Rattle.data_value.proofs.FlatLemmas.{at_places-map, in_turn_more}
use Rattle.bit_gates.specs.declared.builder.Builder.{Builder}
use Rattle.bit_gates.specs.Bits.{number, constant_lit, exclusive_or}
use Rattle.bit_gates.specs.Grows.{Grows, Holds}
use Rattle.bit_gates.specs.Meaning.{HasLit, IsBit, IsWord}
use Rattle.bit_gates.proofs.RangeLemmas.{clause_below_more}
use Rattle.bv_blast.specs.declared.place.Place.{Place}
use Rattle.bv_blast.specs.declared.place.Place.TheVariants.{Flag, Word}
use Rattle.bv_blast.specs.Inputs.{IsBits, positive, spelled, words_of, widths_of}
use Rattle.bv_blast.specs.Places.{place_sort, place_value, HasPlace, HasOpValue, HasValue, HasNodeValue, HaveNodeValues}
use Rattle.bv_blast.proofs.FreeLemmas.{below_positive}

-- the opposite of a literal
pub not_place : (b : Builder) (x : Lit) → HasLit b x → HasOpValue b Not (Flag x ∷ []) (Flag (flipped x))
not_place b x h = record { in_range = h; sort = refl; means = λ a o. ap FlagValue (flipped_true a x) }

same_flags : (x y : Bool) → not (exclusive_or x y) ≡ (if x then y else not y)
same_flags true true = refl
same_flags true false = refl
same_flags false true = refl
same_flags false false = refl

-- two truth values are equal where they don't differ
pub equal_place : (b : Builder) (x y z : Lit) → IsBit b z (λ a. exclusive_or (lit_true a x) (lit_true a y)) → HasOpValue b Eq (Flag x ∷ Flag y ∷ []) (Flag (flipped z))
equal_place b x y z h = record {
  in_range = h.in_range;
  sort = refl;
  means = λ a o. ap FlagValue (flipped_true a z ∙ ap not (h.means a o) ∙ same_flags (lit_true a x) (lit_true a y));
}

-- constants
constant_value : (b : Builder) (v : Bool) (a : ℕ → Bool) → Holds b a → lit_true a (constant_lit v) ≡ v
unfolding lit_true
constant_value b true a o = b.grounded a o
constant_value b false a o = ap not (b.grounded a o)

pub fixed_flag : (b : Builder) (v : Bool) (z : Lit) → z ≡ constant_lit v → HasValue b (FlagValue v) (Flag z)
fixed_flag b v z e = rw e (record { in_range = b.some; sort = refl; means = λ a o. ap FlagValue (constant_value b v a o) })

pub fixed_word : (b : Builder) (w x : ℕ) (zs : List Lit) → x < 2 ^ w → IsWord b zs w (λ a. wrap w x) → HasValue b (WordValue w x) (Word zs)
fixed_word b w x zs l h = record {
  in_range = h.in_range;
  sort = ap BitsSort h.width;
  means = λ a o. ap (λ (n : ℕ). WordValue n (number a zs)) h.width ∙ ap (WordValue w) (h.means a o ∙ mod-eq_of_lt l);
}

-- ---- an operator's arguments
one_item : (xs : List ℕ) → length xs ≡ 1 → xs ≡ get_or xs 0 0 ∷ []
one_item [] h = absurd (omega arith)
one_item (x ∷ []) h = refl
one_item (x ∷ y ∷ xs) h = absurd (omega arith)

two_items : (xs : List ℕ) → length xs ≡ 2 → xs ≡ get_or xs 0 0 ∷ get_or xs 1 0 ∷ []
two_items [] h = absurd (omega arith)
two_items (x ∷ []) h = absurd (omega arith)
two_items (x ∷ y ∷ []) h = refl
two_items (x ∷ y ∷ z ∷ xs) h = absurd (omega arith)

three_items : (xs : List ℕ) → length xs ≡ 3 → xs ≡ get_or xs 0 0 ∷ get_or xs 1 0 ∷ get_or xs 2 0 ∷ []
three_items [] h = absurd (omega arith)
three_items (x ∷ []) h = absurd (omega arith)
three_items (x ∷ y ∷ []) h = absurd (omega arith)
three_items (x ∷ y ∷ z ∷ []) h = refl
three_items (x ∷ y ∷ z ∷ u ∷ xs) h = absurd (omega arith)

all_at : (test : ℕ → Bool) (xs : List ℕ) (i : ℕ) → i < length xs → IsTrue (list_all test xs) → IsTrue (test (get_or xs i 0))
all_at test [] i l t = absurd (omega arith)
all_at test (x ∷ xs) zero l t = (and_parts _ _ t).0
all_at test (x ∷ xs) (suc i) l t = all_at test xs i (omega arith) (and_parts _ _ t).1

module _ (places : List Place) (args : List ℕ) (before : IsTrue (list_all (λ k. nat_lt k (length places)) args)) where
  -- x is the place of the argument with the number i
  abbrev IsArg : ℕ → Place → Type 0
  IsArg i x = x ≡ get_or places (get_or args i 0) x

  pub arg_below : (i : ℕ) → i < length args → get_or args i 0 < length places
  arg_below i l = ltb-true _ _ (all_at (λ k. nat_lt k (length places)) args i l before)

  pub arg_has : (P : Place → Type 0) (i : ℕ) (x : Place) → i < length args → IsArg i x → All P places → P x
  arg_has P i x l e all = subst P (sym e) (All-get_or P places (get_or args i 0) x (arg_below i l) all)

  arg_at : (i : ℕ) (x : Place) → i < length args → IsArg i x → (d : Place) → x ≡ get_or places (get_or args i 0) d
  arg_at i x l e d = get_or_read places (get_or args i 0) x (arg_below i l) e d

  pub one_place : (x : Place) → length args ≡ 1 → IsArg 0 x → (d : Place) → x ∷ [] ≡ at_places d places args
  one_place x l e d =
      let items = one_item args l in
      let at0 = arg_at 0 x (omega arith) e d in
      cc

  pub two_places : (x y : Place) → length args ≡ 2 → IsArg 0 x → IsArg 1 y → (d : Place) → x ∷ y ∷ [] ≡ at_places d places args
  two_places x y l e f d =
      let items = two_items args l in
      let at0 = arg_at 0 x (omega arith) e d in
      let at1 = arg_at 1 y (omega arith) f d in
      cc

  pub three_places : (x y z : Place) → length args ≡ 3 → IsArg 0 x → IsArg 1 y → IsArg 2 z → (d : Place) → x ∷ y ∷ z ∷ [] ≡ at_places d places args
  three_places x y z l e f g d =
      let items = three_items args l in
      let at0 = arg_at 0 x (omega arith) e d in
      let at1 = arg_at 1 y (omega arith) f d in
      let at2 = arg_at 2 z (omega arith) g d in
      cc

  -- where these are the arguments' places, what the operator says of their sorts and values is so
  module _ (op : Op) (xs : List Place) (are : (d : Place) → xs ≡ at_places d places args) where
    pub args_sorted : IsSome (op_sort op (at_places BoolSort (map place_sort places) args)) → IsSome (op_sort op (map place_sort xs))
    args_sorted s =
        let d = Flag (constant_lit true) in
        subst (λ (ss : List DataSort). IsSome (op_sort op ss)) (at_places-map place_sort d places args ∙ ap (map place_sort) (sym (are d))) s

    pub args_valued : (b : Builder) (p : Place) → HasOpValue b op xs p → (d : Place) → HasOpValue b op (at_places d places args) p
    args_valued b p h d = subst (λ (ps : List Place). HasOpValue b op ps p) (are d) h

  pub arg_sort : (i : ℕ) (x : Place) → i < length args → IsArg i x → All IsSort (map place_sort places) → IsSort (place_sort x)
  arg_sort i x l e all =
      let k = get_or args i 0 in
      let below : k < length (map place_sort places) = rw (length-map places place_sort) (arg_below i l) in
      subst IsSort (get_or-map place_sort places k x (place_sort x) (arg_below i l) ∙ ap place_sort (sym e)) (All-get_or IsSort (map place_sort places) k (place_sort x) below all)

-- ---- a node's value
-- what a test of a lawful node says
lawful_test : (t : Bool) (o : Option DataSort) → is_some (if t then o else None) ≡ true → t ≡ true
lawful_test true o h = refl
lawful_test false o h = cc

pub input_place : (b : Builder) (inputs : List (List ℕ)) (places : List Place) (i : ℕ) (vs : List ℕ) (zs : List Lit) → All (IsBits b.clauses.vars) inputs
    → IsSome (node_sort (widths_of inputs) (map place_sort places) (Input i)) → vs ≡ get_or inputs i vs → zs ≡ map positive vs → HasNodeValue b inputs places (Input i) (Word zs)
input_place b inputs places i vs zs h s e f =
    let t = lawful_test (nat_lt i (length (widths_of inputs))) (Some (BitsSort (get_or (widths_of inputs) i 0))) s in
    let l : i < length inputs = rw (length-map inputs (λ (bits : List ℕ). length bits)) at (ltb-true i (length (widths_of inputs)) t) in
    let here : vs ≡ get_or inputs i [] = get_or_read inputs i vs l e [] in
    let width : get_or (widths_of inputs) i 0 ≡ length vs = get_or-map (λ (bits : List ℕ). length bits) inputs i [] 0 l ∙ ap (λ (bits : List ℕ). length bits) (sym here) in
    let size : length zs ≡ length vs = ap (λ (ls : List Lit). length ls) f ∙ length-map vs positive in
    let bits : IsBits b.clauses.vars vs = subst (IsBits b.clauses.vars) (sym here) (h i [] l) in
    record {
      in_range = rw f (below_positive b.clauses.vars vs bits.in_range);
      sort = ap (λ (v : Bool). if v then Some (BitsSort (get_or (widths_of inputs) i 0)) else None) t ∙ ap (λ (n : ℕ). Some (BitsSort n)) (width ∙ sym size);
      means = λ a o.
          let word : get_or (words_of a inputs) i 0 ≡ number a zs = get_or-map (spelled a) inputs i [] 0 l ∙ ap (spelled a) (sym here) ∙ ap (number a) (sym f) in
          ap (λ (n : ℕ). WordValue n (number a zs)) (size ∙ sym width) ∙ ap (WordValue (get_or (widths_of inputs) i 0)) (sym word);
    }

pub fixed_place : (b : Builder) (inputs : List (List ℕ)) (places : List Place) (s : Scalar) (p : Place) → IsSome (node_sort (widths_of inputs) (map place_sort places) (Fixed s)) → HasValue b s p → HasNodeValue b inputs places (Fixed s) p
fixed_place b inputs places s p l h = record {
  in_range = h.in_range;
  sort = ap (λ (v : Bool). if v then Some (scalar_sort s) else None) (lawful_test (is_scalar s) (Some (scalar_sort s)) l) ∙ ap Some (sym h.sort);
  means = h.means;
}

pub applied_place : (b : Builder) (inputs : List (List ℕ)) (places : List Place) (op : Op) (args ks : List ℕ) (p : Place) → IsSome (node_sort (widths_of inputs) (map place_sort places) (Apply op args)) → ks ≡ args
    → ((d : Place) → HasOpValue b op (at_places d places ks) p) → HasNodeValue b inputs places (Apply op args) p
applied_place b inputs places op args ks p l e h =
    let d : Place = Flag (constant_lit false) in
    let r : HasOpValue b op (at_places d places args) p = subst (λ (js : List ℕ). HasOpValue b op (at_places d places js) p) e (h d) in
    let sorts : at_places BoolSort (map place_sort places) args ≡ map place_sort (at_places d places args) = at_places-map place_sort d places args in
    let o : Option DataSort = op_sort op (at_places BoolSort (map place_sort places) args) in
    record {
      in_range = r.in_range;
      sort = ap (λ (v : Bool). if v then o else None) (lawful_test (list_all (λ k. nat_lt k (length (map place_sort places))) args) o l) ∙ ap (op_sort op) sorts ∙ r.sort;
      means = λ a q.
          let none : place_value a d ≡ FlagValue false = ap FlagValue (constant_value b false a q) in
          let values : map (place_value a) (at_places d places args) ≡ at_places (FlagValue false) (map (place_value a) places) args =
          sym (at_places-map (place_value a) d places args) ∙ ap (λ (x : Scalar). at_places x (map (place_value a) places) args) none in
          r.means a q ∙ ap (scalar_value op) values;
    }

-- ---- the places, one by one
pub has_more : (b c : Builder) → Grows b c → (p : Place) → HasPlace b p → HasPlace c p
has_more b c g (Flag z) h = let l = g.grows in omega arith
has_more b c g (Word zs) h = clause_below_more b.clauses.vars c.clauses.vars zs g.grows h

pub nodes_none : (b : Builder) (inputs : List (List ℕ)) (places : List Place) → places ≡ [] → HaveNodeValues b inputs [] places
unfolding in_turn
nodes_none b inputs places e = record {
  in_range = All-same (HasPlace b) places [] e (All-nil (HasPlace b));
  sorts = ap (map place_sort) e;
  means = λ a o. ap (map (place_value a)) e;
}

some_is : (o : Option DataSort) (s : DataSort) → o ≡ Some s → s ≡ unwrap_or o BoolSort
some_is o s e = sym (ap (λ (x : Option DataSort). unwrap_or x BoolSort) e)

pub nodes_more : (b c : Builder) (inputs : List (List ℕ)) (nodes : List FlatNode) (places ps qs : List Place) (n : FlatNode) (p : Place) (i : ℕ) (d : FlatNode) → i < length nodes → HaveNodeValues b inputs (take i nodes) places → Grows b c
    → n ≡ get_or nodes i d → ps ≡ places → HasNodeValue c inputs ps n p → qs ≡ places ++ p ∷ [] → HaveNodeValues c inputs (take (i + 1) nodes) qs
nodes_more b c inputs nodes places ps qs n p i d l h g e s k f =
    let widths : List ℕ = widths_of inputs in
    let here : HasNodeValue c inputs places (get_or nodes i d) p = subst (λ (ms : List Place). HasNodeValue c inputs ms (get_or nodes i d) p) s (subst (λ (m : FlatNode). HasNodeValue c inputs ps m p) e k) in
    let sort : place_sort p ≡ unwrap_or (node_sort widths (flat_sorts widths (take i nodes)) (get_or nodes i d)) BoolSort =
    some_is _ _ (ap (λ (ss : List DataSort). node_sort widths ss (get_or nodes i d)) (sym h.sorts) ∙ here.sort) in
    record {
      in_range = All-same (HasPlace c) qs (places ++ p ∷ []) f (All-push (HasPlace c) places p (All-weaker (HasPlace b) (HasPlace c) (has_more b c g) places h.in_range) here.in_range);
      sorts = ap (map place_sort) f ∙ map_push place_sort places p ∙ ap (λ (ss : List DataSort). ss ++ place_sort p ∷ []) h.sorts ∙ ap (λ (x : DataSort). flat_sorts widths (take i nodes) ++ x ∷ []) sort
          ∙ sym (in_turn_more (λ ss m. unwrap_or (node_sort widths ss m) BoolSort) nodes i d l);
      means = λ a o.
          let words : List ℕ = words_of a inputs in
          let before = h.means a (g.keeps a o) in
          let value : place_value a p ≡ node_value widths words (flat_values widths words (take i nodes)) (get_or nodes i d) =
          here.means a o ∙ ap (λ (vs : List Scalar). node_value widths words vs (get_or nodes i d)) before in
          ap (map (place_value a)) f ∙ map_push (place_value a) places p ∙ ap (λ (vs : List Scalar). vs ++ place_value a p ∷ []) before ∙ ap (λ (x : Scalar). flat_values widths words (take i nodes) ++ x ∷ []) value
          ∙ sym (in_turn_more (node_value widths words) nodes i d l);
    }

pub widths_fit : (n : ℕ) (inputs : List (List ℕ)) → All (IsBits n) inputs → All IsWidth (widths_of inputs)
widths_fit n inputs h = All-map IsWidth (λ bits. length bits) inputs (All-weaker (IsBits n) (λ bits. IsWidth (length bits)) (λ bits k. k.width) inputs h)
