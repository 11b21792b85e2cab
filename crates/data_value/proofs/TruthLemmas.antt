-- The truth of conditions that are joined, and what is known of it.
use Rattle.std.proofs.Common.{◌≡◌, ℕ, ◌+◌, ◌<◌, Bool, true, false, ◌&&◌, List, [], ◌∷◌, suc, length, take, map, get_or, All, IsTrue, IsSome, Decides, Some, Option, None, arith, refl, sym, ap, ◌∙◌, subst, ◌⊎◌, inl, inr}
use Rattle.std.specs.List.{Any}
use Rattle.std.proofs.lemmas.Bool.{cases_lt}
use Rattle.std.proofs.lemmas.Bool.Decides.{Decides-by_and}
use Rattle.std.proofs.lemmas.List.{get_or-take, get_or-map, get_or_default, length-take-le, length-map}
use Rattle.std.proofs.lemmas.List.Elements.{All-nil, All-cons, All-head, All-tail}
use Rattle.std.proofs.lemmas.List.Folds.{list_all_more}
use Rattle.data_value.specs.declared.DataSort.{DataSort}
use Rattle.data_value.specs.declared.DataSort.TheVariants.{Bool as BoolSort}
use Rattle.data_value.specs.declared.Scalar.{Scalar}
use Rattle.data_value.specs.declared.Scalar.TheVariants.{Flag, Bits}
use Rattle.data_value.specs.declared.Value.{Value}
use Rattle.data_value.specs.declared.Value.TheVariants.{One, Map}
use Rattle.data_value.specs.declared.Op.TheVariants.{Eq}
use Rattle.data_value.specs.Sorts.{op_sort, is_scalar_sort, equality_sort}
use Rattle.data_value.specs.Values.{flag_of, scalar_of, same_scalar}
use Rattle.data_value.specs.Nodes.{Seen, Extends, IsApplied, IsLawful, AllKnown, sorts_of}
use Rattle.data_value.specs.Truth.{truth, all_true, AreTrue, IsCondition, IsTruth, IsKnownAs, IsFoldedFrom, IsAllFoldedFrom}
use Rattle.data_value.proofs.NodeLemmas.{means_known}
use Rattle.data_value.proofs.TestLemmas.{decides_sort}

-- a value is true exactly where the truth value that it is is true
pub flag_is : (x : Value) → flag_of (scalar_of x) ≡ true → x ≡ One (Flag true)
flag_is (One (Flag b)) h = ap (λ c. One (Flag c)) h
flag_is (One (Bits w n)) h = absurd (cc)
flag_is (Map m) h = absurd (cc)

pub decides_truth : {N : Type 0} (v : List Value) (s : Seen N) → Decides (truth s v) (s.meaning v ≡ One (Flag true))
decides_truth v s = (flag_is (s.meaning v), λ h. ap (λ y. flag_of (scalar_of y)) h)

-- all nodes of a list are true exactly where each means true
pub decides_all : {N : Type 0} (v : List Value) (ss : List (Seen N)) → Decides (all_true ss v) (AreTrue v ss)
decides_all v = Decides-by_and (λ s. truth s v) (λ s. s.meaning v ≡ One (Flag true)) (λ ss. all_true ss v) (decides_truth v) refl (λ _ _. refl)

module _ {N : Type 0} where
  pub truth_says : (s : Seen N) (f g : List Value → Bool) → ((v : List Value) → f v ≡ g v) → IsTruth s f → IsTruth s g
  truth_says s f g e is = record { condition = is.condition; means = λ v. is.means v ∙ e v }

  module _ (f : N → Seen N) (sorts : List DataSort) (laws : IsLawful f sorts) where
    -- what is known of a condition is its truth
    pub known_says : (n : N) (b : Bool) → IsCondition (f n) → IsKnownAs b (f n) → (v : List Value) → truth (f n) v ≡ b
    known_says n b is e v = ap (λ x. flag_of (scalar_of x)) (laws.known n (Flag b) is.valid e v)

    -- a condition isn't known as a word
    pub known_flag : (n : N) (w x : ℕ) → IsCondition (f n) → (f n).known ≡ Some (Bits w x) → ⊥
    known_flag n w x is e =
        let sort = (means_known f sorts laws n is.valid (Bits w x) e).0.sort in
        let bool = is.sort in
        cc

  module _ (f : N → Seen N) where
    -- a condition of a list stays as it is where the domain grows
    pub condition_at : (g : N → Seen N) → Extends f g → (ns : List N) (i : ℕ) (n : N) → All IsCondition (map f ns) → i < length ns → n ≡ get_or ns i n → IsCondition (f n) × (g n ≡ f n)
    condition_at g x ns i n all lt is =
        let at : get_or (map f ns) i (f n) ≡ f n = get_or-map f ns i n (f n) lt ∙ ap f (sym is) in
        let here : IsCondition (f n) = subst IsCondition at (all i (f n) (let l = length-map ns f in omega arith)) in
        (here, x.keeps n here.valid)

    -- equality of nodes that are known is known
    pub equality_known : (g : N → Seen N) (sorts : List DataSort) → IsLawful f sorts → IsLawful g sorts → (a b n : N) → IsTrue (f a).valid → IsTrue (f b).valid → IsTrue (is_scalar_sort (f a).sort) → (f b).sort ≡ (f a).sort
        → IsApplied f g Eq (a ∷ b ∷ []) n → (x y : Scalar) → (f a).known ≡ Some x → (f b).known ≡ Some y → IsKnownAs (same_scalar x y) (g n)
    equality_known g sorts laws laws' a b n ok ok' scalar same is x y e e' =
        let gives : op_sort Eq (sorts_of f (a ∷ b ∷ [])) ≡ Some BoolSort = ap (λ s. equality_sort ((f a).sort ∷ s ∷ [])) same ∙ rw (scalar, (decides_sort (f a).sort (f a).sort).1 refl) refl in
        let sort : Some BoolSort ≡ Some (g n).sort = sym gives ∙ is.sort in
        let bool : (g n).sort ≡ BoolSort = cc in
        let all : AllKnown f (a ∷ b ∷ []) = All-cons (λ m. IsSome (f m).known) a (b ∷ []) (subst IsSome (sym e) refl) (All-cons (λ m. IsSome (f m).known) b [] (subst IsSome (sym e') refl) (All-nil (λ m. IsSome (f m).known))) in
        let there = some (g n).known (is.knows (subst (λ s. IsTrue (is_scalar_sort s)) (sym bool) refl) all) in
        let first : scalar_of ((f a).meaning []) ≡ x = ap scalar_of (laws.known a x ok e []) in
        let second : scalar_of ((f b).meaning []) ≡ y = ap scalar_of (laws.known b y ok' e' []) in
        let means : One there.0 ≡ One (Flag (same_scalar x y)) =
        sym (laws'.known n there.0 is.valid there.1 []) ∙ is.means []
        ∙ ap (λ s. One (Flag (same_scalar s (scalar_of ((f b).meaning []))))) first ∙ ap (λ s. One (Flag (same_scalar x s))) second in
        there.1 ∙ ap (λ z. Some (scalar_of z)) means
      where
        some : (o : Option Scalar) → IsSome o → (c : Scalar) × (o ≡ Some c)
        some None h = absurd (cc)
        some (Some c) h = (c, refl)

  -- one condition more
  module _ (ss : List (Seen N)) (i : ℕ) (s joined next : Seen N) (lt : i < length ss) (is : s ≡ get_or ss i s) where
    pub all_more : IsTruth joined (all_true (take i ss)) → IsTruth next (λ v. truth joined v && truth s v) → IsTruth next (all_true (take (i + 1) ss))
    all_more before more =
        truth_says next _ _ (λ v.
        ap (λ p. p && truth s v) (before.means v)
        ∙ ap (λ t. all_true (take i ss) v && truth t v) is
        ∙ sym (list_all_more (λ t. truth t v) ss i s lt)) more

    before_same : (k : ℕ) (d : Seen N) → k < i → get_or (take (i + 1) ss) k d ≡ get_or (take i ss) k d
    before_same k d l = get_or-take (i + 1) ss k d (omega arith) ∙ sym (get_or-take i ss k d l)

    length_before : length (take i ss) ≡ i
    length_before = length-take-le i ss (omega arith)

    length_after : length (take (i + 1) ss) ≡ i + 1
    length_after = length-take-le (i + 1) ss (omega arith)

    last_is : (d : Seen N) → get_or (take (i + 1) ss) i d ≡ s
    last_is d = get_or-take (i + 1) ss i d (omega arith) ∙ get_or_default ss i d s lt ∙ sym is

    pub folded_more : IsAllFoldedFrom (take i ss) joined → IsFoldedFrom false joined s next → IsAllFoldedFrom (take (i + 1) ss) next
    folded_more before more = record {
      all_known_true = λ all.
          let front : All (IsKnownAs true) (take i ss) = λ k d l. subst (IsKnownAs true) (before_same k d (omega (arith, length_before))) (all k d (omega (arith, length_before, length_after))) in
          let last : IsKnownAs true s = subst (IsKnownAs true) (last_is s) (all i s (omega (arith, length_after))) in
          subst (IsKnownAs true) (sym (more.first_leaves (before.all_known_true front))) last;
      one_known_false = λ one.
          elim (cases_lt one.0 i) [
            | inl l ↦ more.first_settles (before.one_known_false (one.0, one.1, omega (arith, length_before), sym (before_same one.0 one.1 l) ∙ one.3, one.4))
            | inr l ↦
                let e : one.0 ≡ i = omega (arith, one.2, length_after) in
                more.second_settles (subst (IsKnownAs false) (sym one.3 ∙ ap (λ k. get_or (take (i + 1) ss) k one.1) e ∙ last_is one.1) one.4)
          ];
    }

  -- what joins two conditions that are known is known
  pub folded_known : (settling p q : Bool) (a b n : Seen N) → IsFoldedFrom settling a b n → IsKnownAs p a → IsKnownAs q b → (r : Bool) × IsKnownAs r n
  folded_known false false q a b n is e h = (false, is.first_settles e)
  folded_known false true q a b n is e h = (q, subst (IsKnownAs q) (sym (is.first_leaves e)) h)
  folded_known true true q a b n is e h = (true, is.first_settles e)
  folded_known true false q a b n is e h = (q, subst (IsKnownAs q) (sym (is.first_leaves e)) h)

  -- conditions that are known are all known to be true, or one is known to be false
  all_or_one : (ss : List (Seen N)) → All (λ s. (b : Bool) × IsKnownAs b s) ss → All (IsKnownAs true) ss ⊎ Any (IsKnownAs false) ss
  all_or_one [] all = inl (All-nil (IsKnownAs true))
  all_or_one (s ∷ ss) all =
      let P : Seen N → Type 0 = λ t. (b : Bool) × IsKnownAs b t in
      let here : P s = All-head P s ss all in
      joined here.0 here.1 (all_or_one ss (All-tail P s ss all))
    where
      joined : (b : Bool) → IsKnownAs b s → All (IsKnownAs true) ss ⊎ Any (IsKnownAs false) ss → All (IsKnownAs true) (s ∷ ss) ⊎ Any (IsKnownAs false) (s ∷ ss)
      joined false e rest = inr (0, s, omega arith, refl, e)
      joined true e (inl rest) = inl (All-cons (IsKnownAs true) s ss e rest)
      joined true e (inr rest) = inr (suc rest.0, rest.1, omega (arith, rest.2), rest.3, rest.4)

  -- what joins a list of conditions that are known is known
  pub all_folded_known : (ss : List (Seen N)) (n : Seen N) → IsAllFoldedFrom ss n → All (λ s. (b : Bool) × IsKnownAs b s) ss → (b : Bool) × IsKnownAs b n
  all_folded_known ss n is all =
      elim (all_or_one ss all) [ inl every ↦ (true, is.all_known_true every) | inr one ↦ (false, is.one_known_false one) ]
