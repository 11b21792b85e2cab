-- Reads of maps into which words were put.
use Rattle.std.proofs.Common.{arith, ◌≡◌, ℕ, ◌+◌, ◌<◌, Bool, true, false, ◌==◌, nat_eq, All, IsTrue, IsSome, List, [], ◌∷◌, Some, None, refl, sym, ap, ◌∙◌, subst}
use Rattle.std.proofs.lemmas.Bool.{eqb-true}
use Rattle.std.proofs.lemmas.List.Elements.{All-nil, All-cons, All-head, All-tail}
use Rattle.data_value.specs.declared.DataSort.{DataSort}
use Rattle.data_value.specs.declared.DataSort.TheVariants.{Bool as BoolSort, Bits as BitsSort, Map as MapSort}
use Rattle.data_value.specs.declared.Scalar.TheVariants.{Flag, Bits}
use Rattle.data_value.specs.declared.Value.{Value}
use Rattle.data_value.specs.declared.Value.TheVariants.{One, Map}
use Rattle.data_value.specs.declared.Op.TheVariants.{Get, Put}
use Rattle.data_value.specs.Maps.{read, write}
use Rattle.data_value.specs.Sorts.{op_sort, get_sort, put_sort}
use Rattle.data_value.specs.Values.{IsValueOf, scalar_of, word_of, map_of}
use Rattle.data_value.specs.Ops.{op_value}
use Rattle.data_value.specs.Nodes.{Seen, Apply, IsLawful, AllValid, sorts_of, meanings_of, sizes_of}
use Rattle.data_value.specs.Views.{IsShown, shown_args, shown_sort, shown_value, shown_size}
use Rattle.data_value.proofs.MapLemmas.{read-write}
use Rattle.data_value.specs.Alike.{AreAlike}
use Rattle.data_value.proofs.AlikeLemmas.{sorts_alike, meanings_alike, sizes_alike, all_alike}
use Rattle.simplify.specs.Simpler.{IsSimplerThan}
use Rattle.simplify.specs.Rewrites.{AreNoHarder, word_at}
use Rattle.simplify.specs.Past.{IsEarlier}
use Rattle.simplify.proofs.RewriteLemmas.{two_sizes, three_sizes}

-- the sorts of a put, and of a read of what it gives
record ArePut (before at word map : DataSort) : Type 0 where
  pub keys : ℕ
  pub words : ℕ
  pub before_is : before ≡ MapSort keys words
  pub word_is : word ≡ BitsSort words
  pub map_is : map ≡ MapSort keys words

put_either : (k v w u : ℕ) (p q : Bool) (map : DataSort) → (k == w) ≡ p → (v == u) ≡ q → put_sort (MapSort k v ∷ BitsSort w ∷ BitsSort u ∷ []) ≡ Some map → ArePut (MapSort k v) (BitsSort w) (BitsSort u) map
put_either k v w u true true map e h is =
    let s : Some (MapSort k v) ≡ Some map = rw (e, h) at is in
    record { keys = k; words = v; before_is = refl; word_is = ap BitsSort (sym (eqb-true v u h)); map_is = cc }
put_either k v w u true false map e h is = let s : None ≡ Some map = rw (e, h) at is in absurd (cc)
put_either k v w u false q map e h is = let s : None ≡ Some map = rw e at is in absurd (cc)

are_put : (before at word map : DataSort) → put_sort (before ∷ at ∷ word ∷ []) ≡ Some map → ArePut before at word map
are_put BoolSort at word map is = absurd (cc)
are_put (BitsSort w) at word map is = absurd (cc)
are_put (MapSort k v) BoolSort word map is = absurd (cc)
are_put (MapSort k v) (MapSort j u) word map is = absurd (cc)
are_put (MapSort k v) (BitsSort w) BoolSort map is = absurd (cc)
are_put (MapSort k v) (BitsSort w) (MapSort j u) map is = absurd (cc)
are_put (MapSort k v) (BitsSort w) (BitsSort u) map is = put_either k v w u (k == w) (v == u) map refl refl is

get_either : (k v w : ℕ) (p : Bool) → (k == w) ≡ p → IsSome (get_sort (MapSort k v ∷ BitsSort w ∷ [])) → get_sort (MapSort k v ∷ BitsSort w ∷ []) ≡ Some (BitsSort v)
get_either k v w true e is = rw e refl
get_either k v w false e is = let bad : IsSome {T = DataSort} None = rw e at is in absurd (cc)

got_sort : (k v : ℕ) (s : DataSort) → IsSome (get_sort (MapSort k v ∷ s ∷ [])) → get_sort (MapSort k v ∷ s ∷ []) ≡ Some (BitsSort v)
got_sort k v BoolSort is = absurd (cc)
got_sort k v (MapSort j u) is = absurd (cc)
got_sort k v (BitsSort w) is = get_either k v w (k == w) refl is

-- the values of a read of a map into which a word was put
word_is : (v : ℕ) (x : Value) → IsValueOf (BitsSort v) x → One (Bits v (word_of (scalar_of x))) ≡ x
word_is v (One (Flag b)) is = absurd (let e = is.sort in cc)
word_is v (Map m) is = absurd (let e = is.sort in cc)
word_is v (One (Bits w n)) is = let e = is.sort in let s : v ≡ w = cc in ap (λ u. One (Bits u n)) s

width_is : (k v : ℕ) (x : Value) → IsValueOf (MapSort k v) x → (map_of x).word_width ≡ v
width_is k v (One (Flag b)) is = absurd (let e = is.sort in cc)
width_is k v (One (Bits w n)) is = absurd (let e = is.sort in cc)
width_is k v (Map m) is = let e = is.sort in cc

got_same : (before at word key : Value) (k v : ℕ) → IsValueOf (MapSort k v) before → IsValueOf (BitsSort v) word → nat_eq (word_of (scalar_of at)) (word_of (scalar_of key)) ≡ true → op_value Get (op_value Put (before ∷ at ∷ word ∷ []) ∷ key ∷ []) ≡ word
got_same before at word key k v a b same =
    let j = word_of (scalar_of at) in
    let w = word_of (scalar_of word) in
    let e : read (write (map_of before).entries j w) (word_of (scalar_of key)) ≡ w = read-write (map_of before).entries j w (word_of (scalar_of key)) ∙ rw same refl in
    ap (λ x. One (Bits (map_of before).word_width x)) e ∙ ap (λ u. One (Bits u w)) (width_is k v before a) ∙ word_is v word b

got_other : (before at word key : Value) → nat_eq (word_of (scalar_of at)) (word_of (scalar_of key)) ≡ false → op_value Get (op_value Put (before ∷ at ∷ word ∷ []) ∷ key ∷ []) ≡ op_value Get (before ∷ key ∷ [])
got_other before at word key other =
    let j = word_of (scalar_of at) in
    let w = word_of (scalar_of word) in
    let k = word_of (scalar_of key) in
    let e : read (write (map_of before).entries j w) k ≡ read (map_of before).entries k = read-write (map_of before).entries j w k ∙ rw other refl in
    ap (λ x. One (Bits (map_of before).word_width x)) e

module _ {N : Type 0} (f : N → Seen N) (vars : List DataSort) where
  pub known_word : IsLawful f vars → (n : N) (w x : ℕ) → IsTrue (f n).valid → (f n).known ≡ Some (Bits w x) → (v : List Value) → word_at (f n) v ≡ x
  known_word laws n w x ok e v = ap (λ m. word_of (scalar_of m)) (laws.known n (Bits w x) ok e v)

  module _ (map key before at word : N) (is : IsShown f vars map) (e : (f map).shown ≡ Apply Put (before ∷ at ∷ word ∷ [])) (ok_key : IsTrue (f key).valid) (sorted : IsSome (op_sort Get (sorts_of f (map ∷ key ∷ [])))) where
    abbrev Ok : N → Type 0
    Ok n = IsTrue (f n).valid

    all_ok : AllValid f (before ∷ at ∷ word ∷ [])
    all_ok = subst (λ s. AllValid f (shown_args s)) e is.args_valid

    pub ok_before : IsTrue (f before).valid
    ok_before = All-head Ok before (at ∷ word ∷ []) all_ok

    pub ok_at : IsTrue (f at).valid
    ok_at = All-head Ok at (word ∷ []) (All-tail Ok before (at ∷ word ∷ []) all_ok)

    pub ok_word : IsTrue (f word).valid
    ok_word = All-head Ok word [] (All-tail Ok at (word ∷ []) (All-tail Ok before (at ∷ word ∷ []) all_ok))

    sorts : ArePut (f before).sort (f at).sort (f word).sort (f map).sort
    sorts = are_put (f before).sort (f at).sort (f word).sort (f map).sort (ap (shown_sort f vars) (sym e) ∙ is.sort)

    map_means : (v : List Value) → (f map).meaning v ≡ op_value Put (meanings_of f v (before ∷ at ∷ word ∷ []))
    map_means v = is.means v ∙ ap (shown_value f v) e

    map_size : (f map).size ≡ 1 + sizes_of f (before ∷ at ∷ word ∷ [])
    map_size = is.size ∙ ap (shown_size f) e

    pub past_word : IsLawful f vars → ((v : List Value) → nat_eq (word_at (f at) v) (word_at (f key) v) ≡ true) → (t : Seen N) → t ≡ f word → IsSimplerThan vars f Get (map ∷ key ∷ []) t
    past_word laws same t copied = subst (IsSimplerThan vars f Get (map ∷ key ∷ [])) (sym copied) (record {
      valid = ok_word;
      sort =
          let here : IsSome (get_sort (MapSort sorts.keys sorts.words ∷ (f key).sort ∷ [])) = subst (λ s. IsSome (get_sort (s ∷ (f key).sort ∷ []))) sorts.map_is sorted in
          ap (λ s. get_sort (s ∷ (f key).sort ∷ [])) sorts.map_is ∙ got_sort sorts.keys sorts.words (f key).sort here ∙ ap Some (sym sorts.word_is);
      means = λ v fits.
          let a = subst (λ s. IsValueOf s ((f before).meaning v)) sorts.before_is (laws.sorted before ok_before v fits) in
          let b = subst (λ s. IsValueOf s ((f word).meaning v)) sorts.word_is (laws.sorted word ok_word v fits) in
          sym (ap (λ m. op_value Get (m ∷ (f key).meaning v ∷ [])) (map_means v) ∙ got_same ((f before).meaning v) ((f at).meaning v) ((f word).meaning v) ((f key).meaning v) sorts.keys sorts.words a b (same v));
      small = let p = map_size in let q = three_sizes f before at word in let r = two_sizes f map key in omega arith;
    })

    pub past_before : ((v : List Value) → nat_eq (word_at (f at) v) (word_at (f key) v) ≡ false) → (rest : N) → f rest ≡ f before → IsEarlier vars f map key rest × ((f rest).height < (f map).height)
    past_before other rest copied =
        let lower : All (λ m. (f m).height < (f map).height) (before ∷ at ∷ word ∷ []) = subst (λ s. All (λ m. (f m).height < (f map).height) (shown_args s)) e is.args_lower in (
          record {
            valid = subst (λ s. IsTrue s.valid) (sym copied) ok_before;
            sort = ap (λ s. s.sort) copied ∙ sorts.before_is ∙ sym sorts.map_is;
            means = λ v fits.
                ap (λ s. op_value Get (s.meaning v ∷ (f key).meaning v ∷ [])) copied
                ∙ sym (ap (λ m. op_value Get (m ∷ (f key).meaning v ∷ [])) (map_means v) ∙ got_other ((f before).meaning v) ((f at).meaning v) ((f word).meaning v) ((f key).meaning v) (other v));
            small = let s = ap (λ t. t.size) copied in let p = map_size in let q = three_sizes f before at word in omega arith;
          },
          subst (λ s. s.height < (f map).height) (sym copied) (All-head (λ m. (f m).height < (f map).height) before (at ∷ word ∷ []) lower),
        )

  module _ (map key : N) where
    pub earlier_read : (rest : N) (others : List N) → IsTrue (f key).valid → IsEarlier vars f map key rest → AreAlike f others (rest ∷ key ∷ []) → AreNoHarder vars f Get (map ∷ key ∷ []) Get others
    earlier_read rest others ok_key a alike =
        let Ok : N → Type 0 = λ n. IsTrue (f n).valid in
        record {
          valid = all_alike f (λ s. IsTrue s.valid) (rest ∷ key ∷ []) others (sym alike) (All-cons Ok rest (key ∷ []) a.valid (All-cons Ok key [] ok_key (All-nil Ok)));
          sort = ap (op_sort Get) (sorts_alike f others (rest ∷ key ∷ []) alike) ∙ ap (λ s. op_sort Get (s ∷ (f key).sort ∷ [])) a.sort;
          means = λ v fits. ap (op_value Get) (meanings_alike f v others (rest ∷ key ∷ []) alike) ∙ a.means v fits;
          small = let p = a.small in let q = sizes_alike f others (rest ∷ key ∷ []) alike in let r = two_sizes f map key in let s = two_sizes f rest key in omega arith;
        }
