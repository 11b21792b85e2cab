-- The sort of an operator at parts: every part is of a sort of data, and there are at most three.
use Rattle.std.proofs.Common.{arith, ◌≡◌, ℕ, zero, suc, ◌+◌, ◌<◌, List, [], ◌∷◌, ◌++◌, length, map, take, get_or, Option, Some, None, refl, sym, ap, ◌∙◌}
use Rattle.std.specs.Prelude.{option_map}
use Rattle.std.proofs.lemmas.List.{take_more, map-append, length-map}
use Rattle.data_value.specs.declared.DataSort.{DataSort}
use Rattle.data_value.specs.declared.DataSort.TheVariants.{Bool as BoolSort, Bits as BitsSort, Map as MapSort}
use Rattle.data_value.specs.declared.Op.{Op}
use Rattle.data_value.specs.declared.Op.TheVariants.{Not, And, Or, Ite, Eq, BvNot, Neg, Concat, Extract, Zext, Sext, Get, Put}
use Rattle.data_value.specs.Sorts.{op_sort, flag_sort, flags_sort, choice_sort, word_sort, two_words_sort, get_sort, put_sort}
use Rattle.sort_term.specs.declared.term.Sort.{Sort}
use Rattle.sort_term.specs.declared.term.Sort.TheVariants.{Plain}
use Rattle.sort_term.specs.Sorted.{in_front, all_there, data_part, fitted_sort, applied_sort}

one_flag : (a b : DataSort) (more : List DataSort) → flag_sort (a ∷ b ∷ more) ≡ None
one_flag BoolSort b more = refl
one_flag _ b more = refl

two_flags : (a b c : DataSort) (more : List DataSort) → flags_sort (a ∷ b ∷ c ∷ more) ≡ None
two_flags BoolSort BoolSort c more = refl
two_flags BoolSort _ c more = refl
two_flags _ b c more = refl

one_choice : (a b c d : DataSort) (more : List DataSort) → choice_sort (a ∷ b ∷ c ∷ d ∷ more) ≡ None
one_choice BoolSort b c d more = refl
one_choice _ b c d more = refl

one_word : (f : ℕ → Option DataSort) (a b : DataSort) (more : List DataSort) → word_sort f (a ∷ b ∷ more) ≡ None
one_word f (BitsSort w) b more = refl
one_word f _ b more = refl

two_words : (f : ℕ → ℕ → Option DataSort) (a b c : DataSort) (more : List DataSort) → two_words_sort f (a ∷ b ∷ c ∷ more) ≡ None
two_words f (BitsSort v) (BitsSort w) c more = refl
two_words f (BitsSort v) _ c more = refl
two_words f _ b c more = refl

one_get : (a b c : DataSort) (more : List DataSort) → get_sort (a ∷ b ∷ c ∷ more) ≡ None
one_get (MapSort k v) (BitsSort w) c more = refl
one_get (MapSort k v) _ c more = refl
one_get _ b c more = refl

one_put : (a b c d : DataSort) (more : List DataSort) → put_sort (a ∷ b ∷ c ∷ d ∷ more) ≡ None
one_put (MapSort k v) (BitsSort w) (BitsSort u) d more = refl
one_put (MapSort k v) (BitsSort w) _ d more = refl
one_put (MapSort k v) _ c d more = refl
one_put _ b c d more = refl

-- no operator takes four arguments
four : (op : Op) (a b c d : DataSort) (more : List DataSort) → op_sort op (a ∷ b ∷ c ∷ d ∷ more) ≡ None
four Not a b c d more = one_flag a b (c ∷ d ∷ more)
four And a b c d more = two_flags a b c (d ∷ more)
four Or a b c d more = two_flags a b c (d ∷ more)
four Ite a b c d more = one_choice a b c d more
four Eq a b c d more = refl
four BvNot a b c d more = one_word _ a b (c ∷ d ∷ more)
four Neg a b c d more = one_word _ a b (c ∷ d ∷ more)
four Concat a b c d more = two_words _ a b c (d ∷ more)
four (Extract hi lo) a b c d more = one_word _ a b (c ∷ d ∷ more)
four (Zext n) a b c d more = one_word _ a b (c ∷ d ∷ more)
four (Sext n) a b c d more = one_word _ a b (c ∷ d ∷ more)
four Get a b c d more = one_get a b c (d ∷ more)
four Put a b c d more = one_put a b c d more
four _ a b c d more = two_words _ a b c (d ∷ more)

op_sort-many : (op : Op) (args : List DataSort) → 3 < length args → op_sort op args ≡ None
op_sort-many op [] h = absurd (omega arith)
op_sort-many op (a ∷ []) h = absurd (omega arith)
op_sort-many op (a ∷ b ∷ []) h = absurd (omega arith)
op_sort-many op (a ∷ b ∷ c ∷ []) h = absurd (omega arith)
op_sort-many op (a ∷ b ∷ c ∷ d ∷ more) h = four op a b c d more

module _ {A : Type 0} where
  in_front-some : (o : Option A) (p : Option (List A)) (xs : List A) → in_front o p ≡ Some xs → (x : A) × (more : List A) × (o ≡ Some x) × (p ≡ Some more) × (xs ≡ x ∷ more)
  in_front-some (Some x) (Some more) xs e = (x, more, refl, refl, cc)
  in_front-some (Some x) None xs e = absurd (cc)
  in_front-some None p xs e = absurd (cc)

  in_front-none : (o : Option A) → in_front o None ≡ None
  in_front-none (Some x) = refl
  in_front-none None = refl

  pub all_there-long : (os : List (Option A)) (xs : List A) → all_there os ≡ Some xs → length xs ≡ length os
  all_there-long [] xs e = let n : [] ≡ xs = cc in ap length (sym n)
  all_there-long (o ∷ more) xs e =
      let h = in_front-some o (all_there more) xs e in
      let k : length h.1 ≡ length more = all_there-long more h.1 h.3 in
      ap length h.4 ∙ ap suc k

  all_there-push : (os : List (Option A)) (xs : List A) (x : A) → all_there os ≡ Some xs → all_there (os ++ Some x ∷ []) ≡ Some (xs ++ x ∷ [])
  all_there-push [] xs x e = let n : xs ≡ [] = cc in ap (λ ys. Some (ys ++ x ∷ [])) (sym n)
  all_there-push (o ∷ more) xs x e =
      let h = in_front-some o (all_there more) xs e in
      let k : all_there (more ++ Some x ∷ []) ≡ Some (h.1 ++ x ∷ []) = all_there-push more h.1 x h.3 in
      ap (λ p. in_front o p) k ∙ ap (λ q. in_front q (Some (h.1 ++ x ∷ []))) h.2 ∙ ap (λ ys. Some (ys ++ x ∷ [])) (sym h.4)

-- where some part isn't of a sort of data, or there are too many, there is no sort
fitted-many : (op : Op) (o : Option (List DataSort)) → ((args : List DataSort) → o ≡ Some args → 3 < length args) → fitted_sort op o ≡ None
fitted-many op None h = refl
fitted-many op (Some args) h = ap (λ o. option_map Plain o) (op_sort-many op args (h args refl))

pub applied_sort-many : {A : Type 0} (op : Op) (f : A → Option Sort) (parts : List A) → 3 < length parts → applied_sort op (map f parts) ≡ None
applied_sort-many op f parts h =
    fitted-many op (all_there (map data_part (map f parts))) (λ args e.
    let k = all_there-long (map data_part (map f parts)) args e in
    let m = length-map (map f parts) data_part in
    let n = length-map parts f in
    omega arith)

module _ {A B C : Type 0} (g : B → Option C) (f : A → B) where
  pub all_there-missing : (xs : List A) (i : ℕ) (x : A) → i < length xs → x ≡ get_or xs i x → g (f x) ≡ None → all_there (map g (map f xs)) ≡ None
  all_there-missing [] i x l e h = absurd (omega arith)
  all_there-missing (y ∷ more) zero x l e h =
      let k : g (f y) ≡ None = ap (λ z. g (f z)) (sym e) ∙ h in
      ap (λ o. in_front o (all_there (map g (map f more)))) k
  all_there-missing (y ∷ more) (suc i) x l e h =
      ap (λ p. in_front (g (f y)) p) (all_there-missing more i x (omega arith) e h) ∙ in_front-none (g (f y))

  pub all_there-more : (xs : List A) (ys : List C) (i : ℕ) (x : A) (y : C) → i < length xs → x ≡ get_or xs i x → g (f x) ≡ Some y → all_there (map g (map f (take i xs))) ≡ Some ys → all_there (map g (map f (take (i + 1) xs))) ≡ Some (ys ++ y ∷ [])
  all_there-more xs ys i x y l e h t =
      let p : take (i + 1) xs ≡ take i xs ++ x ∷ [] = take_more xs i x l ∙ ap (λ z. take i xs ++ z ∷ []) (sym e) in
      let q : map g (map f (take i xs ++ x ∷ [])) ≡ map g (map f (take i xs)) ++ Some y ∷ [] =
      ap (map g) (map-append f (take i xs) (x ∷ [])) ∙ map-append g (map f (take i xs)) (f x ∷ []) ∙ ap (λ o. map g (map f (take i xs)) ++ o ∷ []) h in
      ap (λ zs. all_there (map g (map f zs))) p ∙ ap all_there q ∙ all_there-push (map g (map f (take i xs))) ys y t
