-- Lists of exactly what has a property, and how they grow.
use Rattle.std.proofs.Common.{arith, ◌≡◌, ◌≢◌, ◌↔◌, suc, List, [], ◌∷◌, ◌++◌, map, get_or, All, AllPairs, append_assoc, append-nil, refl, sym, ap, ◌∙◌, subst, ◌⊎◌, inl, inr}
use Rattle.std.specs.List.{Contains}
use Rattle.std.proofs.lemmas.List.Elements.{All-nil, All-cons, All-append, All-map, All-contains, Contains-append_left, Contains-append_right, Contains-push, Contains-push_cases}
use Rattle.std.proofs.lemmas.List.Kept.{AllPairs-cons}
use Rattle.ground_step.specs.Reach.{NoneTwice, AreExactly, AddsExactly}
use Rattle.ground_step.proofs.Lists.{contains_nil, contains_cons, contains_cases}

module _ {X : Type 0} where
  -- what isn't in a list differs from all that is
  differs_from_all : (x : X) (xs : List X) → ¬ Contains xs x → All (λ y. x ≢ y) xs
  differs_from_all x [] new = All-nil (λ y. x ≢ y)
  differs_from_all x (y ∷ xs) new = All-cons (λ z. x ≢ z) y xs (λ e. new (0, omega arith, sym e)) (differs_from_all x xs (λ c. new (contains_cons y xs x c)))

  first_differs : (x : X) (xs : List X) → NoneTwice (x ∷ xs) → All (λ y. x ≢ y) xs
  first_differs x xs once k d l = once 0 (suc k) d (omega arith) (omega arith)

  rest_once : (x : X) (xs : List X) → NoneTwice (x ∷ xs) → NoneTwice xs
  rest_once x xs once i j d l k = once (suc i) (suc j) d (omega arith) (omega arith)

  none_twice_nil : NoneTwice {X = X} []
  none_twice_nil i j d l k = absurd (omega arith)

  none_twice_one : (x : X) → NoneTwice (x ∷ [])
  none_twice_one x = AllPairs-cons (λ y z. y ≢ z) x [] (All-nil (λ y. x ≢ y)) none_twice_nil

  none_twice_both : (xs ys : List X) → ((x : X) → Contains xs x → ¬ Contains ys x) → NoneTwice xs → NoneTwice ys → NoneTwice (xs ++ ys)
  none_twice_both [] ys apart a b = b
  none_twice_both (x ∷ xs) ys apart a b =
      AllPairs-cons (λ y z. y ≢ z) x (xs ++ ys)
      (All-append (λ y. x ≢ y) xs ys (first_differs x xs a) (differs_from_all x ys (apart x (0, omega arith, refl))))
      (none_twice_both xs ys (λ y c. apart y (contains_cons x xs y c)) (rest_once x xs a) b)

  -- in such a list an item isn't among those before it
  pub new_here : (xs : List X) (x : X) (ys : List X) → NoneTwice (xs ++ x ∷ ys) → ¬ Contains xs x
  new_here [] x ys once c = contains_nil x c
  new_here (z ∷ xs) x ys once c = go (contains_cases z xs x c) (new_here xs x ys (rest_once z (xs ++ x ∷ ys) once))
    where
      go : (x ≡ z) ⊎ Contains xs x → ¬ Contains xs x → ⊥
      go (inl e) rest = All-contains (λ y. z ≢ y) (xs ++ x ∷ ys) x (first_differs z (xs ++ x ∷ ys) once) (Contains-append_right xs (x ∷ ys) x (0, omega arith, refl)) (sym e)
      go (inr d) rest = rest d

  all_imp : (P Q : X → Type 0) (xs : List X) → ((x : X) → P x → Q x) → All P xs → All Q xs
  all_imp P Q xs h a k d l = h (get_or xs k d) (a k d l)

  pub exactly_same : (P Q : X → Type 0) (xs : List X) → ((x : X) → P x ↔ Q x) → AreExactly P xs → AreExactly Q xs
  exactly_same P Q xs h e = record { sound = all_imp P Q xs (λ x. (h x).0) e.sound; complete = λ x q. e.complete x ((h x).1 q); once = e.once }

  pub exactly_none : (P : X → Type 0) → ((x : X) → ¬ P x) → AreExactly P []
  exactly_none P h = record { sound = All-nil P; complete = λ x p. absurd (h x p); once = none_twice_nil }

  pub exactly_one : (x : X) (P : X → Type 0) → ((y : X) → P y ↔ (y ≡ x)) → AreExactly P (x ∷ [])
  exactly_one x P h = record {
    sound = All-cons P x [] ((h x).1 refl) (All-nil P);
    complete = λ y p. subst (Contains (x ∷ [])) (sym ((h y).0 p)) (Contains-push [] x);
    once = none_twice_one x;
  }

  pub exactly_both : (P Q R : X → Type 0) (xs ys : List X) → ((x : X) → R x ↔ (P x ⊎ Q x)) → ((x : X) → P x → ¬ Q x) → AreExactly P xs → AreExactly Q ys → AreExactly R (xs ++ ys)
  exactly_both P Q R xs ys h apart e f = record {
    sound = All-append R xs ys (all_imp P R xs (λ x p. (h x).1 (inl p)) e.sound) (all_imp Q R ys (λ x q. (h x).1 (inr q)) f.sound);
    complete = λ x r. go x ((h x).0 r);
    once = none_twice_both xs ys (λ x c d. apart x (All-contains P xs x e.sound c) (All-contains Q ys x f.sound d)) e.once f.once;
  }
    where
      go : (x : X) → P x ⊎ Q x → Contains (xs ++ ys) x
      go x (inl p) = Contains-append_left xs ys x (e.complete x p)
      go x (inr q) = Contains-append_right xs ys x (f.complete x q)

  pub adds_same : (P Q : X → Type 0) (xs ys : List X) → ((x : X) → P x ↔ Q x) → AddsExactly P xs ys → AddsExactly Q xs ys
  adds_same P Q xs ys h a = record { more = a.more; is = a.is; exactly = exactly_same P Q a.more h a.exactly }

  pub adds_none : (P : X → Type 0) (xs : List X) → ((x : X) → ¬ P x) → AddsExactly P xs xs
  adds_none P xs h = record { more = []; is = sym (append-nil xs); exactly = exactly_none P h }

  pub adds_one : (P : X → Type 0) (xs : List X) (x : X) → ((y : X) → P y ↔ (y ≡ x)) → AddsExactly P xs (xs ++ x ∷ [])
  adds_one P xs x h = record { more = x ∷ []; is = refl; exactly = exactly_one x P h }

  pub adds_both : (P Q R : X → Type 0) (xs ys zs : List X) → ((x : X) → R x ↔ (P x ⊎ Q x)) → ((x : X) → P x → ¬ Q x) → AddsExactly P xs ys → AddsExactly Q ys zs → AddsExactly R xs zs
  adds_both P Q R xs ys zs h apart a b = record {
    more = a.more ++ b.more;
    is = b.is ∙ ap (λ l. l ++ b.more) a.is ∙ append_assoc xs a.more b.more;
    exactly = exactly_both P Q R a.more b.more h apart a.exactly b.exactly;
  }

  pub exactly_adds : (P Q R : X → Type 0) (xs ys : List X) → ((x : X) → R x ↔ (P x ⊎ Q x)) → ((x : X) → P x → ¬ Q x) → AreExactly P xs → AddsExactly Q xs ys → AreExactly R ys
  exactly_adds P Q R xs ys h apart e a = subst (AreExactly R) (sym a.is) (exactly_both P Q R xs a.more h apart e a.exactly)

  -- what has P is in the list, and what is in the list has P
  pub exactly_contains : (P : X → Type 0) (xs : List X) → AreExactly P xs → (x : X) → Contains xs x ↔ P x
  exactly_contains P xs e x = (λ c. All-contains P xs x e.sound c, e.complete x)

  -- one more item
  pub contains_more : (xs : List X) (y x : X) → Contains (xs ++ y ∷ []) x ↔ (Contains xs x ⊎ (x ≡ y))
  contains_more xs y x = (to, from)
    where
      to : Contains (xs ++ y ∷ []) x → Contains xs x ⊎ (x ≡ y)
      to c = turn (Contains-push_cases xs y x c)
        where
          turn : Contains xs x ⊎ (y ≡ x) → Contains xs x ⊎ (x ≡ y)
          turn (inl h) = inl h
          turn (inr e) = inr (sym e)

      from : Contains xs x ⊎ (x ≡ y) → Contains (xs ++ y ∷ []) x
      from (inl c) = Contains-append_left xs (y ∷ []) x c
      from (inr e) = subst (Contains (xs ++ y ∷ [])) (sym e) (Contains-push xs y)

-- images that differ pairwise
pub none_twice_map : {X Y : Type 0} (f : X → Y) (xs : List X) → AllPairs (λ x y. f x ≢ f y) xs → NoneTwice (map f xs)
none_twice_map f [] once = none_twice_nil
none_twice_map f (x ∷ xs) once =
    AllPairs-cons (λ y z. y ≢ z) (f x) (map f xs)
    (All-map (λ y. f x ≢ y) f xs (λ k d l. once 0 (suc k) d (omega arith) (omega arith)))
    (none_twice_map f xs (λ i j d l k. once (suc i) (suc j) d (omega arith) (omega arith)))
