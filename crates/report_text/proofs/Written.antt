-- Texts that are written one after another: lines, and texts each behind a space.
use Rattle.std.proofs.Common.{◌≡◌, ℕ, ◌+◌, ◌<◌, List, [], ◌∷◌, ◌++◌, map, take, get_or, length, refl, sym, ◌∙◌, ap, append_assoc, arith}
use Rattle.std.proofs.lemmas.List.{map_more, append-nil, length-map, get_or-map}
use Rattle.sexp_text.specs.Print.{behind}
use Rattle.report_text.specs.Lines.{line_of, lines_of}

pub lines_of-append : (xs ys : List (List ℕ)) → lines_of (xs ++ ys) ≡ lines_of xs ++ lines_of ys
lines_of-append [] ys = refl
lines_of-append (x ∷ xs) ys = ap (λ zs. line_of x ++ zs) (lines_of-append xs ys) ∙ sym (append_assoc (line_of x) (lines_of xs) (lines_of ys))

behind-append : (xs ys : List (List ℕ)) → behind 32 (xs ++ ys) ≡ behind 32 xs ++ behind 32 ys
behind-append [] ys = refl
behind-append (x ∷ xs) ys = ap (λ zs. (32 ∷ x) ++ zs) (behind-append xs ys) ∙ sym (append_assoc (32 ∷ x) (behind 32 xs) (behind 32 ys))

module _ {X : Type 0} (f : X → List ℕ) (xs : List X) (i : ℕ) (x : X) (within : i < length xs) (is : x ≡ get_or xs i x) where
  one_more : map f (take (i + 1) xs) ≡ map f (take i xs) ++ f x ∷ []
  one_more = map_more f xs i x within ∙ ap (λ (y : X). map f (take i xs) ++ f y ∷ []) (sym is)

  lines_one_more : lines_of (map f (take (i + 1) xs)) ≡ lines_of (map f (take i xs)) ++ line_of (f x)
  lines_one_more =
      ap lines_of one_more
      ∙ lines_of-append (map f (take i xs)) (f x ∷ [])
      ∙ ap (λ zs. lines_of (map f (take i xs)) ++ zs) (append-nil (line_of (f x)))

  behind_one_more : behind 32 (map f (take (i + 1) xs)) ≡ behind 32 (map f (take i xs)) ++ 32 ∷ f x
  behind_one_more =
      ap (behind 32) one_more
      ∙ behind-append (map f (take i xs)) (f x ∷ [])
      ∙ ap (λ zs. behind 32 (map f (take i xs)) ++ zs) (append-nil (32 ∷ f x))

  -- the line of one more item
  pub lines_more : (start before after : List ℕ) → before ≡ start ++ lines_of (map f (take i xs)) → after ≡ before ++ line_of (f x) → after ≡ start ++ lines_of (map f (take (i + 1) xs))
  lines_more start before after a b =
      b
      ∙ ap (λ zs. zs ++ line_of (f x)) a
      ∙ append_assoc start (lines_of (map f (take i xs))) (line_of (f x))
      ∙ ap (λ zs. start ++ zs) (sym lines_one_more)

  -- the text of one more item, behind a space
  pub behind_more : (start before space after : List ℕ) → before ≡ start ++ behind 32 (map f (take i xs)) → space ≡ before ++ 32 ∷ [] → after ≡ space ++ f x → after ≡ start ++ behind 32 (map f (take (i + 1) xs))
  behind_more start before space after a b c =
      c
      ∙ ap (λ zs. zs ++ f x) (b ∙ ap (λ zs. zs ++ 32 ∷ []) a)
      ∙ append_assoc (start ++ behind 32 (map f (take i xs))) (32 ∷ []) (f x)
      ∙ append_assoc start (behind 32 (map f (take i xs))) (32 ∷ f x)
      ∙ ap (λ zs. start ++ zs) (sym behind_one_more)

module _ {X Y : Type 0} (view : X → Y) (f : Y → List ℕ) (xs : List X) (i : ℕ) (x : X) (within : i < length xs) (is : x ≡ get_or xs i x) where
  -- the line of one more item, where the line tells a view of it
  pub viewed_more : (start before after : List ℕ) → before ≡ start ++ lines_of (map f (take i (map view xs))) → after ≡ before ++ line_of (f (view x)) → after ≡ start ++ lines_of (map f (take (i + 1) (map view xs)))
  viewed_more start before after a b =
      let below : i < length (map view xs) = omega (arith, length-map xs view) in
      let same : view x ≡ get_or (map view xs) i (view x) = ap view is ∙ sym (get_or-map view xs i x (view x) within) in
      lines_more f (map view xs) i (view x) below same start before after a b
