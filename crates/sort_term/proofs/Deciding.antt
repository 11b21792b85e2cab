-- What has a code is compared, and lists of it are searched.
use Rattle.std.proofs.Common.{◌≡◌, List, [], ◌∷◌, ◌++◌, length, take, drop, refl, sym, ap, ◌∙◌, ◌⊎◌, inl, inr, All}
use Rattle.std.specs.List.{Contains}
use Rattle.std.specs.Coded.{Coded, coded_list}
use Rattle.std.proofs.Math.Seq.{take-append_seam}
use Rattle.std.proofs.lemmas.Bool.{cases_eq}
use Rattle.std.proofs.lemmas.List.{take-append-drop}
use Rattle.std.proofs.lemmas.List.Elements.{All-nil, All-cons, Contains-append_right, Contains-append_left, Contains-push}
use Rattle.sort_term.specs.Meeting.{Begins}
use base.Stored.{Gv, gnil, gnum, gcons, num}

same_code : (a b : Gv) → (a ≡ b) ⊎ (a ≡ b → ⊥)
same_code gnil gnil = inl refl
same_code gnil (gnum n) = inr (λ e. absurd (cc))
same_code gnil (gcons c d) = inr (λ e. absurd (cc))
same_code (gnum m) gnil = inr (λ e. absurd (cc))
same_code (gnum m) (gnum n) = elim (cases_eq m n) [ inl e ↦ inl (ap gnum e) | inr d ↦ inr (λ e. d (ap num e)) ]
same_code (gnum m) (gcons c d) = inr (λ e. absurd (cc))
same_code (gcons a b) gnil = inr (λ e. absurd (cc))
same_code (gcons a b) (gnum n) = inr (λ e. absurd (cc))
same_code (gcons a b) (gcons c d) = both (same_code a c) (same_code b d)
  where
    both : (a ≡ c) ⊎ (a ≡ c → ⊥) → (b ≡ d) ⊎ (b ≡ d → ⊥) → (gcons a b ≡ gcons c d) ⊎ (gcons a b ≡ gcons c d → ⊥)
    both (inl e) (inl f) = inl (λ i. gcons (e i) (f i))
    both (inl e) (inr g) = inr (λ h. g (cc))
    both (inr g) f = inr (λ h. g (cc))

-- two values of a type with a code are equal, or they aren't
compared : {X : Type 0} → Coded X → (x y : X) → (x ≡ y) ⊎ (x ≡ y → ⊥)
compared c x y = elim (same_code (c.code x) (c.code y)) [ inl e ↦ inl (c.inj x y e) | inr d ↦ inr (λ e. d (ap c.code e)) ]

module _ {X : Type 0} where
  -- one list begins another, or it doesn't
  pub begins : Coded X → (xs ys : List X) → Begins xs ys ⊎ (Begins xs ys → ⊥)
  begins c xs ys = go (compared (coded_list c) (take (length xs) ys) xs)
    where
      go : (take (length xs) ys ≡ xs) ⊎ (take (length xs) ys ≡ xs → ⊥) → Begins xs ys ⊎ (Begins xs ys → ⊥)
      go (inl e) = inl (record { rest = drop (length xs) ys; is = ap (λ l. l ++ drop (length xs) ys) (sym e) ∙ take-append-drop (length xs) ys })
      go (inr d) = inr (λ b. d (ap (take (length xs)) (sym b.is) ∙ take-append_seam xs b.rest))

  -- an item of the list has what each item has or hasn't, or none has it
  pub searched : (P : X → Type 0) → ((x : X) → P x ⊎ (P x → ⊥)) → (xs : List X) → ((x : X) × Contains xs x × P x) ⊎ All (λ x. P x → ⊥) xs
  searched P told [] = inr (All-nil (λ x. P x → ⊥))
  searched P told (y ∷ ys) = go (told y) (searched P told ys)
    where
      go : P y ⊎ (P y → ⊥) → ((x : X) × Contains ys x × P x) ⊎ All (λ x. P x → ⊥) ys → ((x : X) × Contains (y ∷ ys) x × P x) ⊎ All (λ x. P x → ⊥) (y ∷ ys)
      go (inl p) more = inl (y, Contains-append_left (y ∷ []) ys y (Contains-push [] y), p)
      go (inr n) (inl f) = inl (f.0, Contains-append_right (y ∷ []) ys f.0 f.1, f.2)
      go (inr n) (inr none) = inr (All-cons (λ x. P x → ⊥) y ys n none)
