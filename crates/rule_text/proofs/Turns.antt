-- Items that act one after the other: one more of them, the one at a place, and that they lead to one end.
use Rattle.std.proofs.Common.{◌≡◌, ℕ, zero, suc, ◌+◌, ◌<◌, ◌≤◌, List, [], ◌∷◌, ◌++◌, take, get_or, length, refl, sym, ap, ◌∙◌, subst, arith}
use Rattle.std.proofs.lemmas.List.{take_all, take_more}
use Rattle.rule_text.specs.Turns.{InTurn}

module _ {D X : Type 0} (Step : D → X → D → Type 0) where
  -- one more item
  pub in_turn_push : (d m e : D) (xs : List X) (x : X) → InTurn Step d xs m → Step m x e → InTurn Step d (xs ++ x ∷ []) e
  in_turn_push d m e [] x is step = (e, subst (λ (a : D). Step a x e) (sym is) step, refl)
  in_turn_push d m e (y ∷ xs) x t step = (t.0, t.1, in_turn_push t.0 m e xs x t.2 step)

  -- the next of several items, and the last
  pub in_turn_next : (d m e : D) (xs : List X) (i : ℕ) (x : X) → i < length xs → x ≡ get_or xs i x → InTurn Step d (take i xs) m → Step m x e → InTurn Step d (take (i + 1) xs) e
  in_turn_next d m e xs i x within is so_far step =
      subst (λ (ys : List X). InTurn Step d ys e) (ap (λ y. take i xs ++ y ∷ []) is ∙ sym (take_more xs i x within)) (in_turn_push d m e (take i xs) x so_far step)

  pub in_turn_whole : (d e : D) (xs : List X) (i : ℕ) → length xs ≤ i → InTurn Step d (take i xs) e → InTurn Step d xs e
  in_turn_whole d e xs i end so_far = subst (λ (ys : List X). InTurn Step d ys e) (take_all i xs end) so_far

  -- the item at a place, after those before it
  pub in_turn_at : (d e : D) (xs : List X) (i : ℕ) (x : X) → InTurn Step d xs e → i < length xs → x ≡ get_or xs i x → (m : D) × InTurn Step d (take i xs) m × ((n : D) × Step m x n)
  in_turn_at d e [] i x t within is = absurd (omega arith)
  in_turn_at d e (y ∷ xs) zero x t within is = (d, refl, (t.0, subst (λ (a : X). Step d a t.0) (sym is) t.1))
  in_turn_at d e (y ∷ xs) (suc i) x t within is =
      let there = in_turn_at t.0 e xs i x t.2 (omega arith) is in
      (there.0, (t.0, t.1, there.1), there.2)

  -- where each item leads to one end from each start, so do several
  pub same_turns : ((d : D) (x : X) (e f : D) → Step d x e → Step d x f → e ≡ f) → (d e f : D) (xs : List X) → InTurn Step d xs e → InTurn Step d xs f → e ≡ f
  same_turns one d e f [] t u = sym t ∙ u
  same_turns one d e f (x ∷ xs) t u =
      let same : u.0 ≡ t.0 = one d x u.0 t.0 u.1 t.1 in
      same_turns one t.0 e f xs t.2 (subst (λ (a : D). InTurn Step a xs f) same u.2)
