-- Marks on places.
use Rattle.std.proofs.Common.{arith, ◌≡◌, ◌⊎◌, inl, inr, ℕ, zero, suc, ◌<◌, Bool, true, List, [], ◌∷◌, ◌++◌, set, length, take, slice_get, Some, refl, ap}
use Rattle.std.proofs.lemmas.List.Elements.{All-nil}
use Rattle.std.proofs.lemmas.Option.{same_Some}
use Rattle.prover.specs.Splitting.{IsMarked, AreMarkedMore}

-- what stands at a place of the first of a list
pub taken_at : {X : Type 0} (n : ℕ) (xs : List X) (k : ℕ) (x : X) → slice_get (take n xs) k ≡ Some x → (k < n) × (slice_get xs k ≡ Some x)
taken_at zero xs k x e = absurd (cc)
taken_at (suc n) [] k x e = absurd (cc)
taken_at (suc n) (y ∷ xs) zero x e = (omega arith, e)
taken_at (suc n) (y ∷ xs) (suc k) x e = let h = taken_at n xs k x e in (let l = h.0 in omega arith, h.1)

-- one mark more
pub push_kept : (marks : List Bool) (b : Bool) (p : ℕ) → IsMarked marks p → IsMarked (marks ++ b ∷ []) p
push_kept [] b p m = absurd (cc)
push_kept (a ∷ marks) b zero m = m
push_kept (a ∷ marks) b (suc p) m = push_kept marks b p m

pub push_here : (marks : List Bool) (b : Bool) → b ≡ true → IsMarked (marks ++ b ∷ []) (length marks)
push_here [] b e = ap Some e
push_here (a ∷ marks) b e = push_here marks b e

pub push_only : (marks : List Bool) (b : Bool) (p : ℕ) → IsMarked (marks ++ b ∷ []) p → IsMarked marks p ⊎ ((p ≡ length marks) × (b ≡ true))
push_only [] b zero m = inr (refl, same_Some b true m)
push_only [] b (suc p) m = absurd (cc)
push_only (a ∷ marks) b zero m = inl m
push_only (a ∷ marks) b (suc p) m = elim (push_only marks b p m) [ inl h ↦ inl h | inr h ↦ inr (let e = h.0 in omega arith, h.1) ]

-- one place is marked
pub set_here : (marks : List Bool) (q : ℕ) → q < length marks → IsMarked (set marks q true) q
set_here [] q lt = absurd (omega arith)
set_here (a ∷ marks) zero lt = refl
set_here (a ∷ marks) (suc q) lt = set_here marks q (omega arith)

pub set_kept : (marks : List Bool) (q p : ℕ) → IsMarked marks p → IsMarked (set marks q true) p
set_kept [] q p m = absurd (cc)
set_kept (a ∷ marks) zero zero m = refl
set_kept (a ∷ marks) zero (suc p) m = m
set_kept (a ∷ marks) (suc q) zero m = m
set_kept (a ∷ marks) (suc q) (suc p) m = set_kept marks q p m

pub set_only : (marks : List Bool) (q p : ℕ) → IsMarked (set marks q true) p → IsMarked marks p ⊎ (q ≡ p)
set_only [] q p m = inl m
set_only (a ∷ marks) zero zero m = inr refl
set_only (a ∷ marks) zero (suc p) m = inl m
set_only (a ∷ marks) (suc q) zero m = inl m
set_only (a ∷ marks) (suc q) (suc p) m = elim (set_only marks q p m) [ inl h ↦ inl h | inr h ↦ inr (let e = h in omega arith) ]

-- no places are marked more
pub marked_none : (marks : List Bool) → AreMarkedMore [] marks marks
marked_none marks = record { kept = λ p m. m; these = All-nil (IsMarked marks); only = λ p m. inl m }
