-- A problem has at most one verdict for a number of steps.
use Rattle.std.proofs.Common.{arith, ◌≡◌, ℕ, ◌<◌, ◌≤◌, [], ◌∷◌, length, get_or, Some, refl, sym, ap, ◌∙◌, subst, ◌⊎◌, inl, inr}
use Rattle.std.proofs.lemmas.Bool.{cases_lt}
use Rattle.sort_term.specs.declared.points.Point.{Point}
use Rattle.sort_term.specs.declared.problem.Problem.{Problem}
use Rattle.sort_term.specs.Tree.{Tree}
use Rattle.sort_term.specs.Relation.{Side, left, right, IsPoint, IsUndefined, RightMisses, RightFails, LeftFails}
use Rattle.sort_term.specs.Simulation.{Test, void, outside, long, halted, IsUngrounded, IsGrounded, SideMisses}
use Rattle.sort_term.specs.Verdict.{Kind, ungrounded, unmatched, refines, equivalent, rank, FirstTest, FirstMiss, AtPoint, NoneBefore, IsVerdict}

-- the tests in their order
test_at : ℕ → Test
test_at n = get_or (void ∷ outside left ∷ outside right ∷ long left ∷ long right ∷ halted left ∷ halted right ∷ []) n void

at_rank : (t : Test) → test_at (rank t) ≡ t
unfolding test_at
at_rank void = refl
at_rank (outside left) = refl
at_rank (outside right) = refl
at_rank (long left) = refl
at_rank (long right) = refl
at_rank (halted left) = refl
at_rank (halted right) = refl

same_rank : (t u : Test) → rank t ≡ rank u → t ≡ u
same_rank t u e = sym (at_rank t) ∙ ap test_at e ∙ at_rank u

-- numbers of which neither is below the other
same_number : (k l : ℕ) → ¬ (k < l) → ¬ (l < k) → k ≡ l
same_number k l a b = go (cases_lt k l) (cases_lt l k)
  where
    go : (k < l) ⊎ (l ≤ k) → (l < k) ⊎ (k ≤ l) → k ≡ l
    go (inl h) _ = absurd (a h)
    go (inr h) (inl i) = absurd (b i)
    go (inr h) (inr i) = omega arith

-- without undefined items no state is undefined
nothing_undefined : (q : Problem) → q.points.undefs ≡ [] → (s : Tree) → ¬ IsUndefined q s
nothing_undefined q none s u = let l : u.0 < length q.points.undefs = u.2 in let e : length q.points.undefs ≡ 0 = ap length none in absurd (omega (arith, l, e))

-- where the right fails it misses
pub fails_misses : (q : Problem) (p : Point) → RightFails q p → RightMisses q p
fails_misses q p f = (f.0, f.1, f.2, f.3, (f.4.0, f.4.1, f.4.2))

-- without undefined items it fails where it misses
pub misses_fails : (q : Problem) (p : Point) → q.points.undefs ≡ [] → RightMisses q p → RightFails q p
misses_fails q p none m = (m.0, m.1, m.2, m.3, (m.4.0, m.4.1, m.4.2, λ a' h. nothing_undefined q none a'))

-- the side of a point that misses
of_miss : (q : Problem) (side : Side) (p : Point) → FirstMiss q side p → SideMisses q p
of_miss q right p m = inl m
of_miss q left p m = inr m.0

one_side : (q : Problem) (s t : Side) (p : Point) → FirstMiss q s p → FirstMiss q t p → s ≡ t
one_side q left left p m n = refl
one_side q left right p m n = absurd (m.1 n)
one_side q right left p m n = absurd (n.1 m)
one_side q right right p m n = refl

-- without undefined items nothing refines on the right side
pub never_refines_right : (q : Problem) → q.points.undefs ≡ [] → (n k : ℕ) → ¬ IsVerdict q n (refines k right)
never_refines_right q none n k v = v.1 k v.2.0 v.2.1 (misses_fails q v.2.0 none v.2.2)

module _ (q : Problem) where
  -- the first point with a property has one number
  one_place : (P : Point → Type 0) (k l : ℕ) → AtPoint q P k → NoneBefore q P k → AtPoint q P l → NoneBefore q P l → k ≡ l
  one_place P k l a f b g = same_number k l (λ h. g k a.0 h a.1 a.2) (λ h. f l b.0 h b.1 b.2)

  one_point : (k l : ℕ) (p r : Point) → k ≡ l → IsPoint q k p → IsPoint q l r → p ≡ r
  one_point k l p r e a b = let h : Some p ≡ Some r = sym a ∙ subst (λ n. IsPoint q n r) (sym e) b in cc

  module _ (n : ℕ) where
    tested : (k : ℕ) (t : Test) → AtPoint q (FirstTest q n t) k → AtPoint q (IsUngrounded q n) k
    tested k t a = (a.0, a.1, (t, a.2.0))

    -- the first test that holds at a point
    one_test : (p : Point) (t u : Test) → FirstTest q n t p → FirstTest q n u p → t ≡ u
    one_test p t u a b = same_rank t u (same_number (rank t) (rank u) (λ h. b.1 t h a.0) (λ h. a.1 u h b.0))

    one_failure : (k l : ℕ) (t u : Test) → AtPoint q (FirstTest q n t) k → NoneBefore q (IsUngrounded q n) k → AtPoint q (FirstTest q n u) l → NoneBefore q (IsUngrounded q n) l → ungrounded k t ≡ ungrounded l u
    one_failure k l t u a f b g =
        let e : k ≡ l = one_place (IsUngrounded q n) k l (tested k t a) f (tested l u b) g in
        let same : a.0 ≡ b.0 = one_point k l a.0 b.0 e a.1 b.1 in
        let tests : t ≡ u = one_test b.0 t u (subst (FirstTest q n t) same a.2) b.2 in
        ap (λ m. ungrounded m t) e ∙ ap (ungrounded l) tests

    -- a point that isn't grounded, or that fails, where none is or does
    not_grounded : (k : ℕ) (t : Test) → AtPoint q (FirstTest q n t) k → IsGrounded q n → ⊥
    not_grounded k t a g = g k a.0 a.1 (t, a.2.0)

    missed : (k : ℕ) (side : Side) → AtPoint q (FirstMiss q side) k → AtPoint q (SideMisses q) k
    missed k side a = (a.0, a.1, of_miss q side a.0 a.2)

    one_miss : (k l : ℕ) (s t : Side) → AtPoint q (FirstMiss q s) k → NoneBefore q (SideMisses q) k → AtPoint q (FirstMiss q t) l → NoneBefore q (SideMisses q) l → refines k s ≡ refines l t
    one_miss k l s t a f b g =
        let e : k ≡ l = one_place (SideMisses q) k l (missed k s a) f (missed l t b) g in
        let same : a.0 ≡ b.0 = one_point k l a.0 b.0 e a.1 b.1 in
        let sides : s ≡ t = one_side q s t b.0 (subst (FirstMiss q s) same a.2) b.2 in
        ap (λ m. refines m s) e ∙ ap (refines l) sides

    pub one_verdict : (k l : Kind) → IsVerdict q n k → IsVerdict q n l → k ≡ l
    one_verdict (ungrounded k t) (ungrounded l u) a b = one_failure k l t u a.0 a.1 b.0 b.1
    one_verdict (ungrounded k t) (unmatched l) a b = absurd (not_grounded k t a.0 b.0)
    one_verdict (ungrounded k t) (refines l side) a b = absurd (not_grounded k t a.0 b.0)
    one_verdict (ungrounded k t) equivalent a b = absurd (not_grounded k t a.0 b.0)
    one_verdict (unmatched k) (ungrounded l u) a b = absurd (not_grounded l u b.0 a.0)
    one_verdict (unmatched k) (unmatched l) a b = ap unmatched (one_place (RightFails q) k l a.1 a.2 b.1 b.2)
    one_verdict (unmatched k) (refines l side) a b = absurd (b.1 k a.1.0 a.1.1 a.1.2)
    one_verdict (unmatched k) equivalent a b = absurd (b.1 k a.1.0 a.1.1 (inl (fails_misses q a.1.0 a.1.2)))
    one_verdict (refines k side) (ungrounded l u) a b = absurd (not_grounded l u b.0 a.0)
    one_verdict (refines k side) (unmatched l) a b = absurd (a.1 l b.1.0 b.1.1 b.1.2)
    one_verdict (refines k s) (refines l t) a b = one_miss k l s t a.2 a.3 b.2 b.3
    one_verdict (refines k side) equivalent a b = let m = missed k side a.2 in absurd (b.1 k m.0 m.1 m.2)
    one_verdict equivalent (ungrounded l u) a b = absurd (not_grounded l u b.0 a.0)
    one_verdict equivalent (unmatched l) a b = absurd (a.1 l b.1.0 b.1.1 (inl (fails_misses q b.1.0 b.1.2)))
    one_verdict equivalent (refines l side) a b = let m = missed l side b.2 in absurd (a.1 l m.0 m.1 m.2)
    one_verdict equivalent equivalent a b = refl
