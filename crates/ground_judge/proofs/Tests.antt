-- The seven tests at a point with one related pair.
use Rattle.std.proofs.Common.{arith, ◌≡◌, ℕ, ◌<◌, List, [], refl, sym, ◌∙◌, subst}
use Rattle.sort_term.specs.declared.points.Point.{Point}
use Rattle.sort_term.specs.declared.problem.Problem.{Problem}
use Rattle.sort_term.specs.Tree.{Tree}
use Rattle.sort_term.specs.Runs.{IsLong, IsHalted}
use Rattle.sort_term.specs.Relation.{Side, left, right, of_side, SomePair, EachPair, IsStateOf, StepsOf, InCutOf, Void, Outside, Long, Halted}
use Rattle.sort_term.specs.Simulation.{Test, void, outside, long, halted, HasTest}
use Rattle.sort_term.specs.Verdict.{rank, FirstTest}
use Rattle.ground_judge.specs.Ground.{IsOnlyPair}

module _ (q : Problem) (n : ℕ) (p : Point) (a b : Tree) (only : IsOnlyPair q p a b) where
  pub some_pair : (P : Tree → Tree → Type 0) → P a b → SomePair q p P
  some_pair P h = ([], a, b, only.relates, h)

  pub each_pair : (P : Tree → Tree → Type 0) → P a b → EachPair q p P
  each_pair P h v c d r = let e = only.only v c d r in subst (λ x. P x d) (sym e.0) (subst (P a) (sym e.1) h)

  -- the side's state of the pair, and that it is the only one
  state : (side : Side) → IsStateOf q p side (of_side side a b)
  state side = record { valuation = []; left_state = a; right_state = b; relates = only.relates; is = refl }

  pub only_state : (side : Side) (s : Tree) → IsStateOf q p side s → of_side side a b ≡ s
  only_state side s x = let e = only.only x.valuation x.left_state x.right_state x.relates in sym (λ i. of_side side (e.0 i) (e.1 i)) ∙ x.is

  -- the side's state is in its cut, starts a long run, starts a halted run
  abbrev IsIn : Side → Type 0
  IsIn side = InCutOf q side (of_side side a b)

  abbrev StartsLong : Side → Type 0
  StartsLong side = (run : List (ℕ × Tree)) × IsLong (StepsOf q side) (InCutOf q side) n (of_side side a b) run

  abbrev StartsHalted : Side → Type 0
  StartsHalted side = (run : List (ℕ × Tree)) × IsHalted (StepsOf q side) (InCutOf q side) (of_side side a b) run

  not_void : ¬ Void q p
  not_void f = f [] only.relates.holds

  not_outside : (side : Side) → IsIn side → ¬ Outside q p side
  not_outside side i f = f.2 (subst (InCutOf q side) (only_state side f.0 f.1) i)

  not_long : (side : Side) → ¬ StartsLong side → ¬ Long q n p side
  not_long side h f = h (f.2.0, subst (λ s. IsLong (StepsOf q side) (InCutOf q side) n s f.2.0) (sym (only_state side f.0 f.1)) f.2.1)

  not_halted : (side : Side) → ¬ StartsHalted side → ¬ Halted q p side
  not_halted side h f = h (f.2.0, subst (λ s. IsHalted (StepsOf q side) (InCutOf q side) s f.2.0) (sym (only_state side f.0 f.1)) f.2.1)

  is_outside : (side : Side) → ¬ IsIn side → Outside q p side
  is_outside side h = (of_side side a b, state side, h)

  is_long : (side : Side) → StartsLong side → Long q n p side
  is_long side h = (of_side side a b, state side, h)

  is_halted : (side : Side) → StartsHalted side → Halted q p side
  is_halted side h = (of_side side a b, state side, h)

  -- each test is the first that holds where those before it don't
  pub first_outside_left : ¬ IsIn left → FirstTest q n (outside left) p
  first_outside_left h = (is_outside left h, before)
    where
      before : (u : Test) → rank u < 1 → ¬ HasTest q n p u
      before void l = not_void
      before (outside left) l = absurd (omega arith)
      before (outside right) l = absurd (omega arith)
      before (long left) l = absurd (omega arith)
      before (long right) l = absurd (omega arith)
      before (halted left) l = absurd (omega arith)
      before (halted right) l = absurd (omega arith)

  pub first_outside_right : IsIn left → ¬ IsIn right → FirstTest q n (outside right) p
  first_outside_right il h = (is_outside right h, before)
    where
      before : (u : Test) → rank u < 2 → ¬ HasTest q n p u
      before void l = not_void
      before (outside left) l = not_outside left il
      before (outside right) l = absurd (omega arith)
      before (long left) l = absurd (omega arith)
      before (long right) l = absurd (omega arith)
      before (halted left) l = absurd (omega arith)
      before (halted right) l = absurd (omega arith)

  module _ (il : IsIn left) (ir : IsIn right) where
    pub first_long_left : StartsLong left → FirstTest q n (long left) p
    first_long_left h = (is_long left h, before)
      where
        before : (u : Test) → rank u < 3 → ¬ HasTest q n p u
        before void l = not_void
        before (outside left) l = not_outside left il
        before (outside right) l = not_outside right ir
        before (long left) l = absurd (omega arith)
        before (long right) l = absurd (omega arith)
        before (halted left) l = absurd (omega arith)
        before (halted right) l = absurd (omega arith)

    pub first_long_right : ¬ StartsLong left → StartsLong right → FirstTest q n (long right) p
    first_long_right ll h = (is_long right h, before)
      where
        before : (u : Test) → rank u < 4 → ¬ HasTest q n p u
        before void l = not_void
        before (outside left) l = not_outside left il
        before (outside right) l = not_outside right ir
        before (long left) l = not_long left ll
        before (long right) l = absurd (omega arith)
        before (halted left) l = absurd (omega arith)
        before (halted right) l = absurd (omega arith)

    pub first_halted_left : ¬ StartsLong left → ¬ StartsLong right → StartsHalted left → FirstTest q n (halted left) p
    first_halted_left ll lr h = (is_halted left h, before)
      where
        before : (u : Test) → rank u < 5 → ¬ HasTest q n p u
        before void l = not_void
        before (outside left) l = not_outside left il
        before (outside right) l = not_outside right ir
        before (long left) l = not_long left ll
        before (long right) l = not_long right lr
        before (halted left) l = absurd (omega arith)
        before (halted right) l = absurd (omega arith)

    pub first_halted_right : ¬ StartsLong left → ¬ StartsLong right → ¬ StartsHalted left → StartsHalted right → FirstTest q n (halted right) p
    first_halted_right ll lr hl h = (is_halted right h, before)
      where
        before : (u : Test) → rank u < 6 → ¬ HasTest q n p u
        before void l = not_void
        before (outside left) l = not_outside left il
        before (outside right) l = not_outside right ir
        before (long left) l = not_long left ll
        before (long right) l = not_long right lr
        before (halted left) l = not_halted left hl
        before (halted right) l = absurd (omega arith)
