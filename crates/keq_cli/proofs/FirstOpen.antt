-- The first point that has variables or conditions.
use Rattle.std.proofs.Common.{arith, ◌≡◌, ◌<◌, ◌≤◌, ◌⊎◌, inl, inr, ℕ, List, All, take, slice_get, Some, sym, ◌∙◌, subst}
use Rattle.std.proofs.lemmas.Bool.{cases_lt}
use Rattle.std.proofs.lemmas.List.{get_or-take, length-take}
use Rattle.std.proofs.lemmas.Option.{same_Some, get_or_from_slice_get, slice_get_within}
use Rattle.sort_term.specs.declared.points.Point.{Point}
use Rattle.ground_judge.specs.Ground.{IsGroundPoint}
use Rattle.keq_cli.specs.Tasks.{IsFirstOpen}

-- one of points that all are ground is
ground_at : (ps : List Point) (k : ℕ) (p : Point) → slice_get ps k ≡ Some p → All IsGroundPoint ps → IsGroundPoint p
ground_at ps k p there all = subst IsGroundPoint (get_or_from_slice_get ps k p p there) (all k p (slice_get_within ps k p there))

-- and so is one before a place, where all before it are
ground_before : (ps : List Point) (j k : ℕ) (p : Point) → slice_get ps j ≡ Some p → j < k → All IsGroundPoint (take k ps) → IsGroundPoint p
ground_before ps j k p there low all =
    let within = slice_get_within ps j p there in
    subst IsGroundPoint (get_or-take k ps j p low ∙ get_or_from_slice_get ps j p p there) (all j p (omega (arith, within, length-take k ps)))

-- points that all are ground have no first one that isn't
pub no_open : (ps : List Point) (k : ℕ) (p : Point) → All IsGroundPoint ps → IsFirstOpen ps k p → ⊥
no_open ps k p all first = first.not_ground (ground_at ps k p first.there all)

-- there is one first point that isn't
pub same_open : (ps : List Point) (j k : ℕ) (p q : Point) → IsFirstOpen ps j p → IsFirstOpen ps k q → p ≡ q
same_open ps j k p q a b = by (cases_lt j k) (cases_lt k j)
  where
    by : (j < k) ⊎ (k ≤ j) → (k < j) ⊎ (j ≤ k) → p ≡ q
    by (inl low) other = absurd (a.not_ground (ground_before ps j k p a.there low b.ground_before))
    by (inr high) (inl low) = absurd (b.not_ground (ground_before ps k j q b.there low a.ground_before))
    by (inr high) (inr low) = let same : j ≡ k = omega arith in same_Some p q (sym a.there ∙ subst (λ n. slice_get ps n ≡ Some q) (sym same) b.there)
