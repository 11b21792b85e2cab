-- What is found of points, and how a relation stands.
use Rattle.std.specs.Prelude.{◌≡◌, ℕ, ◌<◌, ⊤, Option, MatchOption}
use Rattle.sort_term.specs.declared.points.Point.{Point}
use Rattle.sort_term.specs.declared.problem.Problem.{Problem}
use Rattle.sort_term.specs.Relation.{Side, left, right, IsPoint, RightFails}
use Rattle.sort_term.specs.Simulation.{Test, void, outside, long, halted, IsWellGroundedAt, RightMatches, LeftMatches, RightIsExcused, SideMisses}
use Rattle.sort_term.specs.Verdict.{ungrounded, unmatched, refines, FirstTest, NoneBefore}
use Rattle.ground_step.specs.declared.verdict.Failure.{Failure}
use Rattle.ground_step.specs.declared.verdict.Verdict.{Verdict}
use Rattle.ground_step.specs.declared.verdict.Verdict.TheVariants as verdict
use Rattle.ground_step.specs.Shows.{side_of, Witness}
use Rattle.ground_step.specs.VerdictLaws.{NoTestBefore, NoRightMiss}
use Rattle.verdict.specs.declared.standing.Standing.{Standing}
use Rattle.verdict.specs.declared.standing.Standing.TheVariants.{Matched, Missed, Failed}
use Rattle.verdict.specs.declared.standing.Finding.{Finding}
use Rattle.verdict.specs.declared.standing.Finding.TheVariants.{Ungrounded, Grounded}
use Rattle.verdict.specs.declared.standing.Partners.{Partners}
use Rattle.verdict.specs.declared.standing.Partners.TheVariants.{Fail, Miss, Sound}

-- how a relation stands with one more grounded point
abbrev pub standing_after : Standing → Partners → Standing
standing_after Matched (Fail f) = Failed f
standing_after Matched (Miss f) = Missed f
standing_after Matched Sound = Matched
standing_after (Missed g) (Fail f) = Failed f
standing_after (Missed g) (Miss f) = Missed g
standing_after (Missed g) Sound = Missed g
standing_after (Failed g) more = Failed g

-- the verdict where all points are judged
abbrev pub standing_verdict : Standing → Verdict
standing_verdict Matched = verdict.Equivalent
standing_verdict (Missed f) = verdict.Refines f
standing_verdict (Failed f) = verdict.Unmatched f

-- the failure witnesses the test at the point with the number k, and no test before it in their order holds there
abbrev pub IsFirstTestBy : Problem → ℕ → ℕ → Test → Failure → Type 0
IsFirstTestBy q n k t f = Witness q n (ungrounded k t) f × NoTestBefore q n k t

-- the verdict is that the point with the number k isn't grounded, by the first test that holds there, with what shows it
abbrev pub IsUngroundedBy : Problem → ℕ → ℕ → Verdict → Type 0
IsUngroundedBy q n k (verdict.Void j) = (j ≡ k) × ((p : Point) → IsPoint q k p → FirstTest q n void p)
IsUngroundedBy q n k (verdict.Outside f) = IsFirstTestBy q n k (outside (side_of f.side)) f
IsUngroundedBy q n k (verdict.Long f) = IsFirstTestBy q n k (long (side_of f.side)) f
IsUngroundedBy q n k (verdict.Halted f) = IsFirstTestBy q n k (halted (side_of f.side)) f
IsUngroundedBy q n k _ = ⊥

-- nothing is wrong with a point of what is asked where the relation stands so
abbrev pub IsSound : Problem → Standing → Point → Type 0
IsSound q Matched p = RightIsExcused q p × RightMatches q p × LeftMatches q p
IsSound q (Missed f) p = RightIsExcused q p
IsSound q (Failed f) p = ⊤

-- a failure witnesses that one side misses at the point with the number k, the right side first
abbrev pub IsMissedBy : Problem → ℕ → ℕ → Failure → Type 0
IsMissedBy q n k f = (side : Side) × Witness q n (refines k side) f × NoRightMiss q k side

-- the point with the number k has P
abbrev pub HasAt : Problem → ℕ → (Point → Type 0) → Type 0
HasAt q k P = (p : Point) → IsPoint q k p → P p

-- what is found of the cut successors of the point with the number k is so, where the relation stood so before
abbrev pub FindsPartners : Problem → ℕ → ℕ → Standing → Partners → Type 0
FindsPartners q n k s (Fail f) = Witness q n (unmatched k) f
FindsPartners q n k s (Miss f) = HasAt q k (RightIsExcused q) × IsMissedBy q n k f
FindsPartners q n k s Sound = HasAt q k (IsSound q s)

-- what is found of the point with the number k is so
abbrev pub Finds : Problem → ℕ → ℕ → Standing → Finding → Type 0
Finds q n k s (Ungrounded v) = IsUngroundedBy q n k v
Finds q n k s (Grounded found) = HasAt q k (IsWellGroundedAt q n) × FindsPartners q n k s found

-- a failure that witnesses that one side misses at the point with the number k, or where there is none, that side matches
abbrev pub IsRightMissing : Problem → ℕ → ℕ → Option Failure → Type 0
IsRightMissing q n k o = MatchOption o (HasAt q k (RightMatches q)) (Witness q n (refines k right))

abbrev pub IsLeftMissing : Problem → ℕ → ℕ → Option Failure → Type 0
IsLeftMissing q n k o = MatchOption o (HasAt q k (LeftMatches q)) (Witness q n (refines k left))

-- the same of both sides
abbrev pub IsMissing : Problem → ℕ → ℕ → Option Failure → Type 0
IsMissing q n k o = MatchOption o (HasAt q k (λ p. RightMatches q p × LeftMatches q p)) (IsMissedBy q n k)

-- the first k points have P
abbrev pub AllBefore : Problem → ℕ → (Point → Type 0) → Type 0
AllBefore q k P = (j : ℕ) (p : Point) → j < k → IsPoint q j p → P p

-- how the relation stands as far as the first k points say
abbrev pub Stands : Problem → ℕ → ℕ → Standing → Type 0
Stands q n k Matched = AllBefore q k (IsSound q Matched)
Stands q n k (Missed f) = AllBefore q k (RightIsExcused q) × ((i : ℕ) × IsMissedBy q n i f × NoneBefore q (SideMisses q) i)
Stands q n k (Failed f) = (i : ℕ) × Witness q n (unmatched i) f × NoneBefore q (RightFails q) i

-- the first k points are well grounded, and the relation stands so
pub record IsStanding (q : Problem) (n k : ℕ) (s : Standing) : Type 0 where
  pub grounded : AllBefore q k (IsWellGroundedAt q n)
  pub stands : Stands q n k s

-- the verdicts of a grounded relation, and of a grounded cut-simulation
abbrev pub IsGroundedVerdict : Verdict → Type 0
IsGroundedVerdict verdict.Equivalent = ⊤
IsGroundedVerdict (verdict.Refines f) = ⊤
IsGroundedVerdict (verdict.Unmatched f) = ⊤
IsGroundedVerdict _ = ⊥

abbrev pub IsSimulationVerdict : Verdict → Type 0
IsSimulationVerdict verdict.Equivalent = ⊤
IsSimulationVerdict (verdict.Refines f) = ⊤
IsSimulationVerdict _ = ⊥
