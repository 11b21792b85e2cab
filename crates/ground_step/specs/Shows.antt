-- What a failure shows.
use Rattle.std.specs.Prelude.{◌≡◌, ℕ, List, [], map}
use Rattle.sort_term.specs.declared.points.Point.{Point}
use Rattle.sort_term.specs.declared.problem.Problem.{Problem}
use Rattle.sort_term.specs.declared.term.Term.TheVariants.{Plain}
use Rattle.sort_term.specs.Tree.{Tree}
use Rattle.sort_term.specs.Runs.{IsRun, reached, rules_of, IsMet, IsLong, IsHalted}
use Rattle.sort_term.specs.Relation.{Side, left, right, IsPoint, Relates, Related, of_side, StepsOf, InCutOf, SucceedsOf, IsUndefined}
use Rattle.sort_term.specs.Simulation.{void, outside, long, halted}
use Rattle.sort_term.specs.Verdict.{Kind, ungrounded, unmatched, refines, equivalent, IsVerdict}
use Rattle.ground_step.specs.declared.verdict.SideName.{SideName}
use Rattle.ground_step.specs.declared.verdict.SideName.TheVariants as name
use Rattle.ground_step.specs.declared.verdict.Reached.{Reached}
use Rattle.ground_step.specs.declared.verdict.Reached.TheVariants as on
use Rattle.ground_step.specs.declared.verdict.Failure.{Failure}
use Rattle.ground_step.specs.declared.verdict.Verdict.{Verdict}
use Rattle.ground_step.specs.declared.verdict.Verdict.TheVariants as verdict

abbrev pub side_of : SideName → Side
side_of name.Left = left
side_of name.Right = right

-- the side and the tree of the last state of a run
abbrev pub reached_side : Reached → Side
reached_side (on.Left s) = left
reached_side (on.Right s) = right

abbrev pub reached_tree : Reached → Tree
reached_tree (on.Left s) = s.term
reached_tree (on.Right s) = s.term

-- the point and the side of the failure are those of the kind
abbrev pub IsAt : Kind → ℕ → Side → Type 0
IsAt (ungrounded k void) point side = ⊥
IsAt (ungrounded k (outside s)) point side = (k ≡ point) × (s ≡ side)
IsAt (ungrounded k (long s)) point side = (k ≡ point) × (s ≡ side)
IsAt (ungrounded k (halted s)) point side = (k ≡ point) × (s ≡ side)
IsAt (unmatched k) point side = (k ≡ point) × (side ≡ right)
IsAt (refines k s) point side = (k ≡ point) × (s ≡ side)
IsAt equivalent point side = ⊥

-- the state from which a failure's run begins
abbrev pub start_of : Failure → Tree
start_of f = of_side (side_of f.side) f.left.term f.right.term

-- what the run of a failure shows of a kind, for n steps: void and equivalent are shown by none
abbrev pub ShowsKind : Problem → ℕ → Kind → Failure → List (ℕ × Tree) → Type 0
ShowsKind q n (ungrounded k void) f run = ⊥
ShowsKind q n (ungrounded k (outside s)) f run = (run ≡ []) × ¬ InCutOf q (side_of f.side) (reached_tree f.reached)
ShowsKind q n (ungrounded k (long s)) f run = IsLong (StepsOf q (side_of f.side)) (InCutOf q (side_of f.side)) n (start_of f) run
ShowsKind q n (ungrounded k (halted s)) f run = IsHalted (StepsOf q (side_of f.side)) (InCutOf q (side_of f.side)) (start_of f) run
ShowsKind q n (unmatched k) f run =
    IsMet (StepsOf q right) (InCutOf q right) f.right.term run × ((a' : Tree) → SucceedsOf q left f.left.term a' → ¬ Related q a' (reached_tree f.reached)) × ((a' : Tree) → SucceedsOf q left f.left.term a' → ¬ IsUndefined q a')
ShowsKind q n (refines k right) f run =
    IsMet (StepsOf q right) (InCutOf q right) f.right.term run × ((a' : Tree) → SucceedsOf q left f.left.term a' → ¬ Related q a' (reached_tree f.reached))
ShowsKind q n (refines k left) f run =
    IsMet (StepsOf q left) (InCutOf q left) f.left.term run × ((b' : Tree) → SucceedsOf q right f.right.term b' → ¬ Related q (reached_tree f.reached) b')
ShowsKind q n equivalent f run = ⊥

-- what a failure witnesses of a kind for n steps: a ground run from a related pair of the kind's point, on the kind's side
pub record Witness (q : Problem) (n : ℕ) (kind : Kind) (f : Failure) : Type 0 where
  pub at : IsAt kind f.point (side_of f.side)
  -- its states are a related pair of that point under its values
  pub point : Point
  pub there : IsPoint q f.point point
  pub pair : Relates q point (map (λ x. Plain x) f.values) f.left.term f.right.term
  -- its rules are those of a run of that side from that side's state to the state that it reaches
  pub run : List (ℕ × Tree)
  pub runs : IsRun (StepsOf q (side_of f.side)) (start_of f) run
  pub rules : rules_of run ≡ map (λ r. r.0) f.rules
  pub side : reached_side f.reached ≡ side_of f.side
  pub last : reached (start_of f) run ≡ reached_tree f.reached
  -- what the run shows
  pub shown : ShowsKind q n kind f run

-- a failure shows the verdict of a problem for n steps: the kind is the verdict, and the failure witnesses it
pub record Shows (q : Problem) (n : ℕ) (kind : Kind) (f : Failure) : Type 0 where
  pub is : IsVerdict q n kind
  pub witness : Witness q n kind f

-- the kind of a verdict, with its point and its side
abbrev pub kind_of_verdict : Verdict → Kind
kind_of_verdict verdict.Equivalent = equivalent
kind_of_verdict (verdict.Refines f) = refines f.point (side_of f.side)
kind_of_verdict (verdict.Unmatched f) = unmatched f.point
kind_of_verdict (verdict.Void k) = ungrounded k void
kind_of_verdict (verdict.Outside f) = ungrounded f.point (outside (side_of f.side))
kind_of_verdict (verdict.Long f) = ungrounded f.point (long (side_of f.side))
kind_of_verdict (verdict.Halted f) = ungrounded f.point (halted (side_of f.side))

-- a verdict is right: it is the problem's verdict for n steps, and carries a failure that shows it, but for void and equivalent
abbrev pub IsRight : Problem → ℕ → Verdict → Type 0
IsRight q n verdict.Equivalent = IsVerdict q n equivalent
IsRight q n (verdict.Refines f) = Shows q n (refines f.point (side_of f.side)) f
IsRight q n (verdict.Unmatched f) = Shows q n (unmatched f.point) f
IsRight q n (verdict.Void k) = IsVerdict q n (ungrounded k void)
IsRight q n (verdict.Outside f) = Shows q n (ungrounded f.point (outside (side_of f.side))) f
IsRight q n (verdict.Long f) = Shows q n (ungrounded f.point (long (side_of f.side))) f
IsRight q n (verdict.Halted f) = Shows q n (ungrounded f.point (halted (side_of f.side))) f
