-- What a failure that witnesses a kind says of its point.
use Rattle.std.proofs.Common.{◌≡◌, ℕ, ap, sym, ◌∙◌, subst}
use Rattle.sort_term.specs.declared.problem.Problem.{Problem}
use Rattle.sort_term.specs.Runs.{reached, IsLong, IsHalted}
use Rattle.sort_term.specs.Relation.{Side, left, right, of_side, IsStateOf, StepsOf, InCutOf, RightMisses, RightFails, LeftFails}
use Rattle.sort_term.specs.Simulation.{void, outside, long, halted, HasTest}
use Rattle.sort_term.specs.Verdict.{Kind, unmatched, refines, FirstMiss, AtPoint}
use Rattle.ground_step.specs.declared.verdict.Failure.{Failure}
use Rattle.ground_step.specs.declared.verdict.Verdict.TheVariants as verdict
use Rattle.ground_step.specs.Shows.{Witness, reached_tree, side_of, start_of}
use Rattle.ground_step.specs.VerdictLaws.{WitnessedTestsHold, WitnessedRightsFail, WitnessedRightsMiss, WitnessedLeftsFail, NoRightMiss, FirstTestsShow, FirstRightsShow, FirstMissesShow, RightVerdictsAreVerdicts}

-- the point of the kind is that of the failure
here : (q : Problem) (k : ℕ) (f : Failure) (P : _) → k ≡ f.point → AtPoint q P f.point → AtPoint q P k
here q k f P e at = subst (AtPoint q P) (sym e) at

-- the state from which its run begins is one of the side that is named, in a related pair of its point
begins : (q : Problem) (n : ℕ) (kind : Kind) (f : Failure) (w : Witness q n kind f) (side : Side) → side_of f.side ≡ side → IsStateOf q w.point side (start_of f)
begins q n kind f w side e = record { valuation = _; left_state = f.left.term; right_state = f.right.term; relates = w.pair; is = ap (λ s. of_side s f.left.term f.right.term) (sym e) }

pub tests_hold : WitnessedTestsHold
tests_hold q n k void f w = absurd w.at
tests_hold q n k (outside side) f w =
    let stays : ¬ InCutOf q side (reached_tree f.reached) = subst (λ s. ¬ InCutOf q s (reached_tree f.reached)) (sym w.at.1) w.shown.1 in
    let last : start_of f ≡ reached_tree f.reached = ap (reached (start_of f)) (sym w.shown.0) ∙ w.last in
    here q k f (λ p. HasTest q n p (outside side)) w.at.0 (w.point, w.there, (start_of f, begins q n _ f w side (sym w.at.1), subst (λ t. ¬ InCutOf q side t) (sym last) stays))
tests_hold q n k (long side) f w =
    here q k f (λ p. HasTest q n p (long side)) w.at.0 (w.point, w.there, (start_of f, begins q n _ f w side (sym w.at.1), (w.run, subst (λ s. IsLong (StepsOf q s) (InCutOf q s) n (start_of f) w.run) (sym w.at.1) w.shown)))
tests_hold q n k (halted side) f w =
    here q k f (λ p. HasTest q n p (halted side)) w.at.0 (w.point, w.there, (start_of f, begins q n _ f w side (sym w.at.1), (w.run, subst (λ s. IsHalted (StepsOf q s) (InCutOf q s) (start_of f) w.run) (sym w.at.1) w.shown)))

-- the run ends in the state that the failure reaches, from the state of the side that is named
ends : (q : Problem) (n : ℕ) (k : _) (f : Failure) (w : Witness q n k f) (s : Side) → side_of f.side ≡ s → reached (of_side s f.left.term f.right.term) w.run ≡ reached_tree f.reached
ends q n k f w s e = subst (λ r. reached (of_side r f.left.term f.right.term) w.run ≡ reached_tree f.reached) e w.last

pub rights_fail : WitnessedRightsFail
rights_fail q n k f w =
    here q k f (RightFails q) w.at.0 (w.point, w.there, (_, f.left.term, f.right.term, w.pair, (reached_tree f.reached, (w.run, w.shown.0, ends q n (unmatched k) f w _ w.at.1), w.shown.1, w.shown.2)))

pub rights_miss : WitnessedRightsMiss
rights_miss q n k f w =
    here q k f (RightMisses q) w.at.0 (w.point, w.there, (_, f.left.term, f.right.term, w.pair, (reached_tree f.reached, (w.run, w.shown.0, ends q n (refines k right) f w _ (sym w.at.1)), w.shown.1)))

pub lefts_fail : WitnessedLeftsFail
lefts_fail q n k f w =
    here q k f (LeftFails q) w.at.0 (w.point, w.there, (_, f.left.term, f.right.term, w.pair, (reached_tree f.reached, (w.run, w.shown.0, ends q n (refines k left) f w _ (sym w.at.1)), w.shown.1)))

pub first_tests : FirstTestsShow
first_tests q n k t f before earlier w =
    let at = tests_hold q n k t f w in
    record { is = ((at.0, at.1, (at.2, earlier at.0 at.1)), before); witness = w }

pub first_rights : FirstRightsShow
first_rights q n k f grounded before w = record { is = (grounded, rights_fail q n k f w, before); witness = w }

-- what a witness of "refines" shows at its point
first_miss : (q : Problem) (n k : ℕ) (side : Side) (f : Failure) → NoRightMiss q k side → Witness q n (refines k side) f → AtPoint q (FirstMiss q side) k
first_miss q n k right f no_right w = rights_miss q n k f w
first_miss q n k left f no_right w = let at = lefts_fail q n k f w in (at.0, at.1, (at.2, no_right at.0 at.1))

pub first_misses : FirstMissesShow
first_misses q n k side f grounded simulates before no_right w = record { is = (grounded, simulates, first_miss q n k side f no_right w, before); witness = w }

pub right_is_verdict : RightVerdictsAreVerdicts
right_is_verdict q n verdict.Equivalent r = r
right_is_verdict q n (verdict.Refines f) r = r.is
right_is_verdict q n (verdict.Unmatched f) r = r.is
right_is_verdict q n (verdict.Void k) r = r
right_is_verdict q n (verdict.Outside f) r = r.is
right_is_verdict q n (verdict.Long f) r = r.is
right_is_verdict q n (verdict.Halted f) r = r.is
