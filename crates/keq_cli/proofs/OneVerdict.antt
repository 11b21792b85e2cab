-- The verdict on the problem of some parts is one.
use Rattle.std.proofs.Common.{◌≡◌, ℕ, List, Some, slice_get, refl, sym, ap, subst, ◌∙◌}
use Rattle.std.proofs.lemmas.Option.{same_Some}
use Rattle.sort_term.specs.declared.points.Point.{Point}
use Rattle.sort_term.specs.declared.points.Points.{Points}
use Rattle.sort_term.specs.declared.problem.Problem.{Problem}
use Rattle.sort_term.specs.contracts.problem.Problem as problem
use Rattle.sort_term.specs.Problems.{IsProblem}
use Rattle.sort_term.specs.Step.{Tables}
use Rattle.sort_term.specs.System.{System}
use Rattle.sort_term.specs.Verdict.{IsVerdict, Kind}
use Rattle.sort_term.specs.Verdict as kind
use Rattle.sort_term.proofs.VerdictLemmas.{one_verdict}
use Rattle.keq_cli.specs.Plan.{HasOneEnd}
use Rattle.keq_cli.specs.Reports.{equivalent_line, refines_lines, unmatched_lines, not_grounded_lines}
use Rattle.keq_cli.specs.Tasks.{IsJudged, equivalent, refines, unmatched, not_grounded, AreJudged}
use Rattle.keq_cli.specs.declared.status.Status.{Status}
use Rattle.keq_cli.specs.declared.status.Status.TheVariants.{Equivalent, Refines, Unmatched, NotGrounded}

-- a problem is what its parts make of it, however it is shown that they fit each other
same_problem : (q : Problem) (f : IsProblem q.left q.right q.left_program q.right_program q.points) → q ≡ record { left = q.left; right = q.right; left_program = q.left_program; right_program = q.right_program; points = q.points; fits = f }
same_problem q f = problem.the_row.coded.inj q _ refl

-- problems of the same parts have the same verdict
same_verdict : (n : ℕ) (k : Kind) (q p : Problem) → q.left ≡ p.left → q.right ≡ p.right → q.left_program ≡ p.left_program → q.right_program ≡ p.right_program → q.points ≡ p.points → IsVerdict q n k → IsVerdict p n k
same_verdict n k q p left right lp rp pts v =
    let of : (l r : System) (a b : Tables) (c : Points) → IsProblem l r a b c → Problem = λ l r a b c f. record { left = l; right = r; left_program = a; right_program = b; points = c; fits = f } in
    subst (λ (l : System). (f : IsProblem l p.right p.left_program p.right_program p.points) → IsVerdict (of l p.right p.left_program p.right_program p.points f) n k) left
    (subst (λ (r : System). (f : IsProblem q.left r p.left_program p.right_program p.points) → IsVerdict (of q.left r p.left_program p.right_program p.points f) n k) right
    (subst (λ (a : Tables). (f : IsProblem q.left q.right a p.right_program p.points) → IsVerdict (of q.left q.right a p.right_program p.points f) n k) lp
    (subst (λ (b : Tables). (f : IsProblem q.left q.right q.left_program b p.points) → IsVerdict (of q.left q.right q.left_program b p.points f) n k) rp
    (subst (λ (c : Points). (f : IsProblem q.left q.right q.left_program q.right_program c) → IsVerdict (of q.left q.right q.left_program q.right_program c f) n k) pts
    (λ f. subst (λ (r : Problem). IsVerdict r n k) (same_problem q f) v))))) p.fits

-- the status and the report of a kind, where these are the points
abbrev IsShown : List Point → Kind → Status → List ℕ → Type 0
IsShown ps kind.equivalent s x = (s ≡ Equivalent) × (x ≡ equivalent_line)
IsShown ps (kind.refines k side) s x = (p : Point) × (slice_get ps k ≡ Some p) × (s ≡ Refines) × (x ≡ refines_lines p.name)
IsShown ps (kind.unmatched k) s x = (p : Point) × (slice_get ps k ≡ Some p) × (s ≡ Unmatched) × (x ≡ unmatched_lines p.name)
IsShown ps (kind.ungrounded k test) s x = (p : Point) × (slice_get ps k ≡ Some p) × (s ≡ NotGrounded) × (x ≡ not_grounded_lines test p.name)

kind_of_judged : (q : Problem) (n : ℕ) (s : Status) (x : List ℕ) → IsJudged q n s x → (k : Kind) × IsVerdict q n k × IsShown q.points.points k s x
kind_of_judged q n _ _ (equivalent v) = (kind.equivalent, v, (refl, refl))
kind_of_judged q n _ _ (refines k side p v is) = (kind.refines k side, v, (p, is, refl, refl))
kind_of_judged q n _ _ (unmatched k p v is) = (kind.unmatched k, v, (p, is, refl, refl))
kind_of_judged q n _ _ (not_grounded k test p v is) = (kind.ungrounded k test, v, (p, is, refl, refl))

-- what names the same point reads the same
same_lines : (ps : List Point) (k : ℕ) (status s r : Status) (lines : List ℕ → List ℕ) (x y : List ℕ) → (p : Point) × (slice_get ps k ≡ Some p) × (s ≡ status) × (x ≡ lines p.name) → (p : Point) × (slice_get ps k ≡ Some p) × (r ≡ status) × (y ≡ lines p.name) → (s ≡ r) × (x ≡ y)
same_lines ps k status s r lines x y f g =
    let e = same_Some f.0 g.0 (sym f.1 ∙ g.1) in (f.2 ∙ sym g.2, f.3 ∙ ap (λ (p : Point). lines p.name) e ∙ sym g.3)

same_shown : (ps : List Point) (k : Kind) (s r : Status) (x y : List ℕ) → IsShown ps k s x → IsShown ps k r y → (s ≡ r) × (x ≡ y)
same_shown ps kind.equivalent s r x y f g = (f.0 ∙ sym g.0, f.1 ∙ sym g.1)
same_shown ps (kind.refines k side) s r x y f g = same_lines ps k Refines s r refines_lines x y f g
same_shown ps (kind.unmatched k) s r x y f g = same_lines ps k Unmatched s r unmatched_lines x y f g
same_shown ps (kind.ungrounded k test) s r x y f g = same_lines ps k NotGrounded s r (not_grounded_lines test) x y f g

pub one_judged : (left right : System) (lp rp : Tables) (points : Points) (steps : ℕ) → HasOneEnd (AreJudged left right lp rp points steps)
one_judged left right lp rp points n s r x y a b =
    let q = a.problem in
    let p = b.problem in
    let f = kind_of_judged q n s x a.judged in
    let g = kind_of_judged p n r y b.judged in
    let same : q.points ≡ p.points = a.is_points ∙ sym b.is_points in
    let verdict : IsVerdict p n f.0 = same_verdict n f.0 q p (a.is_left ∙ sym b.is_left) (a.is_right ∙ sym b.is_right) (a.is_left_program ∙ sym b.is_left_program) (a.is_right_program ∙ sym b.is_right_program) same f.1 in
    let one : f.0 ≡ g.0 = one_verdict p n f.0 g.0 verdict g.1 in
    let shown : IsShown p.points.points g.0 s x = subst (λ (k : Kind). IsShown p.points.points k s x) one (subst (λ (c : Points). IsShown c.points f.0 s x) same f.2) in
    same_shown p.points.points g.0 s r x y shown g.2
