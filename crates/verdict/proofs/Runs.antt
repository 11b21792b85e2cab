-- The run that shows a flaw.
use Rattle.std.proofs.Common.{◌≡◌, ℕ, List, [], length, map, take, get_or, Some, sym, ap, ◌∙◌, subst}
use Rattle.std.proofs.lemmas.Option.{get_or_from_slice_get, same_Some}
use Rattle.data_value.specs.declared.Value.{Value}
use Rattle.sort_term.specs.declared.ids.RuleId.{RuleId}
use Rattle.sort_term.specs.declared.points.Point.{Point}
use Rattle.sort_term.specs.declared.problem.Problem.{Problem}
use Rattle.sort_term.specs.Tree.{Tree}
use Rattle.sort_term.specs.Relation.{Side, of_side, Relates}
use Rattle.ground_step.specs.declared.verdict.Failure.{Failure}
use Rattle.ground_step.specs.Fit.{plain_trees}
use Rattle.ground_step.specs.Shows.{Witness}
use Rattle.point_questions.specs.declared.question.Flaw.{Flaw}
use Rattle.point_questions.specs.declared.question.Flaw.TheVariants.{Outside, Long, Halted, RightFails, RightMisses, LeftFails}
use Rattle.point_questions.specs.declared.searched.SearchedPoint.{SearchedPoint}
use Rattle.point_questions.specs.Questions.{flaw_side}
use Rattle.point_questions.specs.QuestionLaws.{IsFlaw}
use Rattle.verdict.specs.declared.deciding.FoundFlaw.{FoundFlaw}
use Rattle.verdict.specs.Failing.{RunsTo, HasRun, IsFailureBy}
use Rattle.verdict.specs.Kinds.{kind_at}
use Rattle.verdict.specs.Shown.{IsShownAt, rules_there, IsShownByLeaf}
use Rattle.verdict.proofs.Witnesses.{witnessed}

flaw_run : (q : Problem) (n : ℕ) (flaw : Flaw) (a b : Tree) (rules : List ℕ) (t : Tree) → IsFlaw q n flaw a b rules t → RunsTo q (flaw_side flaw) (of_side (flaw_side flaw) a b) rules t
flaw_run q n (Outside s) a b rules t h = record { run = []; has = tt; by = sym h.0; last = h.1 }
flaw_run q n (Long s i) a b rules t h = record { run = h.run; has = h.has.runs; by = h.by; last = h.last }
flaw_run q n (Halted s i) a b rules t h = record { run = h.run; has = h.has.0.runs; by = h.by; last = h.last }
flaw_run q n (RightFails i) a b rules t h = let e = h.0 in record { run = e.run; has = e.has.0.runs; by = e.by; last = e.last }
flaw_run q n (RightMisses i) a b rules t h = let e = h.0 in record { run = e.run; has = e.has.0.runs; by = e.by; last = e.last }
flaw_run q n (LeftFails i) a b rules t h = let e = h.0 in record { run = e.run; has = e.has.0.runs; by = e.by; last = e.last }

module _ (q : Problem) (k : ℕ) (flaw : Flaw) (u : List Value) (rules : List ℕ) (read : Point) (is : read ≡ get_or q.points.points k read) (values : List Value) (cut : values ≡ take (length read.vars) u) where
  same_read : (n : ℕ) (s : IsShownAt q n k flaw u rules) → read ≡ s.point
  same_read n s = is ∙ get_or_from_slice_get q.points.points k s.point read s.there

  pair_by : (n : ℕ) (s : IsShownAt q n k flaw u rules) → Relates q s.point (plain_trees values) s.left s.right
  pair_by n s = subst (λ vs. Relates q s.point (plain_trees vs) s.left s.right) (sym (cut ∙ ap (λ (p : Point). take (length p.vars) u) (same_read n s))) s.pair

  module _ (side : Side) (on : side ≡ flaw_side flaw) where
    pub has_run : (n : ℕ) → IsShownAt q n k flaw u rules → HasRun q k side values rules
    has_run n s = subst (λ z. HasRun q k z values rules) (sym on) (record {
      point = s.point;
      there = s.there;
      left = s.left;
      right = s.right;
      pair = pair_by n s;
      last = s.last;
      run = flaw_run q n flaw s.left s.right rules s.last s.shown;
    })

    pub witness_by : (f : Failure) → IsFailureBy q k side values rules f → (n : ℕ) → IsShownAt q n k flaw u rules → Witness q n (kind_at k flaw) f
    witness_by f h n s = witnessed q n k s.point s.there values rules f flaw (subst (λ z. IsFailureBy q k z values rules f) on h) s.left s.right s.last (pair_by n s) s.shown

-- by the rules of a leaf
pub leaf_shown : {N : Type 0} (q : Problem) (n k : ℕ) (x : SearchedPoint N) (found : FoundFlaw) (rules : List RuleId) → rules_there x found.flaw ≡ Some rules → IsShownByLeaf q n k x found → IsShownAt q n k found.flaw found.values (map (λ r. r.0) rules)
leaf_shown q n k x found rules there s = subst (λ rs. IsShownAt q n k found.flaw found.values (map (λ r. r.0) rs)) (same_Some s.0 rules (sym s.1 ∙ there)) s.2
