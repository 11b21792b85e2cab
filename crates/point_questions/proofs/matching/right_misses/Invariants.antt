use Rattle.std.proofs.Common.{List}
use Rattle.data_value.specs.declared.DataSort.{DataSort}
use Rattle.data_value.specs.Nodes.{Extends}
use Rattle.data_value.specs.Views.{BeginsWith}
use Rattle.point_questions.specs.declared.question.Flaw.TheVariants.{RightMisses}
use Rattle.point_questions.specs.Questions.{seen_point, seen_questions, IsRightMiss}
use Rattle.point_questions.specs.Lists.{IsOver}
use Rattle.point_questions.proofs.Growing.{AreAsked}
use Rattle.point_questions.proofs.matching.right_misses.Given as goal

-- the questions so far are those of the leaves so far
abbrev pub invariant-loop-place : goal.invariant-loop-place
invariant-loop-place g l =
    let look = g.D.Domain.look in
    let sorts = g.D.Domain.variables in
    let x = seen_point (look l.fn.d) l.point in
    record {
      extends : Extends (look l.fn.d) (look l.d);
      begins : BeginsWith (sorts l.d) (sorts l.fn.d);
      asked : (variables : List DataSort) → IsOver variables (sorts l.fn.d) x → AreAsked IsRightMiss RightMisses l.problem variables (sorts l.d) x l.place (seen_questions (look l.d) l.questions);
    }
