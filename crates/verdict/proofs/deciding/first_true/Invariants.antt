use Rattle.std.proofs.Common.{◌≡◌, take}
use Rattle.data_value.specs.Nodes.{Extends}
use Rattle.point_questions.specs.Questions.{seen_questions}
use Rattle.verdict.specs.Decided.{AreNeverTrue}
use Rattle.verdict.proofs.deciding.first_true.Given as goal

-- the questions so far are never true
abbrev pub invariant-loop-question : goal.invariant-loop-question
invariant-loop-question g l =
    let look = g.D.Domain.look in
    let sorts = g.D.Domain.variables in
    record {
      extends : Extends (look l.fn.d) (look l.d);
      same_variables : sorts l.d ≡ sorts l.fn.d;
      never : AreNeverTrue (sorts l.fn.d) (seen_questions (look l.fn.d) (take l.question-index l.questions));
    }
