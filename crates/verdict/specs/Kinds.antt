-- What a flaw is in the order of the verdict.
use Rattle.std.specs.Prelude.{ℕ}
use Rattle.sort_term.specs.Relation.{left, right}
use Rattle.sort_term.specs.Simulation.{outside, long, halted}
use Rattle.sort_term.specs.Verdict.{Kind, ungrounded, unmatched, refines}
use Rattle.point_questions.specs.declared.question.Flaw.{Flaw}
use Rattle.point_questions.specs.declared.question.Flaw.TheVariants.{Outside, Long, Halted, RightFails, RightMisses, LeftFails}
use Rattle.point_questions.specs.Questions.{flaw_side}

-- the kind of the verdict that a flaw of the point with the number k would give
abbrev pub kind_at : ℕ → Flaw → Kind
kind_at k (Outside s) = ungrounded k (outside (flaw_side (Outside s)))
kind_at k (Long s i) = ungrounded k (long (flaw_side (Long s i)))
kind_at k (Halted s i) = ungrounded k (halted (flaw_side (Halted s i)))
kind_at k (RightFails i) = unmatched k
kind_at k (RightMisses i) = refines k right
kind_at k (LeftFails i) = refines k left
