use Rattle.map_reads.proofs.Begun.{HaveInputs}
use Rattle.map_reads.proofs.draft.Draft.new.Given as goal

-- the variables so far have their inputs
abbrev pub invariant-loop-sort : goal.invariant-loop-sort
invariant-loop-sort l = HaveInputs l.sorts l.sort-index l.scalars l.widths
