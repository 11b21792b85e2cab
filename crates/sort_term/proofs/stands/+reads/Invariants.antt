use Rattle.std.proofs.Common.{◌≡◌, false, map, take}
use Rattle.std.specs.List.{list_any}
use Rattle.sort_term.specs.Stands.{reads}
use Rattle.sort_term.proofs.stands.+reads.Given as goal

abbrev pub invariant-some_reads-loop-expr : goal.invariant-some_reads-loop-expr
invariant-some_reads-loop-expr l = list_any (λ part. part) (map (reads l.i) (take l.expr-index l.exprs)) ≡ false
