use Rattle.std.proofs.Common.{◌≡◌, map, take, Some, slice_get}
use Rattle.map_reads.specs.declared.placing.Place.TheVariants.{Scalar}
use Rattle.map_reads.proofs.placing.operator.Given as goal

-- the first lines' places were taken
abbrev pub invariant-loop-line : goal.invariant-loop-line
invariant-loop-line l = map (λ line. slice_get l.places line) (take l.line-index l.lines) ≡ map (λ arg. Some (Scalar arg)) l.args.items
