use Rattle.std.proofs.Common.{◌≡◌, ◌||◌, false, map, take}
use Rattle.std.specs.List.{list_any}
use Rattle.sort_term.specs.Stands.{argument_of}
use Rattle.sort_term.proofs.stands.+argument.Given as goal

abbrev pub invariant-is_within-loop-part : goal.invariant-is_within-loop-part
invariant-is_within-loop-part l = list_any (λ part. part.1) (map (argument_of l.i) (take l.part-index l.parts)) ≡ false

abbrev pub invariant-is_part-loop-part : goal.invariant-is_part-loop-part
invariant-is_part-loop-part l = list_any (λ part. part.0 || part.1) (map (argument_of l.i) (take l.part-index l.parts)) ≡ false
