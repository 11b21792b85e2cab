use Rattle.std.proofs.Common.{◌≡◌, All, map, take}
use Rattle.data_value.specs.Values.{IsValue, value_sort}
use Rattle.node_examples.proofs.valuations.fits.Given as goal

-- the values so far are values of the sorts so far
abbrev pub invariant-loop-place : goal.invariant-loop-place
invariant-loop-place l = All IsValue (take l.place l.values) × (map value_sort (take l.place l.values) ≡ take l.place l.sorts)
