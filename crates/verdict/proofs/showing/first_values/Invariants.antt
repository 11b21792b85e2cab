use Rattle.std.proofs.Common.{◌≡◌, ◌≤◌, take}
use Rattle.verdict.proofs.showing.first_values.Given as goal

-- the values so far
abbrev pub invariant-loop-place : goal.invariant-loop-place
invariant-loop-place l = record {
  first : l.first ≡ take l.place l.values;
  within : l.place ≤ l.count;
}
