use Rattle.std.proofs.Common.{◌≡◌, map, drop}
use Rattle.name_resolution.specs.Operators.{first_named}
use Rattle.name_resolution.proofs.operators.first_named.Given as goal

-- the operator is named among the rows that are left
abbrev pub invariant-loop-row : goal.invariant-loop-row
invariant-loop-row l = first_named l.name (map (λ row. (row.0.now, row.1)) l.rows) ≡ first_named l.name (map (λ row. (row.0.now, row.1)) (drop l.row-index l.rows))
