use Rattle.std.proofs.Common.{[], ap}
use Rattle.std.specs.Prelude.{is_some}
use Rattle.name_resolution.specs.Reads.{pattern_reading, expression_reading, ground_reading}
use Rattle.name_resolution.proofs.StrayNumbers.{no_tree}
use Rattle.name_resolution.proofs.laws.stray_numbers_are_not_read.Goals as goal

pub returns-clause-patterns : goal.returns-clause-patterns
returns-clause-patterns c = λ known vars raw stray. ap is_some (no_tree pattern_reading known vars raw stray)

pub returns-clause-expressions : goal.returns-clause-expressions
returns-clause-expressions c = λ known vars raw stray. ap is_some (no_tree expression_reading known vars raw stray)

pub returns-clause-terms : goal.returns-clause-terms
returns-clause-terms c = λ known raw stray. ap is_some (no_tree ground_reading known [] raw stray)
