use Rattle.std.proofs.Common.{◌≡◌, take}
use Rattle.data_value.specs.Flat.{at_places}
use Rattle.data_value.proofs.flat_formula.at_places.Given as goal

abbrev pub invariant-loop-place : goal.invariant-loop-place
invariant-loop-place g l = (d : g.row.T.Denot) → l.found ≡ at_places d l.items (take l.place-index l.places)
