use Rattle.std.proofs.Common.{◌≡◌, map, min, sum, take}
use Rattle.name_resolution.specs.Sizes.{forms_of}
use Rattle.name_resolution.proofs.size.+forms.Given as goal

abbrev pub invariant-forms_of_all-loop-raw : goal.invariant-forms_of_all-loop-raw
invariant-forms_of_all-loop-raw l = l.count ≡ min (sum (map forms_of (take l.raw-index l.raws))) 18446744073709551615
