use Rattle.std.proofs.Common.{◌≡◌, map, take}
use Rattle.name_resolution.specs.Named.{AreVarNames}
use Rattle.name_resolution.proofs.declared_variables.variable_names.Given as goal

-- the names so far
abbrev pub invariant-loop-raw : goal.invariant-loop-raw
invariant-loop-raw l = record {
  named : l.names ≡ map (λ x. x.name) (take l.raw-index l.raws);
  lawful : AreVarNames (take l.raw-index l.raws);
}
