use Rattle.std.proofs.Common.{◌≡◌, true, map, take}
use Rattle.std.specs.List.{list_all}
use Rattle.name_resolution.specs.Known.{vocabulary_of}
use Rattle.name_resolution.specs.Named.{is_named_tree}
use Rattle.name_resolution.proofs.named.+named.Given as goal

-- the trees so far name only what is known
abbrev pub invariant-are_named-loop-raw : goal.invariant-are_named-loop-raw
invariant-are_named-loop-raw l = list_all (λ arg. arg) (map (is_named_tree (vocabulary_of l.known) l.variables) (take l.raw-index l.raws)) ≡ true
