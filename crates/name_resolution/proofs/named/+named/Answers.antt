use Rattle.std.proofs.Common.{sym, ◌∙◌}
use Rattle.name_resolution.specs.Known.{vocabulary_of}
use Rattle.name_resolution.specs.Named.{is_named_tree}
use Rattle.name_resolution.proofs.Told.{told_not}
use Rattle.name_resolution.proofs.named.+named.Goals as goal

pub are_named-returns-then-not-is_named_tree : goal.are_named-returns-then-not-is_named_tree
are_named-returns-then-not-is_named_tree t c = sym (told_not (is_named_tree (vocabulary_of c.args.known.now) c.args.variables.now) c.args.raws.now c.loop-raw.raw-index c.raw-item.result c.loop-raw-test.true c.raw-item.is (sym c.is_named_tree.ensures ∙ c.if-not-is_named_tree.true))
