use Rattle.std.proofs.Common.{◌≡◌, ◌++◌, map, take}
use Rattle.sexp_text.specs.Print.{behind}
use Rattle.report_text.specs.States.{tree_text}
use Rattle.report_text.proofs.states.+tree.Given as goal

-- the trees so far were written, each behind a space
abbrev pub invariant-write_trees-loop-tree : goal.invariant-write_trees-loop-tree
invariant-write_trees-loop-tree l = l.text.items ≡ l.initial.text.items ++ behind 32 (map (tree_text l.cons) (take l.tree-index l.trees))
