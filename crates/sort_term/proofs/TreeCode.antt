-- Trees have a code.
use Rattle.std.specs.Coded.{Coded}
use Rattle.sort_term.specs.Tree.{Tree}
use Rattle.sort_term.specs.contracts.term.Term as term
use Rattle.data_value.specs.contracts.Value as value

pub tree_code : Coded Tree
tree_code = (term.the_row value.the_row).coded
