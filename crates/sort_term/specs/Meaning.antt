-- Terms over nodes, and the trees that they stand for.
use Rattle.data_value.specs.declared.Value.{Value}
use Rattle.sort_term.specs.declared.term.Term.{Term, fold-Term}
use Rattle.sort_term.specs.declared.term.Term.TheOpen.{Term-F}
use Rattle.sort_term.specs.declared.term.Term.TheVariants.{Con, Plain}
use Rattle.sort_term.specs.Tree.{Tree}

-- the term in which each node n is replaced by f n
abbrev pub map_step : {N M : Type 0} → (N → M) → Term-F N (Term M) → Term M
map_step f (Term-F.Con c ts) = Con c ts
map_step f (Term-F.Plain n) = Plain (f n)

abbrev pub map_term : {N M : Type 0} → (N → M) → Term N → Term M
map_term {N} {M} f = fold-Term N (Term M) (map_step f)

-- the tree that a term stands for where the node n means the value f n
abbrev pub tree_under : {N : Type 0} → (N → Value) → Term N → Tree
tree_under f = map_term f
