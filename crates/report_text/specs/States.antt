-- The text of a state, and of any tree.
use Rattle.std.specs.Prelude.{ℕ, List, [], ◌∷◌, Option, Some, None, option_map, slice_get}
use Rattle.sort_term.specs.declared.ids.ConId.{ConId}
use Rattle.sort_term.specs.declared.semantics.Con.{Con}
use Rattle.sort_term.specs.declared.term.Term.{fold-Term}
use Rattle.sort_term.specs.declared.term.Term.TheOpen.{Term-F}
use Rattle.sort_term.specs.Tree.{Tree}
use Rattle.data_value.specs.declared.Value.{Value}
use Rattle.report_text.specs.Values.{listed, value_text}

-- a name, or nothing where there is none
abbrev pub name_text : Option (List ℕ) → List ℕ
name_text None = []
name_text (Some name) = name

-- the name of a constructor, by its place
abbrev pub con_text : List Con → ConId → List ℕ
con_text cons c = name_text (option_map (λ con. con.name) (slice_get cons c.0))

-- A tree by its kind: a value, or a constructor's name followed by its arguments, as a list.
abbrev pub node_text : List Con → Term-F Value (List ℕ) → List ℕ
node_text cons (Term-F.Con c texts) = listed (con_text cons c ∷ texts)
node_text cons (Term-F.Plain x) = value_text x

abbrev pub tree_text : List Con → Tree → List ℕ
tree_text cons = fold-Term Value (List ℕ) (node_text cons)
