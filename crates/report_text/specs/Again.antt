-- Which states are read back from what is printed of them.
use Rattle.std.specs.Prelude.{◌≤◌, List, IsTrue, All, length}
use Rattle.data_value.specs.declared.Scalar.TheVariants.{Flag, Bits}
use Rattle.data_value.specs.declared.Value.{Value}
use Rattle.data_value.specs.declared.Value.TheVariants.{One, Map}
use Rattle.sexp_text.specs.Forms.{depth_of}
use Rattle.sexp_text.specs.Printed.{is_word}
use Rattle.rule_text.specs.Written.{written_tree}
use Rattle.rule_text.specs.declared.item.RawTree.{RawTree}
use Rattle.rule_text.specs.declared.item.RawTree.TheVariants as raw
use Rattle.sort_term.specs.declared.semantics.Con.{Con}
use Rattle.sort_term.specs.declared.term.Term.{fold-Term}
use Rattle.sort_term.specs.declared.term.Term.TheOpen.{Term-F}
use Rattle.sort_term.specs.Rules.{IsSemantics}
use Rattle.sort_term.specs.Step.{IsState}
use Rattle.sort_term.specs.System.{System}
use Rattle.sort_term.specs.Tree.{Tree}
use Rattle.name_resolution.specs.Sizes.{forms_of}
use Rattle.program_text.specs.Text.{IsStartText}
use Rattle.report_text.specs.States.{con_text, tree_text}

-- a value as it is written where its place tells its width
abbrev pub raw_value : Value → RawTree
raw_value (One (Flag flag)) = raw.Flag flag
raw_value (One (Bits width n)) = raw.Number n
raw_value (Map m) = raw.Map m.key_width m.word_width m.entries

-- a tree as it is written
abbrev pub raw_node : List Con → Term-F Value RawTree → RawTree
raw_node cons (Term-F.Con c raws) = raw.Con (con_text cons c) raws
raw_node cons (Term-F.Plain x) = raw_value x

abbrev pub raw_state : List Con → Tree → RawTree
raw_state cons = fold-Term Value RawTree (raw_node cons)

-- the text of the tree keeps the limits of a text: its length, how deep its lists are, and how many forms it has
pub record FitsText (cons : List Con) (t : Tree) : Type 0 where
  pub short : length (tree_text cons t) ≤ 1048576
  pub shallow : depth_of (written_tree (raw_state cons t)) ≤ 64
  pub few : forms_of (raw_state cons t) ≤ 4096

-- The printed text of a state of a lawful semantics is a start text of the same state, where the constructors' names are words of
-- the grammar and the text keeps the limits.
abbrev pub PrintedStatesLoad : Type 0
PrintedStatesLoad = (s : System) (t : Tree) → IsSemantics s → All (λ con. IsTrue (is_word con.name)) s.cons → IsState s t → FitsText s.cons t → IsStartText s (tree_text s.cons t) t
