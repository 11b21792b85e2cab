-- Which pattern, which expression and which ground term a written tree is.
use Rattle.std.specs.Prelude.{ℕ, List, [], ◌∷◌, map, Option, Some, None, option_map, option_and_then}
use Rattle.data_value.specs.declared.DataSort.TheVariants.{Bits as BitsSort}
use Rattle.data_value.specs.declared.Op.{Op}
use Rattle.data_value.specs.declared.Scalar.{Scalar}
use Rattle.data_value.specs.declared.Scalar.TheVariants.{Flag}
use Rattle.data_value.specs.declared.Value.{Value}
use Rattle.data_value.specs.declared.Value.TheVariants.{One, Map}
use Rattle.data_value.specs.Maps.{Mapping}
use Rattle.rule_text.specs.declared.item.RawVar.{RawVar}
use Rattle.rule_text.specs.declared.item.RawTree.{RawTree, RawTree-F, fold-RawTree}
use Rattle.sort_term.specs.declared.ids.ConId.{ConId}
use Rattle.sort_term.specs.declared.term.Sort.{Sort}
use Rattle.sort_term.specs.declared.term.Sort.TheVariants.{Plain}
use Rattle.sort_term.specs.declared.term.Term.TheVariants as term
use Rattle.sort_term.specs.declared.semantics.Con.{Con}
use Rattle.sort_term.specs.declared.rule.Var.{Var}
use Rattle.sort_term.specs.declared.rule.Pattern.{Pattern}
use Rattle.sort_term.specs.declared.rule.Pattern.TheVariants as pattern
use Rattle.sort_term.specs.declared.rule.RuleExpr.{RuleExpr}
use Rattle.sort_term.specs.declared.rule.RuleExpr.TheVariants as expr
use Rattle.sort_term.specs.Sorted.{in_front, all_there}
use Rattle.sort_term.specs.Tree.{Tree}
use Rattle.name_resolution.specs.Names.{place_of}
use Rattle.name_resolution.specs.Known.{Vocabulary, sort_of, con_of, literal_of, mapping_of}
use Rattle.name_resolution.specs.Operators.{operator_of}

-- What a written tree is read as: what a variable is, by its number, and a literal, where there may be one; a constructor
-- with its arguments; and an operator with its arguments, where there may be one.
pub record Reading (X : Type 0) : Type 0 where
  pub variable : ℕ → Option X
  pub literal : Value → Option X
  pub con : ConId → List X → X
  pub op : Op → List X → Option X

-- a pattern has no maps and no operators
abbrev pub pattern_literal : Value → Option Pattern
pattern_literal (One x) = Some (pattern.Exact x)
pattern_literal (Map m) = None

abbrev pub pattern_reading : Reading Pattern
pattern_reading = record { variable = λ i. Some (pattern.Bind i); literal = pattern_literal; con = pattern.Con; op = λ op parts. None }

-- an expression has all
abbrev pub expression_reading : Reading RuleExpr
expression_reading = record { variable = λ i. Some (expr.Var i); literal = λ x. Some (expr.Lit x); con = expr.Con; op = λ op parts. Some (expr.Op op parts) }

-- a ground term has no variables and no operators
abbrev pub ground_reading : Reading Tree
ground_reading = record { variable = λ i. None; literal = λ x. Some (term.Plain x); con = term.Con; op = λ op parts. None }

-- what a written tree says by itself: a bare number, which is a literal only by its place; what it is read as; or nothing
pub data Said (X : Type 0) : Type 0 where
  bare : ℕ → Said X
  whole : X → Said X
  nothing : Said X

abbrev pub said : {X : Type 0} → Option X → Said X
said None = nothing
said (Some x) = whole x

-- what a tree is that stands where nothing tells a width
abbrev pub heard : {X : Type 0} → Said X → Option X
heard (bare n) = None
heard (whole x) = Some x
heard nothing = None

-- a bare number in a place of this sort, if the place has one: the literal of its width, where it is one of bit vectors
abbrev pub number_at : Option Sort → ℕ → Option Scalar
number_at (Some (Plain (BitsSort width))) n = literal_of width n
number_at _ n = None

module _ {X : Type 0} (reading : Reading X) where
  -- a scalar as a literal
  abbrev pub scalar_literal : Scalar → Option X
  scalar_literal x = reading.literal (One x)

  -- a map as a literal
  abbrev pub map_literal : Mapping → Option X
  map_literal m = reading.literal (Map m)

  -- an argument in a place of this sort, where a bare number is made into a literal
  abbrev pub argument : Option Sort → Said X → Option X
  argument place (bare n) = option_and_then scalar_literal (number_at place n)
  argument place (whole x) = Some x
  argument place nothing = None

  -- the arguments in places of these sorts; places behind the last sort have none
  abbrev pub arguments : List Sort → List (Said X) → Option (List X)
  arguments sorts [] = Some []
  arguments [] (part ∷ more) = in_front (argument None part) (arguments [] more)
  arguments (a ∷ rest) (part ∷ more) = in_front (argument (Some a) part) (arguments rest more)

  -- a constructor with its arguments
  abbrev pub applied_con : Option (ConId × Con) → List (Said X) → Option X
  applied_con None parts = None
  applied_con (Some con) parts = option_map (reading.con con.0) (arguments con.1.args parts)

  -- an operator with its arguments, in places without sorts
  abbrev pub applied_op : Option Op → List (Said X) → Option X
  applied_op None parts = None
  applied_op (Some op) parts = option_and_then (reading.op op) (arguments [] parts)

  -- a tree by its kind, over these names of variables: what its arguments say is told
  abbrev pub node_says : Vocabulary → List (List ℕ) → RawTree-F (Said X) → Said X
  node_says known vars (RawTree-F.Word name) = said (option_and_then reading.variable (place_of name vars))
  node_says known vars (RawTree-F.Number n) = bare n
  node_says known vars (RawTree-F.Flag flag) = said (scalar_literal (Flag flag))
  node_says known vars (RawTree-F.Bits width n) = said (option_and_then scalar_literal (literal_of width n))
  node_says known vars (RawTree-F.Map key word entries) = said (option_and_then map_literal (mapping_of key word entries))
  node_says known vars (RawTree-F.Con name parts) = said (applied_con (con_of known name) parts)
  node_says known vars (RawTree-F.Op name numbers parts) = said (applied_op (operator_of name numbers) parts)

  -- what a tree says by itself
  abbrev pub tree_says : Vocabulary → List (List ℕ) → RawTree → Said X
  tree_says known vars = fold-RawTree (Said X) (node_says known vars)

  -- what a written tree is read as
  abbrev pub tree_of : Vocabulary → List (List ℕ) → RawTree → Option X
  tree_of known vars raw = heard (tree_says known vars raw)

-- the pattern that a written tree is
abbrev pub pattern_of : Vocabulary → List (List ℕ) → RawTree → Option Pattern
pattern_of = tree_of pattern_reading

-- the expression that a written tree is
abbrev pub expression_of : Vocabulary → List (List ℕ) → RawTree → Option RuleExpr
expression_of = tree_of expression_reading

-- the ground term that a written tree is
abbrev pub ground_of : Vocabulary → RawTree → Option Tree
ground_of known = tree_of ground_reading known []

-- a variable with its sort
abbrev pub variable_of : Vocabulary → RawVar → Option Var
variable_of known raw = option_map (λ a. record { name = raw.name; sort = a }) (sort_of known raw.sort)

-- the variables that are written
abbrev pub variables_of : Vocabulary → List RawVar → Option (List Var)
variables_of known raws = all_there (map (variable_of known) raws)

-- the expressions that are written
abbrev pub expressions_of : Vocabulary → List (List ℕ) → List RawTree → Option (List RuleExpr)
expressions_of known vars raws = all_there (map (expression_of known vars) raws)
