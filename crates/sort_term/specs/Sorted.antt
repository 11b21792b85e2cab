-- Which trees, patterns and expressions are well sorted, and of which sort.
use Rattle.std.specs.Prelude.{◌≡◌, ℕ, Bool, true, false, ◌&&◌, ◌==◌, if◌then◌else◌, List, [], ◌∷◌, map, slice_get, Option, Some, None, option_map}
use Rattle.data_value.specs.declared.DataSort.{DataSort}
use Rattle.data_value.specs.declared.Op.{Op}
use Rattle.data_value.specs.declared.Value.{Value}
use Rattle.data_value.specs.declared.Value.TheVariants.{One}
use Rattle.data_value.specs.Sorts.{same_sort, op_sort}
use Rattle.data_value.specs.Values.{value_sort, is_value}
use Rattle.sort_term.specs.declared.term.Sort.{Sort}
use Rattle.sort_term.specs.declared.term.Sort.TheVariants.{Own, Plain}
use Rattle.sort_term.specs.declared.term.Term.{Term, fold-Term}
use Rattle.sort_term.specs.declared.term.Term.TheOpen.{Term-F}
use Rattle.sort_term.specs.declared.semantics.Con.{Con}
use Rattle.sort_term.specs.declared.rule.Var.{Var}
use Rattle.sort_term.specs.declared.rule.Pattern.{Pattern, fold-Pattern}
use Rattle.sort_term.specs.declared.rule.Pattern.TheOpen.{Pattern-F}
use Rattle.sort_term.specs.declared.rule.RuleExpr.{RuleExpr, fold-RuleExpr}
use Rattle.sort_term.specs.declared.rule.RuleExpr.TheOpen.{RuleExpr-F}
use Rattle.sort_term.specs.Tree.{Tree, Trees}

-- whether two sorts are one
abbrev pub is_same : Sort → Sort → Bool
is_same (Own a) (Own b) = a.0 == b.0
is_same (Plain a) (Plain b) = same_sort a b
is_same _ _ = false

-- whether the parts have these sorts, place by place
abbrev pub has_sort : Option Sort → Sort → Bool
has_sort None b = false
has_sort (Some a) b = is_same a b

abbrev pub have_sorts : List (Option Sort) → List Sort → Bool
have_sorts [] [] = true
have_sorts (part ∷ more) (a ∷ rest) = has_sort part a && have_sorts more rest
have_sorts _ _ = false

-- a constructor gives its sort to parts that have its argument sorts
abbrev pub con_sort : Option Con → List (Option Sort) → Option Sort
con_sort None parts = None
con_sort (Some c) parts = if have_sorts parts c.args then Some (Own c.sort) else None

-- the items of a list, where each is there
abbrev pub in_front : {A : Type 0} → Option A → Option (List A) → Option (List A)
in_front (Some a) (Some more) = Some (a ∷ more)
in_front _ _ = None

abbrev pub all_there : {A : Type 0} → List (Option A) → Option (List A)
all_there [] = Some []
all_there (a ∷ more) = in_front a (all_there more)

-- an operator gives the sort of its line in the table of operators to parts of data sorts that the line fits
abbrev pub data_part : Option Sort → Option DataSort
data_part (Some (Plain a)) = Some a
data_part _ = None

abbrev pub fitted_sort : Op → Option (List DataSort) → Option Sort
fitted_sort op None = None
fitted_sort op (Some args) = option_map Plain (op_sort op args)

abbrev pub applied_sort : Op → List (Option Sort) → Option Sort
applied_sort op parts = fitted_sort op (all_there (map data_part parts))

-- a lawful value has its sort: its numbers are below 2 to the power of their widths, which are from 1 to 64, and a map's keys rise
abbrev pub leaf_sort : Value → Option Sort
leaf_sort x = if is_value x then Some (Plain (value_sort x)) else None

-- a variable has its declared sort
abbrev pub var_sort : List Var → ℕ → Option Sort
var_sort vars i = option_map (λ x. x.sort) (slice_get vars i)

-- the sort of a term over nodes, where each node has the sort that `leaf` gives it
abbrev pub term_sort_step : {N : Type 0} → List Con → (N → Option Sort) → Term-F N (Option Sort) → Option Sort
term_sort_step cons leaf (Term-F.Con c parts) = con_sort (slice_get cons c.0) parts
term_sort_step cons leaf (Term-F.Plain n) = leaf n

abbrev pub term_sort : {N : Type 0} → List Con → (N → Option Sort) → Term N → Option Sort
term_sort {N} cons leaf = fold-Term N (Option Sort) (term_sort_step cons leaf)

-- the sort of a tree
abbrev pub tree_sort : List Con → Tree → Option Sort
tree_sort cons = term_sort cons leaf_sort

-- the sort of a pattern
abbrev pub pattern_sort_step : List Con → List Var → Pattern-F (Option Sort) → Option Sort
pattern_sort_step cons vars (Pattern-F.Bind i) = var_sort vars i
pattern_sort_step cons vars (Pattern-F.Exact s) = leaf_sort (One s)
pattern_sort_step cons vars (Pattern-F.Con c parts) = con_sort (slice_get cons c.0) parts

abbrev pub pattern_sort : List Con → List Var → Pattern → Option Sort
pattern_sort cons vars = fold-Pattern (Option Sort) (pattern_sort_step cons vars)

-- the sort of an expression where the variable i has the sort `sort_at i`
abbrev pub expr_sort_step : List Con → (ℕ → Option Sort) → RuleExpr-F (Option Sort) → Option Sort
expr_sort_step cons sort_at (RuleExpr-F.Var i) = sort_at i
expr_sort_step cons sort_at (RuleExpr-F.Lit x) = leaf_sort x
expr_sort_step cons sort_at (RuleExpr-F.Op op parts) = applied_sort op parts
expr_sort_step cons sort_at (RuleExpr-F.Con c parts) = con_sort (slice_get cons c.0) parts

abbrev pub expr_sort_where : List Con → (ℕ → Option Sort) → RuleExpr → Option Sort
expr_sort_where cons sort_at = fold-RuleExpr (Option Sort) (expr_sort_step cons sort_at)

-- the sort of an expression over declared variables
abbrev pub expr_sort : List Con → List Var → RuleExpr → Option Sort
expr_sort cons vars = expr_sort_where cons (var_sort vars)

-- a tree, a pattern and an expression of a sort
pub record IsTreeOf (cons : List Con) (a : Sort) (t : Tree) : Type 0 where
  pub is : tree_sort cons t ≡ Some a

pub record IsPatternOf (cons : List Con) (vars : List Var) (a : Sort) (p : Pattern) : Type 0 where
  pub is : pattern_sort cons vars p ≡ Some a

pub record IsExprOf (cons : List Con) (vars : List Var) (a : Sort) (e : RuleExpr) : Type 0 where
  pub is : expr_sort cons vars e ≡ Some a

-- a valuation of variables gives each a tree of its sort
abbrev pub IsValuationOf : List Con → List Var → Trees → Type 0
IsValuationOf cons vars v = map (tree_sort cons) v ≡ map (λ x. Some x.sort) vars
