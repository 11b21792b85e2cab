-- What the definitions over trees, patterns and expressions say of each of their forms.
use Rattle.std.proofs.Common.{◌≡◌, ℕ, Bool, false, ◌||◌, ◌==◌, List, map, sum, slice_get, Option, ap, sym, ◌∙◌}
use Rattle.std.specs.Prelude.{if◌then◌else◌}
use Rattle.std.specs.List.{list_any}
use Rattle.data_value.specs.declared.Op.{Op}
use Rattle.data_value.specs.declared.Scalar.{Scalar}
use Rattle.data_value.specs.declared.Value.{Value}
use Rattle.data_value.specs.declared.Value.TheVariants.{One}
use Rattle.data_value.specs.Ops.{op_value}
use Rattle.sort_term.specs.declared.ids.ConId.{ConId}
use Rattle.sort_term.specs.declared.term.Sort.{Sort}
use Rattle.sort_term.specs.declared.semantics.Con.{Con}
use Rattle.sort_term.specs.declared.rule.Var.{Var}
use Rattle.sort_term.specs.declared.term.Term.{Term}
use Rattle.sort_term.specs.declared.term.Term.TheOpen.{Term-F}
use Rattle.sort_term.specs.declared.term.Term.TheFolds.{fold-roll-Term}
use Rattle.sort_term.specs.declared.term.Term.TheVariants as term
use Rattle.sort_term.specs.declared.rule.Pattern.{Pattern}
use Rattle.sort_term.specs.declared.rule.Pattern.TheOpen.{Pattern-F}
use Rattle.sort_term.specs.declared.rule.Pattern.TheFolds.{fold-roll-Pattern}
use Rattle.sort_term.specs.declared.rule.Pattern.TheVariants as pattern
use Rattle.sort_term.specs.declared.rule.RuleExpr.{RuleExpr}
use Rattle.sort_term.specs.declared.rule.RuleExpr.TheOpen.{RuleExpr-F}
use Rattle.sort_term.specs.declared.rule.RuleExpr.TheFolds.{fold-roll-RuleExpr}
use Rattle.sort_term.specs.declared.rule.RuleExpr.TheVariants as expr
use Rattle.sort_term.specs.Tree.{Tree, no_value, tree_at, plain_of, plain_step, pattern_step, pattern_value, value_step, value}
use Rattle.sort_term.specs.Sorted.{term_sort, term_sort_step, tree_sort, leaf_sort, con_sort, var_sort, pattern_sort, pattern_sort_step, expr_sort, expr_sort_where, expr_sort_step, applied_sort}
use Rattle.sort_term.specs.Stands.{times_step, times, reads_step, reads, argument_step, argument_of}
use Rattle.sort_term.specs.Meaning.{map_step, map_term}

pub value-Var : (v : List Tree) (i : ℕ) → value v (expr.Var i) ≡ tree_at v i
value-Var v i =
    ap (value v) (sym (expr.rolls-Var i)) ∙ fold-roll-RuleExpr Tree (value_step v) (RuleExpr-F.Var i)

pub value-Lit : (v : List Tree) (x : Value) → value v (expr.Lit x) ≡ term.Plain x
value-Lit v x =
    ap (value v) (sym (expr.rolls-Lit x)) ∙ fold-roll-RuleExpr Tree (value_step v) (RuleExpr-F.Lit x)

pub value-Op : (v : List Tree) (op : Op) (es : List RuleExpr) → value v (expr.Op op es) ≡ term.Plain (op_value op (map plain_of (map (value v) es)))
value-Op v op es =
    ap (value v) (sym (expr.rolls-Op op es)) ∙ fold-roll-RuleExpr Tree (value_step v) (RuleExpr-F.Op op es)

pub value-Con : (v : List Tree) (k : ConId) (es : List RuleExpr) → value v (expr.Con k es) ≡ term.Con k (map (value v) es)
value-Con v k es =
    ap (value v) (sym (expr.rolls-Con k es)) ∙ fold-roll-RuleExpr Tree (value_step v) (RuleExpr-F.Con k es)

module _ (cons : List Con) (sort_at : ℕ → Option Sort) where
  pub where-Var : (i : ℕ) → expr_sort_where cons sort_at (expr.Var i) ≡ sort_at i
  where-Var i =
      ap (expr_sort_where cons sort_at) (sym (expr.rolls-Var i)) ∙ fold-roll-RuleExpr (Option Sort) (expr_sort_step cons sort_at) (RuleExpr-F.Var i)

  pub where-Lit : (x : Value) → expr_sort_where cons sort_at (expr.Lit x) ≡ leaf_sort x
  where-Lit x =
      ap (expr_sort_where cons sort_at) (sym (expr.rolls-Lit x)) ∙ fold-roll-RuleExpr (Option Sort) (expr_sort_step cons sort_at) (RuleExpr-F.Lit x)

  pub where-Op : (op : Op) (es : List RuleExpr) → expr_sort_where cons sort_at (expr.Op op es) ≡ applied_sort op (map (expr_sort_where cons sort_at) es)
  where-Op op es =
      ap (expr_sort_where cons sort_at) (sym (expr.rolls-Op op es)) ∙ fold-roll-RuleExpr (Option Sort) (expr_sort_step cons sort_at) (RuleExpr-F.Op op es)

  pub where-Con : (k : ConId) (es : List RuleExpr) → expr_sort_where cons sort_at (expr.Con k es) ≡ con_sort (slice_get cons k.0) (map (expr_sort_where cons sort_at) es)
  where-Con k es =
      ap (expr_sort_where cons sort_at) (sym (expr.rolls-Con k es)) ∙ fold-roll-RuleExpr (Option Sort) (expr_sort_step cons sort_at) (RuleExpr-F.Con k es)

pub expr_sort-Var : (cons : List Con) (vars : List Var) (i : ℕ) → expr_sort cons vars (expr.Var i) ≡ var_sort vars i
expr_sort-Var cons vars i = where-Var cons (var_sort vars) i

pub expr_sort-Lit : (cons : List Con) (vars : List Var) (x : Value) → expr_sort cons vars (expr.Lit x) ≡ leaf_sort x
expr_sort-Lit cons vars x = where-Lit cons (var_sort vars) x

pub expr_sort-Op : (cons : List Con) (vars : List Var) (op : Op) (es : List RuleExpr) → expr_sort cons vars (expr.Op op es) ≡ applied_sort op (map (expr_sort cons vars) es)
expr_sort-Op cons vars op es = where-Op cons (var_sort vars) op es

pub expr_sort-Con : (cons : List Con) (vars : List Var) (k : ConId) (es : List RuleExpr) → expr_sort cons vars (expr.Con k es) ≡ con_sort (slice_get cons k.0) (map (expr_sort cons vars) es)
expr_sort-Con cons vars k es = where-Con cons (var_sort vars) k es

pub pattern_value-Bind : (v : List Tree) (i : ℕ) → pattern_value v (pattern.Bind i) ≡ tree_at v i
pattern_value-Bind v i =
    ap (pattern_value v) (sym (pattern.rolls-Bind i)) ∙ fold-roll-Pattern Tree (pattern_step v) (Pattern-F.Bind i)

pub pattern_value-Exact : (v : List Tree) (x : Scalar) → pattern_value v (pattern.Exact x) ≡ term.Plain (One x)
pattern_value-Exact v x =
    ap (pattern_value v) (sym (pattern.rolls-Exact x)) ∙ fold-roll-Pattern Tree (pattern_step v) (Pattern-F.Exact x)

pub pattern_value-Con : (v : List Tree) (k : ConId) (ps : List Pattern) → pattern_value v (pattern.Con k ps) ≡ term.Con k (map (pattern_value v) ps)
pattern_value-Con v k ps =
    ap (pattern_value v) (sym (pattern.rolls-Con k ps)) ∙ fold-roll-Pattern Tree (pattern_step v) (Pattern-F.Con k ps)

pub pattern_sort-Bind : (cons : List Con) (vars : List Var) (i : ℕ) → pattern_sort cons vars (pattern.Bind i) ≡ var_sort vars i
pattern_sort-Bind cons vars i =
    ap (pattern_sort cons vars) (sym (pattern.rolls-Bind i)) ∙ fold-roll-Pattern (Option Sort) (pattern_sort_step cons vars) (Pattern-F.Bind i)

pub pattern_sort-Exact : (cons : List Con) (vars : List Var) (x : Scalar) → pattern_sort cons vars (pattern.Exact x) ≡ leaf_sort (One x)
pattern_sort-Exact cons vars x =
    ap (pattern_sort cons vars) (sym (pattern.rolls-Exact x)) ∙ fold-roll-Pattern (Option Sort) (pattern_sort_step cons vars) (Pattern-F.Exact x)

pub pattern_sort-Con : (cons : List Con) (vars : List Var) (k : ConId) (ps : List Pattern) → pattern_sort cons vars (pattern.Con k ps) ≡ con_sort (slice_get cons k.0) (map (pattern_sort cons vars) ps)
pattern_sort-Con cons vars k ps =
    ap (pattern_sort cons vars) (sym (pattern.rolls-Con k ps)) ∙ fold-roll-Pattern (Option Sort) (pattern_sort_step cons vars) (Pattern-F.Con k ps)

pub term_sort-Plain : {N : Type 0} (cons : List Con) (leaf : N → Option Sort) (n : N) → term_sort cons leaf (term.Plain n) ≡ leaf n
term_sort-Plain {N} cons leaf n =
    ap (λ (t : Term N). term_sort cons leaf t) (sym (term.rolls-Plain n)) ∙ fold-roll-Term N (Option Sort) (term_sort_step cons leaf) (Term-F.Plain n)

pub term_sort-Con : {N : Type 0} (cons : List Con) (leaf : N → Option Sort) (k : ConId) (ts : List (Term N)) → term_sort cons leaf (term.Con k ts) ≡ con_sort (slice_get cons k.0) (map (λ (t : Term N). term_sort cons leaf t) ts)
term_sort-Con {N} cons leaf k ts =
    ap (λ (t : Term N). term_sort cons leaf t) (sym (term.rolls-Con k ts)) ∙ fold-roll-Term N (Option Sort) (term_sort_step cons leaf) (Term-F.Con k ts)

pub tree_sort-Plain : (cons : List Con) (x : Value) → tree_sort cons (term.Plain x) ≡ leaf_sort x
tree_sort-Plain cons x = term_sort-Plain cons leaf_sort x

pub tree_sort-Con : (cons : List Con) (k : ConId) (ts : List Tree) → tree_sort cons (term.Con k ts) ≡ con_sort (slice_get cons k.0) (map (tree_sort cons) ts)
tree_sort-Con cons k ts = term_sort-Con cons leaf_sort k ts

pub map_term-Plain : {N M : Type 0} (f : N → M) (n : N) → map_term f (term.Plain n) ≡ term.Plain (f n)
map_term-Plain {N} {M} f n =
    ap (λ (t : Term N). map_term f t) (sym (term.rolls-Plain n)) ∙ fold-roll-Term N (Term M) (map_step f) (Term-F.Plain n)

pub map_term-Con : {N M : Type 0} (f : N → M) (k : ConId) (ts : List (Term N)) → map_term f (term.Con k ts) ≡ term.Con k (map (λ (t : Term N). map_term f t) ts)
map_term-Con {N} {M} f k ts =
    ap (λ (t : Term N). map_term f t) (sym (term.rolls-Con k ts)) ∙ fold-roll-Term N (Term M) (map_step f) (Term-F.Con k ts)

pub plain_of-Plain : (x : Value) → plain_of (term.Plain x) ≡ x
plain_of-Plain x =
    ap (plain_of) (sym (term.rolls-Plain x)) ∙ fold-roll-Term Value Value plain_step (Term-F.Plain x)

pub plain_of-Con : (k : ConId) (ts : List Tree) → plain_of (term.Con k ts) ≡ no_value
plain_of-Con k ts =
    ap (plain_of) (sym (term.rolls-Con k ts)) ∙ fold-roll-Term Value Value plain_step (Term-F.Con k ts)

pub times-Bind : (i j : ℕ) → times i (pattern.Bind j) ≡ (if i == j then 1 else 0)
times-Bind i j =
    ap (times i) (sym (pattern.rolls-Bind j)) ∙ fold-roll-Pattern ℕ (times_step i) (Pattern-F.Bind j)

pub times-Exact : (i : ℕ) (x : Scalar) → times i (pattern.Exact x) ≡ 0
times-Exact i x =
    ap (times i) (sym (pattern.rolls-Exact x)) ∙ fold-roll-Pattern ℕ (times_step i) (Pattern-F.Exact x)

pub times-Con : (i : ℕ) (k : ConId) (ps : List Pattern) → times i (pattern.Con k ps) ≡ sum (map (times i) ps)
times-Con i k ps =
    ap (times i) (sym (pattern.rolls-Con k ps)) ∙ fold-roll-Pattern ℕ (times_step i) (Pattern-F.Con k ps)

pub reads-Var : (i j : ℕ) → reads i (expr.Var j) ≡ (i == j)
reads-Var i j =
    ap (reads i) (sym (expr.rolls-Var j)) ∙ fold-roll-RuleExpr Bool (reads_step i) (RuleExpr-F.Var j)

pub reads-Lit : (i : ℕ) (x : Value) → reads i (expr.Lit x) ≡ false
reads-Lit i x =
    ap (reads i) (sym (expr.rolls-Lit x)) ∙ fold-roll-RuleExpr Bool (reads_step i) (RuleExpr-F.Lit x)

pub reads-Op : (i : ℕ) (op : Op) (es : List RuleExpr) → reads i (expr.Op op es) ≡ list_any (λ part. part) (map (reads i) es)
reads-Op i op es =
    ap (reads i) (sym (expr.rolls-Op op es)) ∙ fold-roll-RuleExpr Bool (reads_step i) (RuleExpr-F.Op op es)

pub reads-Con : (i : ℕ) (k : ConId) (es : List RuleExpr) → reads i (expr.Con k es) ≡ list_any (λ part. part) (map (reads i) es)
reads-Con i k es =
    ap (reads i) (sym (expr.rolls-Con k es)) ∙ fold-roll-RuleExpr Bool (reads_step i) (RuleExpr-F.Con k es)

pub argument_of-Var : (i j : ℕ) → argument_of i (expr.Var j) ≡ (i == j, false)
argument_of-Var i j =
    ap (argument_of i) (sym (expr.rolls-Var j)) ∙ fold-roll-RuleExpr (Bool × Bool) (argument_step i) (RuleExpr-F.Var j)

pub argument_of-Lit : (i : ℕ) (x : Value) → argument_of i (expr.Lit x) ≡ (false, false)
argument_of-Lit i x =
    ap (argument_of i) (sym (expr.rolls-Lit x)) ∙ fold-roll-RuleExpr (Bool × Bool) (argument_step i) (RuleExpr-F.Lit x)

pub argument_of-Op : (i : ℕ) (op : Op) (es : List RuleExpr) → argument_of i (expr.Op op es) ≡ (false, list_any (λ part. part.1) (map (argument_of i) es))
argument_of-Op i op es =
    ap (argument_of i) (sym (expr.rolls-Op op es)) ∙ fold-roll-RuleExpr (Bool × Bool) (argument_step i) (RuleExpr-F.Op op es)

pub argument_of-Con : (i : ℕ) (k : ConId) (es : List RuleExpr) → argument_of i (expr.Con k es) ≡ (false, list_any (λ part. part.0 || part.1) (map (argument_of i) es))
argument_of-Con i k es =
    ap (argument_of i) (sym (expr.rolls-Con k es)) ∙ fold-roll-RuleExpr (Bool × Bool) (argument_step i) (RuleExpr-F.Con k es)
