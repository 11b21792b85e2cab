-- Induction over patterns, expressions and trees, with a fact for each child.
use Rattle.std.proofs.Common.{ℕ, List, [], ◌∷◌, map, sym, subst}
use Rattle.data_value.specs.declared.Op.{Op}
use Rattle.data_value.specs.declared.Scalar.{Scalar}
use Rattle.data_value.specs.declared.Value.{Value}
use Rattle.sort_term.specs.declared.ids.ConId.{ConId}
use Rattle.sort_term.specs.declared.term.Term.{Term}
use Rattle.sort_term.specs.declared.term.Term.TheOpen.{Term-F}
use Rattle.sort_term.specs.declared.term.Term.TheViews.{roll-Term}
use Rattle.sort_term.specs.declared.term.Term.TheFolds.{ind-Term, map-Term}
use Rattle.sort_term.specs.declared.term.Term.TheVariants as term
use Rattle.sort_term.specs.declared.rule.Pattern.{Pattern}
use Rattle.sort_term.specs.declared.rule.Pattern.TheOpen.{Pattern-F}
use Rattle.sort_term.specs.declared.rule.Pattern.TheViews.{roll-Pattern}
use Rattle.sort_term.specs.declared.rule.Pattern.TheFolds.{ind-Pattern, map-Pattern}
use Rattle.sort_term.specs.declared.rule.Pattern.TheVariants as pattern
use Rattle.sort_term.specs.declared.rule.RuleExpr.{RuleExpr}
use Rattle.sort_term.specs.declared.rule.RuleExpr.TheOpen.{RuleExpr-F}
use Rattle.sort_term.specs.declared.rule.RuleExpr.TheViews.{roll-RuleExpr}
use Rattle.sort_term.specs.declared.rule.RuleExpr.TheFolds.{ind-RuleExpr, map-RuleExpr}
use Rattle.sort_term.specs.declared.rule.RuleExpr.TheVariants as expr
use Rattle.sort_term.proofs.Each.{Each}

each_of : {A : Type 0} (C : A → Type 0) (es : List ((a : A) × C a)) → Each C (map (λ e. e.0) es)
each_of C [] = tt
each_of C (e ∷ es) = (e.1, each_of C es)

module _ (C : Pattern → Type 0) (bind : (i : ℕ) → C (pattern.Bind i)) (exact : (x : Scalar) → C (pattern.Exact x)) (con : (k : ConId) (ps : List Pattern) → Each C ps → C (pattern.Con k ps)) where
  pattern_layer : (y : Pattern-F ((p : Pattern) × C p)) → C (roll-Pattern (map-Pattern ((p : Pattern) × C p) Pattern (λ e. e.0) y))
  pattern_layer (Pattern-F.Bind i) = subst C (sym (pattern.rolls-Bind i)) (bind i)
  pattern_layer (Pattern-F.Exact x) = subst C (sym (pattern.rolls-Exact x)) (exact x)
  pattern_layer (Pattern-F.Con k es) = subst C (sym (pattern.rolls-Con k (map (λ e. e.0) es))) (con k (map (λ e. e.0) es) (each_of C es))

  pub pattern_ind : (p : Pattern) → C p
  pattern_ind = ind-Pattern C (λ x y is. subst (λ z. C (roll-Pattern z)) is (pattern_layer y))

module _ (C : RuleExpr → Type 0) (var : (i : ℕ) → C (expr.Var i)) (lit : (x : Value) → C (expr.Lit x)) (op : (o : Op) (es : List RuleExpr) → Each C es → C (expr.Op o es)) (con : (k : ConId) (es : List RuleExpr) → Each C es → C (expr.Con k es)) where
  expr_layer : (y : RuleExpr-F ((e : RuleExpr) × C e)) → C (roll-RuleExpr (map-RuleExpr ((e : RuleExpr) × C e) RuleExpr (λ e. e.0) y))
  expr_layer (RuleExpr-F.Var i) = subst C (sym (expr.rolls-Var i)) (var i)
  expr_layer (RuleExpr-F.Lit x) = subst C (sym (expr.rolls-Lit x)) (lit x)
  expr_layer (RuleExpr-F.Op o es) = subst C (sym (expr.rolls-Op o (map (λ e. e.0) es))) (op o (map (λ e. e.0) es) (each_of C es))
  expr_layer (RuleExpr-F.Con k es) = subst C (sym (expr.rolls-Con k (map (λ e. e.0) es))) (con k (map (λ e. e.0) es) (each_of C es))

  pub expr_ind : (e : RuleExpr) → C e
  expr_ind = ind-RuleExpr C (λ x y is. subst (λ z. C (roll-RuleExpr z)) is (expr_layer y))

module _ (N : Type 0) (C : Term N → Type 0) (plain : (x : N) → C (term.Plain x)) (con : (k : ConId) (ts : List (Term N)) → Each C ts → C (term.Con k ts)) where
  term_layer : (y : Term-F N ((t : Term N) × C t)) → C (roll-Term N (map-Term N ((t : Term N) × C t) (Term N) (λ e. e.0) y))
  term_layer (Term-F.Plain x) = subst C (sym (term.rolls-Plain x)) (plain x)
  term_layer (Term-F.Con k es) = subst C (sym (term.rolls-Con k (map (λ e. e.0) es))) (con k (map (λ e. e.0) es) (each_of C es))

  pub term_ind : (t : Term N) → C t
  term_ind = ind-Term N C (λ x y is. subst (λ z. C (roll-Term N z)) is (term_layer y))
