-- What it says of a demand's parts that it is ready.
use Rattle.std.proofs.Common.{◌≡◌, ◌+◌, ◌<◌, List, slice_get, Some, IsSome, refl, sym, ap, ◌∙◌, subst}
use Rattle.data_value.specs.declared.DataSort.TheVariants.{Bool as BoolSort, Bits as BitsSort}
use Rattle.sort_term.specs.declared.ids.TableId.{TableId}
use Rattle.sort_term.specs.declared.term.Sort.{Sort}
use Rattle.sort_term.specs.declared.term.Sort.TheVariants.{Plain}
use Rattle.sort_term.specs.declared.semantics.Con.{Con}
use Rattle.sort_term.specs.declared.semantics.Table.{Table}
use Rattle.sort_term.specs.declared.rule.Var.{Var}
use Rattle.sort_term.specs.declared.rule.Demand.TheVariants.{Let, When}
use Rattle.sort_term.specs.declared.rule.Source.{Source}
use Rattle.sort_term.specs.declared.rule.Source.TheVariants.{Expr, Row as RowOf}
use Rattle.sort_term.specs.declared.rule.Pattern.{Pattern}
use Rattle.sort_term.specs.declared.rule.RuleExpr.{RuleExpr}
use Rattle.sort_term.specs.Sorted.{pattern_sort, expr_sort, expr_sort_where}
use Rattle.sort_term.specs.Rules.{source_sort}
use Rattle.sort_term.specs.Stands.{times}
use Rattle.sort_term.proofs.DemandSorts.{common_is, row_is}
use Rattle.unify.specs.Binds.{bound_at, bound_sort}
use Rattle.unify.specs.Meets.{SeenMatching, IsMatching, RebindsOnlyScalars, times_bound}
use Rattle.unify.specs.Matchings.{IsReady}
use Rattle.unify.proofs.Filled.{sort_bound}
use Rattle.unify.proofs.GoingOn.{let_times}

module _ {N : Type 0} (cons : List Con) (tables : List Table) (vars : List Var) (m : SeenMatching N) (lawful : IsMatching cons vars m) where
  module _ (p : Pattern) (src : Source) (ready : IsReady cons tables vars m (Let p src)) where
    parts : (s : Sort) × (pattern_sort cons vars p ≡ Some s) × (source_sort cons tables vars src ≡ Some s)
    parts = common_is (pattern_sort cons vars p) (source_sort cons tables vars src) ready.sorted

    pub pattern_some : IsSome (pattern_sort cons vars p)
    pattern_some = subst IsSome (sym parts.1) refl

    pub pattern_repeats : RebindsOnlyScalars vars m.binds (λ i. times i p)
    pattern_repeats = record { each = λ i x e l. ready.repeats.each i x e (subst (λ n. 1 < times_bound (bound_at m.binds i) + n) (sym (let_times i p)) l) }

  pub value_sort : (p : Pattern) (e : RuleExpr) → IsReady cons tables vars m (Let p (Expr e)) → expr_sort_where cons (bound_sort cons m.binds) e ≡ pattern_sort cons vars p
  value_sort p e ready = sort_bound cons vars m.binds e lawful.binds ready.reads ∙ (parts p (Expr e) ready).2 ∙ sym (parts p (Expr e) ready).1

  pub value_some : (p : Pattern) (e : RuleExpr) → IsReady cons tables vars m (Let p (Expr e)) → IsSome (expr_sort_where cons (bound_sort cons m.binds) e)
  value_some p e ready = subst IsSome (sym (value_sort p e ready)) (pattern_some p (Expr e) ready)

  pub when_sort : (e : RuleExpr) → IsReady cons tables vars m (When e) → expr_sort_where cons (bound_sort cons m.binds) e ≡ Some (Plain BoolSort)
  when_sort e ready =
      let c = common_is (Some (Plain BoolSort)) (expr_sort cons vars e) ready.sorted in
      sort_bound cons vars m.binds e lawful.binds ready.reads ∙ c.2 ∙ sym c.1

  pub when_some : (e : RuleExpr) → IsReady cons tables vars m (When e) → IsSome (expr_sort_where cons (bound_sort cons m.binds) e)
  when_some e ready = subst IsSome (sym (when_sort e ready)) refl

  -- the table that is read, and its key
  pub key_sort : (p : Pattern) (t : TableId) (e : RuleExpr) → IsReady cons tables vars m (Let p (RowOf t e)) → (table : Table) × (slice_get tables t.0 ≡ Some table) × (expr_sort_where cons (bound_sort cons m.binds) e ≡ Some (Plain (BitsSort table.key))) × (pattern_sort cons vars p ≡ Some table.sort)
  key_sort p t e ready =
      let s = parts p (RowOf t e) ready in
      let r = row_is (slice_get tables t.0) (expr_sort cons vars e) s.0 s.2 in
      (r.0, r.1, sort_bound cons vars m.binds e lawful.binds ready.reads ∙ r.3, s.1 ∙ ap Some (sym r.2))

  pub key_some : (p : Pattern) (t : TableId) (e : RuleExpr) → IsReady cons tables vars m (Let p (RowOf t e)) → IsSome (expr_sort_where cons (bound_sort cons m.binds) e)
  key_some p t e ready = subst IsSome (sym (key_sort p t e ready).2) refl
