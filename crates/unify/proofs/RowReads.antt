-- Rows of a program that a `let` reads.
use Rattle.std.proofs.Common.{◌≡◌, ◌↔◌, ℕ, ◌<◌, ◌^◌, List, get_or, slice_get, Some, All, sym, ap, ◌∙◌, subst}
use Rattle.std.specs.Prelude.{Any, option_map}
use Rattle.data_value.specs.declared.DataSort.{DataSort}
use Rattle.data_value.specs.declared.Value.{Value}
use Rattle.data_value.specs.Values.{word_of, scalar_of}
use Rattle.data_value.specs.Nodes.{Seen}
use Rattle.sort_term.specs.declared.ids.TableId.{TableId}
use Rattle.sort_term.specs.declared.term.Term.TheVariants as term
use Rattle.sort_term.specs.declared.program.Row.{Row}
use Rattle.sort_term.specs.declared.rule.Demand.TheVariants.{Let}
use Rattle.sort_term.specs.declared.rule.Source.TheVariants.{Row as RowOf}
use Rattle.sort_term.specs.declared.rule.Pattern.{Pattern}
use Rattle.sort_term.specs.declared.rule.RuleExpr.{RuleExpr}
use Rattle.sort_term.specs.declared.rule.Var.{Var}
use Rattle.sort_term.specs.declared.semantics.Con.{Con}
use Rattle.sort_term.specs.declared.semantics.Table.{Table}
use Rattle.sort_term.specs.System.{System}
use Rattle.sort_term.specs.Tree.{Trees, value, pattern_value}
use Rattle.sort_term.specs.Sorted.{pattern_sort}
use Rattle.sort_term.specs.Stands.{times}
use Rattle.sort_term.specs.Problems.{IsProgram}
use Rattle.sort_term.specs.Step.{Tables, table_at, word_in, Demanded}
use Rattle.sort_term.proofs.Equations.{plain_of-Plain}
use Rattle.unify.specs.Binds.{Agrees}
use Rattle.unify.specs.Meets.{SeenMatching, Fulfils}
use Rattle.unify.specs.Matchings.{GoOn, IsRowFor, ReadsRow, demand_times}
use Rattle.unify.proofs.Anys.{any_weaker}
use Rattle.unify.proofs.RowKeys.{IsAt, row_found}
use Rattle.unify.proofs.GoingOn.{let_times, go_on_same}
use Rattle.unify.specs.Scopes.{scope_of}

-- rows of a program have keys of the table's width and terms of its sort
pub rows_are : (sys : System) (lists : Tables) (k width : ℕ) (t : Table) (rows : List Row) (vars : List Var) (p : Pattern) → IsProgram sys lists → slice_get sys.tables k ≡ Some t → slice_get lists k ≡ Some rows → option_map (λ (x : Table). x.key) (slice_get sys.tables k) ≡ Some width → pattern_sort sys.cons vars p ≡ Some t.sort → All (IsRowFor sys.cons width (pattern_sort sys.cons vars p)) rows
rows_are sys lists k width t rows vars p program there here wide sorted i d l =
    let is = (program.rows.each k t rows there here).each i d l in
    let e : Some t.key ≡ Some width = sym (ap (option_map (λ (x : Table). x.key)) there) ∙ wide in
    let same : t.key ≡ width = cc in
    record { key = subst (λ n. (get_or rows i d).key < 2 ^ n) same is.key; term = is.term.is ∙ sym sorted }

module _ {N : Type 0} (cons : List Con) (vars : List Var) (variables : List DataSort) (sys : System) (tables : Tables) (program : IsProgram sys tables) (t : TableId) (table : Table) (rows : List Row) (there : slice_get sys.tables t.0 ≡ Some table) (here : slice_get tables t.0 ≡ Some rows) (p : Pattern) (e : RuleExpr) (key : Seen N) (m : SeenMatching N) (means : (v : List Value) (w : Trees) → Agrees v m.binds w → value w e ≡ term.Plain (key.meaning v)) where
  reads : (v : List Value) (w : Trees) → Fulfils v w m → Any (ReadsRow key p v w) rows ↔ Demanded tables w (Let p (RowOf t e))
  reads v w f =
      let k = word_of (scalar_of (key.meaning v)) in
      let word : word_in (value w e) ≡ k = ap word_in (means v w f.agrees) ∙ ap (λ x. word_of (scalar_of x)) (plain_of-Plain (key.meaning v)) in
      let same : table_at (slice_get tables t.0) (word_in (value w e)) ≡ table_at (Some rows) k = ap (λ o. table_at o (word_in (value w e))) here ∙ ap (table_at (Some rows)) word in
      let found = row_found rows k (pattern_value w p) (program.rows.each t.0 table rows there here).distinct in (
        λ a. same ∙ found.1 (any_weaker (ReadsRow key p v w) (IsAt k (pattern_value w p)) rows (λ r x. (x.key_is, x.term_is)) a),
        λ h. any_weaker (IsAt k (pattern_value w p)) (ReadsRow key p v w) rows (λ r x. record { key_is = x.0; term_is = x.1 }) (found.0 (sym same ∙ h)),
      )

  -- a `let` that reads a row
  pub rows_on : (ms : List (SeenMatching N)) → GoOn (scope_of cons vars variables) m (λ i. times i p) (λ v w. Any (ReadsRow key p v w) rows) ms → GoOn (scope_of cons vars variables) m (demand_times (Let p (RowOf t e))) (λ v w. Demanded tables w (Let p (RowOf t e))) ms
  rows_on ms g =
      go_on_same cons vars variables m (λ i. times i p) (demand_times (Let p (RowOf t e))) (λ v w. Any (ReadsRow key p v w) rows) (λ v w. Demanded tables w (Let p (RowOf t e))) ms (λ i. sym (let_times i p)) (λ v fits w f. reads v w f) g
