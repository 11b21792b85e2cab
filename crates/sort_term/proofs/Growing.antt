-- What passes its checks still does, with the same sort, where more sorts, constructors and tables stand behind.
use Rattle.std.proofs.Common.{arith, ◌≡◌, ℕ, zero, suc, ◌||◌, ◌==◌, IsTrue, List, [], ◌∷◌, ◌++◌, map, take, slice_get, Option, Some, IsSome, All, length-append, refl, sym, ap, ap₂, ◌∙◌, subst}
use Rattle.std.proofs.lemmas.List.Elements.{All-head, All-tail, All-weaker}
use Rattle.std.proofs.lemmas.List.Folds.{list_any-append}
use Rattle.data_value.specs.declared.DataSort.TheVariants.{Bool as BoolSort}
use Rattle.data_value.specs.declared.Op.{Op}
use Rattle.sort_term.specs.declared.ids.ConId.{ConId}
use Rattle.sort_term.specs.declared.ids.SortId.{SortId}
use Rattle.sort_term.specs.declared.term.Sort.{Sort}
use Rattle.sort_term.specs.declared.term.Sort.TheVariants.{Own, Plain}
use Rattle.sort_term.specs.declared.semantics.Con.{Con}
use Rattle.sort_term.specs.declared.semantics.Table.{Table}
use Rattle.sort_term.specs.declared.rule.Var.{Var}
use Rattle.sort_term.specs.declared.rule.Pattern.{Pattern}
use Rattle.sort_term.specs.declared.rule.Pattern.TheVariants as pattern
use Rattle.sort_term.specs.declared.rule.RuleExpr.{RuleExpr}
use Rattle.sort_term.specs.declared.rule.RuleExpr.TheVariants as expr
use Rattle.sort_term.specs.declared.rule.Rule.{Rule}
use Rattle.sort_term.specs.declared.rule.Source.{Source}
use Rattle.sort_term.specs.declared.rule.Source.TheVariants.{Expr, Row as RowOf}
use Rattle.sort_term.specs.declared.rule.Demand.{Demand}
use Rattle.sort_term.specs.declared.rule.Demand.TheVariants.{Let, When}
use Rattle.sort_term.specs.Sorted.{con_sort, applied_sort, pattern_sort, expr_sort, IsPatternOf, IsExprOf}
use Rattle.sort_term.specs.Signature.{has_con, is_usable, AreVars, IsCon, IsTable, AreCons, AreTables}
use Rattle.sort_term.specs.Rules.{row_sort, source_sort, common_sort, demand_sort, IsSorted, IsRule, AreRules}
use Rattle.sort_term.proofs.DemandSorts.{common_is, row_is}
use Rattle.sort_term.proofs.Each.{Each}
use Rattle.sort_term.proofs.Equations.{expr_sort-Var, expr_sort-Lit, expr_sort-Op, expr_sort-Con, pattern_sort-Bind, pattern_sort-Exact, pattern_sort-Con}
use Rattle.sort_term.proofs.Induction.{pattern_ind, expr_ind}
use Rattle.sort_term.proofs.Parts.{con_parts, all_some, some_of}
use Rattle.sort_term.proofs.PartSorts.{con_parts_sorted, op_parts}

-- what is there stays where it is
pub still_there : {A : Type 0} (xs more : List A) (i : ℕ) (x : A) → slice_get xs i ≡ Some x → slice_get (xs ++ more) i ≡ Some x
still_there [] more i x h = absurd cc
still_there (y ∷ xs) more zero x h = h
still_there (y ∷ xs) more (suc i) x h = still_there xs more i x h

same_map : {A : Type 0} (f g : A → Option Sort) (xs : List A) → Each (λ x. IsSome (f x) → g x ≡ f x) xs → All (λ x. IsSome (f x)) xs → map g xs ≡ map f xs
same_map f g [] each all = refl
same_map f g (x ∷ xs) each all = ap₂ ◌∷◌ (each.0 (All-head (λ y. IsSome (f y)) x xs all)) (same_map f g xs each.1 (All-tail (λ y. IsSome (f y)) x xs all))

module _ (cons more : List Con) (vars : List Var) where
  abbrev KeepsPattern : Pattern → Type 0
  KeepsPattern p = IsSome (pattern_sort cons vars p) → pattern_sort (cons ++ more) vars p ≡ pattern_sort cons vars p

  con_keeps : (k : ConId) (ps : List Pattern) → Each KeepsPattern ps → KeepsPattern (pattern.Con k ps)
  con_keeps k ps each h =
      let s = some_of (pattern_sort cons vars (pattern.Con k ps)) h in
      let p = con_parts (slice_get cons k.0) (map (pattern_sort cons vars) ps) s.0 (sym (pattern_sort-Con cons vars k ps) ∙ s.1) in
      let parts : map (pattern_sort (cons ++ more) vars) ps ≡ map (pattern_sort cons vars) ps = same_map (pattern_sort cons vars) (pattern_sort (cons ++ more) vars) ps each (all_some (pattern_sort cons vars) ps p.con.args p.sorts) in
      let found : slice_get (cons ++ more) k.0 ≡ slice_get cons k.0 = still_there cons more k.0 p.con p.is_con ∙ sym p.is_con in
      pattern_sort-Con (cons ++ more) vars k ps ∙ ap₂ con_sort found parts ∙ sym (pattern_sort-Con cons vars k ps)

  pub pattern_keeps_sort : (p : Pattern) → KeepsPattern p
  pattern_keeps_sort = pattern_ind KeepsPattern (λ i h. pattern_sort-Bind (cons ++ more) vars i ∙ sym (pattern_sort-Bind cons vars i)) (λ x h. pattern_sort-Exact (cons ++ more) vars x ∙ sym (pattern_sort-Exact cons vars x)) con_keeps

  abbrev KeepsExpr : RuleExpr → Type 0
  KeepsExpr e = IsSome (expr_sort cons vars e) → expr_sort (cons ++ more) vars e ≡ expr_sort cons vars e

  expr_con_keeps : (k : ConId) (es : List RuleExpr) → Each KeepsExpr es → KeepsExpr (expr.Con k es)
  expr_con_keeps k es each h =
      let s = some_of (expr_sort cons vars (expr.Con k es)) h in
      let p = con_parts (slice_get cons k.0) (map (expr_sort cons vars) es) s.0 (sym (expr_sort-Con cons vars k es) ∙ s.1) in
      let parts : map (expr_sort (cons ++ more) vars) es ≡ map (expr_sort cons vars) es = same_map (expr_sort cons vars) (expr_sort (cons ++ more) vars) es each (con_parts_sorted cons vars k es h) in
      let found : slice_get (cons ++ more) k.0 ≡ slice_get cons k.0 = still_there cons more k.0 p.con p.is_con ∙ sym p.is_con in
      expr_sort-Con (cons ++ more) vars k es ∙ ap₂ con_sort found parts ∙ sym (expr_sort-Con cons vars k es)

  expr_op_keeps : (op : Op) (es : List RuleExpr) → Each KeepsExpr es → KeepsExpr (expr.Op op es)
  expr_op_keeps op es each h =
      let parts : map (expr_sort (cons ++ more) vars) es ≡ map (expr_sort cons vars) es = same_map (expr_sort cons vars) (expr_sort (cons ++ more) vars) es each (op_parts cons vars op es h) in
      expr_sort-Op (cons ++ more) vars op es ∙ ap (applied_sort op) parts ∙ sym (expr_sort-Op cons vars op es)

  pub expr_keeps_sort : (e : RuleExpr) → KeepsExpr e
  expr_keeps_sort = expr_ind KeepsExpr (λ i h. expr_sort-Var (cons ++ more) vars i ∙ sym (expr_sort-Var cons vars i)) (λ x h. expr_sort-Lit (cons ++ more) vars x ∙ sym (expr_sort-Lit cons vars x)) expr_op_keeps expr_con_keeps

-- a sort that has a constructor, and one that may be used
pub made_grows : (cons more : List Con) (a : SortId) → IsTrue (has_con cons a) → IsTrue (has_con (cons ++ more) a)
made_grows cons more a h = list_any-append (λ c. c.sort.0 == a.0) cons more ∙ ap (λ made. made || has_con more a) h

pub usable_grows : (cons more : List Con) (a : Sort) → IsTrue (is_usable cons a) → IsTrue (is_usable (cons ++ more) a)
usable_grows cons more (Own a) h = made_grows cons more a h
usable_grows cons more (Plain a) h = h

-- constructors, where more sorts are declared
pub con_grows : (sorts more : List (List ℕ)) (before : List Con) (c : Con) → IsCon sorts before c → IsCon (sorts ++ more) before c
con_grows sorts more before c h =
    let known = h.known in
    record { free = h.free; known = omega (arith, length-append sorts more); few = h.few; usable = h.usable }

pub cons_grow : (sorts more : List (List ℕ)) (cons : List Con) → AreCons sorts cons → AreCons (sorts ++ more) cons
cons_grow sorts more cons h =
    record { few = h.few; distinct = h.distinct; declared = record { each = λ k c there. con_grows sorts more (take k cons) c (h.declared.each k c there) } }

-- tables, where more constructors are declared
module _ (cons more : List Con) where
  pub table_grows : (t : Table) → IsTable cons t → IsTable (cons ++ more) t
  table_grows t h = record { free = h.free; width = h.width; usable = usable_grows cons more t.sort h.usable }

  pub tables_grow : (tables : List Table) → AreTables cons tables → AreTables (cons ++ more) tables
  tables_grow tables h =
      record { few = h.few; distinct = h.distinct; each = All-weaker (IsTable cons) (IsTable (cons ++ more)) table_grows tables h.each }

-- variables, patterns and expressions, where more constructors are declared
module _ (cons more : List Con) (vars : List Var) where
  vars_grow : AreVars (is_usable cons) vars → AreVars (is_usable (cons ++ more)) vars
  vars_grow h =
      record { few = h.few; distinct = h.distinct; free = h.free; sorts = All-weaker (λ x. IsTrue (is_usable cons x.sort)) (λ x. IsTrue (is_usable (cons ++ more) x.sort)) (λ x. usable_grows cons more x.sort) vars h.sorts }

  pattern_grows : (a : Sort) (p : Pattern) → IsPatternOf cons vars a p → IsPatternOf (cons ++ more) vars a p
  pattern_grows a p h = record { is = pattern_keeps_sort cons more vars p (subst IsSome (sym h.is) refl) ∙ h.is }

  expr_grows : (a : Sort) (e : RuleExpr) → IsExprOf cons vars a e → IsExprOf (cons ++ more) vars a e
  expr_grows a e h = record { is = expr_keeps_sort cons more vars e (subst IsSome (sym h.is) refl) ∙ h.is }

-- demands and rules, where more constructors and tables are declared
module _ (cons more : List Con) (tables extra : List Table) where
  module _ (vars : List Var) where
    source_keeps_sort : (s : Source) → IsSome (source_sort cons tables vars s) → source_sort (cons ++ more) (tables ++ extra) vars s ≡ source_sort cons tables vars s
    source_keeps_sort (Expr e) h = expr_keeps_sort cons more vars e h
    source_keeps_sort (RowOf t e) h =
        let s = some_of (row_sort (slice_get tables t.0) (expr_sort cons vars e)) h in
        let r = row_is (slice_get tables t.0) (expr_sort cons vars e) s.0 s.1 in
        let found : slice_get (tables ++ extra) t.0 ≡ slice_get tables t.0 = still_there tables extra t.0 r.0 r.1 ∙ sym r.1 in
        ap₂ row_sort found (expr_keeps_sort cons more vars e (subst IsSome (sym r.3) refl))

    demand_keeps_sort : (d : Demand) → IsSome (demand_sort cons tables vars d) → demand_sort (cons ++ more) (tables ++ extra) vars d ≡ demand_sort cons tables vars d
    demand_keeps_sort (Let p s) h =
        let c = common_is (pattern_sort cons vars p) (source_sort cons tables vars s) h in
        ap₂ common_sort (pattern_keeps_sort cons more vars p (subst IsSome (sym c.1) refl)) (source_keeps_sort s (subst IsSome (sym c.2) refl))
    demand_keeps_sort (When e) h =
        let c = common_is (Some (Plain BoolSort)) (expr_sort cons vars e) h in
        ap (common_sort (Some (Plain BoolSort))) (expr_keeps_sort cons more vars e (subst IsSome (sym c.2) refl))

    demand_grows : (d : Demand) → IsSome (demand_sort cons tables vars d) → IsSome (demand_sort (cons ++ more) (tables ++ extra) vars d)
    demand_grows d h = subst IsSome (sym (demand_keeps_sort d h)) h

  module _ (config : SortId) where
    sorted_grows : (r : Rule) → IsSorted cons tables config r → IsSorted (cons ++ more) (tables ++ extra) config r
    sorted_grows r h =
        record {
          head = pattern_grows cons more r.vars (Own config) r.head h.head;
          result = expr_grows cons more r.vars (Own config) r.result h.result;
          demands = All-weaker (λ d. IsSome (demand_sort cons tables r.vars d)) (λ d. IsSome (demand_sort (cons ++ more) (tables ++ extra) r.vars d)) (demand_grows r.vars) r.demands h.demands;
        }

    pub rule_grows : (r : Rule) → IsRule cons tables config r → IsRule (cons ++ more) (tables ++ extra) config r
    rule_grows r h = record { vars = vars_grow cons more r.vars h.vars; few = h.few; sorted = sorted_grows r h.sorted; bound = h.bound }

    pub rules_grow : (rules : List Rule) → AreRules cons tables config rules → AreRules (cons ++ more) (tables ++ extra) config rules
    rules_grow rules h =
        record { few = h.few; distinct = h.distinct; each = All-weaker (IsRule cons tables config) (IsRule (cons ++ more) (tables ++ extra) config) rule_grows rules h.each }
