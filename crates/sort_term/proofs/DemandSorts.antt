-- Sorts of the parts of demands.
use Rattle.std.proofs.Common.{rules, ◌≡◌, ℕ, ◌<◌, Bool, true, false, IsTrue, List, length, slice_get, Option, Some, None, IsSome, refl, sym, ap, subst}
use Rattle.std.specs.Prelude.{if◌then◌else◌}
use Rattle.data_value.specs.declared.DataSort.TheVariants.{Bits as BitsSort}
use Rattle.sort_term.specs.declared.term.Sort.{Sort}
use Rattle.sort_term.specs.declared.term.Sort.TheVariants.{Plain}
use Rattle.sort_term.specs.declared.semantics.Con.{Con}
use Rattle.sort_term.specs.declared.semantics.Table.{Table}
use Rattle.sort_term.specs.declared.rule.Var.{Var}
use Rattle.sort_term.specs.declared.rule.Source.{Source}
use Rattle.sort_term.specs.declared.rule.Source.TheVariants.{Expr, Row as RowOf}
use Rattle.sort_term.specs.declared.rule.Demand.{Demand}
use Rattle.sort_term.specs.declared.rule.Demand.TheVariants.{Let, When}
use Rattle.sort_term.specs.Sorted.{is_same, pattern_sort, expr_sort}
use Rattle.sort_term.specs.Stands.{source_reads, demand_reads}
use Rattle.sort_term.specs.Rules.{row_sort, source_sort, common_sort, demand_sort}
use Rattle.sort_term.proofs.Parts.{is_same_is}
use Rattle.sort_term.proofs.Declared.{declares}

-- two parts that have a sort in common have it each
pub common_is : (a b : Option Sort) → IsSome (common_sort a b) → (s : Sort) × (a ≡ Some s) × (b ≡ Some s)
common_is None b h = absurd (search rules)
common_is (Some x) None h = absurd (search rules)
common_is (Some x) (Some y) h = (x, refl, ap Some (sym (is_same_is x y (go (is_same x y) h))))
  where
    go : (t : Bool) → IsSome (if t then Some x else None) → t ≡ true
    go true i = refl
    go false i = absurd (search rules)

-- the table of a sorted read, and its key
pub row_is : (o : Option Table) (k : Option Sort) (s : Sort) → row_sort o k ≡ Some s → (t : Table) × (o ≡ Some t) × (t.sort ≡ s) × (k ≡ Some (Plain (BitsSort t.key)))
row_is None k s h = absurd (cc)
row_is (Some t) None s h = absurd (cc)
row_is (Some t) (Some key) s h = (t, refl, (go (is_same key (Plain (BitsSort t.key))) h).0, ap Some (is_same_is key (Plain (BitsSort t.key)) (go (is_same key (Plain (BitsSort t.key))) h).1))
  where
    go : (b : Bool) → (if b then Some t.sort else None) ≡ Some s → (t.sort ≡ s) × IsTrue b
    go true e = (cc, refl)
    go false e = absurd (cc)

-- a variable that a sorted demand reads is declared
pub source_declared : (cons : List Con) (vars : List Var) (declared : List Table) (src : Source) (s : Sort) → source_sort cons declared vars src ≡ Some s → (i : ℕ) → IsTrue (source_reads i src) → i < length vars
source_declared cons vars declared (Expr e) s h i r = declares cons vars e (subst IsSome (sym h) refl) i r
source_declared cons vars declared (RowOf t e) s h i r = declares cons vars e (subst IsSome (sym (row_is (slice_get declared t.0) (expr_sort cons vars e) s h).3) refl) i r

pub demand_declared : (cons : List Con) (vars : List Var) (declared : List Table) (d : Demand) → IsSome (demand_sort cons declared vars d) → (i : ℕ) → IsTrue (demand_reads i d) → i < length vars
demand_declared cons vars declared (Let p src) h i r =
    let c = common_is (pattern_sort cons vars p) (source_sort cons declared vars src) h in
    source_declared cons vars declared src c.0 c.2 i r
demand_declared cons vars declared (When e) h i r =
    let c = common_is (Some (Plain Rattle.data_value.specs.declared.DataSort.TheVariants.Bool)) (expr_sort cons vars e) h in
    declares cons vars e (subst IsSome (sym c.2) refl) i r
