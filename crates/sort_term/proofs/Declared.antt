-- Variables that stand in patterns and expressions are declared, and a pattern of a tree's sort gives them trees of their sorts.
use Rattle.std.proofs.Common.{rules, arith, ◌≡◌, ℕ, zero, suc, ◌+◌, ◌<◌, ◌≤◌, Bool, true, false, ◌||◌, ◌==◌, IsTrue, List, [], ◌∷◌, length, map, slice_get, Some, IsSome, All, refl, sym, ap, ◌∙◌, subst, ◌⊎◌, inl, inr}
use Rattle.std.specs.Prelude.{if◌then◌else◌}
use Rattle.std.specs.List.{list_any}
use Rattle.std.proofs.lemmas.Bool.{cases_lt}
use Rattle.std.proofs.lemmas.Bool.Decides.{Decides-eqb}
use Rattle.std.proofs.lemmas.List.Sums.{sum-map, sum_by-cons}
use Rattle.std.proofs.lemmas.List.Elements.{All-head, All-tail}
use Rattle.sort_term.specs.declared.ids.ConId.{ConId}
use Rattle.sort_term.specs.declared.term.Sort.{Sort}
use Rattle.sort_term.specs.declared.semantics.Con.{Con}
use Rattle.sort_term.specs.declared.rule.Var.{Var}
use Rattle.sort_term.specs.declared.rule.Pattern.{Pattern}
use Rattle.sort_term.specs.declared.rule.Pattern.TheVariants as pattern
use Rattle.sort_term.specs.declared.rule.RuleExpr.{RuleExpr}
use Rattle.sort_term.specs.declared.rule.RuleExpr.TheVariants as expr
use Rattle.sort_term.specs.Tree.{Trees, pattern_value}
use Rattle.sort_term.specs.Sorted.{IsValuationOf, var_sort, tree_sort, pattern_sort, expr_sort}
use Rattle.sort_term.specs.Stands.{times, times_in, reads}
use Rattle.sort_term.proofs.Each.{Each}
use Rattle.sort_term.proofs.Equations.{expr_sort-Var, pattern_value-Bind, pattern_value-Con, pattern_sort-Bind, pattern_sort-Con, tree_sort-Con, times-Bind, times-Exact, times-Con, reads-Var, reads-Lit, reads-Op, reads-Con}
use Rattle.sort_term.proofs.Induction.{pattern_ind, expr_ind}
use Rattle.sort_term.proofs.Parts.{con_parts}
use Rattle.sort_term.proofs.PartSorts.{Sorts, con_parts_sorted, op_parts}

-- a sum above 0 has a part above 0
pub part_above : (P : Type 0) (a b : ℕ) → 0 < a + b → (0 < a → P) → (0 < b → P) → P
part_above P a b h f g = go (cases_lt 0 a)
  where
    go : (0 < a) ⊎ (a ≤ 0) → P
    go (inl l) = f l
    go (inr l) = g (omega arith)

pub either_in : (P : Type 0) (i : ℕ) (p : Pattern) (ps : List Pattern) → 0 < times_in i (p ∷ ps) → (0 < times i p → P) → (0 < times_in i ps → P) → P
either_in P i p ps h f g = part_above P (times i p) (times_in i ps) (subst (λ n. 0 < n) (sum_by-cons (times i) p ps) h) f g

pub only_in : (i : ℕ) (p : Pattern) → 0 < times_in i (p ∷ []) → 0 < times i p
only_in i p h = either_in (0 < times i p) i p [] h (λ l. l) (λ l. absurd (omega arith))

if_above : (i j : ℕ) → 0 < (if i == j then 1 else 0) → i ≡ j
if_above i j h = (Decides-eqb i j).0 (go (i == j) h)
  where
    go : (b : Bool) → 0 < (if b then 1 else 0) → b ≡ true
    go true l = refl
    go false l = absurd (omega arith)

either_true : (a b : Bool) → IsTrue (a || b) → (Q : Type 0) → (IsTrue a → Q) → (IsTrue b → Q) → Q
either_true true b h Q f g = f refl
either_true false b h Q f g = g h

-- a tree of its sort for each variable is a valuation
pub fits_each : (cons : List Con) (vars : List Var) (v : Trees) → length v ≡ length vars → ((i : ℕ) → i < length vars → Sorts cons vars v i) → IsValuationOf cons vars v
fits_each cons [] [] l h = refl
fits_each cons [] (t ∷ v) l h = absurd (omega arith)
fits_each cons (x ∷ vars) [] l h = absurd (omega arith)
fits_each cons (x ∷ vars) (t ∷ v) l h =
    let e : tree_sort cons t ≡ Some x.sort = h 0 (omega arith) in
    let f : map (tree_sort cons) v ≡ map (λ y. Some y.sort) vars = fits_each cons vars v (omega arith) (λ i j. h (suc i) (omega arith)) in
    cc

module _ (cons : List Con) (vars : List Var) where
  var_declared : (i : ℕ) → IsSome (var_sort vars i) → i < length vars
  var_declared i h = go vars i h
    where
      go : (xs : List Var) (j : ℕ) → IsSome (var_sort xs j) → j < length xs
      go [] j h = absurd (search rules)
      go (x ∷ xs) zero h = omega arith
      go (x ∷ xs) (suc j) h = let l : j < length xs = go xs j h in omega arith

  -- a well-sorted expression reads declared variables
  abbrev Declares : RuleExpr → Type 0
  Declares e = IsSome (expr_sort cons vars e) → (i : ℕ) → IsTrue (reads i e) → i < length vars

  each_declares : (es : List RuleExpr) → Each Declares es → All (λ e. IsSome (expr_sort cons vars e)) es → (i : ℕ) → IsTrue (list_any (λ part. part) (map (reads i) es)) → i < length vars
  each_declares [] d s i r = absurd (cc)
  each_declares (e ∷ es) d s i r =
      either_true (reads i e) (list_any (λ part. part) (map (reads i) es)) r (i < length vars) (d.0 (All-head (λ x. IsSome (expr_sort cons vars x)) e es s) i) (each_declares es d.1 (All-tail (λ x. IsSome (expr_sort cons vars x)) e es s) i)

  declares_var : (j : ℕ) → Declares (expr.Var j)
  declares_var j s i r =
      let e : i ≡ j = (Decides-eqb i j).0 (sym (reads-Var i j) ∙ r) in
      subst (λ n. n < length vars) (sym e) (var_declared j (subst IsSome (expr_sort-Var cons vars j) s))

  pub declares : (e : RuleExpr) → Declares e
  declares = expr_ind Declares declares_var
      (λ x s i r. absurd (let q : false ≡ true = sym (reads-Lit i x) ∙ r in cc))
      (λ op es d s i r. each_declares es d (op_parts cons vars op es s) i (sym (reads-Op i op es) ∙ r))
      (λ k es d s i r. each_declares es d (con_parts_sorted cons vars k es s) i (sym (reads-Con i k es) ∙ r))

  -- the variables of a well-sorted pattern are declared
  abbrev Within : Pattern → Type 0
  Within p = (s : Sort) → pattern_sort cons vars p ≡ Some s → (i : ℕ) → 0 < times i p → i < length vars

  each_within : (ps : List Pattern) → Each Within ps → (ss : List Sort) → map (pattern_sort cons vars) ps ≡ map Some ss → (i : ℕ) → 0 < times_in i ps → i < length vars
  each_within [] w ss h i l = absurd (omega arith)
  each_within (p ∷ ps) w [] h i l = absurd (cc)
  each_within (p ∷ ps) w (s ∷ ss) h i l =
      let q : pattern_sort cons vars p ≡ Some s = cc in
      let q' : map (pattern_sort cons vars) ps ≡ map Some ss = cc in
      either_in (i < length vars) i p ps l (w.0 s q i) (each_within ps w.1 ss q' i)

  within_bind : (j : ℕ) → Within (pattern.Bind j)
  within_bind j s h i l =
      let e : i ≡ j = if_above i j (subst (λ n. 0 < n) (times-Bind i j) l) in
      subst (λ n. n < length vars) (sym e) (var_declared j (subst IsSome (sym (sym (pattern_sort-Bind cons vars j) ∙ h)) (search rules)))

  within_con : (k : ConId) (ps : List Pattern) → Each Within ps → Within (pattern.Con k ps)
  within_con k ps w s h i l =
      let p = con_parts (slice_get cons k.0) (map (pattern_sort cons vars) ps) s (sym (pattern_sort-Con cons vars k ps) ∙ h) in
      each_within ps w p.con.args p.sorts i (subst (λ n. 0 < n) (times-Con i k ps ∙ sum-map (times i) ps) l)

  pub within : (p : Pattern) → Within p
  within = pattern_ind Within within_bind (λ x s h i l. absurd (let n = times-Exact i x in omega arith)) within_con

  module _ (v : Trees) where
    -- where a pattern's value has the pattern's sort, each of its variables has a tree of its sort
    abbrev Binds : Pattern → Type 0
    Binds p = (s : Sort) → pattern_sort cons vars p ≡ Some s → tree_sort cons (pattern_value v p) ≡ Some s → (i : ℕ) → 0 < times i p → Sorts cons vars v i

    each_binds : (ps : List Pattern) → Each Binds ps → (ss : List Sort) → map (pattern_sort cons vars) ps ≡ map Some ss → map (tree_sort cons) (map (pattern_value v) ps) ≡ map Some ss → (i : ℕ) → 0 < times_in i ps → Sorts cons vars v i
    each_binds [] b ss h g i l = absurd (omega arith)
    each_binds (p ∷ ps) b [] h g i l = absurd (cc)
    each_binds (p ∷ ps) b (s ∷ ss) h g i l =
        let h0 : pattern_sort cons vars p ≡ Some s = cc in
        let h1 : map (pattern_sort cons vars) ps ≡ map Some ss = cc in
        let g0 : tree_sort cons (pattern_value v p) ≡ Some s = cc in
        let g1 : map (tree_sort cons) (map (pattern_value v) ps) ≡ map Some ss = cc in
        either_in (Sorts cons vars v i) i p ps l (b.0 s h0 g0 i) (each_binds ps b.1 ss h1 g1 i)

    binds_bind : (j : ℕ) → Binds (pattern.Bind j)
    binds_bind j s h g i l =
        let e : i ≡ j = if_above i j (subst (λ n. 0 < n) (times-Bind i j) l) in
        let h' = sym (pattern_sort-Bind cons vars j) ∙ h in
        let g' = sym (ap (tree_sort cons) (pattern_value-Bind v j)) ∙ g in
        subst (Sorts cons vars v) (sym e) (g' ∙ sym h')

    binds_con : (k : ConId) (ps : List Pattern) → Each Binds ps → Binds (pattern.Con k ps)
    binds_con k ps b s h g i l =
        let h' = sym (pattern_sort-Con cons vars k ps) ∙ h in
        let g' = sym (ap (tree_sort cons) (pattern_value-Con v k ps) ∙ tree_sort-Con cons k (map (pattern_value v) ps)) ∙ g in
        let p = con_parts (slice_get cons k.0) (map (pattern_sort cons vars) ps) s h' in
        let q = con_parts (slice_get cons k.0) (map (tree_sort cons) (map (pattern_value v) ps)) s g' in
        let same : p.con ≡ q.con = (let r : Some p.con ≡ Some q.con = sym p.is_con ∙ q.is_con in cc) in
        each_binds ps b p.con.args p.sorts (q.sorts ∙ ap (λ (c : Con). map Some c.args) (sym same)) i (subst (λ n. 0 < n) (times-Con i k ps ∙ sum-map (times i) ps) l)

    pub binds : (p : Pattern) → Binds p
    binds = pattern_ind Binds binds_bind (λ x s h g i l. absurd (let n = times-Exact i x in omega arith)) binds_con
