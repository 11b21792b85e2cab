-- Valuations that agree where patterns bind and expressions read: a rule and an item of a cut have at most one for a state.
use Rattle.std.proofs.Common.{arith, ◌≡◌, ℕ, zero, suc, ◌+◌, ◌<◌, ◌≤◌, Bool, true, false, ◌||◌, ◌==◌, if◌then◌else◌, IsTrue, List, [], ◌∷◌, length, map, take, get_or, slice_get, Some, None, All, refl, sym, ap, ◌∙◌, subst, add-one, ◌⊎◌, inl, inr}
use Rattle.std.specs.List.{list_any}
use Rattle.std.proofs.lemmas.Bool.{cases_lt}
use Rattle.std.proofs.lemmas.Bool.Decides.{Decides-eqb}
use Rattle.std.proofs.lemmas.List.{length-map, take_all, ext_get_or, get_or_past}
use Rattle.std.proofs.lemmas.List.Sums.{sum-map, sum_by-cons}
use Rattle.std.proofs.lemmas.Option.{slice_get_cases, slice_get_within, get_or_from_slice_get}
use Rattle.data_value.specs.declared.Op.{Op}
use Rattle.data_value.specs.declared.Scalar.{Scalar}
use Rattle.data_value.specs.declared.Value.{Value}
use Rattle.data_value.specs.Ops.{op_value}
use Rattle.sort_term.specs.declared.ids.ConId.{ConId}
use Rattle.sort_term.specs.declared.semantics.Con.{Con}
use Rattle.sort_term.specs.declared.points.Cut.{Cut}
use Rattle.sort_term.specs.declared.term.Term.TheVariants as term
use Rattle.sort_term.specs.declared.term.Term.TheOpen.{Term-F}
use Rattle.sort_term.specs.declared.term.Term.TheViews.{out-Term, out-roll-Term}
use Rattle.sort_term.specs.declared.rule.Var.{Var}
use Rattle.sort_term.specs.declared.rule.Source.{Source}
use Rattle.sort_term.specs.declared.rule.Source.TheVariants.{Expr, Row as RowOf}
use Rattle.sort_term.specs.declared.rule.Demand.{Demand}
use Rattle.sort_term.specs.declared.rule.Demand.TheVariants.{Let, When}
use Rattle.sort_term.specs.declared.rule.Pattern.{Pattern}
use Rattle.sort_term.specs.declared.rule.Pattern.TheVariants as pattern
use Rattle.sort_term.specs.declared.rule.RuleExpr.{RuleExpr}
use Rattle.sort_term.specs.declared.rule.RuleExpr.TheVariants as expr
use Rattle.sort_term.specs.System.{System}
use Rattle.sort_term.specs.Tree.{Tree, Trees, no_tree, tree_at, plain_of, pattern_value, value}
use Rattle.sort_term.specs.Sorted.{tree_sort, IsValuationOf}
use Rattle.sort_term.specs.Stands.{times, times_in, StandsIn, reads, source_reads, demand_reads, let_patterns}
use Rattle.sort_term.specs.Rules.{IsRule, ReadsBound, AllStandIn}
use Rattle.sort_term.specs.Problems.{IsCut}
use Rattle.sort_term.specs.Step.{Tables, source_value, table_at, word_in, Demanded, Takes}
use Rattle.sort_term.specs.Cuts.{Covers}
use Rattle.sort_term.specs.RunLaws.{OneInstance, OneStep}
use Rattle.sort_term.proofs.Each.{Each}
use Rattle.sort_term.proofs.Equations.{value-Var, value-Lit, value-Op, value-Con, pattern_value-Bind, pattern_value-Con, times-Bind, times-Exact, times-Con, reads-Var, reads-Op, reads-Con}
use Rattle.sort_term.proofs.Induction.{pattern_ind, expr_ind}
use Rattle.sort_term.proofs.Standing.{lets-more}

-- the arguments of a constructor
abbrev children : Term-F Value Tree → List Tree
children (Term-F.Con k ts) = ts
children (Term-F.Plain x) = []

children-Con : (k : ConId) (ts : List Tree) → children (out-Term Value (term.Con k ts)) ≡ ts
children-Con k ts = ap (λ (t : Tree). children (out-Term Value t)) (sym (term.rolls-Con k ts)) ∙ ap children (out-roll-Term Value (Term-F.Con k ts))

pub con_same : (k : ConId) (ts us : List Tree) → term.Con k ts ≡ term.Con k us → ts ≡ us
con_same k ts us h = sym (children-Con k ts) ∙ ap (λ (t : Tree). children (out-Term Value t)) h ∙ children-Con k us

-- a sum above 0 has a part above 0
part_above : (P : Type 0) (a b : ℕ) → 0 < a + b → (0 < a → P) → (0 < b → P) → P
part_above P a b h f g = go (cases_lt 0 a)
  where
    go : (0 < a) ⊎ (a ≤ 0) → P
    go (inl l) = f l
    go (inr l) = g (omega arith)

either_in : (P : Type 0) (i : ℕ) (p : Pattern) (ps : List Pattern) → 0 < times_in i (p ∷ ps) → (0 < times i p → P) → (0 < times_in i ps → P) → P
either_in P i p ps h f g = part_above P (times i p) (times_in i ps) (subst (λ n. 0 < n) (sum_by-cons (times i) p ps) h) f g

only_in : (i : ℕ) (p : Pattern) → 0 < times_in i (p ∷ []) → 0 < times i p
only_in i p h = either_in (0 < times i p) i p [] h (λ l. l) (λ l. absurd (omega arith))

if_above : (i j : ℕ) → 0 < (if i == j then 1 else 0) → i ≡ j
if_above i j h = (Decides-eqb i j).0 (go (i == j) h)
  where
    go : (b : Bool) → 0 < (if b then 1 else 0) → b ≡ true
    go true l = refl
    go false l = absurd (omega arith)

second_true : (a b : Bool) → b ≡ true → (a || b) ≡ true
second_true true b h = refl
second_true false b h = h

module _ (v w : Trees) where
  -- both valuations give the variable i one tree
  abbrev pub AgreeAt : ℕ → Type 0
  AgreeAt i = tree_at v i ≡ tree_at w i

  abbrev pub Tells : Pattern → Type 0
  Tells p = pattern_value v p ≡ pattern_value w p → (i : ℕ) → 0 < times i p → AgreeAt i

  each_tells : (ps : List Pattern) → map (pattern_value v) ps ≡ map (pattern_value w) ps → Each Tells ps → (i : ℕ) → 0 < times_in i ps → AgreeAt i
  each_tells [] h e i l = absurd (omega arith)
  each_tells (p ∷ ps) h e i l =
      let h0 : pattern_value v p ≡ pattern_value w p = cc in
      let h1 : map (pattern_value v) ps ≡ map (pattern_value w) ps = cc in
      either_in (AgreeAt i) i p ps l (e.0 h0 i) (each_tells ps h1 e.1 i)

  tells_bind : (j : ℕ) → Tells (pattern.Bind j)
  tells_bind j h i l =
      let e : i ≡ j = if_above i j (subst (λ n. 0 < n) (times-Bind i j) l) in
      subst AgreeAt (sym e) (sym (pattern_value-Bind v j) ∙ h ∙ pattern_value-Bind w j)

  tells_exact : (x : Scalar) → Tells (pattern.Exact x)
  tells_exact x h i l = absurd (let n = times-Exact i x in omega arith)

  tells_con : (k : ConId) (ps : List Pattern) → Each Tells ps → Tells (pattern.Con k ps)
  tells_con k ps e h i l =
      let same = sym (pattern_value-Con v k ps) ∙ h ∙ pattern_value-Con w k ps in
      each_tells ps (con_same k (map (pattern_value v) ps) (map (pattern_value w) ps) same) e i (subst (λ n. 0 < n) (times-Con i k ps ∙ sum-map (times i) ps) l)

  -- a pattern's value determines the tree of each variable in it
  pub tells : (p : Pattern) → Tells p
  tells = pattern_ind Tells tells_bind tells_exact tells_con

  -- an expression's value depends on the variables that it reads
  abbrev pub Follows : RuleExpr → Type 0
  Follows e = ((i : ℕ) → IsTrue (reads i e) → AgreeAt i) → value v e ≡ value w e

  each_follows : (es : List RuleExpr) → Each Follows es → ((i : ℕ) → IsTrue (list_any (λ part. part) (map (reads i) es)) → AgreeAt i) → map (value v) es ≡ map (value w) es
  each_follows [] f a = refl
  each_follows (e ∷ es) f a =
      let first : value v e ≡ value w e = f.0 (λ i r. a i (ap (λ b. b || list_any (λ part. part) (map (reads i) es)) r)) in
      let rest : map (value v) es ≡ map (value w) es = each_follows es f.1 (λ i r. a i (second_true (reads i e) (list_any (λ part. part) (map (reads i) es)) r)) in
      cc

  follows_var : (j : ℕ) → Follows (expr.Var j)
  follows_var j a = value-Var v j ∙ a j (reads-Var j j ∙ (Decides-eqb j j).1 refl) ∙ sym (value-Var w j)

  follows_op : (op : Op) (es : List RuleExpr) → Each Follows es → Follows (expr.Op op es)
  follows_op op es f a =
      let same = each_follows es f (λ i r. a i (reads-Op i op es ∙ r)) in
      value-Op v op es ∙ ap (λ ts. term.Plain (op_value op (map plain_of ts))) same ∙ sym (value-Op w op es)

  follows_con : (k : ConId) (es : List RuleExpr) → Each Follows es → Follows (expr.Con k es)
  follows_con k es f a =
      let same = each_follows es f (λ i r. a i (reads-Con i k es ∙ r)) in
      value-Con v k es ∙ ap (term.Con k) same ∙ sym (value-Con w k es)

  pub follows : (e : RuleExpr) → Follows e
  follows = expr_ind Follows follows_var (λ x a. value-Lit v x ∙ sym (value-Lit w x)) follows_op follows_con

  -- so does what stands right of a `let`
  pub source_follows : (tables : Tables) (s : Source) → ((i : ℕ) → IsTrue (source_reads i s) → AgreeAt i) → source_value tables v s ≡ source_value tables w s
  source_follows tables (Expr e) a = ap Some (follows e a)
  source_follows tables (RowOf t e) a = ap (λ x. table_at (slice_get tables t.0) (word_in x)) (follows e a)

  -- a `let` carries agreement from what its right side reads to its pattern
  let_tells : (tables : Tables) (p : Pattern) (s : Source) → Demanded tables v (Let p s) → Demanded tables w (Let p s) → ((i : ℕ) → IsTrue (source_reads i s) → AgreeAt i) → (i : ℕ) → 0 < times i p → AgreeAt i
  let_tells tables p s dv dw a =
      let same : Some (pattern_value v p) ≡ Some (pattern_value w p) = sym dv ∙ source_follows tables s a ∙ dw in
      tells p (cc)

-- the tree of a number that is none of a variable
past : (v w : Trees) (i : ℕ) → length v ≤ i → length w ≤ i → AgreeAt v w i
past v w i l m = get_or_past v i no_tree l ∙ sym (get_or_past w i no_tree m)

pub fits_long : (cons : List Con) (vars : List Var) (v : Trees) → IsValuationOf cons vars v → length v ≡ length vars
fits_long cons vars v h = sym (length-map v (tree_sort cons)) ∙ ap length h ∙ length-map vars (λ (x : Var). Some x.sort)

module _ (cons : List Con) (vars : List Var) (v w : Trees) (fv : IsValuationOf cons vars v) (fw : IsValuationOf cons vars w) where
  -- valuations of variables that agree at each of them are equal
  pub same_trees : ((i : ℕ) → i < length vars → AgreeAt v w i) → v ≡ w
  same_trees a =
      let l = fits_long cons vars v fv in
      let m = fits_long cons vars w fw in
      ext_get_or no_tree v w (l ∙ sym m) (λ i k. a i (omega arith))

  -- valuations of a rule that passed its checks, with one value of the head, agree
  module _ (tables : Tables) (head : Pattern) (ds : List Demand) (heads : pattern_value v head ≡ pattern_value w head) (dv : All (Demanded tables v) ds) (dw : All (Demanded tables w) ds) (bound : ReadsBound vars head ds) where
    -- on the variables of the head and of the first `let`s
    abbrev AgreeBy : ℕ → Type 0
    AgreeBy k = (i : ℕ) → StandsIn i (head ∷ let_patterns (take k ds)) → AgreeAt v w i

    -- and so on what the next demand reads
    reads_agree : (k : ℕ) (d : Demand) → slice_get ds k ≡ Some d → AgreeBy k → (i : ℕ) → IsTrue (demand_reads i d) → AgreeAt v w i
    reads_agree k d there a i r = go (cases_lt i (length vars))
      where
        go : (i < length vars) ⊎ (length vars ≤ i) → AgreeAt v w i
        go (inl l) = a i (bound.each k d there i l r)
        go (inr l) =
            let m = fits_long cons vars v fv in
            let n = fits_long cons vars w fw in
            past v w i (omega arith) (omega arith)

    demand_tells : (k : ℕ) (d : Demand) → slice_get ds k ≡ Some d → Demanded tables v d → Demanded tables w d → AgreeBy k → (i : ℕ) → 0 < times_in i (let_patterns (d ∷ [])) → AgreeAt v w i
    demand_tells k (Let p s) there hv hw a i l = let_tells v w tables p s hv hw (reads_agree k (Let p s) there a) i (only_in i p l)
    demand_tells k (When e) there hv hw a i l = absurd (omega arith)

    head_tells : (i : ℕ) → 0 < times i head → AgreeAt v w i
    head_tells = tells v w head heads

    lets_tell : (k : ℕ) (d : Demand) → k < length ds → slice_get ds k ≡ Some d → get_or ds k d ≡ d → AgreeBy k → (i : ℕ) → 0 < times_in i (let_patterns (take (k + 1) ds)) → AgreeAt v w i
    lets_tell k d l there e a i h =
        let before = let_patterns (take k ds) in
        let hv : Demanded tables v d = subst (Demanded tables v) e (dv k d l) in
        let hw : Demanded tables w d = subst (Demanded tables w) e (dw k d l) in
        let sum = lets-more i ds k d l (sym e) in
        part_above (AgreeAt v w i) (times_in i before) (times_in i (let_patterns (d ∷ []))) (subst (λ n. 0 < n) sum h) (λ m. a i (subst (λ n. 0 < n) (sym (sum_by-cons (times i) head before)) (omega arith))) (demand_tells k d there hv hw a i)

    agree_more : (k : ℕ) → k < length ds → AgreeBy k → AgreeBy (k + 1)
    agree_more k l a i h = either_in (AgreeAt v w i) i head (let_patterns (take (k + 1) ds)) h (head_tells i) (found (slice_get_cases ds k).1)
      where
        found : ((d : Demand) × (k < length ds) × (slice_get ds k ≡ Some d) × (get_or ds k d ≡ d)) ⊎ ((length ds ≤ k) × (slice_get ds k ≡ None)) → 0 < times_in i (let_patterns (take (k + 1) ds)) → AgreeAt v w i
        found (inl x) m = lets_tell k x.0 x.1 x.2 x.3 a i m
        found (inr x) m = let past_end = x.0 in absurd (omega arith)

    agree_by : (k : ℕ) → k ≤ length ds → AgreeBy k
    agree_by zero l = λ i h. head_tells i (only_in i head h)
    agree_by (suc k) l = subst AgreeBy (add-one k) (agree_more k (omega arith) (agree_by k (omega arith)))

    pub agree_all : AllStandIn vars (head ∷ let_patterns ds) → v ≡ w
    agree_all stand =
        same_trees (λ i l.
        agree_by (length ds) (omega arith) i (subst (λ qs. StandsIn i (head ∷ let_patterns qs)) (sym (take_all (length ds) ds (omega arith))) (stand.each i l)))

pub one_instance : OneInstance
one_instance cons declared config r h tables v w s t u a b =
    let heads : pattern_value v r.head ≡ pattern_value w r.head = a.head ∙ sym b.head in
    let same : v ≡ w = agree_all cons r.vars v w a.fits b.fits tables r.head r.demands heads a.demands b.demands h.bound.reads h.bound.all in
    (same, sym a.result ∙ ap (λ x. value x r.result) same ∙ b.result)

pub one_step : OneStep
one_step sys h tables n s t u a b =
    let rules : Some a.rule ≡ Some b.rule = sym a.there ∙ b.there in
    let same : a.rule ≡ b.rule = cc in
    let checked : IsRule sys.cons sys.tables sys.config b.rule = subst (IsRule sys.cons sys.tables sys.config) (get_or_from_slice_get sys.rules n b.rule b.rule b.there) (h.rules_pass.each n b.rule (slice_get_within sys.rules n b.rule b.there)) in
    let first : Takes sys.cons tables b.rule a.valuation s t = subst (λ r. Takes sys.cons tables r a.valuation s t) same a.takes in
    (one_instance sys.cons sys.tables sys.config b.rule checked tables a.valuation b.valuation s t u first b.takes).1

-- an item of a cut covers a state under at most one valuation
pub one_cover : {S : Type 0} (sys : System) (item : Cut S) → IsCut sys item → (v w : Trees) (s : Tree) → Covers sys.cons item v s → Covers sys.cons item w s → v ≡ w
one_cover sys item h v w s a b =
    same_trees sys.cons item.vars v w a.fits b.fits (λ i l. tells v w item.pattern (a.pattern ∙ sym b.pattern) i (only_in i item.pattern (h.bound.each i l)))
