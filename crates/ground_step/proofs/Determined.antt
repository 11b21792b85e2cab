-- What a tree determines of the variables of a term that has it as its value.
use Rattle.std.proofs.Common.{arith, ◌≡◌, ℕ, zero, suc, ◌+◌, ◌<◌, ◌≤◌, Bool, true, false, ◌||◌, IsTrue, List, [], ◌∷◌, ◌++◌, length, map, take, get_or, slice_get, Option, Some, None, All, refl, sym, ap, ◌∙◌, subst, ◌⊎◌, inl, inr}
use Rattle.std.specs.List.{list_any}
use Rattle.std.proofs.lemmas.Bool.{or_left, or_right}
use Rattle.std.proofs.lemmas.Bool.Decides.{Decides-eqb}
use Rattle.std.proofs.lemmas.List.{take_more, length-take-le, map-append}
use Rattle.std.proofs.lemmas.Option.{slice_get_cases, slice_get_within}
use Rattle.data_value.specs.declared.Op.{Op}
use Rattle.data_value.specs.declared.Scalar.TheVariants.{Flag}
use Rattle.data_value.specs.declared.Value.{Value}
use Rattle.data_value.specs.declared.Value.TheVariants.{One}
use Rattle.sort_term.specs.declared.ids.ConId.{ConId}
use Rattle.sort_term.specs.declared.term.Sort.{Sort}
use Rattle.sort_term.specs.declared.term.Term.TheVariants as term
use Rattle.sort_term.specs.declared.semantics.Con.{Con}
use Rattle.sort_term.specs.declared.rule.Var.{Var}
use Rattle.sort_term.specs.declared.rule.RuleExpr.{RuleExpr}
use Rattle.sort_term.specs.declared.rule.RuleExpr.TheVariants as expr
use Rattle.sort_term.specs.Tree.{Tree, Trees, no_tree, tree_at, value}
use Rattle.sort_term.specs.Sorted.{tree_sort, expr_sort}
use Rattle.sort_term.specs.Stands.{reads, argument_of}
use Rattle.sort_term.proofs.Agreeing.{con_same}
use Rattle.sort_term.proofs.Arguments.{op_no_argument}
use Rattle.sort_term.proofs.Equations.{value-Var, value-Con, expr_sort-Var, expr_sort-Con, tree_sort-Con, reads-Var, reads-Con, argument_of-Var, argument_of-Lit, argument_of-Op, argument_of-Con}
use Rattle.ground_step.specs.GroundBinds.{AgreesGround, Restricts}
use Rattle.ground_step.specs.Ready.{IsKnown}
use Rattle.ground_step.specs.Fit.{ReadsWithin, is_part, is_part_of, Determines, DeterminesAll}
use Rattle.ground_step.proofs.Bound.{agrees_at, fill, fill_agrees, fill_at, parts_of}
use Rattle.ground_step.proofs.Lists.{last_same}
use Rattle.sort_term.proofs.Parts.{con_parts}

-- what is read in one of several expressions
any_at : (i : ℕ) (es : List RuleExpr) (k : ℕ) (d : RuleExpr) → k < length es → IsTrue (reads i (get_or es k d)) → IsTrue (list_any (λ part. part) (map (reads i) es))
any_at i [] k d l h = absurd (omega arith)
any_at i (e ∷ es) zero d l h = or_left (reads i e) _ h
any_at i (e ∷ es) (suc k) d l h = or_right (reads i e) _ (any_at i es k d (omega arith) h)

-- a variable to which all valuations that agree give one tree is bound to it
pub is_bound : (bs : List (Option Tree)) (i : ℕ) (t : Tree) → i < length bs → ((v : Trees) → AgreesGround bs v → tree_at v i ≡ t) → slice_get bs i ≡ Some (Some t)
is_bound bs i t l same = go (slice_get bs i) refl
  where
    other : Tree
    other = term.Plain (One (Flag true))

    differ : no_tree ≡ term.Plain (One (Flag true)) → ⊥
    differ h = cc

    go : (o : Option (Option Tree)) → slice_get bs i ≡ o → slice_get bs i ≡ Some (Some t)
    go (Some (Some x)) e = let q : x ≡ t = agrees_at bs (fill no_tree bs) i x (fill_agrees no_tree bs) e ∙ same (fill no_tree bs) (fill_agrees no_tree bs) in e ∙ ap (λ y. Some (Some y)) q
    go (Some None) e = absurd (differ (sym (fill_at no_tree bs i e) ∙ same (fill no_tree bs) (fill_agrees no_tree bs) ∙ sym (same (fill other bs) (fill_agrees other bs)) ∙ fill_at other bs i e))
    go None e = absurd (past (slice_get_cases bs i).1)
      where
        past : ((x : Option Tree) × (i < length bs) × (slice_get bs i ≡ Some x) × (get_or bs i x ≡ x)) ⊎ ((length bs ≤ i) × (slice_get bs i ≡ None)) → ⊥
        past (inl y) = let q : Some y.0 ≡ None = sym y.2 ∙ e in cc
        past (inr y) = let m : length bs ≤ i = y.0 in absurd (omega arith)

-- what is known stays known
pub stays_known : (cons : List Con) (vars : List Var) (old new : List (Option Tree)) (i : ℕ) → length new ≡ length old → ((v : Trees) → AgreesGround new v → AgreesGround old v) → IsKnown cons vars old i → IsKnown cons vars new i
stays_known cons vars old new i l h k =
    let m = slice_get_within old i (Some k.tree) k.there in
    record { tree = k.tree; there = is_bound new i k.tree (omega arith) (λ v a. sym (agrees_at old v i k.tree (h v a) k.there)); sorted = k.sorted }

pub var_reads : (n i : ℕ) → ReadsWithin n (expr.Var i) → i < n
var_reads n i w = w.below i (reads-Var i i ∙ (Decides-eqb i i).1 refl)

pub con_reads : (n : ℕ) (k : ConId) (es : List RuleExpr) → ReadsWithin n (expr.Con k es) → All (ReadsWithin n) es
con_reads n k es w j d l = record { below = λ i h. w.below i (reads-Con i k es ∙ any_at i es j d l h) }

second_of : (a b : Bool) → IsTrue (a || b) → a ≡ false → IsTrue b
second_of true b h e = absurd (cc)
second_of false b h e = h

first_of : (a b : Bool) → IsTrue (a || b) → b ≡ false → IsTrue a
first_of true b h e = refl
first_of false b h e = absurd (let q : false ≡ true = sym e ∙ h in cc)

module _ (cons : List Con) (vars : List Var) (i : ℕ) where
  pub op_no_part : (op : Op) (es : List RuleExpr) (s : Sort) → expr_sort cons vars (expr.Op op es) ≡ Some s → ¬ IsTrue (is_part i (expr.Op op es))
  op_no_part op es s h t =
      let a : (argument_of i (expr.Op op es)).0 ≡ false = ap (λ (x : Bool × Bool). x.0) (argument_of-Op i op es) in
      let b = op_no_argument cons vars i op es s h in
      let q : false ≡ true = sym b ∙ second_of (argument_of i (expr.Op op es)).0 (argument_of i (expr.Op op es)).1 t a in
      cc

pub lit_no_part : (i : ℕ) (x : Value) → ¬ IsTrue (is_part i (expr.Lit x))
lit_no_part i x t =
    let e = argument_of-Lit i x in
    let q : false ≡ true = sym (ap (λ (y : Bool × Bool). y.1) e) ∙ second_of (argument_of i (expr.Lit x)).0 (argument_of i (expr.Lit x)).1 t (ap (λ (y : Bool × Bool). y.0) e) in
    cc

pub determines_var : (old new : List (Option Tree)) (ok : Bool) (i : ℕ) (t : Tree) → i < length old → Restricts old new ok (λ v. tree_at v i ≡ t) → Determines old new ok (expr.Var i) t
determines_var old new ok i t l n = record {
  keeps = n.keeps;
  sound = λ v a y. (n.sound v a y).0;
  complete = λ v a e. n.complete v a (sym (value-Var v i) ∙ e);
  known = λ y cons vars s h g j part.
      let e = argument_of-Var j i in
      let is : j ≡ i = (Decides-eqb j i).0 (sym (ap (λ (x : Bool × Bool). x.0) e) ∙ first_of (argument_of j (expr.Var i)).0 (argument_of j (expr.Var i)).1 part (ap (λ (x : Bool × Bool). x.1) e)) in
      let m = n.keeps in
      subst (IsKnown cons vars new) (sym is) (record {
        tree = t;
        there = is_bound new i t (omega arith) (λ v a. (n.sound v a y).1);
        sorted = g ∙ sym h ∙ expr_sort-Var cons vars i;
      });
}

pub determines_lit : (bs : List (Option Tree)) (x : Value) (t : Tree) → Determines bs bs true (expr.Lit x) t
determines_lit bs x t = record {
  keeps = refl;
  sound = λ v a y. a;
  complete = λ v a e. (refl, a);
  known = λ y cons vars s h g i part. absurd (lit_no_part i x part);
}

pub determines_op : (bs : List (Option Tree)) (op : Op) (es : List RuleExpr) (t : Tree) → Determines bs bs true (expr.Op op es) t
determines_op bs op es t = record {
  keeps = refl;
  sound = λ v a y. a;
  complete = λ v a e. (refl, a);
  known = λ y cons vars s h g i part. absurd (op_no_part cons vars i op es s h part);
}

pub determines_con : (old new : List (Option Tree)) (ok : Bool) (k : ConId) (es : List RuleExpr) (ts : Trees) → DeterminesAll old new ok es ts → Determines old new ok (expr.Con k es) (term.Con k ts)
determines_con old new ok k es ts d = record {
  keeps = d.keeps;
  sound = d.sound;
  complete = λ v a e. d.complete v a (con_same k (map (value v) es) ts (sym (value-Con v k es) ∙ e));
  known = λ y cons vars s h g i part.
      let p = con_parts (slice_get cons k.0) (map (expr_sort cons vars) es) s (sym (expr_sort-Con cons vars k es) ∙ h) in
      let q = con_parts (slice_get cons k.0) (map (tree_sort cons) ts) s (sym (tree_sort-Con cons k ts) ∙ g) in
      let same : p.con ≡ q.con = (let r : Some p.con ≡ Some q.con = sym p.is_con ∙ q.is_con in cc) in
      let e = argument_of-Con i k es in
      let inner : IsTrue (is_part_of i es) = sym (ap (λ (x : Bool × Bool). x.1) e) ∙ second_of (argument_of i (expr.Con k es)).0 (argument_of i (expr.Con k es)).1 part (ap (λ (x : Bool × Bool). x.0) e) in
      d.known y cons vars p.con.args p.sorts (q.sorts ∙ ap (λ (c : Con). map Some c.args) (sym same)) i inner;
}

-- no valuation gives this value
pub determines_none : (bs : List (Option Tree)) (e : RuleExpr) (t : Tree) → ((v : Trees) → ¬ (value v e ≡ t)) → Determines bs bs false e t
determines_none bs e t h = record {
  keeps = refl;
  sound = λ v a y. a;
  complete = λ v a q. absurd (h v q);
  known = λ y. absurd (cc);
}

pub all_none : (bs : List (Option Tree)) → DeterminesAll bs bs true [] []
all_none bs = record { keeps = refl; sound = λ v a y. a; complete = λ v a e. (refl, a); known = λ y cons vars ss h g i part. absurd (cc) }

pub all_apart : (bs : List (Option Tree)) (es : List RuleExpr) (ts : Trees) → ((v : Trees) → ¬ (map (value v) es ≡ ts)) → DeterminesAll bs bs false es ts
all_apart bs es ts h = record { keeps = refl; sound = λ v a y. a; complete = λ v a e. absurd (h v e); known = λ y. absurd (cc) }

record LastSorts {A B : Type 0} (f : A → Option Sort) (g : B → Option Sort) (es : List A) (ts : List B) (e : A) (t : B) : Type 0 where
  fronts : List Sort
  back : Sort
  es_front : map f es ≡ map Some fronts
  ts_front : map g ts ≡ map Some fronts
  e_back : f e ≡ Some back
  t_back : g t ≡ Some back

last_sorts : {A B : Type 0} (f : A → Option Sort) (g : B → Option Sort) (es : List A) (ts : List B) (e : A) (t : B) (ss : List Sort) → length es ≡ length ts → map f (es ++ e ∷ []) ≡ map Some ss → map g (ts ++ t ∷ []) ≡ map Some ss → LastSorts f g es ts e t
last_sorts f g [] [] e t [] l h k = absurd (cc)
last_sorts f g [] [] e t (s ∷ ss) l h k = record { fronts = []; back = s; es_front = refl; ts_front = refl; e_back = cc; t_back = cc }
last_sorts f g [] (u ∷ ts) e t ss l h k = absurd (omega arith)
last_sorts f g (x ∷ es) [] e t ss l h k = absurd (omega arith)
last_sorts f g (x ∷ es) (u ∷ ts) e t [] l h k = absurd (cc)
last_sorts f g (x ∷ es) (u ∷ ts) e t (s ∷ ss) l h k =
    let a : f x ≡ Some s = cc in
    let b : g u ≡ Some s = cc in
    let h' : map f (es ++ e ∷ []) ≡ map Some ss = cc in
    let k' : map g (ts ++ t ∷ []) ≡ map Some ss = cc in
    let r = last_sorts f g es ts e t ss (omega arith) h' k' in
    let m : map f es ≡ map Some r.fronts = r.es_front in
    let n : map g ts ≡ map Some r.fronts = r.ts_front in
    record { fronts = s ∷ r.fronts; back = r.back; es_front = cc; ts_front = cc; e_back = r.e_back; t_back = r.t_back }

last_part : (i : ℕ) (es : List RuleExpr) (e : RuleExpr) → IsTrue (is_part_of i (es ++ e ∷ [])) → IsTrue (is_part_of i es) ⊎ IsTrue (is_part i e)
last_part i [] e h = inr (first_of (is_part i e) false h refl)
last_part i (x ∷ es) e h = go (is_part i x) refl h (last_part i es e)
  where
    go : (b : Bool) → is_part i x ≡ b → IsTrue (b || is_part_of i (es ++ e ∷ [])) → (IsTrue (is_part_of i (es ++ e ∷ [])) → IsTrue (is_part_of i es) ⊎ IsTrue (is_part i e)) → IsTrue (is_part_of i (x ∷ es)) ⊎ IsTrue (is_part i e)
    go true q t more = inl (ap (λ b. b || is_part_of i es) q)
    go false q t more = turn (more t)
      where
        turn : IsTrue (is_part_of i es) ⊎ IsTrue (is_part i e) → IsTrue (is_part_of i (x ∷ es)) ⊎ IsTrue (is_part i e)
        turn (inl y) = inl (ap (λ b. b || is_part_of i es) q ∙ y)
        turn (inr y) = inr y

module _ (old mid new : List (Option Tree)) where
  all_push : (es : List RuleExpr) (ts : Trees) (e : RuleExpr) (t : Tree) → length es ≡ length ts → DeterminesAll old mid true es ts → Determines mid new true e t → DeterminesAll old new true (es ++ e ∷ []) (ts ++ t ∷ [])
  all_push es ts e t l d k = record {
    keeps = k.keeps ∙ d.keeps;
    sound = λ v a y. d.sound v (k.sound v a y) refl;
    complete = λ v a h.
        let r = last_same (map (value v) es) ts (value v e) t (sym (map-append (value v) es (e ∷ [])) ∙ h) in
        k.complete v (d.complete v a r.0).1 r.1;
    known = λ y cons vars ss h g i part.
        let s = last_sorts (expr_sort cons vars) (tree_sort cons) es ts e t ss l h g in
        known_either cons vars i s (last_part i es e part);
  }
    where
      known_either : (cons : List Con) (vars : List Var) (i : ℕ) → LastSorts (expr_sort cons vars) (tree_sort cons) es ts e t → IsTrue (is_part_of i es) ⊎ IsTrue (is_part i e) → IsKnown cons vars new i
      known_either cons vars i s (inl p) = stays_known cons vars mid new i k.keeps (λ v a. k.sound v a refl) (d.known refl cons vars s.fronts s.es_front s.ts_front i p)
      known_either cons vars i s (inr p) = k.known refl cons vars s.back s.e_back s.t_back i p

  module _ (es : List RuleExpr) (ts : Trees) (i : ℕ) (e : RuleExpr) (t : Tree) (same : length es ≡ length ts) (l : i < length es) (ie : e ≡ get_or es i e) (it : t ≡ get_or ts i t) (d : DeterminesAll old mid true (take i es) (take i ts)) where
    pub all_more : Determines mid new true e t → DeterminesAll old new true (take (i + 1) es) (take (i + 1) ts)
    all_more k =
        let p : take (i + 1) es ≡ take i es ++ e ∷ [] = take_more es i e l ∙ ap (λ z. take i es ++ z ∷ []) (sym ie) in
        let m : i < length ts = omega arith in
        let q : take (i + 1) ts ≡ take i ts ++ t ∷ [] = take_more ts i t m ∙ ap (λ z. take i ts ++ z ∷ []) (sym it) in
        let long : length (take i es) ≡ length (take i ts) = length-take-le i es (omega arith) ∙ sym (length-take-le i ts (omega arith)) in
        subst (λ us. DeterminesAll old new true (take (i + 1) es) us) (sym q) (subst (λ xs. DeterminesAll old new true xs (take i ts ++ t ∷ [])) (sym p) (all_push (take i es) (take i ts) e t long d k))

    pub all_stop : Determines mid new false e t → DeterminesAll old new false es ts
    all_stop k = record {
      keeps = k.keeps ∙ d.keeps;
      sound = λ v a y. absurd (cc);
      complete = λ v a h.
          let r = parts_of (value v) es ts i e t ie it l h in
          let q : false ≡ true = (k.complete v (d.complete v a r.0).1 r.1).0 in
          absurd (cc);
      known = λ y. absurd (cc);
    }
