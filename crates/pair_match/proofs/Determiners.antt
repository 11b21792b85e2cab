-- What is determined of the variables of an expression, from its parts.
use Rattle.std.proofs.Common.{arith, ◌≡◌, ℕ, zero, suc, ◌+◌, ◌<◌, Bool, true, false, ◌||◌, IsTrue, List, [], ◌∷◌, ◌++◌, length, map, take, get_or, slice_get, slice_set, Option, Some, None, IsSome, refl, sym, ap, ◌∙◌, subst, ◌⊎◌, inl, inr}
use Rattle.std.specs.Prelude.{option_map}
use Rattle.std.specs.List.{list_any}
use Rattle.std.proofs.lemmas.Bool.Decides.{Decides-eqb}
use Rattle.std.proofs.Math.Bool.{or-false}
use Rattle.std.proofs.lemmas.List.{length-map, length-take-le, map-append, map-set, same_from_push}
use Rattle.std.proofs.lemmas.List.Folds.{list_any-append}
use Rattle.data_value.specs.declared.Op.{Op}
use Rattle.data_value.specs.declared.Value.{Value}
use Rattle.data_value.specs.Nodes.{Seen}
use Rattle.sort_term.specs.declared.ids.ConId.{ConId}
use Rattle.sort_term.specs.declared.term.Sort.{Sort}
use Rattle.sort_term.specs.declared.term.Term.{Term}
use Rattle.sort_term.specs.declared.term.Term.TheVariants as term
use Rattle.sort_term.specs.declared.semantics.Con.{Con}
use Rattle.sort_term.specs.declared.rule.Var.{Var}
use Rattle.sort_term.specs.declared.rule.RuleExpr.{RuleExpr}
use Rattle.sort_term.specs.declared.rule.RuleExpr.TheVariants as expr
use Rattle.sort_term.specs.Tree.{Trees, tree_at, value}
use Rattle.sort_term.specs.Sorted.{var_sort, expr_sort}
use Rattle.sort_term.specs.Stands.{argument_of, is_argument, reads}
use Rattle.sort_term.specs.NodeTerms.{seen_term, seen_sort, tree_of}
use Rattle.sort_term.proofs.Arguments.{either_true, op_no_argument}
use Rattle.sort_term.proofs.Declared.{declares}
use Rattle.sort_term.proofs.Equations.{value-Var, value-Con, reads-Var, argument_of-Var, argument_of-Lit, argument_of-Op, argument_of-Con}
use Rattle.sort_term.proofs.NodeTerming.{seen-Con, tree_of-Con}
use Rattle.unify.specs.Binds.{Bound, seen_binds, bound_at, IsBound, AreBinds, Agrees}
use Rattle.unify.proofs.Binding.{set_here, set_before, set_after, set_long}
use Rattle.unify.proofs.Nodes.{cons_same}
use Rattle.pair_match.specs.Clash.{ClashSomewhere, ClashAnywhere}
use Rattle.pair_match.specs.Determines.{Determines, DeterminesAll, Determined, AllDetermined}
use Rattle.pair_match.proofs.Arguments.{items_more, images_more}
use Rattle.pair_match.proofs.Clashes.{var_clear, lit_clear, op_clear, heads_clash, parts_clash, clash_parts}

-- what is bound stays so where the terms stay
pub stays_bound : {X : Type 0} (old new : List (Option X)) (i : ℕ) → ((t : X) → bound_at old i ≡ Some t → bound_at new i ≡ Some t) → IsBound old i → IsBound new i
stays_bound {X} old new i keeps h = go (bound_at old i) refl h
  where
    go : (o : Option X) → bound_at old i ≡ o → IsSome o → IsBound new i
    go None e k = absurd (cc)
    go (Some t) e k = subst IsSome (sym (keeps t e)) refl

-- the variable that a variable is
var_itself : (i j : ℕ) → IsTrue (argument_of j (expr.Var i)).0 → j ≡ i
var_itself i j h = (Decides-eqb j i).0 (sym (ap (λ (x : Bool × Bool). x.0) (argument_of-Var j i)) ∙ h)

var_no_argument : (i j : ℕ) → IsTrue (is_argument j (expr.Var i)) → ⊥
var_no_argument i j h = let q : false ≡ true = sym (ap (λ (x : Bool × Bool). x.1) (argument_of-Var j i)) ∙ h in cc

-- a variable that has a sort is declared
pub var_within : (cons : List Con) (vars : List Var) (e : RuleExpr) (i : ℕ) → e ≡ expr.Var i → IsSome (expr_sort cons vars e) → i < length vars
var_within cons vars e i is h = declares cons vars e h i (ap (reads i) is ∙ reads-Var i i ∙ (Decides-eqb i i).1 refl)

module _ {N : Type 0} (cons : List Con) (vars : List Var) where
  -- a variable that is bound already
  pub determines_bound : (bs : Bound N) (i : ℕ) (t u : Term (Seen N)) → AreBinds cons vars bs → bound_at bs i ≡ Some u → Determines cons vars (expr.Var i) t bs bs
  determines_bound bs i t u lawful there = record {
    clear = var_clear t i;
    lawful = lawful;
    keeps = λ j x h. h;
    itself = λ j h. subst (IsBound bs) (sym (var_itself i j h)) (subst IsSome (sym there) refl);
    arguments = λ j h. absurd (var_no_argument i j h);
    complete = λ v w a e. a;
  }

  -- a variable that was free
  module _ (bs : Bound N) (i : ℕ) (s : Term (Seen N)) (within : i < length vars) (sorted : seen_sort cons s ≡ var_sort vars i) (lawful : AreBinds cons vars bs) (free : bound_at bs i ≡ None) where
    inside : i < length bs
    inside = let l = lawful.long in omega arith

    new_sorted : (j : ℕ) (t : Term (Seen N)) → (bound_at bs j ≡ Some t) ⊎ ((j ≡ i) × (t ≡ s)) → seen_sort cons t ≡ var_sort vars j
    new_sorted j t (inl e) = lawful.sorted j t e
    new_sorted j t (inr e) = ap (seen_sort cons) e.1 ∙ sorted ∙ ap (var_sort vars) (sym e.0)

    new_agrees : (v : List Value) (w : Trees) → Agrees v bs w → tree_at w i ≡ tree_of v s → (j : ℕ) (t : Term (Seen N)) → (bound_at bs j ≡ Some t) ⊎ ((j ≡ i) × (t ≡ s)) → tree_at w j ≡ tree_of v t
    new_agrees v w a here j t (inl e) = a.at j t e
    new_agrees v w a here j t (inr e) = ap (tree_at w) e.0 ∙ here ∙ ap (tree_of v) (sym e.1)

    pub determines_free : Determines cons vars (expr.Var i) s bs (slice_set bs i (Some s))
    determines_free = record {
      clear = var_clear s i;
      lawful = record { long = set_long bs i (Some s) ∙ lawful.long; sorted = λ j t h. new_sorted j t (set_after bs i s j t h) };
      keeps = λ j t h. set_before bs i s free j t h;
      itself = λ j h. subst (IsBound (slice_set bs i (Some s))) (sym (var_itself i j h)) (subst IsSome (sym (set_here bs i s inside)) refl);
      arguments = λ j h. absurd (var_no_argument i j h);
      complete = λ v w a e. record { at = λ j t h. new_agrees v w a (sym (value-Var w i) ∙ e) j t (set_after bs i s j t h) };
    }

  -- a literal and an operator have no constructors
  pub determines_lit : (bs : Bound N) (x : Value) (t : Term (Seen N)) → AreBinds cons vars bs → Determines cons vars (expr.Lit x) t bs bs
  determines_lit bs x t lawful = record {
    clear = lit_clear t x;
    lawful = lawful;
    keeps = λ j u h. h;
    itself = λ j h. absurd (let q : false ≡ true = sym (ap (λ (y : Bool × Bool). y.0) (argument_of-Lit j x)) ∙ h in cc);
    arguments = λ j h. absurd (let q : false ≡ true = sym (ap (λ (y : Bool × Bool). y.1) (argument_of-Lit j x)) ∙ h in cc);
    complete = λ v w a e. a;
  }

  pub determines_op : (bs : Bound N) (op : Op) (es : List RuleExpr) (s : Sort) (t : Term (Seen N)) → expr_sort cons vars (expr.Op op es) ≡ Some s → AreBinds cons vars bs → Determines cons vars (expr.Op op es) t bs bs
  determines_op bs op es s t sorted lawful = record {
    clear = op_clear t op es;
    lawful = lawful;
    keeps = λ j u h. h;
    itself = λ j h. absurd (let q : false ≡ true = sym (ap (λ (y : Bool × Bool). y.0) (argument_of-Op j op es)) ∙ h in cc);
    arguments = λ j h. absurd (let q : false ≡ true = sym (op_no_argument cons vars j op es s sorted) ∙ h in cc);
    complete = λ v w a e. a;
  }

  -- a constructor against the same one
  pub determines_con : (old new : Bound N) (c : ConId) (es : List RuleExpr) (ts : List (Term (Seen N))) → DeterminesAll cons vars es ts old new → Determines cons vars (expr.Con c es) (term.Con c ts) old new
  determines_con old new c es ts d = record {
    clear = λ k. d.clear (clash_parts c c es ts refl k);
    lawful = d.lawful;
    keeps = d.keeps;
    itself = λ j h. absurd (let q : false ≡ true = sym (ap (λ (y : Bool × Bool). y.0) (argument_of-Con j c es)) ∙ h in cc);
    arguments = λ j h. d.parts j (sym (ap (λ (y : Bool × Bool). y.1) (argument_of-Con j c es)) ∙ h);
    complete = λ v w a e. d.complete v w a (cons_same c c _ _ (sym (value-Con w c es) ∙ e ∙ tree_of-Con v c ts)).1;
  }

  -- no arguments yet
  pub determines_none : (bs : Bound N) → AreBinds cons vars bs → DeterminesAll cons vars [] [] bs bs
  determines_none bs lawful = record {
    clear = λ k. let gone : None ≡ Some k.part = k.stands in cc;
    lawful = lawful;
    keeps = λ j u h. h;
    parts = λ j h. absurd (cc);
    complete = λ v w a e. a;
  }

-- a variable that is one of several parts, or of one more
part_cases : (i : ℕ) (es : List RuleExpr) (e : RuleExpr) → IsTrue (list_any (λ part. part.0 || part.1) (map (argument_of i) (es ++ e ∷ []))) → IsTrue (list_any (λ part. part.0 || part.1) (map (argument_of i) es)) ⊎ IsTrue ((argument_of i e).0 || (argument_of i e).1)
part_cases i es e h =
    let is_part : Bool × Bool → Bool = λ part. part.0 || part.1 in
    let last = argument_of i e in
    let split = ap (list_any is_part) (map-append (argument_of i) es (e ∷ [])) ∙ list_any-append is_part (map (argument_of i) es) (last ∷ []) ∙ ap (λ b. list_any is_part (map (argument_of i) es) || b) (or-false (is_part last)) in
    either_true (list_any is_part (map (argument_of i) es)) (is_part last) (sym split ∙ h)

-- what stands at a place of a list with one more item
get_cases : {X : Type 0} (xs : List X) (x : X) (k : ℕ) (y : X) → slice_get (xs ++ x ∷ []) k ≡ Some y → ((k < length xs) × (slice_get xs k ≡ Some y)) ⊎ ((k ≡ length xs) × (x ≡ y))
get_cases [] x zero y h = inr (refl, cc)
get_cases [] x (suc k) y h = absurd (cc)
get_cases (z ∷ xs) x zero y h = inl (omega arith, h)
get_cases {X} (z ∷ xs) x (suc k) y h = go (get_cases xs x k y h)
  where
    go : ((k < length xs) × (slice_get xs k ≡ Some y)) ⊎ ((k ≡ length xs) × (x ≡ y)) → ((suc k < length (z ∷ xs)) × (slice_get xs k ≡ Some y)) ⊎ ((suc k ≡ length (z ∷ xs)) × (x ≡ y))
    go (inl p) = let l = p.0 in inl (omega arith, p.1)
    go (inr p) = inr (ap suc p.0, p.1)

-- one more place without a clash
pub clear_more : {N : Type 0} (es : List RuleExpr) (ts : List (Term N)) (e : RuleExpr) (t : Term N) → length es ≡ length ts → ¬ ClashAnywhere es ts → ¬ ClashSomewhere e t → ¬ ClashAnywhere (es ++ e ∷ []) (ts ++ t ∷ [])
clear_more {N} es ts e t long clear here k = go (get_cases es e k.at k.part k.stands) (get_cases ts t k.at k.against k.stands_against)
  where
    go : ((k.at < length es) × (slice_get es k.at ≡ Some k.part)) ⊎ ((k.at ≡ length es) × (e ≡ k.part)) → ((k.at < length ts) × (slice_get ts k.at ≡ Some k.against)) ⊎ ((k.at ≡ length ts) × (t ≡ k.against)) → ⊥
    go (inl p) (inl q) = clear (record { at = k.at; part = k.part; against = k.against; stands = p.1; stands_against = q.1; clash = k.clash })
    go (inl p) (inr q) = let l = p.0 in let m = q.0 in omega arith
    go (inr p) (inl q) = let l = p.0 in let m = q.0 in omega arith
    go (inr p) (inr q) = here (subst (λ x. ClashSomewhere x t) (sym p.1) (subst (λ y. ClashSomewhere k.part y) (sym q.1) k.clash))

-- one argument more
module _ {N : Type 0} (cons : List Con) (vars : List Var) (old mid new : Bound N) (es : List RuleExpr) (ts : List (Term (Seen N))) (e : RuleExpr) (t : Term (Seen N)) where
  pub determines_more : length es ≡ length ts → DeterminesAll cons vars es ts old mid → Determines cons vars e t mid new → DeterminesAll cons vars (es ++ e ∷ []) (ts ++ t ∷ []) old new
  determines_more long first next = record {
    clear = clear_more es ts e t long first.clear next.clear;
    lawful = next.lawful;
    keeps = λ i u h. next.keeps i u (first.keeps i u h);
    parts = λ i h. part i (part_cases i es e h);
    complete = λ v w a h.
        let r = same_from_push _ _ _ _ (sym (map-append (value w) es (e ∷ [])) ∙ h ∙ map-append (tree_of v) ts (t ∷ [])) in
        next.complete v w (first.complete v w a r.0) r.1;
  }
    where
      here : (i : ℕ) → IsTrue (argument_of i e).0 ⊎ IsTrue (argument_of i e).1 → IsBound new i
      here i (inl y) = next.itself i y
      here i (inr y) = next.arguments i y

      part : (i : ℕ) → IsTrue (list_any (λ x. x.0 || x.1) (map (argument_of i) es)) ⊎ IsTrue ((argument_of i e).0 || (argument_of i e).1) → IsBound new i
      part i (inl h) = stays_bound mid new i (next.keeps i) (first.parts i h)
      part i (inr h) = here i (either_true (argument_of i e).0 (argument_of i e).1 h)

-- a variable that was free, by the binds as they are set
pub determines_set : {N : Type 0} (cons : List Con) (vars : List Var) (f : N → Seen N) (binds now : List (Option (Term N))) (i : ℕ) (t u : Term N) → i < length vars → seen_sort cons (seen_term f t) ≡ var_sort vars i → AreBinds cons vars (seen_binds f binds) → bound_at (seen_binds f binds) i ≡ None → seen_term f u ≡ seen_term f t → now ≡ slice_set binds i (Some u) → Determines cons vars (expr.Var i) (seen_term f t) (seen_binds f binds) (seen_binds f now)
determines_set cons vars f binds now i t u within sorted lawful free copied set =
    subst (Determines cons vars (expr.Var i) (seen_term f t) (seen_binds f binds))
    (sym (ap (seen_binds f) set ∙ map-set (option_map (seen_term f)) binds i (Some u) ∙ ap (λ s. slice_set (seen_binds f binds) i (Some s)) copied))
    (determines_free cons vars (seen_binds f binds) i (seen_term f t) within sorted lawful free)

-- whether a constructor is determined, by its arguments
pub determined_con : {N : Type 0} (cons : List Con) (vars : List Var) (f : N → Seen N) (e : RuleExpr) (c d : ConId) (es xs : List RuleExpr) (t : Term N) (ts us : List (Term N)) → e ≡ expr.Con c es → xs ≡ es → t ≡ term.Con d ts → us ≡ ts → c ≡ d → (old new : Bound N) (ok : Bool) → AllDetermined cons vars xs (map (seen_term f) us) old new ok → Determined cons vars e (seen_term f t) old new ok
determined_con {N} cons vars f e c d es xs t ts us is same term_is terms one old new ok all =
    rw (is, ap (seen_term f) term_is ∙ seen-Con f d ts) (subst (λ k. Determined cons vars (expr.Con c es) (term.Con k (map (seen_term f) ts)) old new ok) one (go ok (rw (same, terms) at all)))
  where
    go : (b : Bool) → AllDetermined cons vars es (map (seen_term f) ts) old new b → Determined cons vars (expr.Con c es) (term.Con c (map (seen_term f) ts)) old new b
    go true a = determines_con cons vars old new c es (map (seen_term f) ts) a
    go false a = parts_clash c c es (map (seen_term f) ts) a

-- different constructors clash
pub cons_clash : {N : Type 0} (f : N → Seen N) (e : RuleExpr) (c d : ConId) (es : List RuleExpr) (t : Term N) (ts : List (Term N)) → e ≡ expr.Con c es → t ≡ term.Con d ts → (c.0 ≡ d.0 → ⊥) → ClashSomewhere e (seen_term f t)
cons_clash f e c d es t ts is term_is ne = rw (is, ap (seen_term f) term_is ∙ seen-Con f d ts) (heads_clash c d es (map (seen_term f) ts) (λ q. ne (ap (λ k. k.0) q)))

-- one place more of the lists
module _ {N : Type 0} (cons : List Con) (vars : List Var) (f : N → Seen N) (old mid new : Bound N) (es : List RuleExpr) (ts : List (Term N)) (i : ℕ) (e : RuleExpr) (t : Term N) (long : length ts ≡ length es) (l : i < length es) (is : e ≡ get_or es i e) (it : t ≡ get_or ts i t) where
  pub determined_more : DeterminesAll cons vars (take i es) (map (seen_term f) (take i ts)) old mid → Determines cons vars e (seen_term f t) mid new → DeterminesAll cons vars (take (i + 1) es) (map (seen_term f) (take (i + 1) ts)) old new
  determined_more first next =
      let m : i < length ts = omega arith in
      let same : length (take i es) ≡ length (map (seen_term f) (take i ts)) = length-take-le i es (omega arith) ∙ sym (length-map (take i ts) (seen_term f) ∙ length-take-le i ts (omega arith)) in
      rw (items_more es i e l is, images_more (seen_term f) ts i t m it) (determines_more cons vars old mid new (take i es) (map (seen_term f) (take i ts)) e (seen_term f t) same first next)
