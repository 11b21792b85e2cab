-- What a clash of constructors says of values, and how clashes of parts are clashes of the whole.
use Rattle.std.proofs.Common.{◌≡◌, ◌≢◌, ℕ, zero, suc, List, [], ◌∷◌, map, slice_get, Option, Some, None, refl, sym, ap, ◌∙◌, subst}
use Rattle.std.specs.Prelude.{option_and_then}
use Rattle.data_value.specs.declared.Op.{Op}
use Rattle.data_value.specs.declared.Value.{Value}
use Rattle.data_value.specs.Nodes.{Seen}
use Rattle.sort_term.specs.declared.ids.ConId.{ConId}
use Rattle.sort_term.specs.declared.term.Term.{Term}
use Rattle.sort_term.specs.declared.term.Term.TheViews.{out-Term}
use Rattle.sort_term.specs.declared.term.Term.TheVariants as term
use Rattle.sort_term.specs.declared.rule.RuleExpr.{RuleExpr}
use Rattle.sort_term.specs.declared.rule.RuleExpr.TheOpen.{RuleExpr-F}
use Rattle.sort_term.specs.declared.rule.RuleExpr.TheViews.{out-RuleExpr, out-roll-RuleExpr}
use Rattle.sort_term.specs.declared.rule.RuleExpr.TheVariants as expr
use Rattle.sort_term.specs.Tree.{Trees, value}
use Rattle.sort_term.specs.NodeTerms.{tree_of}
use Rattle.sort_term.proofs.Equations.{value-Con}
use Rattle.sort_term.proofs.Induction.{expr_ind, term_ind}
use Rattle.sort_term.proofs.NodeTerming.{tree_of-Con}
use Rattle.unify.specs.Places.{term_args, term_args_in, term_at}
use Rattle.unify.proofs.Nodes.{out-Con, out-Plain, cons_same}
use Rattle.pair_match.specs.Clash.{con_args, con_args_in, expr_at, Clash, ClashIn, ClashSomewhere, ClashAnywhere}

-- what an expression is, at its head
out-Var : (i : ℕ) → out-RuleExpr (expr.Var i) ≡ RuleExpr-F.Var i
out-Var i = ap out-RuleExpr (sym (expr.rolls-Var i)) ∙ out-roll-RuleExpr (RuleExpr-F.Var i)

out-Lit : (x : Value) → out-RuleExpr (expr.Lit x) ≡ RuleExpr-F.Lit x
out-Lit x = ap out-RuleExpr (sym (expr.rolls-Lit x)) ∙ out-roll-RuleExpr (RuleExpr-F.Lit x)

out-Op : (op : Op) (es : List RuleExpr) → out-RuleExpr (expr.Op op es) ≡ RuleExpr-F.Op op es
out-Op op es = ap out-RuleExpr (sym (expr.rolls-Op op es)) ∙ out-roll-RuleExpr (RuleExpr-F.Op op es)

out-ExprCon : (c : ConId) (es : List RuleExpr) → out-RuleExpr (expr.Con c es) ≡ RuleExpr-F.Con c es
out-ExprCon c es = ap out-RuleExpr (sym (expr.rolls-Con c es)) ∙ out-roll-RuleExpr (RuleExpr-F.Con c es)

con_args-Con : (c : ConId) (es : List RuleExpr) → con_args (expr.Con c es) ≡ es
con_args-Con c es = ap con_args_in (out-ExprCon c es)

term_args-Con : {N : Type 0} (d : ConId) (ts : List (Term N)) → term_args (term.Con d ts) ≡ ts
term_args-Con d ts = ap term_args_in (out-Con d ts)

-- an expression that is no constructor clashes with nothing
none_at : {N : Type 0} (e : RuleExpr) (t : Term N) → con_args e ≡ [] → (Clash e t → ⊥) → ¬ ClashSomewhere e t
none_at {N} e t none here c = go c.place c.part c.against c.stands c.stands_against c.clash
  where
    go : (place : List ℕ) (q : RuleExpr) (u : Term N) → expr_at place e ≡ Some q → term_at place t ≡ Some u → Clash q u → ⊥
    go [] q u a b k =
        let same : e ≡ q = cc in
        let other : t ≡ u = cc in
        here (subst (λ x. Clash x t) (sym same) (subst (λ y. Clash q y) (sym other) k))
    go (i ∷ place) q u a b k =
        let gone : None ≡ Some q = sym (ap (λ es. option_and_then (expr_at place) (slice_get es i)) none) ∙ a in
        cc

module _ {N : Type 0} (t : Term N) where
  pub var_clear : (i : ℕ) → ¬ ClashSomewhere (expr.Var i) t
  var_clear i = none_at (expr.Var i) t (ap con_args_in (out-Var i)) (λ k. subst (λ x. ClashIn x (out-Term N t)) (out-Var i) k)

  pub lit_clear : (x : Value) → ¬ ClashSomewhere (expr.Lit x) t
  lit_clear x = none_at (expr.Lit x) t (ap con_args_in (out-Lit x)) (λ k. subst (λ y. ClashIn y (out-Term N t)) (out-Lit x) k)

  pub op_clear : (op : Op) (es : List RuleExpr) → ¬ ClashSomewhere (expr.Op op es) t
  op_clear op es = none_at (expr.Op op es) t (ap con_args_in (out-Op op es)) (λ k. subst (λ y. ClashIn y (out-Term N t)) (out-Op op es) k)

-- a constructor against a constructor
module _ {N : Type 0} (c d : ConId) (es : List RuleExpr) (ts : List (Term N)) where
  head_clash : Clash (expr.Con c es) (term.Con d ts) → c ≢ d
  head_clash k = subst (ClashIn (RuleExpr-F.Con c es)) (out-Con d ts) (subst (λ y. ClashIn y (out-Term N (term.Con d ts))) (out-ExprCon c es) k)

  -- different ones clash
  pub heads_clash : c ≢ d → ClashSomewhere (expr.Con c es) (term.Con d ts)
  heads_clash h = record {
    place = [];
    part = expr.Con c es;
    against = term.Con d ts;
    stands = refl;
    stands_against = refl;
    clash = subst (λ y. ClashIn y (out-Term N (term.Con d ts))) (sym (out-ExprCon c es)) (subst (ClashIn (RuleExpr-F.Con c es)) (sym (out-Con d ts)) h);
  }

  -- a clash of arguments is one of the whole
  pub parts_clash : ClashAnywhere es ts → ClashSomewhere (expr.Con c es) (term.Con d ts)
  parts_clash a = record {
    place = a.at ∷ a.clash.place;
    part = a.clash.part;
    against = a.clash.against;
    stands = ap (λ xs. option_and_then (expr_at a.clash.place) (slice_get xs a.at)) (con_args-Con c es) ∙ ap (option_and_then (expr_at a.clash.place)) a.stands ∙ a.clash.stands;
    stands_against = ap (λ xs. option_and_then (term_at a.clash.place) (slice_get xs a.at)) (term_args-Con d ts) ∙ ap (option_and_then (term_at a.clash.place)) a.stands_against ∙ a.clash.stands_against;
    clash = a.clash.clash;
  }

  -- where the constructors are one, there is no other clash
  pub clash_parts : c ≡ d → ClashSomewhere (expr.Con c es) (term.Con d ts) → ClashAnywhere es ts
  clash_parts one h = go h.place h.part h.against h.stands h.stands_against h.clash
    where
      inner : (o : Option RuleExpr) (r : Option (Term N)) (i : ℕ) (place : List ℕ) (q : RuleExpr) (u : Term N) → slice_get es i ≡ o → slice_get ts i ≡ r → option_and_then (expr_at place) o ≡ Some q → option_and_then (term_at place) r ≡ Some u → Clash q u → ClashAnywhere es ts
      inner None r i place q u eo er a b k = absurd (let gone : None ≡ Some q = a in cc)
      inner (Some o) None i place q u eo er a b k = absurd (let gone : None ≡ Some u = b in cc)
      inner (Some o) (Some r) i place q u eo er a b k = record {
        at = i;
        part = o;
        against = r;
        stands = eo;
        stands_against = er;
        clash = record { place = place; part = q; against = u; stands = a; stands_against = b; clash = k };
      }

      go : (place : List ℕ) (q : RuleExpr) (u : Term N) → expr_at place (expr.Con c es) ≡ Some q → term_at place (term.Con d ts) ≡ Some u → Clash q u → ClashAnywhere es ts
      go [] q u a b k =
          let same : expr.Con c es ≡ q = cc in
          let other : term.Con d ts ≡ u = cc in
          absurd (head_clash (subst (λ x. Clash x (term.Con d ts)) (sym same) (subst (λ y. Clash q y) (sym other) k)) one)
      go (i ∷ place) q u a b k =
          inner (slice_get es i) (slice_get ts i) i place q u refl refl
          (ap (λ xs. option_and_then (expr_at place) (slice_get xs i)) (sym (con_args-Con c es)) ∙ a)
          (ap (λ xs. option_and_then (term_at place) (slice_get xs i)) (sym (term_args-Con d ts)) ∙ b)
          k

-- images that are equal are so place by place
pub equal_at : {A B C : Type 0} (f : A → C) (g : B → C) (xs : List A) (ys : List B) (i : ℕ) (x : A) (y : B) → map f xs ≡ map g ys → slice_get xs i ≡ Some x → slice_get ys i ≡ Some y → f x ≡ g y
equal_at f g [] ys i x y h k l = absurd (cc)
equal_at f g (a ∷ xs) [] i x y h k l = absurd (cc)
equal_at f g (a ∷ xs) (b ∷ ys) zero x y h k l =
    let first : a ≡ x = cc in
    let other : b ≡ y = cc in
    let heads : f a ≡ g b = cc in
    ap f (sym first) ∙ heads ∙ ap g other
equal_at f g (a ∷ xs) (b ∷ ys) (suc i) x y h k l = let rest : map f xs ≡ map g ys = cc in equal_at f g xs ys i x y rest k l

-- nothing stands in an empty list
none_there : {X : Type 0} (xs : List X) (i : ℕ) (x : X) → xs ≡ [] → slice_get xs i ≡ Some x → ⊥
none_there xs i x e h = let gone : None ≡ Some x = sym (ap (λ ys. slice_get ys i) e) ∙ h in cc

-- where expressions and terms clash, no valuation makes the value what the term means
module _ {N : Type 0} (v : List Value) (w : Trees) where
  abbrev HeadDiffers : RuleExpr → Term (Seen N) → Type 0
  HeadDiffers e t = Clash e t → value w e ≡ tree_of v t → ⊥

  head_differs : (e : RuleExpr) (t : Term (Seen N)) → HeadDiffers e t
  head_differs = expr_ind (λ e. (t : Term (Seen N)) → HeadDiffers e t)
      (λ i t k h. subst (λ x. ClashIn x (out-Term (Seen N) t)) (out-Var i) k)
      (λ x t k h. subst (λ y. ClashIn y (out-Term (Seen N) t)) (out-Lit x) k)
      (λ op es r t k h. subst (λ y. ClashIn y (out-Term (Seen N) t)) (out-Op op es) k)
      (λ c es r. term_ind (Seen N) (HeadDiffers (expr.Con c es))
      (λ s k h. subst (ClashIn (RuleExpr-F.Con c es)) (out-Plain s) (subst (λ y. ClashIn y (out-Term (Seen N) (term.Plain s))) (out-ExprCon c es) k))
      (λ d ts q k h. head_clash c d es ts k (cons_same c d _ _ (sym (value-Con w c es) ∙ h ∙ tree_of-Con v d ts)).0))

  abbrev PartsEqual : RuleExpr → Term (Seen N) → Type 0
  PartsEqual e t = (i : ℕ) (x : RuleExpr) (y : Term (Seen N)) → value w e ≡ tree_of v t → slice_get (con_args e) i ≡ Some x → slice_get (term_args t) i ≡ Some y → value w x ≡ tree_of v y

  parts_equal : (e : RuleExpr) (t : Term (Seen N)) → PartsEqual e t
  parts_equal = expr_ind (λ e. (t : Term (Seen N)) → PartsEqual e t)
      (λ j t i x y h a b. absurd (none_there (con_args (expr.Var j)) i x (ap con_args_in (out-Var j)) a))
      (λ z t i x y h a b. absurd (none_there (con_args (expr.Lit z)) i x (ap con_args_in (out-Lit z)) a))
      (λ op es r t i x y h a b. absurd (none_there (con_args (expr.Op op es)) i x (ap con_args_in (out-Op op es)) a))
      (λ c es r. term_ind (Seen N) (PartsEqual (expr.Con c es))
      (λ s i x y h a b. absurd (none_there (term_args (term.Plain s)) i y (ap term_args_in (out-Plain s)) b))
      (λ d ts q i x y h a b.
      let same = (cons_same c d _ _ (sym (value-Con w c es) ∙ h ∙ tree_of-Con v d ts)).1 in
      equal_at (value w) (tree_of v) es ts i x y same
      (ap (λ xs. slice_get xs i) (sym (con_args-Con c es)) ∙ a)
      (ap (λ xs. slice_get xs i) (sym (term_args-Con d ts)) ∙ b)))

  place_differs : (place : List ℕ) (e : RuleExpr) (t : Term (Seen N)) (q : RuleExpr) (u : Term (Seen N)) → expr_at place e ≡ Some q → term_at place t ≡ Some u → Clash q u → value w e ≡ tree_of v t → ⊥
  place_differs [] e t q u a b k h =
      let same : e ≡ q = cc in
      let other : t ≡ u = cc in
      head_differs q u k (ap (value w) (sym same) ∙ h ∙ ap (tree_of v) other)
  place_differs (i ∷ place) e t q u a b k h = go (λ x y f g m. place_differs place x y q u f g k m) (slice_get (con_args e) i) (slice_get (term_args t) i) refl refl a b
    where
      go : ((x : RuleExpr) (y : Term (Seen N)) → expr_at place x ≡ Some q → term_at place y ≡ Some u → value w x ≡ tree_of v y → ⊥) → (o : Option RuleExpr) (r : Option (Term (Seen N))) → slice_get (con_args e) i ≡ o → slice_get (term_args t) i ≡ r → option_and_then (expr_at place) o ≡ Some q → option_and_then (term_at place) r ≡ Some u → ⊥
      go inside None r eo er f g = let gone : None ≡ Some q = f in cc
      go inside (Some x) None eo er f g = let gone : None ≡ Some u = g in cc
      go inside (Some x) (Some y) eo er f g = inside x y f g (parts_equal e t i x y h eo er)

  pub clash_differs : (e : RuleExpr) (t : Term (Seen N)) → ClashSomewhere e t → ¬ (value w e ≡ tree_of v t)
  clash_differs e t c = place_differs c.place e t c.part c.against c.stands c.stands_against c.clash
