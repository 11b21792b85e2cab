-- Matchings that go on from one.
use Rattle.std.proofs.Common.{arith, ◌≡◌, ◌↔◌, ℕ, ◌+◌, ◌<◌, true, false, List, [], ◌∷◌, ◌++◌, length, take, get_or, Some, sym, ap, ◌∙◌, subst, ◌⊎◌, inl, inr}
use Rattle.std.specs.Prelude.{Any}
use Rattle.std.proofs.lemmas.List.Elements.{All-nil, All-cons, All-append, All-weaker}
use Rattle.std.proofs.lemmas.List.Sums.{sum_by-cons}
use Rattle.data_value.specs.declared.DataSort.{DataSort}
use Rattle.data_value.specs.declared.Scalar.TheVariants.{Flag}
use Rattle.data_value.specs.declared.Value.{Value}
use Rattle.data_value.specs.declared.Value.TheVariants.{One}
use Rattle.data_value.specs.Nodes.{Seen, IsValuation}
use Rattle.sort_term.specs.declared.term.Term.{Term}
use Rattle.sort_term.specs.declared.term.Term.TheVariants as term
use Rattle.sort_term.specs.declared.program.Row.{Row}
use Rattle.sort_term.specs.declared.rule.Demand.TheVariants.{Let, When}
use Rattle.sort_term.specs.declared.rule.Source.TheVariants.{Expr}
use Rattle.sort_term.specs.declared.rule.Pattern.{Pattern}
use Rattle.sort_term.specs.declared.rule.RuleExpr.{RuleExpr}
use Rattle.sort_term.specs.declared.rule.Var.{Var}
use Rattle.sort_term.specs.declared.semantics.Con.{Con}
use Rattle.sort_term.specs.Tree.{Trees, value, pattern_value}
use Rattle.sort_term.specs.Stands.{times, times_in}
use Rattle.sort_term.specs.Step.{Tables, Demanded}
use Rattle.unify.specs.Binds.{IsBound, Agrees, Gives}
use Rattle.data_value.specs.Truth.{IsCondition, AreTrue}
use Rattle.unify.specs.Meets.{SeenMatching, IsMatching, Fulfils, Equals, Answers}
use Rattle.unify.specs.Constants.{IsKeyTest, IsTreeTerm}
use Rattle.unify.specs.Matchings.{Binds, GoOn, ReadsRow, demand_times}
use Rattle.unify.specs.Equations.{with_equation}
use Rattle.unify.proofs.KnownEquations.{TellsTrue, with_true, with_all}
use Rattle.unify.proofs.Anys.{any_more, any_none}
use Rattle.unify.proofs.Together.{together_same, together_none, together_one, together_append}
use Rattle.unify.proofs.Truths.{plain_true}
use Rattle.unify.specs.Scopes.{scope_of, change_of}

-- the variable stands in the pattern of a `let` as often as in the pattern
pub let_times : (i : ℕ) (p : Pattern) → times_in i (p ∷ []) ≡ times i p
let_times i p = let e = sum_by-cons (times i) p [] in omega arith

-- the same in the domain before it had grown
pub go_on_from : {N : Type 0} (cons : List Con) (vars : List Var) (sorts variables : List DataSort) (n m : SeenMatching N) (count : ℕ → ℕ) (P : List Value → Trees → Type 0) (ms : List (SeenMatching N)) → sorts ≡ variables → n ≡ m → GoOn (scope_of cons vars sorts) n count P ms → GoOn (scope_of cons vars variables) m count P ms
go_on_from cons vars sorts variables n m count P ms e is g = subst (λ vs. GoOn (scope_of cons vars vs) m count P ms) e (subst (λ x. GoOn (scope_of cons vars sorts) x count P ms) is g)

module _ {N : Type 0} (cons : List Con) (vars : List Var) (variables : List DataSort) where
  module _ (m : SeenMatching N) where
    -- the same by other words
    pub go_on_same : (count count' : ℕ → ℕ) (P Q : List Value → Trees → Type 0) (ms : List (SeenMatching N)) → ((i : ℕ) → count i ≡ count' i) → ((v : List Value) → IsValuation variables v → (w : Trees) → Fulfils v w m → P v w ↔ Q v w) → GoOn (scope_of cons vars variables) m count P ms → GoOn (scope_of cons vars variables) m count' Q ms
    go_on_same count count' P Q ms counts same g = record {
      each = All-weaker (Binds cons vars (λ i. IsBound m.binds i ⊎ (0 < count i))) (Binds cons vars (λ i. IsBound m.binds i ⊎ (0 < count' i))) (λ n b. record { lawful = b.lawful; bound = λ i. subst (λ k. IsBound n.binds i ↔ (IsBound m.binds i ⊎ (0 < k))) (counts i) (b.bound i) }) ms g.each;
      together = together_same variables ms (λ v w. Fulfils v w m × P v w) (λ v w. Fulfils v w m × Q v w) (λ v f w. (λ x. (x.0, (same v f w x.0).0 x.1), λ x. (x.0, (same v f w x.0).1 x.1))) g.together;
    }

    pub go_on_none : (count : ℕ → ℕ) (P : List Value → Trees → Type 0) → ((v : List Value) → IsValuation variables v → (w : Trees) → Fulfils v w m → P v w → ⊥) → GoOn (scope_of cons vars variables) m count P []
    go_on_none count P none = record {
      each = All-nil (Binds cons vars (λ i. IsBound m.binds i ⊎ (0 < count i)));
      together = together_none variables (λ v w. Fulfils v w m × P v w) (λ v f w x. none v f w x.0 x.1);
    }

    pub go_on_one : (count : ℕ → ℕ) (P : List Value → Trees → Type 0) (n : SeenMatching N) → Binds cons vars (λ i. IsBound m.binds i ⊎ (0 < count i)) n → ((v : List Value) → IsValuation variables v → (w : Trees) → Fulfils v w n ↔ (Fulfils v w m × P v w)) → GoOn (scope_of cons vars variables) m count P (n ∷ [])
    go_on_one count P n b exact = record {
      each = All-cons (Binds cons vars (λ i. IsBound m.binds i ⊎ (0 < count i))) n [] b (All-nil (Binds cons vars (λ i. IsBound m.binds i ⊎ (0 < count i))));
      together = together_one variables n (λ v w. Fulfils v w m × P v w) (λ v f w. ((exact v f w).1, (exact v f w).0));
    }

    pub go_on_or : (count : ℕ → ℕ) (P Q R : List Value → Trees → Type 0) (ms ns : List (SeenMatching N)) → ((v : List Value) (w : Trees) → (P v w ⊎ Q v w) ↔ R v w) → GoOn (scope_of cons vars variables) m count P ms → GoOn (scope_of cons vars variables) m count Q ns → GoOn (scope_of cons vars variables) m count R (ms ++ ns)
    go_on_or count P Q R ms ns same a b = record {
      each = All-append (Binds cons vars (λ i. IsBound m.binds i ⊎ (0 < count i))) ms ns a.each b.each;
      together =
          together_same variables (ms ++ ns) (λ v w. (Fulfils v w m × P v w) ⊎ (Fulfils v w m × Q v w)) (λ v w. Fulfils v w m × R v w) (λ v f w. (to v w, λ x. from v w x.0 ((same v w).1 x.1)))
          (together_append variables ms ns (λ v w. Fulfils v w m × P v w) (λ v w. Fulfils v w m × Q v w) a.together b.together);
    }
      where
        to : (v : List Value) (w : Trees) → (Fulfils v w m × P v w) ⊎ (Fulfils v w m × Q v w) → Fulfils v w m × R v w
        to v w (inl x) = (x.0, (same v w).0 (inl x.1))
        to v w (inr x) = (x.0, (same v w).0 (inr x.1))

        from : (v : List Value) (w : Trees) → Fulfils v w m → P v w ⊎ Q v w → (Fulfils v w m × P v w) ⊎ (Fulfils v w m × Q v w)
        from v w f (inl p) = inl (f, p)
        from v w f (inr q) = inr (f, q)

  -- a pattern joined with a term, or apart from it
  pub joined_on : (p : Pattern) (t : Term (Seen N)) (old new : SeenMatching N) → Answers (scope_of cons vars variables) p t (change_of old new) true → GoOn (scope_of cons vars variables) old (λ i. times i p) (Equals p t) (new ∷ [])
  joined_on p t old new a = go_on_one old (λ i. times i p) (Equals p t) new (record { lawful = a.lawful; bound = a.binds.bound }) a.narrows.exact

  pub apart_on : (p : Pattern) (t : Term (Seen N)) (old new : SeenMatching N) → Answers (scope_of cons vars variables) p t (change_of old new) false → GoOn (scope_of cons vars variables) old (λ i. times i p) (Equals p t) []
  apart_on p t old new a = go_on_none old (λ i. times i p) (Equals p t) (λ v f w x e. a.never v w e)

  -- where an equation is known to be false, nothing fulfils the matching that was joined
  pub dead_on : (p : Pattern) (t : Term (Seen N)) (old new : SeenMatching N) → Answers (scope_of cons vars variables) p t (change_of old new) true → ((v : List Value) → AreTrue v new.equations → ⊥) → GoOn (scope_of cons vars variables) old (λ i. times i p) (Equals p t) []
  dead_on p t old new a dead = go_on_none old (λ i. times i p) (Equals p t) (λ v f w x e. dead v ((a.narrows.exact v f w).1 (x, e)).equal)

  -- a matching with one more node that has to be true
  abbrev pub with_node : SeenMatching N → Seen N → SeenMatching N
  with_node m s = record { binds = m.binds; equations = with_equation m.equations s }

  pub with_fulfils : (m : SeenMatching N) (s : Seen N) → TellsTrue s → (v : List Value) (w : Trees) → Fulfils v w (with_node m s) ↔ (Fulfils v w m × (s.meaning v ≡ One (Flag true)))
  with_fulfils m s tells v w =
      let same = with_true m.equations s v tells in (
        λ f. let r = same.0 f.equal in (record { agrees = f.agrees; equal = r.0 }, r.1),
        λ x. record { agrees = x.0.agrees; equal = same.1 (x.0.equal, x.1) },
      )

  pub with_lawful : (m : SeenMatching N) (s : Seen N) → IsMatching cons vars m → IsCondition s → IsMatching cons vars (with_node m s)
  with_lawful m s h c = record { binds = h.binds; equations = with_all m.equations s IsCondition h.equations c }

  -- a condition
  module _ (tables : Tables) (e : RuleExpr) (m : SeenMatching N) (lawful : IsMatching cons vars m) (s : Seen N) (condition : IsCondition s) (means : (v : List Value) (w : Trees) → Agrees v m.binds w → value w e ≡ term.Plain (s.meaning v)) where
    told : (v : List Value) (w : Trees) → Fulfils v w m → (s.meaning v ≡ One (Flag true)) ↔ Demanded tables w (When e)
    told v w f = (
      λ h. means v w f.agrees ∙ (plain_true (s.meaning v)).1 h,
      λ h. (plain_true (s.meaning v)).0 (sym (means v w f.agrees) ∙ h),
    )

    pub when_on : TellsTrue s → (n : SeenMatching N) → n ≡ with_node m s → GoOn (scope_of cons vars variables) m (demand_times (When e)) (λ v w. Demanded tables w (When e)) (n ∷ [])
    when_on tells n is =
        subst (λ x. GoOn (scope_of cons vars variables) m (demand_times (When e)) (λ v w. Demanded tables w (When e)) (x ∷ [])) (sym is)
        (go_on_one m (demand_times (When e)) (λ v w. Demanded tables w (When e)) (with_node m s) (record { lawful = with_lawful m s lawful condition; bound = λ i. (λ b. inl b, λ b. left i b) }) (λ v f w. (
          λ x. let r = (with_fulfils m s tells v w).0 x in (r.0, (told v w r.0).0 r.1),
          λ x. (with_fulfils m s tells v w).1 (x.0, (told v w x.0).1 x.1),
        )))
      where
        left : (i : ℕ) → IsBound m.binds i ⊎ (0 < demand_times (When e) i) → IsBound m.binds i
        left i (inl b) = b
        left i (inr l) = absurd (omega arith)

    pub when_off : ((v : List Value) → s.meaning v ≡ One (Flag false)) → GoOn (scope_of cons vars variables) m (demand_times (When e)) (λ v w. Demanded tables w (When e)) []
    when_off untrue = go_on_none m (demand_times (When e)) (λ v w. Demanded tables w (When e)) (λ v f w x h. let q : One (Flag false) ≡ One (Flag true) = sym (untrue v) ∙ (told v w x).1 h in cc)

  -- a pattern against the value of an expression
  pub value_on : (tables : Tables) (p : Pattern) (e : RuleExpr) (m : SeenMatching N) (t : Term (Seen N)) (ms : List (SeenMatching N)) → Gives cons m.binds e t → GoOn (scope_of cons vars variables) m (λ i. times i p) (Equals p t) ms → GoOn (scope_of cons vars variables) m (demand_times (Let p (Expr e))) (λ v w. Demanded tables w (Let p (Expr e))) ms
  value_on tables p e m t ms gives g =
      go_on_same m (λ i. times i p) (demand_times (Let p (Expr e))) (Equals p t) (λ v w. Demanded tables w (Let p (Expr e))) ms (λ i. sym (let_times i p)) (λ v fits w f. (
        λ h. ap Some (gives.means v w f.agrees ∙ sym h),
        λ h. let q : value w e ≡ pattern_value w p = cc in sym q ∙ gives.means v w f.agrees,
      )) g

  -- a pattern against the term of a row
  module _ (p : Pattern) (key : Seen N) (r : Row) (m : SeenMatching N) (test : Seen N) (tested : IsKeyTest variables key r.key test) where
    pub row_on : TellsTrue test → (t : Term (Seen N)) (ms : List (SeenMatching N)) → IsTreeTerm cons r.term t → GoOn (scope_of cons vars variables) (with_node m test) (λ i. times i p) (Equals p t) ms → GoOn (scope_of cons vars variables) m (λ i. times i p) (λ v w. ReadsRow key p v w r) ms
    row_on tells t ms tree g = record {
      each = g.each;
      together = together_same variables ms (λ v w. Fulfils v w (with_node m test) × Equals p t v w) (λ v w. Fulfils v w m × ReadsRow key p v w r) (λ v f w. (
        λ x.
            let a = (with_fulfils m test tells v w).0 x.0 in
            (a.0, record { key_is = sym ((tested.exact v f).0 a.1); term_is = sym (tree.means v) ∙ sym x.1 }),
        λ x. ((with_fulfils m test tells v w).1 (x.0, (tested.exact v f).1 (sym x.1.key_is)), sym x.1.term_is ∙ sym (tree.means v)),
      )) g.together;
    }

    pub row_off : ((v : List Value) → test.meaning v ≡ One (Flag false)) → GoOn (scope_of cons vars variables) m (λ i. times i p) (λ v w. ReadsRow key p v w r) []
    row_off untrue = go_on_none m (λ i. times i p) (λ v w. ReadsRow key p v w r) (λ v f w x h. let q : One (Flag false) ≡ One (Flag true) = sym (untrue v) ∙ (tested.exact v f).1 (sym h.key_is) in cc)

  -- one row more
  pub rows_more : (p : Pattern) (key : Seen N) (rows : List Row) (i : ℕ) (r : Row) (m : SeenMatching N) (ms ns : List (SeenMatching N)) → i < length rows → r ≡ get_or rows i r →
      GoOn (scope_of cons vars variables) m (λ j. times j p) (λ v w. Any (ReadsRow key p v w) (take i rows)) ms → GoOn (scope_of cons vars variables) m (λ j. times j p) (λ v w. ReadsRow key p v w r) ns → GoOn (scope_of cons vars variables) m (λ j. times j p) (λ v w. Any (ReadsRow key p v w) (take (i + 1) rows)) (ms ++ ns)
  rows_more p key rows i r m ms ns l e a b =
      go_on_or m (λ j. times j p) (λ v w. Any (ReadsRow key p v w) (take i rows)) (λ v w. ReadsRow key p v w r) (λ v w. Any (ReadsRow key p v w) (take (i + 1) rows)) ms ns
      (λ v w. let x = any_more (ReadsRow key p v w) rows i r l e in (x.1, x.0)) a b

  pub no_rows : (p : Pattern) (key : Seen N) (m : SeenMatching N) → GoOn (scope_of cons vars variables) m (λ j. times j p) (λ v w. Any (ReadsRow key p v w) []) []
  no_rows p key m = go_on_none m (λ j. times j p) (λ v w. Any (ReadsRow key p v w) []) (λ v f w x a. any_none (ReadsRow key p v w) a)
