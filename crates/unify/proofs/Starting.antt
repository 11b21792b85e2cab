-- Matchings in which the head of a rule is equal to a term.
use Rattle.std.proofs.Common.{arith, ◌≡◌, ℕ, zero, suc, ◌<◌, true, List, [], ◌∷◌, length, map, Option, Some, None, IsSome, refl, sym, ap, ◌∙◌, subst, ◌⊎◌, inl, inr}
use Rattle.std.specs.Prelude.{replicate}
use Rattle.std.proofs.lemmas.List.{length-replicate}
use Rattle.std.proofs.lemmas.List.Elements.{All-nil, All-weaker}
use Rattle.std.proofs.lemmas.List.Sums.{sum_by-cons}
use Rattle.data_value.specs.declared.DataSort.{DataSort}
use Rattle.data_value.specs.declared.Scalar.TheVariants.{Flag}
use Rattle.data_value.specs.declared.Value.{Value}
use Rattle.data_value.specs.declared.Value.TheVariants.{One}
use Rattle.data_value.specs.Nodes.{Seen}
use Rattle.sort_term.specs.declared.term.Term.{Term}
use Rattle.sort_term.specs.declared.rule.Rule.{Rule}
use Rattle.sort_term.specs.declared.rule.Var.{Var}
use Rattle.sort_term.specs.declared.semantics.Con.{Con}
use Rattle.sort_term.specs.System.{System}
use Rattle.sort_term.specs.Sorted.{pattern_sort}
use Rattle.sort_term.specs.Tree.{Trees}
use Rattle.sort_term.specs.Stands.{times, let_patterns}
use Rattle.sort_term.specs.Rules.{IsRule}
use Rattle.unify.specs.declared.matching.Matching.{Matching}
use Rattle.unify.specs.Binds.{Bound, seen_binds, bound_at, IsBound}
use Rattle.data_value.specs.Truth.{IsCondition}
use Rattle.unify.specs.Meets.{SeenMatching, seen_matching, IsMatching, Fulfils, Equals, RebindsOnlyScalars, times_bound}
use Rattle.unify.specs.Matchings.{Binds, GoOn, BoundBy, Started}
use Rattle.unify.proofs.Together.{together_same}
use Rattle.unify.proofs.Evaluated.{not_bound}
use Rattle.unify.proofs.GoingOn.{let_times}
use Rattle.unify.specs.Scopes.{scope_of}

abbrev Unbound : (N : Type 0) → ℕ → Bound N
Unbound N n = replicate n None

none_bound : {N : Type 0} (n i : ℕ) → bound_at (Unbound N n) i ≡ None
none_bound zero i = refl
none_bound (suc n) zero = refl
none_bound (suc n) (suc i) = none_bound n i

seen_none : {N : Type 0} (f : N → Seen N) (n : ℕ) (bs : List (Option (Term N))) → bs ≡ replicate n None → seen_binds f bs ≡ Unbound N n
seen_none {N} f n bs e = ap (seen_binds f) e ∙ go n
  where
    go : (k : ℕ) → seen_binds f (replicate k None) ≡ Unbound N k
    go zero = refl
    go (suc k) = ap (λ cs. None ∷ cs) (go k)

-- the matching of no bound variable and no equation
abbrev pub nothing : (N : Type 0) → ℕ → SeenMatching N
nothing N n = record { binds = Unbound N n; equations = [] }

pub seen_nothing : {N : Type 0} (f : N → Seen N) (n : ℕ) (m : Matching N) → m.binds ≡ replicate n None → m.equations ≡ [] → seen_matching f m ≡ nothing N n
seen_nothing {N} f n m b e =
    let with_binds : Bound N → SeenMatching N = λ bs. record { binds = bs; equations = map f m.equations } in
    let with_equations : List N → SeenMatching N = λ es. record { binds = Unbound N n; equations = map f es } in
    ap with_binds (seen_none f n m.binds b) ∙ ap with_equations e

pub head_some : (sys : System) (r : Rule) → IsRule sys.cons sys.tables sys.config r → IsSome (pattern_sort sys.cons r.vars r.head)
head_some sys r checked = subst IsSome (sym checked.sorted.head.is) refl

unbound : (N : Type 0) (n i : ℕ) → IsBound (Unbound N n) i → ⊥
unbound N n i h = not_bound (Unbound N n) i (none_bound n i) h

pub nothing_lawful : (N : Type 0) (cons : List Con) (vars : List Var) → IsMatching cons vars (nothing N (length vars))
nothing_lawful N cons vars = record {
  binds = record { long = length-replicate (length vars) None; sorted = λ i t h. absurd (let e : None ≡ Some t = sym (none_bound (length vars) i) ∙ h in cc) };
  equations = All-nil IsCondition;
}

pub nothing_repeats : (N : Type 0) (sys : System) (r : Rule) → IsRule sys.cons sys.tables sys.config r → RebindsOnlyScalars r.vars (nothing N (length r.vars)).binds (λ i. times i r.head)
nothing_repeats N sys r checked = record {
  each = λ i x at h.
      let n : times_bound (bound_at (Unbound N (length r.vars)) i) ≡ 0 = ap times_bound (none_bound (length r.vars) i) in
      let s = sum_by-cons (times i) r.head (let_patterns r.demands) in
      checked.bound.repeats.each i x at (omega arith);
}

-- what goes on from nothing where the head is equal to a term has started
pub has_started : {N : Type 0} (sys : System) (r : Rule) (variables : List DataSort) (s : Term (Seen N)) (ms : List (SeenMatching N)) → GoOn (scope_of sys.cons r.vars variables) (nothing N (length r.vars)) (λ i. times i r.head) (Equals r.head s) ms → Started sys variables r s ms
has_started {N} sys r variables s ms g = record {
  each = All-weaker (Binds sys.cons r.vars (λ i. IsBound (Unbound N (length r.vars)) i ⊎ (0 < times i r.head))) (Binds sys.cons r.vars (BoundBy r 0)) (λ n b. record { lawful = b.lawful; bound = λ i. (λ h. to i ((b.bound i).0 h), λ h. (b.bound i).1 (inr (subst (λ k. 0 < k) (let_times i r.head) h))) }) ms g.each;
  together = together_same variables ms (λ v w. Fulfils v w (nothing N (length r.vars)) × Equals r.head s v w) (Equals r.head s) (λ v f w. (λ x. x.1, λ x. (free v w, x))) g.together;
}
  where
    to : (i : ℕ) → IsBound (Unbound N (length r.vars)) i ⊎ (0 < times i r.head) → BoundBy r 0 i
    to i (inl h) = absurd (unbound N (length r.vars) i h)
    to i (inr h) = subst (λ k. 0 < k) (sym (let_times i r.head)) h

    free : (v : List Value) (w : Trees) → Fulfils v w (nothing N (length r.vars))
    free v w = record { agrees = record { at = λ i t h. absurd (let e : None ≡ Some t = sym (none_bound (length r.vars) i) ∙ h in cc) }; equal = All-nil (λ x. x.meaning v ≡ One (Flag true)) }
