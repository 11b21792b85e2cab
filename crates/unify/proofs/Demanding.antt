-- Matchings of a rule, one demand after another.
use Rattle.std.proofs.Common.{arith, ◌≡◌, ◌↔◌, ℕ, zero, suc, ◌+◌, ◌<◌, ◌≤◌, List, [], ◌∷◌, ◌++◌, length, take, drop, get_or, slice_get, Option, Some, None, IsSome, All, refl, sym, ap, ◌∙◌, subst, ◌⊎◌, inl, inr}
use Rattle.std.specs.Prelude.{Any}
use Rattle.std.proofs.lemmas.List.{take_more}
use Rattle.std.proofs.lemmas.List.Elements.{All-nil, All-append, All-push, All-weaker, All-get_or, filter_map-append}
use Rattle.std.proofs.lemmas.List.Sums.{sum_by-cons, sum_by-append}
use Rattle.data_value.specs.declared.DataSort.{DataSort}
use Rattle.data_value.specs.declared.Value.{Value}
use Rattle.data_value.specs.Nodes.{Seen}
use Rattle.sort_term.specs.declared.term.Term.{Term}
use Rattle.sort_term.specs.declared.rule.Demand.{Demand}
use Rattle.sort_term.specs.declared.rule.Rule.{Rule}
use Rattle.sort_term.specs.System.{System}
use Rattle.sort_term.specs.Tree.{Trees}
use Rattle.sort_term.specs.Stands.{times, times_in, let_pattern, let_patterns, patterns_of}
use Rattle.sort_term.specs.Rules.{IsRule, demand_sort}
use Rattle.sort_term.specs.Step.{Tables, Demanded}
use Rattle.sort_term.proofs.Standing.{lets-more, get-some, get-is}
use Rattle.sort_term.proofs.DemandSorts.{demand_declared}
use Rattle.unify.specs.Binds.{bound_at, IsBound}
use Rattle.unify.specs.Meets.{SeenMatching, Fulfils, times_bound}
use Rattle.unify.specs.Matchings.{Binds, Together, GoOn, IsReady, BoundBy, AreAfter, Next, AllMet, demand_times}
use Rattle.unify.proofs.Lists.{all_front}
use Rattle.unify.proofs.Together.{together_same, together_more, together_none}
use Rattle.unify.proofs.Anys.{any_none}
use Rattle.unify.specs.Scopes.{scope_of, rule_scope_of}

-- a sum above 0
sum_cases : (a b : ℕ) → 0 < a + b → (0 < a) ⊎ (0 < b)
sum_cases zero b h = inr (omega arith)
sum_cases (suc a) b h = inl (omega arith)

-- the patterns before place k + 1
times_more : (r : Rule) (k : ℕ) (d : Demand) (i : ℕ) → k < length r.demands → d ≡ get_or r.demands k d → times_in i (r.head ∷ let_patterns (take (k + 1) r.demands)) ≡ times_in i (r.head ∷ let_patterns (take k r.demands)) + demand_times d i
times_more r k d i l e =
    let a = sum_by-cons (times i) r.head (let_patterns (take (k + 1) r.demands)) in
    let b = sum_by-cons (times i) r.head (let_patterns (take k r.demands)) in
    let m = lets-more i r.demands k d l e in
    omega arith

-- what is bound after one demand more
pub bound_more : (r : Rule) (k : ℕ) (d : Demand) (i : ℕ) → k < length r.demands → d ≡ get_or r.demands k d → BoundBy r (k + 1) i ↔ (BoundBy r k i ⊎ (0 < demand_times d i))
bound_more r k d i l e =
    let m = times_more r k d i l e in (
      λ h. sum_cases (times_in i (r.head ∷ let_patterns (take k r.demands))) (demand_times d i) (subst (λ n. 0 < n) m h),
      from,
    )
  where
    from : BoundBy r k i ⊎ (0 < demand_times d i) → BoundBy r (k + 1) i
    from (inl h) = let m = times_more r k d i l e in omega arith
    from (inr h) = let m = times_more r k d i l e in omega arith

-- the patterns before a place are among all
few_times : (r : Rule) (k : ℕ) (i : ℕ) → times_in i (r.head ∷ let_patterns (take k r.demands)) ≤ times_in i (patterns_of r)
few_times r k i =
    let a = sum_by-cons (times i) r.head (let_patterns (take k r.demands)) in
    let b = sum_by-cons (times i) r.head (let_patterns r.demands) in
    let s = ap (λ ds. times_in i (let_patterns ds)) (sym (split k r.demands)) ∙ ap (times_in i) (filter_map-append let_pattern (take k r.demands) (drop k r.demands)) ∙ sum_by-append (times i) (let_patterns (take k r.demands)) (let_patterns (drop k r.demands)) in
    omega arith
  where
    split : {X : Type 0} (n : ℕ) (xs : List X) → take n xs ++ drop n xs ≡ xs
    split zero xs = refl
    split (suc n) [] = refl
    split (suc n) (x ∷ xs) = ap (λ ys. x ∷ ys) (split n xs)

-- the next demand of a rule is ready
module _ (sys : System) (r : Rule) (checked : IsRule sys.cons sys.tables sys.config r) (k : ℕ) (d : Demand) (l : k < length r.demands) (e : d ≡ get_or r.demands k d) where
  there : slice_get r.demands k ≡ Some d
  there = get-some r.demands k d l ∙ ap Some (sym e)

  sorted : IsSome (demand_sort sys.cons sys.tables r.vars d)
  sorted = subst (λ x. IsSome (demand_sort sys.cons sys.tables r.vars x)) (sym e) (All-get_or (λ x. IsSome (demand_sort sys.cons sys.tables r.vars x)) r.demands k d l checked.sorted.demands)

  module _ {N : Type 0} where
    pub next_ready : (m : SeenMatching N) → Binds sys.cons r.vars (BoundBy r k) m → IsReady sys.cons sys.tables r.vars m d
    next_ready m b = record {
      sorted = sorted;
      reads = λ i h. (b.bound i).1 (checked.bound.reads.each k d there i (demand_declared sys.cons r.vars sys.tables d sorted i h) h);
      repeats = record { each = λ i x at h. checked.bound.repeats.each i x at (more i (bound_at m.binds i) refl h) };
    }
      where
        more : (i : ℕ) (o : Option (Term (Seen N))) → bound_at m.binds i ≡ o → 1 < times_bound (bound_at m.binds i) + demand_times d i → 1 < times_in i (patterns_of r)
        more i None is h =
            let n : times_bound (bound_at m.binds i) ≡ 0 = ap times_bound is in
            let t = times_more r k d i l e in
            let f = few_times r (k + 1) i in
            omega arith
        more i (Some t) is h =
            let n : times_bound (bound_at m.binds i) ≡ 1 = ap times_bound is in
            let s : 0 < times_in i (r.head ∷ let_patterns (take k r.demands)) = (b.bound i).0 (subst IsSome (sym is) refl) in
            let t = times_more r k d i l e in
            let f = few_times r (k + 1) i in
            omega arith

    -- matchings that go on from one where the next demand is met
    pub next_bound : (variables : List DataSort) (P : List Value → Trees → Type 0) (m : SeenMatching N) (ms : List (SeenMatching N)) → Binds sys.cons r.vars (BoundBy r k) m → GoOn (scope_of sys.cons r.vars variables) m (demand_times d) P ms → AreAfter sys r (k + 1) ms
    next_bound variables P m ms b g =
        All-weaker (Binds sys.cons r.vars (λ i. IsBound m.binds i ⊎ (0 < demand_times d i))) (Binds sys.cons r.vars (BoundBy r (k + 1))) (λ n h. record { lawful = h.lawful; bound = λ i. (λ x. to i ((h.bound i).0 x), λ x. (h.bound i).1 (from i x)) }) ms g.each
      where
        to : (i : ℕ) → IsBound m.binds i ⊎ (0 < demand_times d i) → BoundBy r (k + 1) i
        to i (inl x) = (bound_more r k d i l e).1 (inl ((b.bound i).0 x))
        to i (inr x) = (bound_more r k d i l e).1 (inr x)

        from : (i : ℕ) → BoundBy r (k + 1) i → IsBound m.binds i ⊎ (0 < demand_times d i)
        from i x = go ((bound_more r k d i l e).0 x)
          where
            go : BoundBy r k i ⊎ (0 < demand_times d i) → IsBound m.binds i ⊎ (0 < demand_times d i)
            go (inl y) = inl ((b.bound i).1 y)
            go (inr y) = inr y

    -- one matching more
    pub next_more : (tables : Tables) (variables : List DataSort) (olds : List (SeenMatching N)) (i : ℕ) (m : SeenMatching N) (ms ns : List (SeenMatching N)) → i < length olds → m ≡ get_or olds i m → AreAfter sys r k olds →
        AreAfter sys r (k + 1) ms × Together variables ms (λ v w. Any (Fulfils v w) (take i olds) × Demanded tables w d) → GoOn (scope_of sys.cons r.vars variables) m (demand_times d) (λ v w. Demanded tables w d) ns → AreAfter sys r (k + 1) (ms ++ ns) × Together variables (ms ++ ns) (λ v w. Any (Fulfils v w) (take (i + 1) olds) × Demanded tables w d)
    next_more tables variables olds i m ms ns il is after so_far g =
        let b : Binds sys.cons r.vars (BoundBy r k) m = subst (Binds sys.cons r.vars (BoundBy r k)) (sym is) (All-get_or (Binds sys.cons r.vars (BoundBy r k)) olds i m il after) in (
          All-append (Binds sys.cons r.vars (BoundBy r (k + 1))) ms ns so_far.0 (next_bound variables (λ v w. Demanded tables w d) m ns b g),
          together_more variables olds i m ms ns (λ v w. Demanded tables w d) il is so_far.1 g.together,
        )

    pub next_none : (tables : Tables) (variables : List DataSort) → AreAfter {N = N} sys r (k + 1) [] × Together {N = N} variables [] (λ v w. Any (Fulfils {N = N} v w) [] × Demanded tables w d)
    next_none tables variables = (All-nil (Binds sys.cons r.vars (BoundBy r (k + 1))), together_none variables (λ v w. Any (Fulfils {N = N} v w) [] × Demanded tables w d) (λ v f w x. any_none (Fulfils {N = N} v w) x.0))

    -- after all of them
    pub next_all : (tables : Tables) (variables : List DataSort) (olds news : List (SeenMatching N)) → AreAfter sys r (k + 1) news × Together variables news (λ v w. Any (Fulfils v w) olds × Demanded tables w d) → Next (rule_scope_of sys tables variables r) k olds news
    next_all tables variables olds news x = record {
      each = x.0;
      together = together_same variables news (λ v w. Any (Fulfils v w) olds × Demanded tables w d) (λ v w. Any (Fulfils v w) olds × ((q : Demand) → slice_get r.demands k ≡ Some q → Demanded tables w q)) (λ v f w. (
        λ y. (y.0, λ q h. subst (Demanded tables w) (same q h) y.1),
        λ y. (y.0, y.1 d there),
      )) x.1;
    }
      where
        same : (q : Demand) → slice_get r.demands k ≡ Some q → d ≡ q
        same q h = let s : Some d ≡ Some q = sym there ∙ h in cc

-- no demand, and one demand more
pub all_met_none : {N : Type 0} (sys : System) (tables : Tables) (variables : List DataSort) (r : Rule) (ms : List (SeenMatching N)) → AreAfter sys r 0 ms → AllMet (rule_scope_of sys tables variables r) 0 ms ms
all_met_none sys tables variables r ms a = record {
  each = a;
  together = record { exact = λ v f w. (λ x. x.0, λ x. (x, All-nil (Demanded tables w))) };
}

pub all_met_more : {N : Type 0} (sys : System) (tables : Tables) (variables : List DataSort) (r : Rule) (k : ℕ) (first old new : List (SeenMatching N)) → k < length r.demands → AllMet (rule_scope_of sys tables variables r) k first old → Next (rule_scope_of sys tables variables r) k old new → AllMet (rule_scope_of sys tables variables r) (k + 1) first new
all_met_more {N} sys tables variables r k first old new l a n = record {
  each = n.each;
  together = record {
    exact = λ v f w. (
      λ x.
          let p = parts w x.1 in
          (n.together.exact v f w).0 ((a.together.exact v f w).0 (x.0, p.0), λ q h. subst (Demanded tables w) (at q h) p.1),
      λ x.
          let y = (n.together.exact v f w).1 x in
          let z = (a.together.exact v f w).1 y.0 in
          (z.0, whole w z.1 (y.1 d there)),
    );
  };
}
  where
    d : Demand
    d = get_or r.demands k (some r.demands l)
      where
        some : (ds : List Demand) → k < length ds → Demand
        some [] m = absurd (omega arith)
        some (x ∷ ds) m = x

    there : slice_get r.demands k ≡ Some d
    there = get-some r.demands k _ l

    at : (q : Demand) → slice_get r.demands k ≡ Some q → d ≡ q
    at q h = let s : Some d ≡ Some q = sym there ∙ h in cc

    taken : take (k + 1) r.demands ≡ take k r.demands ++ d ∷ []
    taken = take_more r.demands k d l ∙ ap (λ z. take k r.demands ++ z ∷ []) (get-is r.demands k d d there)

    parts : (w : Trees) → All (Demanded tables w) (take (k + 1) r.demands) → All (Demanded tables w) (take k r.demands) × Demanded tables w d
    parts w h = all_front (Demanded tables w) (take k r.demands) d (subst (All (Demanded tables w)) taken h)

    whole : (w : Trees) → All (Demanded tables w) (take k r.demands) → Demanded tables w d → All (Demanded tables w) (take (k + 1) r.demands)
    whole w h x = subst (All (Demanded tables w)) (sym taken) (All-push (Demanded tables w) (take k r.demands) d h x)
