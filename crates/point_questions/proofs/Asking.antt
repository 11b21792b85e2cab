-- Questions whether states aren't in their cuts, and whether runs don't come there.
use Rattle.std.proofs.Common.{arith, ◌≡◌, ◌⊎◌, inl, inr, ℕ, zero, suc, ◌+◌, ◌-◌, ◌<◌, ◌≤◌, true, false, Bool, ◌&&◌, IsSome, List, [], ◌∷◌, ◌++◌, length, map, take, get_or, slice_get, Some, All, Any, refl, sym, ap, ◌∙◌, subst}
use Rattle.std.specs.List.{AllPairs}
use Rattle.std.proofs.lemmas.Bool.{and_parts, and_from, cases_lt}
use Rattle.std.proofs.lemmas.List.{append-nil, append_assoc, length-append, length-map, length-take-le, map-append, get_or_append_left, get_or-append_right}
use Rattle.std.proofs.lemmas.List.Elements.{All-nil, All-cons, All-append, All-weaker}
use Rattle.data_value.specs.declared.DataSort.{DataSort}
use Rattle.data_value.specs.declared.Value.{Value}
use Rattle.data_value.specs.Values.{IsValue, value_sort}
use Rattle.data_value.specs.Nodes.{Seen, IsValuation}
use Rattle.data_value.specs.Truth.{IsCondition, IsTruth, truth}
use Rattle.sort_term.specs.declared.points.Cut.{Cut}
use Rattle.sort_term.specs.declared.problem.Problem.{Problem}
use Rattle.sort_term.specs.declared.semantics.Con.{Con}
use Rattle.sort_term.specs.declared.term.Term.{Term}
use Rattle.sort_term.specs.Cuts.{InCut}
use Rattle.sort_term.specs.Relation.{left, right, InCutOf}
use Rattle.sort_term.specs.NodeTerms.{tree_of}
use Rattle.sort_term.proofs.Standing.{get-is, get-below}
use Rattle.unify.proofs.Anys.{any_here, any_later, any_left, any_right}
use Rattle.path_condition.specs.declared.leaf.Leaf.{Leaf}
use Rattle.path_condition.specs.Leaves.{SeenLeaf, seen_leaf, seen_leaves}
use Rattle.probe_keys.specs.Probed.{IsProbed}
use Rattle.cut_cover.specs.Outside.{IsOutside}
use Rattle.point_questions.specs.declared.grounding.Escape.{Escape}
use Rattle.point_questions.specs.declared.grounding.Escape.TheVariants as escape
use Rattle.pair_match.proofs.Arguments.{images_more}
use Rattle.point_questions.specs.declared.question.Question.{Question}
use Rattle.ground_step.specs.declared.verdict.SideName.{SideName}
use Rattle.ground_step.specs.declared.verdict.SideName.TheVariants as side
use Rattle.point_questions.specs.declared.question.Flaw.{Flaw}
use Rattle.point_questions.specs.declared.question.Flaw.TheVariants.{Outside, Long, Halted, RightFails, RightMisses, LeftFails}
use Rattle.point_questions.specs.Posed.{SeenPosed}
use Rattle.point_questions.specs.Questions.{SeenPoint, SeenQuestion, seen_questions, unsearched, searched_side, leaf_of, flaw_rank, IsQuestion, IsOutsideFlaw, IsRunFlaw, AreQuestions}
use Rattle.point_questions.specs.Lists.{HaveConditions, run_flaw, numbered}

-- no variables have no values
no_values : (w : List Value) → IsValuation [] w → w ≡ []
no_values [] fits = refl
no_values (x ∷ w) fits = absurd (let e : length (map value_sort (x ∷ w)) ≡ 0 = ap length fits.sorted in cc)

nothing_fits : IsValuation [] []
nothing_fits = record { values = All-nil IsValue; sorted = refl }

-- a formula without variables of its own, which says that a condition is true while P doesn't hold
module _ {N : Type 0} (variables : List DataSort) (holds : List Value → Bool) (P : List Value → Type 0) (s : Seen N) (condition : IsCondition s) where
  pub keyless : ((v : List Value) → IsValuation variables v → truth s v ≡ true → (holds v ≡ true) × (¬ P v)) → ((v : List Value) → IsValuation variables v → holds v ≡ true → P v ⊎ (truth s v ≡ true)) → IsProbed variables variables holds P s
  keyless sound decides = record {
    keys = [];
    grown = sym (append-nil variables);
    condition = condition;
    sound = λ v w fits keys h.
        let same : v ++ w ≡ v = ap (λ u. v ++ u) (no_values w keys) ∙ append-nil v in
        sound v fits (ap (truth s) (sym same) ∙ h);
    decides = λ v fits h. elim (decides v fits h) [ inl p ↦ inl p | inr t ↦ inr ([], nothing_fits, ap (truth s) (append-nil v) ∙ t) ];
  }

-- a condition is true and a configuration isn't in its cut
pub outside_asked : {S N : Type 0} (variables : List DataSort) (cons : List Con) (cuts : List (Cut S)) (state : Term (Seen N)) (c e s : Seen N) → IsOutside variables cons cuts state e → IsTruth s (λ v. truth c v && truth e v) → IsProbed variables variables (truth c) (λ v. InCut cons cuts (tree_of v state)) s
outside_asked variables cons cuts state c e s outside joins = keyless variables (truth c) (λ v. InCut cons cuts (tree_of v state)) s joins.condition
    (λ v fits h.
    let parts = and_parts (truth c v) (truth e v) (sym (joins.means v) ∙ h) in
    (parts.0, λ i. let t : true ≡ false = sym parts.1 ∙ (outside.inside v fits).1 i in cc))
    (λ v fits h. go v fits h (truth e v) refl)
  where
    go : (v : List Value) → IsValuation variables v → truth c v ≡ true → (b : Bool) → truth e v ≡ b → InCut cons cuts (tree_of v state) ⊎ (truth s v ≡ true)
    go v fits h false is = inl ((outside.inside v fits).0 is)
    go v fits h true is = inr (joins.means v ∙ and_from (truth c v) (truth e v) h is)

-- a condition is true
pub truth_asked : {N : Type 0} (variables : List DataSort) (s : Seen N) → IsCondition s → IsProbed variables variables (truth s) (λ v. ⊥) s
truth_asked variables s condition = keyless variables (truth s) (λ v. ⊥) s condition (λ v fits h. (h, λ x. x)) (λ v fits h. inr h)

-- both questions whether a state isn't in its cut
module _ {N : Type 0} (q : Problem) (variables : List DataSort) (x : SeenPosed N) (s t : Seen N) (first : IsProbed variables variables (truth x.condition) (λ v. InCutOf q left (tree_of v x.left)) s) (second : IsProbed variables variables (truth x.condition) (λ v. InCutOf q right (tree_of v x.right)) t) where
  pub outside_pair : AreQuestions IsOutsideFlaw q variables variables (unsearched x) (record { flaw = Outside side.Left; formula = s } ∷ record { flaw = Outside side.Right; formula = t } ∷ [])
  outside_pair = record {
    each = All-cons Is one (two ∷ []) (tt, record { leaf = record { condition = x.condition; state = x.left; rules = [] }; there = refl; asks = first })
        (All-cons Is two [] (tt, record { leaf = record { condition = x.condition; state = x.right; rules = [] }; there = refl; asks = second }) (All-nil Is));
    all = all;
    ordered = λ i j d l h. pairs i j d l h;
  }
    where
      one : SeenQuestion N
      one = record { flaw = Outside side.Left; formula = s }

      two : SeenQuestion N
      two = record { flaw = Outside side.Right; formula = t }

      Is : SeenQuestion N → Type 0
      Is y = IsOutsideFlaw y.flaw × IsQuestion q variables variables (unsearched x) y.flaw y.formula

      all : (flaw : Flaw) → IsOutsideFlaw flaw → IsSome (leaf_of (unsearched x) flaw) → Any (λ (y : SeenQuestion N). y.flaw ≡ flaw) (one ∷ two ∷ [])
      all (Outside side.Left) of some = any_here (λ (y : SeenQuestion N). y.flaw ≡ Outside side.Left) one (two ∷ []) refl
      all (Outside side.Right) of some = any_later (λ (y : SeenQuestion N). y.flaw ≡ Outside side.Right) one (two ∷ []) (any_here (λ (y : SeenQuestion N). y.flaw ≡ Outside side.Right) two [] refl)
      all (Long r i) of some = absurd of
      all (Halted r i) of some = absurd of
      all (RightFails i) of some = absurd of
      all (RightMisses i) of some = absurd of
      all (LeftFails i) of some = absurd of

      pairs : (i j : ℕ) (d : SeenQuestion N) → i < j → j < 2 → flaw_rank (get_or (one ∷ two ∷ []) i d).flaw ≤ flaw_rank (get_or (one ∷ two ∷ []) j d).flaw
      pairs zero zero d l h = absurd (omega (arith, l))
      pairs zero (suc zero) d l h = omega arith
      pairs zero (suc (suc j)) d l h = absurd (omega (arith, h))
      pairs (suc i) zero d l h = absurd (omega (arith, l))
      pairs (suc i) (suc zero) d l h = absurd (omega (arith, l))
      pairs (suc i) (suc (suc j)) d l h = absurd (omega (arith, h))

-- numbered questions, one more
pub numbered_push : {N : Type 0} (make : ℕ → Flaw) (k : ℕ) (leaves : List (SeenLeaf N)) (l : SeenLeaf N) → numbered make k (leaves ++ l ∷ []) ≡ numbered make k leaves ++ record { flaw = make (k + length leaves); formula = l.condition } ∷ []
numbered_push make k [] l = ap (λ (n : ℕ). record { flaw = make n; formula = l.condition } ∷ []) (let e : k ≡ k + 0 = omega arith in e)
numbered_push make k (m ∷ leaves) l =
    ap (λ ys. record { flaw = make k; formula = m.condition } ∷ ys) (numbered_push make (k + 1) leaves l ∙ ap (λ (n : ℕ). numbered make (k + 1) leaves ++ record { flaw = make n; formula = l.condition } ∷ []) (let e : k + 1 + length leaves ≡ k + length (m ∷ leaves) = omega arith in e))

module _ {N : Type 0} (make : ℕ → Flaw) where
  -- what holds of each numbered leaf holds of each question
  pub numbered_each : (P : SeenQuestion N → Type 0) (k : ℕ) (leaves : List (SeenLeaf N)) → ((i : ℕ) (l : SeenLeaf N) → slice_get leaves i ≡ Some l → P (record { flaw = make (k + i); formula = l.condition })) → All P (numbered make k leaves)
  numbered_each P k [] each = All-nil P
  numbered_each P k (l ∷ leaves) each =
      All-cons P (record { flaw = make k; formula = l.condition }) (numbered make (k + 1) leaves)
      (subst (λ (n : ℕ). P (record { flaw = make n; formula = l.condition })) (let e : k + 0 ≡ k = omega arith in e) (each 0 l refl))
      (numbered_each P (k + 1) leaves (λ i m h. subst (λ (n : ℕ). P (record { flaw = make n; formula = m.condition })) (let e : k + suc i ≡ k + 1 + i = omega arith in e) (each (suc i) m h)))

  -- each leaf has a question
  pub numbered_there : (k : ℕ) (leaves : List (SeenLeaf N)) (i : ℕ) → IsSome (slice_get leaves i) → Any (λ (y : SeenQuestion N). y.flaw ≡ make (k + i)) (numbered make k leaves)
  numbered_there k [] i h = absurd (cc)
  numbered_there k (l ∷ leaves) zero h = any_here (λ (y : SeenQuestion N). y.flaw ≡ make (k + 0)) (record { flaw = make k; formula = l.condition }) (numbered make (k + 1) leaves) (ap make (let e : k ≡ k + 0 = omega arith in e))
  numbered_there k (l ∷ leaves) (suc i) h =
      any_later (λ (y : SeenQuestion N). y.flaw ≡ make (k + suc i)) (record { flaw = make k; formula = l.condition }) (numbered make (k + 1) leaves)
      (subst (λ (n : ℕ). Any (λ (y : SeenQuestion N). y.flaw ≡ make n) (numbered make (k + 1) leaves)) (let e : k + 1 + i ≡ k + suc i = omega arith in e) (numbered_there (k + 1) leaves i h))

-- one more question is pushed, for one more leaf
module _ {S N : Type 0} (look : N → Seen N) (make : ℕ → Flaw) (leaves : List (Leaf S N)) (old questions new : List (Question N)) (place : ℕ) (leaf : Leaf S N) (l : place < length leaves) (is : leaf ≡ get_or leaves place leaf) (flaw : Flaw) (formula : N) where
  pub push_numbered : flaw ≡ make place → look formula ≡ look leaf.condition → seen_questions look questions ≡ seen_questions look old ++ numbered make 0 (seen_leaves look (take place leaves)) → new ≡ questions ++ record { flaw = flaw; formula = formula } ∷ [] → seen_questions look new ≡ seen_questions look old ++ numbered make 0 (seen_leaves look (take (place + 1) leaves))
  push_numbered named means so_far push =
      ap (seen_questions look) push
      ∙ map-append (seen_question look) questions (record { flaw = flaw; formula = formula } ∷ [])
      ∙ ap (λ ys. ys ++ seen_question look (record { flaw = flaw; formula = formula }) ∷ []) so_far
      ∙ append_assoc (seen_questions look old) before (seen_question look (record { flaw = flaw; formula = formula }) ∷ [])
      ∙ ap (λ ys. seen_questions look old ++ ys) last
    where
      seen_question : (N → Seen N) → Question N → SeenQuestion N
      seen_question f y = record { flaw = y.flaw; formula = f y.formula }

      before : List (SeenQuestion N)
      before = numbered make 0 (seen_leaves look (take place leaves))

      many : 0 + length (seen_leaves look (take place leaves)) ≡ place
      many = let e : length (seen_leaves look (take place leaves)) ≡ place = length-map (take place leaves) (seen_leaf look) ∙ length-take-le place leaves (omega arith) in omega (arith, e)

      last : before ++ record { flaw = flaw; formula = look formula } ∷ [] ≡ numbered make 0 (seen_leaves look (take (place + 1) leaves))
      last =
          ap (λ (f : Flaw). before ++ record { flaw = f; formula = look formula } ∷ []) (named ∙ ap make (sym many))
          ∙ ap (λ (s : Seen N). before ++ record { flaw = make (0 + length (seen_leaves look (take place leaves))); formula = s } ∷ []) means
          ∙ sym (numbered_push make 0 (seen_leaves look (take place leaves)) (seen_leaf look leaf))
          ∙ ap (numbered make 0) (sym (images_more (seen_leaf look) leaves place leaf l is))

-- a fact of all leaves, at a place
pub all_at : {X : Type 0} (P : X → Type 0) (xs : List X) (i : ℕ) (x : X) → All P xs → slice_get xs i ≡ Some x → P x
all_at P xs i x all h = subst P (get-is xs i x x h) (all i x (get-below xs i x h))

-- questions that stand in the order of the verdict
module _ {N : Type 0} where
  pairs_join : (m : ℕ) (xs ys : List (SeenQuestion N)) → AllPairs (λ y z. flaw_rank y.flaw ≤ flaw_rank z.flaw) xs → AllPairs (λ y z. flaw_rank y.flaw ≤ flaw_rank z.flaw) ys → All (λ y. flaw_rank y.flaw ≤ m) xs → All (λ y. m ≤ flaw_rank y.flaw) ys → AllPairs (λ y z. flaw_rank y.flaw ≤ flaw_rank z.flaw) (xs ++ ys)
  pairs_join m xs ys p r a b i j d l h = go (cases_lt i (length xs)) (cases_lt j (length xs))
    where
      long : length (xs ++ ys) ≡ length xs + length ys
      long = length-append xs ys

      go : (i < length xs) ⊎ (length xs ≤ i) → (j < length xs) ⊎ (length xs ≤ j) → flaw_rank (get_or (xs ++ ys) i d).flaw ≤ flaw_rank (get_or (xs ++ ys) j d).flaw
      go (inl e) (inl f) =
          subst (λ y. flaw_rank y.flaw ≤ flaw_rank (get_or (xs ++ ys) j d).flaw) (sym (get_or_append_left xs ys d i e))
          (subst (λ z. flaw_rank (get_or xs i d).flaw ≤ flaw_rank z.flaw) (sym (get_or_append_left xs ys d j f)) (p i j d l f))
      go (inl e) (inr f) =
          let low : flaw_rank (get_or xs i d).flaw ≤ m = a i d e in
          let high : m ≤ flaw_rank (get_or ys (j - length xs) d).flaw = b (j - length xs) d (omega (arith, h, long, f)) in
          subst (λ y. flaw_rank y.flaw ≤ flaw_rank (get_or (xs ++ ys) j d).flaw) (sym (get_or_append_left xs ys d i e))
          (subst (λ z. flaw_rank (get_or xs i d).flaw ≤ flaw_rank z.flaw) (sym (get_or-append_right xs ys (length xs) j d refl f)) (omega (arith, low, high)))
      go (inr e) (inl f) = absurd (omega (arith, l, e, f))
      go (inr e) (inr f) =
          subst (λ y. flaw_rank y.flaw ≤ flaw_rank (get_or (xs ++ ys) j d).flaw) (sym (get_or-append_right xs ys (length xs) i d refl e))
          (subst (λ z. flaw_rank (get_or ys (i - length xs) d).flaw ≤ flaw_rank z.flaw) (sym (get_or-append_right xs ys (length xs) j d refl f)) (r (i - length xs) (j - length xs) d (omega (arith, l, e, f)) (omega (arith, h, long, f))))

  -- questions of one kind and one side
  pub pairs_same : (m : ℕ) (xs : List (SeenQuestion N)) → All (λ y. flaw_rank y.flaw ≡ m) xs → AllPairs (λ y z. flaw_rank y.flaw ≤ flaw_rank z.flaw) xs
  pairs_same m xs a i j d l h =
      let e : flaw_rank (get_or xs i d).flaw ≡ m = a i d (omega (arith, l, h)) in
      let f : flaw_rank (get_or xs j d).flaw ≡ m = a j d h in
      omega (arith, e, f)

-- the questions of runs that don't come to the cut
module _ {N : Type 0} (q : Problem) (variables : List DataSort) (x : SeenPoint N) where
  Is : SeenQuestion N → Type 0
  Is y = IsRunFlaw y.flaw × IsQuestion q variables variables x y.flaw y.formula

  part : Escape → SideName → List (SeenQuestion N)
  part escape.Long s = numbered (run_flaw escape.Long s) 0 (searched_side x s).long
  part escape.Halted s = numbered (run_flaw escape.Halted s) 0 (searched_side x s).halted

  long_is : (s : SideName) → HaveConditions (searched_side x s).long → All Is (part escape.Long s)
  unfolding Is part
  long_is s conditions =
      numbered_each (run_flaw escape.Long s) Is 0 (searched_side x s).long
      (λ i l h. (tt, record { leaf = l; there = subst (λ (n : ℕ). slice_get (searched_side x s).long n ≡ Some l) (let e : i ≡ 0 + i = omega arith in e) h; asks = truth_asked variables l.condition (all_at (λ (m : SeenLeaf N). IsCondition m.condition) (searched_side x s).long i l conditions h) }))

  halted_is : (s : SideName) → HaveConditions (searched_side x s).halted → All Is (part escape.Halted s)
  unfolding Is part
  halted_is s conditions =
      numbered_each (run_flaw escape.Halted s) Is 0 (searched_side x s).halted
      (λ i l h. (tt, record { leaf = l; there = subst (λ (n : ℕ). slice_get (searched_side x s).halted n ≡ Some l) (let e : i ≡ 0 + i = omega arith in e) h; asks = truth_asked variables l.condition (all_at (λ (m : SeenLeaf N). IsCondition m.condition) (searched_side x s).halted i l conditions h) }))

  -- each has the rank of its kind and its side
  one_rank : (e : Escape) (s : SideName) (i : ℕ) → flaw_rank (run_flaw e s i) ≡ flaw_rank (run_flaw e s 0)
  one_rank escape.Long side.Left i = refl
  one_rank escape.Long side.Right i = refl
  one_rank escape.Halted side.Left i = refl
  one_rank escape.Halted side.Right i = refl

  part_rank : (e : Escape) (s : SideName) → All (λ (y : SeenQuestion N). flaw_rank y.flaw ≡ flaw_rank (run_flaw e s 0)) (part e s)
  unfolding part
  part_rank escape.Long s = numbered_each (run_flaw escape.Long s) (λ (y : SeenQuestion N). flaw_rank y.flaw ≡ flaw_rank (run_flaw escape.Long s 0)) 0 (searched_side x s).long (λ i l h. one_rank escape.Long s (0 + i))
  part_rank escape.Halted s = numbered_each (run_flaw escape.Halted s) (λ (y : SeenQuestion N). flaw_rank y.flaw ≡ flaw_rank (run_flaw escape.Halted s 0)) 0 (searched_side x s).halted (λ i l h. one_rank escape.Halted s (0 + i))

  at_most : (m k : ℕ) (ys : List (SeenQuestion N)) → m ≤ k → All (λ (y : SeenQuestion N). flaw_rank y.flaw ≡ m) ys → All (λ (y : SeenQuestion N). flaw_rank y.flaw ≤ k) ys
  at_most m k ys l a = All-weaker (λ (y : SeenQuestion N). flaw_rank y.flaw ≡ m) (λ (y : SeenQuestion N). flaw_rank y.flaw ≤ k) (λ y e. omega (arith, e, l)) ys a

  at_least : (m k : ℕ) (ys : List (SeenQuestion N)) → k ≤ m → All (λ (y : SeenQuestion N). flaw_rank y.flaw ≡ m) ys → All (λ (y : SeenQuestion N). k ≤ flaw_rank y.flaw) ys
  at_least m k ys l a = All-weaker (λ (y : SeenQuestion N). flaw_rank y.flaw ≡ m) (λ (y : SeenQuestion N). k ≤ flaw_rank y.flaw) (λ y e. omega (arith, e, l)) ys a

  first : List (SeenQuestion N)
  first = part escape.Long side.Left

  second : List (SeenQuestion N)
  second = part escape.Long side.Right

  third : List (SeenQuestion N)
  third = part escape.Halted side.Left

  fourth : List (SeenQuestion N)
  fourth = part escape.Halted side.Right

  in_order : AllPairs (λ y z. flaw_rank y.flaw ≤ flaw_rank z.flaw) (((first ++ second) ++ third) ++ fourth)
  unfolding first second third fourth
  in_order =
      let a = part_rank escape.Long side.Left in
      let b = part_rank escape.Long side.Right in
      let c = part_rank escape.Halted side.Left in
      let d = part_rank escape.Halted side.Right in
      let P : ℕ → SeenQuestion N → Type 0 = λ k y. flaw_rank y.flaw ≤ k in
      pairs_join 5 ((first ++ second) ++ third) fourth
      (pairs_join 4 (first ++ second) third
      (pairs_join 3 first second (pairs_same 3 first a) (pairs_same 4 second b) (at_most 3 3 first (omega arith) a) (at_least 4 3 second (omega arith) b))
      (pairs_same 5 third c)
      (All-append (P 4) first second (at_most 3 4 first (omega arith) a) (at_most 4 4 second (omega arith) b)) (at_least 5 4 third (omega arith) c))
      (pairs_same 6 fourth d)
      (All-append (P 5) (first ++ second) third (All-append (P 5) first second (at_most 3 5 first (omega arith) a) (at_most 4 5 second (omega arith) b)) (at_most 5 5 third (omega arith) c))
      (at_least 6 5 fourth (omega arith) d)

  there : (e : Escape) (s : SideName) (i : ℕ) → IsSome (leaf_of x (run_flaw e s i)) → Any (λ (y : SeenQuestion N). y.flaw ≡ run_flaw e s i) (part e s)
  unfolding part
  there escape.Long s i h = subst (λ (n : ℕ). Any (λ (y : SeenQuestion N). y.flaw ≡ run_flaw escape.Long s n) (numbered (run_flaw escape.Long s) 0 (searched_side x s).long)) (let e : 0 + i ≡ i = omega arith in e) (numbered_there (run_flaw escape.Long s) 0 (searched_side x s).long i h)
  there escape.Halted s i h = subst (λ (n : ℕ). Any (λ (y : SeenQuestion N). y.flaw ≡ run_flaw escape.Halted s n) (numbered (run_flaw escape.Halted s) 0 (searched_side x s).halted)) (let e : 0 + i ≡ i = omega arith in e) (numbered_there (run_flaw escape.Halted s) 0 (searched_side x s).halted i h)

  all_there : (flaw : Flaw) → IsRunFlaw flaw → IsSome (leaf_of x flaw) → Any (λ (y : SeenQuestion N). y.flaw ≡ flaw) (((first ++ second) ++ third) ++ fourth)
  unfolding first second third fourth
  all_there (Outside s) of some = absurd of
  all_there (Long side.Left i) of some = let P : SeenQuestion N → Type 0 = λ y. y.flaw ≡ Long side.Left i in any_left P ((first ++ second) ++ third) fourth (any_left P (first ++ second) third (any_left P first second (there escape.Long side.Left i some)))
  all_there (Long side.Right i) of some = let P : SeenQuestion N → Type 0 = λ y. y.flaw ≡ Long side.Right i in any_left P ((first ++ second) ++ third) fourth (any_left P (first ++ second) third (any_right P first second (there escape.Long side.Right i some)))
  all_there (Halted side.Left i) of some = let P : SeenQuestion N → Type 0 = λ y. y.flaw ≡ Halted side.Left i in any_left P ((first ++ second) ++ third) fourth (any_right P (first ++ second) third (there escape.Halted side.Left i some))
  all_there (Halted side.Right i) of some = let P : SeenQuestion N → Type 0 = λ y. y.flaw ≡ Halted side.Right i in any_right P ((first ++ second) ++ third) fourth (there escape.Halted side.Right i some)
  all_there (RightFails i) of some = absurd of
  all_there (RightMisses i) of some = absurd of
  all_there (LeftFails i) of some = absurd of

  pub runs_asked : HaveConditions x.left.long → HaveConditions x.right.long → HaveConditions x.left.halted → HaveConditions x.right.halted → (ys : List (SeenQuestion N)) → ys ≡ ((numbered (run_flaw escape.Long side.Left) 0 x.left.long ++ numbered (run_flaw escape.Long side.Right) 0 x.right.long) ++ numbered (run_flaw escape.Halted side.Left) 0 x.left.halted) ++ numbered (run_flaw escape.Halted side.Right) 0 x.right.halted → AreQuestions IsRunFlaw q variables variables x ys
  unfolding Is part first second third fourth
  runs_asked a b c d ys e = subst (AreQuestions IsRunFlaw q variables variables x) (sym e) (record {
    each = All-append Is ((first ++ second) ++ third) fourth (All-append Is (first ++ second) third (All-append Is first second (long_is side.Left a) (long_is side.Right b)) (halted_is side.Left c)) (halted_is side.Right d);
    all = all_there;
    ordered = in_order;
  })
