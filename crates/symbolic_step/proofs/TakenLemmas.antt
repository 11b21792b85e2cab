-- Leaves of branches that are taken at the end of a path.
use Rattle.std.proofs.Common.{◌≡◌, ◌↔◌, ℕ, ◌+◌, ◌<◌, true, false, ◌&&◌, ◌||◌, List, [], ◌∷◌, ◌++◌, length, take, get_or, refl, sym, ap, ◌∙◌, ◌⊎◌, inl, inr}
use Rattle.std.specs.Prelude.{Any}
use Rattle.std.proofs.lemmas.Bool.{and_parts}
use Rattle.std.proofs.lemmas.List.Elements.{All-nil, All-cons, All-append}
use Rattle.std.proofs.lemmas.List.Folds.{list_any_more, Any-from_list_any, list_any-from_Any}
use Rattle.data_value.specs.declared.Value.{Value}
use Rattle.data_value.specs.Values.{flag_of, scalar_of}
use Rattle.data_value.specs.Nodes.{Seen}
use Rattle.data_value.specs.Truth.{truth, IsTruth}
use Rattle.data_value.proofs.TruthLemmas.{flag_is, truth_says}
use Rattle.sort_term.specs.System.{System}
use Rattle.sort_term.specs.Tree.{Tree}
use Rattle.sort_term.specs.NodeTerms.{tree_of}
use Rattle.unify.specs.Branches.{SeenBranch, IsBranch, IsConfiguration, LeadsTo}
use Rattle.unify.proofs.Anys.{any_none, any_one, any_here, any_left, any_right, any_split, any_more}
use Rattle.path_condition.specs.Leaves.{SeenLeaf, IsLeaf, Says, Gives}
use Rattle.symbolic_step.specs.OneStep.{SeenPath, IsLive}
use Rattle.symbolic_step.specs.Ends.{IsEndOf, AreTaken, some_holds}
use Rattle.std.proofs.Common.{subst}

module _ {N : Type 0} (sys : System) (p : SeenPath N) (n : ℕ) where
  -- what a branch leads to where the path's condition is true
  abbrev LedFrom : SeenBranch N → List Value → List ℕ → Tree → Type 0
  LedFrom b v rules t = (truth p.condition v ≡ true) × ((rules ≡ p.rules ++ n ∷ []) × LeadsTo v t b)

  abbrev LedFromSome : List (SeenBranch N) → List Value → List ℕ → Tree → Type 0
  LedFromSome bs v rules t = (truth p.condition v ≡ true) × ((rules ≡ p.rules ++ n ∷ []) × Any (LeadsTo v t) bs)

  module _ (b : SeenBranch N) (v : List Value) (rules : List ℕ) (t : Tree) where
    -- the leaf at the end of a branch says exactly this
    pub end_says : (l : SeenLeaf N) → IsEndOf p n b l → Says v rules t l ↔ LedFrom b v rules t
    end_says l e = (to, from)
      where
        to : Says v rules t l → LedFrom b v rules t
        to s =
            let both = and_parts (truth p.condition v) (truth b.condition v) (sym (e.means.means v) ∙ s.holds) in
            (both.0, (sym s.by ∙ e.rules, record { holds = flag_is (b.condition.meaning v) both.1; result = ap (tree_of v) (sym e.state) ∙ s.state }))

        from : LedFrom b v rules t → Says v rules t l
        from x =
            let path : truth p.condition v ≡ true = x.0 in
            let here : truth b.condition v ≡ true = ap (λ y. flag_of (scalar_of y)) x.1.1.holds in
            record { holds = e.means.means v ∙ rw (path, here) refl; by = e.rules ∙ sym x.1.0; state = ap (tree_of v) e.state ∙ x.1.1.result }

    -- a branch that is apart from the path leads nowhere
    pub apart_leads : truth p.condition v && truth b.condition v ≡ false → LedFrom b v rules t → ⊥
    apart_leads e x =
        let path : truth p.condition v ≡ true = x.0 in
        let here : truth b.condition v ≡ true = ap (λ y. flag_of (scalar_of y)) x.1.1.holds in
        let both : truth p.condition v && truth b.condition v ≡ true = rw (path, here) refl in
        cc

  -- no branches, no leaves
  pub taken_none : AreTaken sys p n [] []
  taken_none = record {
    each = All-nil (IsLeaf {N = N} sys);
    live = All-nil (IsLive {N = N});
    exact = λ v rules t. (λ a. absurd (any_none (Says {N = N} v rules t) a), λ x. absurd (any_none (LeadsTo {N = N} v t) x.1.1));
  }

  module _ (bs : List (SeenBranch N)) (i : ℕ) (b : SeenBranch N) (lt : i < length bs) (is : b ≡ get_or bs i b) (ls : List (SeenLeaf N)) (before : AreTaken sys p n (take i bs) ls) where
    -- what one branch more leads to
    led_more : (v : List Value) (rules : List ℕ) (t : Tree) → LedFromSome (take (i + 1) bs) v rules t ↔ (LedFromSome (take i bs) v rules t ⊎ LedFrom b v rules t)
    led_more v rules t = (to, from)
      where
        more : Any (LeadsTo v t) (take (i + 1) bs) ↔ (Any (LeadsTo v t) (take i bs) ⊎ LeadsTo v t b)
        more = any_more (LeadsTo v t) bs i b lt is

        to : LedFromSome (take (i + 1) bs) v rules t → LedFromSome (take i bs) v rules t ⊎ LedFrom b v rules t
        to x = go (more.0 x.1.1)
          where
            go : Any (LeadsTo v t) (take i bs) ⊎ LeadsTo v t b → LedFromSome (take i bs) v rules t ⊎ LedFrom b v rules t
            go (inl a) = inl (x.0, (x.1.0, a))
            go (inr l) = inr (x.0, (x.1.0, l))

        from : LedFromSome (take i bs) v rules t ⊎ LedFrom b v rules t → LedFromSome (take (i + 1) bs) v rules t
        from (inl x) = (x.0, (x.1.0, more.1 (inl x.1.1)))
        from (inr x) = (x.0, (x.1.0, more.1 (inr x.1.1)))

    -- one branch more, with its leaf
    pub taken_more : (l : SeenLeaf N) → IsBranch sys b → IsEndOf p n b l → AreTaken sys p n (take (i + 1) bs) (ls ++ l ∷ [])
    taken_more l lawful e = record {
      each = All-append (IsLeaf sys) ls (l ∷ []) before.each (All-cons (IsLeaf sys) l [] is_leaf (All-nil (IsLeaf sys)));
      live = All-append IsLive ls (l ∷ []) before.live (All-cons IsLive l [] e.live (All-nil IsLive));
      exact = exact;
    }
      where
        is_leaf : IsLeaf sys l
        is_leaf = record { condition = e.means.condition; state = subst (IsConfiguration sys) (sym e.state) lawful.result }

        exact : (v : List Value) (rules : List ℕ) (t : Tree) → Gives v rules t (ls ++ l ∷ []) ↔ LedFromSome (take (i + 1) bs) v rules t
        exact v rules t = (to, from)
          where
            to : Gives v rules t (ls ++ l ∷ []) → LedFromSome (take (i + 1) bs) v rules t
            to a = go (any_split (Says v rules t) ls (l ∷ []) a)
              where
                go : Gives v rules t ls ⊎ Gives v rules t (l ∷ []) → LedFromSome (take (i + 1) bs) v rules t
                go (inl x) = (led_more v rules t).1 (inl ((before.exact v rules t).0 x))
                go (inr x) = (led_more v rules t).1 (inr ((end_says b v rules t l e).0 (any_one (Says v rules t) l x)))

            from : LedFromSome (take (i + 1) bs) v rules t → Gives v rules t (ls ++ l ∷ [])
            from x = go ((led_more v rules t).0 x)
              where
                go : LedFromSome (take i bs) v rules t ⊎ LedFrom b v rules t → Gives v rules t (ls ++ l ∷ [])
                go (inl y) = any_left (Says v rules t) ls (l ∷ []) ((before.exact v rules t).1 y)
                go (inr y) = any_right (Says v rules t) ls (l ∷ []) (any_here (Says v rules t) l [] ((end_says b v rules t l e).1 y))

    -- one branch more, which is apart from the path
    pub taken_same : ((v : List Value) → truth p.condition v && truth b.condition v ≡ false) → AreTaken sys p n (take (i + 1) bs) ls
    taken_same apart = record { each = before.each; live = before.live; exact = exact }
      where
        exact : (v : List Value) (rules : List ℕ) (t : Tree) → Gives v rules t ls ↔ LedFromSome (take (i + 1) bs) v rules t
        exact v rules t = (λ a. (led_more v rules t).1 (inl ((before.exact v rules t).0 a)), λ x. go ((led_more v rules t).0 x))
          where
            go : LedFromSome (take i bs) v rules t ⊎ LedFrom b v rules t → Gives v rules t ls
            go (inl y) = (before.exact v rules t).1 y
            go (inr y) = absurd (apart_leads b v rules t (apart v) y)

-- one branch more in the condition that some branch's is true
pub holds_more : {N : Type 0} (bs : List (SeenBranch N)) (i : ℕ) (b : SeenBranch N) (s next : Seen N) → i < length bs → b ≡ get_or bs i b → IsTruth s (some_holds (take i bs)) → IsTruth next (λ v. truth s v || truth b.condition v) → IsTruth next (some_holds (take (i + 1) bs))
holds_more bs i b s next lt is before more =
    truth_says next (λ v. truth s v || truth b.condition v) (some_holds (take (i + 1) bs)) (λ v.
    ap (λ q. q || truth b.condition v) (before.means v)
    ∙ ap (λ c. some_holds (take i bs) v || truth c.condition v) is
    ∙ sym (list_any_more (λ c. truth c.condition v) bs i b lt)) more

-- where some branch's condition is true there is something that the branches lead to
pub holds_leads : {N : Type 0} (bs : List (SeenBranch N)) (v : List Value) → some_holds bs v ≡ true → (t : Tree) × Any (LeadsTo v t) bs
holds_leads bs v e =
    let a = Any-from_list_any (λ b. truth b.condition v) bs e in
    (tree_of v a.1.«result», (a.0, a.1, a.2, a.3, record { holds = flag_is (a.1.condition.meaning v) a.4; result = refl }))

-- where none is they lead nowhere
pub none_leads : {N : Type 0} (bs : List (SeenBranch N)) (v : List Value) → some_holds bs v ≡ false → (t : Tree) → ¬ Any (LeadsTo v t) bs
none_leads bs v e t a =
    let holds : some_holds bs v ≡ true = list_any-from_Any (λ b. truth b.condition v) bs (a.0, a.1, a.2, a.3, ap (λ y. flag_of (scalar_of y)) a.4.holds) in
    cc
