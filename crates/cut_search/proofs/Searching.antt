-- The search, one level after the other.
use Rattle.std.proofs.Common.{◌≡◌, ◌≢◌, ℕ, ◌+◌, true, false, List, [], ◌∷◌, ◌++◌, All, sym, ap, subst, ◌⊎◌, inl, inr}
use Rattle.std.proofs.lemmas.List.Elements.{All-nil, All-cons, All-append}
use Rattle.data_value.specs.declared.DataSort.{DataSort}
use Rattle.data_value.specs.declared.Value.{Value}
use Rattle.data_value.specs.Nodes.{Seen, Extends, IsValuation}
use Rattle.data_value.specs.Truth.{truth, IsCondition}
use Rattle.sort_term.specs.declared.term.Term.{Term}
use Rattle.sort_term.specs.System.{System}
use Rattle.sort_term.specs.Tree.{Tree}
use Rattle.sort_term.specs.Runs.{MetTo, LongTo, HaltedTo, IsStuck, After}
use Rattle.sort_term.specs.NodeTerms.{tree_of}
use Rattle.sort_term.proofs.RunLemmas.{long_zero, long_more, met_zero, met_more}
use Rattle.unify.specs.Branches.{IsConfiguration}
use Rattle.path_condition.specs.declared.leaf.Leaf.{Leaf}
use Rattle.path_condition.specs.Leaves.{SeenLeaf, seen_leaves, IsLeaf, Says, Gives}
use Rattle.path_condition.proofs.LeafLemmas.{leaves_appended}
use Rattle.cut_search.specs.declared.reach.Reach.{Reach}
use Rattle.cut_search.specs.Drops.{Giving, EndsFrom, OpenTo, AreLeavesBut, NoneHolds}
use Rattle.cut_search.specs.Found.{SeenReach, seen_reach, Found, IsReach, Nothing, StopsOf, NextOf, SearchOf, Judgement}
use Rattle.cut_search.proofs.Giving.{Gets, GetsBut, among_none, among_join, but_none, but_one, but_same, but_join, but_next}
use Rattle.cut_search.proofs.Reaching.{both_reaches, IsJoined, after_gets}
use Rattle.cut_search.proofs.Opening.{HaltedBelow, LongStops, halted_below_zero, halted_below_more, halted_within, long_open, after_open, open_more}

-- a reach whose long leaves are followed by those of another
abbrev pub after_reach : {N : Type 0} → SeenReach N → SeenReach N → SeenReach N
after_reach r s = record { met = r.met ++ s.met; long = s.long; halted = r.halted ++ s.halted; dropped = r.dropped ++ s.dropped }

module _ {N : Type 0} (c : Seen N) (start : Term (Seen N)) (Steps : ℕ → Tree → Tree → Type 0) (In : Tree → Type 0) where
  -- what was found after k steps
  abbrev pub FoundIn : ℕ → Found
  FoundIn k = record {
    met = EndsFrom c start (MetTo Steps In k);
    long = EndsFrom c start (LongTo Steps In k);
    halted = EndsFrom c start (λ s. HaltedBelow Steps In s k);
    dropped = EndsFrom c start (OpenTo Steps In k);
  }

  module _ (variables : List DataSort) (sys : System) (Judged : Judgement N) where
    -- before the first step
    abbrev pub first_leaf : SeenLeaf N
    first_leaf = record { condition = c; state = start; rules = [] }

    pub found_first : IsLeaf sys first_leaf → Judged false c → IsReach variables sys Judged (FoundIn 0) (record { met = []; long = first_leaf ∷ []; halted = []; dropped = [] })
    found_first is settled = record {
      met = but_none variables sys [] (EndsFrom c start (MetTo Steps In 0)) (λ v fits none rules t x. met_zero Steps In (tree_of v start) rules t x.1);
      long = but_same variables sys [] (λ v rules t. Says v rules t first_leaf) (EndsFrom c start (LongTo Steps In 0)) (first_leaf ∷ [])
          (λ v fits rules t s. (s.holds, (long_zero Steps In (tree_of v start) rules t).1 (sym s.by, s.state)))
          (λ v fits none rules t x. let z = (long_zero Steps In (tree_of v start) rules t).0 x.1 in record { holds = x.0; by = sym z.0; state = z.1 })
          (but_one variables sys first_leaf is);
      halted = but_none variables sys [] (EndsFrom c start (λ s. HaltedBelow Steps In s 0)) (λ v fits none rules t x. halted_below_zero Steps In (tree_of v start) rules t x.1);
      dropped = among_none variables sys (EndsFrom c start (OpenTo Steps In 0));
      allowed = All-nil (λ (l : SeenLeaf N). Judged true l.condition);
      met_kept = All-nil (λ (l : SeenLeaf N). Judged false l.condition);
      long_kept = All-cons (λ (l : SeenLeaf N). Judged false l.condition) first_leaf [] settled (All-nil (λ (l : SeenLeaf N). Judged false l.condition));
      halted_kept = All-nil (λ (l : SeenLeaf N). Judged false l.condition);
    }

    module _ (k : ℕ) (r : SeenReach N) (p : IsReach variables sys Judged (FoundIn k) r) where
      Open : Giving
      Open v rules t = Gives v rules t r.long

      -- what the long leaves give are long runs, and all of them where no dropped leaf holds
      longs : (v : List Value) → IsValuation variables v → (rules : List ℕ) (t : Tree) → Gives v rules t r.long → (truth c v ≡ true) × LongTo Steps In k (tree_of v start) rules t
      longs v fits rules t x = p.long.among.sound v fits rules t x

      gives : (v : List Value) → IsValuation variables v → NoneHolds v r.dropped → truth c v ≡ true → (rules : List ℕ) (t : Tree) → LongTo Steps In k (tree_of v start) rules t → Gives v rules t r.long
      gives v fits none h rules t x = p.long.complete v fits none rules t (h, x)

      -- one step more from a long leaf
      after_longs : (Q : Tree → Type 0) (v : List Value) → IsValuation variables v → (rules : List ℕ) (t : Tree) → After Steps (λ rs u. Gives v rs u r.long) Q rules t → (truth c v ≡ true) × After Steps (LongTo Steps In k (tree_of v start)) Q rules t
      after_longs Q v fits rules t a = (
        (longs v fits a.before a.start a.there).0,
        after_gets Steps Q (λ rs u. Gives v rs u r.long) (LongTo Steps In k (tree_of v start)) (λ rs u x. (longs v fits rs u x).1) rules t a,
      )

      after_gives : (Q : Tree → Type 0) (v : List Value) → IsValuation variables v → NoneHolds v r.dropped → truth c v ≡ true → (rules : List ℕ) (t : Tree) → After Steps (LongTo Steps In k (tree_of v start)) Q rules t → After Steps (λ rs u. Gives v rs u r.long) Q rules t
      after_gives Q v fits none h rules t a = after_gets Steps Q (LongTo Steps In k (tree_of v start)) (λ rs u. Gives v rs u r.long) (λ rs u x. gives v fits none h rs u x) rules t a

      -- the halted leaves of one step more
      module _ (d : List (SeenLeaf N)) (a : List (SeenLeaf N)) (q : AreLeavesBut variables sys d (λ v rules t. Gives v rules t r.long × ((rules ≢ []) × IsStuck Steps t)) a) where
        pub halted_more : AreLeavesBut variables sys (r.dropped ++ d) (EndsFrom c start (λ s. HaltedBelow Steps In s (k + 1))) (r.halted ++ a)
        halted_more =
            but_join variables sys r.dropped d (EndsFrom c start (λ s. HaltedBelow Steps In s k)) (λ v rules t. Gives v rules t r.long × ((rules ≢ []) × IsStuck Steps t)) (EndsFrom c start (λ s. HaltedBelow Steps In s (k + 1))) r.halted a
            (λ v fits rules t x. (x.0, (halted_below_more Steps In (tree_of v start) k rules t).1 (inl x.1)))
            (λ v fits rules t x. let l = longs v fits rules t x.0 in (l.0, (halted_below_more Steps In (tree_of v start) k rules t).1 (inr (l.1, x.1))))
            either p.halted q
          where
            either : GetsBut variables r.dropped (EndsFrom c start (λ s. HaltedBelow Steps In s (k + 1))) (λ v rules t. EndsFrom c start (λ s. HaltedBelow Steps In s k) v rules t ⊎ (Gives v rules t r.long × ((rules ≢ []) × IsStuck Steps t)))
            either v fits none rules t x = go ((halted_below_more Steps In (tree_of v start) k rules t).0 x.1)
              where
                go : HaltedBelow Steps In (tree_of v start) k rules t ⊎ LongStops Steps In (tree_of v start) k rules t → EndsFrom c start (λ s. HaltedBelow Steps In s k) v rules t ⊎ (Gives v rules t r.long × ((rules ≢ []) × IsStuck Steps t))
                go (inl y) = inl (x.0, y)
                go (inr y) = inr (gives v fits none x.0 rules t y.0, y.1)

      pub found_more : (n : SeenReach N) → IsReach variables sys Judged (NextOf Steps In (λ v rules t. Gives v rules t r.long)) n → IsReach variables sys Judged (FoundIn (k + 1)) (after_reach r n)
      found_more n q = record {
        met = but_join variables sys r.dropped n.dropped (EndsFrom c start (MetTo Steps In k)) (λ v. After Steps (λ rs u. Gives v rs u r.long) In) (EndsFrom c start (MetTo Steps In (k + 1))) r.met n.met
            (λ v fits rules t x. (x.0, (met_more Steps In (tree_of v start) k rules t).1 (inl x.1)))
            (λ v fits rules t a. let x = after_longs In v fits rules t a in (x.0, (met_more Steps In (tree_of v start) k rules t).1 (inr x.1)))
            met_either p.met q.met;
        long = but_next variables sys r.dropped n.dropped (λ v. After Steps (λ rs u. Gives v rs u r.long) (λ u. ¬ In u)) (EndsFrom c start (LongTo Steps In (k + 1))) n.long
            (λ v fits rules t a. let x = after_longs (λ u. ¬ In u) v fits rules t a in (x.0, (long_more Steps In (tree_of v start) k rules t).1 x.1))
            (λ v fits none rules t x. after_gives (λ u. ¬ In u) v fits none x.0 rules t ((long_more Steps In (tree_of v start) k rules t).0 x.1))
            q.long;
        halted = halted_more n.dropped n.halted q.halted;
        dropped = among_join variables sys (EndsFrom c start (OpenTo Steps In k)) (NextOf Steps In (λ v rules t. Gives v rules t r.long)).dropped (EndsFrom c start (OpenTo Steps In (k + 1))) r.dropped n.dropped
            (λ v fits rules t x. (x.0, open_more Steps In (tree_of v start) k rules t x.1)) gone p.dropped q.dropped;
        allowed = All-append (λ (l : SeenLeaf N). Judged true l.condition) r.dropped n.dropped p.allowed q.allowed;
        met_kept = All-append (λ (l : SeenLeaf N). Judged false l.condition) r.met n.met p.met_kept q.met_kept;
        long_kept = q.long_kept;
        halted_kept = All-append (λ (l : SeenLeaf N). Judged false l.condition) r.halted n.halted p.halted_kept q.halted_kept;
      }
        where
          met_either : GetsBut variables r.dropped (EndsFrom c start (MetTo Steps In (k + 1))) (λ v rules t. EndsFrom c start (MetTo Steps In k) v rules t ⊎ After Steps (λ rs u. Gives v rs u r.long) In rules t)
          met_either v fits none rules t x = go ((met_more Steps In (tree_of v start) k rules t).0 x.1)
            where
              go : MetTo Steps In k (tree_of v start) rules t ⊎ After Steps (LongTo Steps In k (tree_of v start)) In rules t → EndsFrom c start (MetTo Steps In k) v rules t ⊎ After Steps (λ rs u. Gives v rs u r.long) In rules t
              go (inl y) = inl (x.0, y)
              go (inr a) = inr (after_gives In v fits none x.0 rules t a)

          gone : Gets variables (NextOf Steps In (λ v rules t. Gives v rules t r.long)).dropped (EndsFrom c start (OpenTo Steps In (k + 1)))
          gone v fits rules t (inl a) = let x = after_longs (λ u. Unit {0}) v fits rules t a in (x.0, after_open Steps In (tree_of v start) (λ u. Unit {0}) k rules t x.1)
          gone v fits rules t (inr x) = let l = longs v fits rules t x.0 in (l.0, open_more Steps In (tree_of v start) k rules t (long_open Steps In (tree_of v start) k rules t l.1 x.1))

      -- after the last step
      pub found_last : (n : SeenReach N) → IsReach variables sys Judged (StopsOf Steps (λ v rules t. Gives v rules t r.long)) n → IsReach variables sys Judged (SearchOf c start Steps In k) (both_reaches r n)
      found_last n q = record {
        met = still (EndsFrom c start (MetTo Steps In k)) r.met n.met p.met q.met;
        long = still (EndsFrom c start (LongTo Steps In k)) r.long n.long p.long q.long;
        halted = but_same variables sys (r.dropped ++ n.dropped) (EndsFrom c start (λ s. HaltedBelow Steps In s (k + 1))) (EndsFrom c start (HaltedTo Steps In k)) (r.halted ++ n.halted)
            (λ v fits rules t x. (x.0, (halted_within Steps In (tree_of v start) k rules t).1 x.1))
            (λ v fits none rules t x. (x.0, (halted_within Steps In (tree_of v start) k rules t).0 x.1))
            (halted_more n.dropped n.halted q.halted);
        dropped = among_join variables sys (EndsFrom c start (OpenTo Steps In k)) (λ v rules t. Gives v rules t r.long × (rules ≢ [])) (EndsFrom c start (OpenTo Steps In k)) r.dropped n.dropped
            (λ v fits rules t x. x) (λ v fits rules t x. let l = longs v fits rules t x.0 in (l.0, long_open Steps In (tree_of v start) k rules t l.1 x.1)) p.dropped q.dropped;
        allowed = All-append (λ (l : SeenLeaf N). Judged true l.condition) r.dropped n.dropped p.allowed q.allowed;
        met_kept = All-append (λ (l : SeenLeaf N). Judged false l.condition) r.met n.met p.met_kept q.met_kept;
        long_kept = All-append (λ (l : SeenLeaf N). Judged false l.condition) r.long n.long p.long_kept q.long_kept;
        halted_kept = All-append (λ (l : SeenLeaf N). Judged false l.condition) r.halted n.halted p.halted_kept q.halted_kept;
      }
        where
          still : (P : Giving) (a b : List (SeenLeaf N)) → AreLeavesBut variables sys r.dropped P a → AreLeavesBut variables sys n.dropped Nothing b → AreLeavesBut variables sys (r.dropped ++ n.dropped) P (a ++ b)
          still P a b x y = but_join variables sys r.dropped n.dropped P Nothing P a b (λ v fits rules t z. z) (λ v fits rules t z. absurd z) (λ v fits none rules t z. inl z) x y

-- a reach that was found before the domain grew, and another: in one, or the one followed by the other
module _ {S N : Type 0} (f g : N → Seen N) (x : Extends f g) (variables : List DataSort) (sys : System) (Judged : Judgement N) (P : Found) (r s all : Reach S N) (p : IsReach variables sys Judged P (seen_reach f r)) where
  pub seen_both : IsJoined r s all → seen_reach g all ≡ both_reaches (seen_reach f r) (seen_reach g s)
  seen_both j =
      let met = leaves_appended f g x sys r.met s.met all.met p.met.among.each j.met in
      let long = leaves_appended f g x sys r.long s.long all.long p.long.among.each j.long in
      let halted = leaves_appended f g x sys r.halted s.halted all.halted p.halted.among.each j.halted in
      let dropped = leaves_appended f g x sys r.dropped s.dropped all.dropped p.dropped.each j.dropped in
      λ i. record { met = met i; long = long i; halted = halted i; dropped = dropped i }

  pub seen_followed : all.met ≡ r.met ++ s.met → all.long ≡ s.long → all.halted ≡ r.halted ++ s.halted → all.dropped ≡ r.dropped ++ s.dropped → seen_reach g all ≡ after_reach (seen_reach f r) (seen_reach g s)
  seen_followed em el eh ed =
      let met = leaves_appended f g x sys r.met s.met all.met p.met.among.each em in
      let long = ap (seen_leaves g) el in
      let halted = leaves_appended f g x sys r.halted s.halted all.halted p.halted.among.each eh in
      let dropped = leaves_appended f g x sys r.dropped s.dropped all.dropped p.dropped.each ed in
      λ i. record { met = met i; long = long i; halted = halted i; dropped = dropped i }

-- the first reach, what follows a reach, and the last reach
module _ {S N : Type 0} (c : Seen N) (start : Term (Seen N)) (Steps : ℕ → Tree → Tree → Type 0) (In : Tree → Type 0) (variables : List DataSort) (sys : System) (Judged : Judgement N) where
  pub reach_first : (f : N → Seen N) (r : Reach S N) → IsCondition c → IsConfiguration sys start → r.met ≡ [] → seen_leaves f r.long ≡ record { condition = c; state = start; rules = [] } ∷ [] → r.halted ≡ [] → r.dropped ≡ [] → Judged false c → IsReach variables sys Judged (FoundIn c start Steps In 0) (seen_reach f r)
  reach_first f r is_condition is_start em long eh ed settled =
      let met = ap (seen_leaves f) em in
      let halted = ap (seen_leaves f) eh in
      let dropped = ap (seen_leaves f) ed in
      let same : seen_reach f r ≡ record { met = []; long = record { condition = c; state = start; rules = [] } ∷ []; halted = []; dropped = [] } = (λ i. record { met = met i; long = long i; halted = halted i; dropped = dropped i }) in
      subst (IsReach variables sys Judged (FoundIn c start Steps In 0)) (sym same) (found_first c start Steps In variables sys Judged (record { condition = is_condition; state = is_start }) settled)

  module _ (k : ℕ) (f g : N → Seen N) (x : Extends f g) (r s all : Reach S N) (slice : List (Leaf S N)) (is : slice ≡ r.long) (p : IsReach variables sys Judged (FoundIn c start Steps In k) (seen_reach f r)) where
    pub open_leaves : All (IsLeaf sys) (seen_leaves f slice)
    open_leaves = subst (λ ls. All (IsLeaf sys) (seen_leaves f ls)) (sym is) p.long.among.each

    pub reach_next : IsReach variables sys Judged (NextOf Steps In (λ v rules t. Gives v rules t (seen_leaves f slice))) (seen_reach g s) → all.met ≡ r.met ++ s.met → all.long ≡ s.long → all.halted ≡ r.halted ++ s.halted → all.dropped ≡ r.dropped ++ s.dropped → IsReach variables sys Judged (FoundIn c start Steps In (k + 1)) (seen_reach g all)
    reach_next q em el eh ed =
        let q' : IsReach variables sys Judged (NextOf Steps In (λ v rules t. Gives v rules t (seen_leaves f r.long))) (seen_reach g s) = subst (λ ls. IsReach variables sys Judged (NextOf Steps In (λ v rules t. Gives v rules t (seen_leaves f ls))) (seen_reach g s)) is q in
        subst (IsReach variables sys Judged (FoundIn c start Steps In (k + 1))) (sym (seen_followed f g x variables sys Judged (FoundIn c start Steps In k) r s all p em el eh ed))
        (found_more c start Steps In variables sys Judged k (seen_reach f r) p (seen_reach g s) q')

    pub reach_last : (n : ℕ) → k ≡ n → IsReach variables sys Judged (StopsOf Steps (λ v rules t. Gives v rules t (seen_leaves f slice))) (seen_reach g s) → IsJoined r s all → IsReach variables sys Judged (SearchOf c start Steps In n) (seen_reach g all)
    reach_last n e q j =
        let q' : IsReach variables sys Judged (StopsOf Steps (λ v rules t. Gives v rules t (seen_leaves f r.long))) (seen_reach g s) = subst (λ ls. IsReach variables sys Judged (StopsOf Steps (λ v rules t. Gives v rules t (seen_leaves f ls))) (seen_reach g s)) is q in
        subst (λ m. IsReach variables sys Judged (SearchOf c start Steps In m) (seen_reach g all)) e
        (subst (IsReach variables sys Judged (SearchOf c start Steps In k)) (sym (seen_both f g x variables sys Judged (FoundIn c start Steps In k) r s all p j))
        (found_last c start Steps In variables sys Judged k (seen_reach f r) p (seen_reach g s) q'))
