-- What is found by parts of a search, in one.
use Rattle.std.proofs.Common.{arith, ◌≡◌, ◌≢◌, ◌+◌, ◌<◌, ◌≤◌, ℕ, Bool, true, false, List, [], ◌++◌, length, take, get_or, All, sym, ap, ◌∙◌, subst, ◌⊎◌, inl, inr}
use Rattle.std.proofs.lemmas.List.{map-append, take_all, length-map}
use Rattle.std.proofs.lemmas.List.Elements.{All-nil, All-append, All-weaker}
use Rattle.data_value.specs.declared.DataSort.{DataSort}
use Rattle.data_value.specs.declared.Value.{Value}
use Rattle.data_value.specs.Nodes.{Seen, Extends, IsValuation}
use Rattle.sort_term.specs.System.{System}
use Rattle.sort_term.specs.Tree.{Tree}
use Rattle.sort_term.specs.Runs.{IsStuck, After}
use Rattle.unify.proofs.Anys.{any_none, any_more}
use Rattle.unify.proofs.Carried.{seen_at, seen_below}
use Rattle.unify.proofs.Lists.{mapped_at}
use Rattle.path_condition.specs.declared.leaf.Leaf.{Leaf}
use Rattle.path_condition.specs.Leaves.{SeenLeaf, seen_leaf, seen_leaves, IsLeaf, Says, Gives}
use Rattle.path_condition.proofs.LeafLemmas.{leaves_same, leaf_stays}
use Rattle.cut_search.specs.declared.reach.Reach.{Reach}
use Rattle.cut_search.specs.Drops.{Giving, AreLeavesBut}
use Rattle.cut_search.specs.Found.{SeenReach, seen_reach, Found, IsReach, Nothing, SplitOf, StopsOf, NextOf, Judgement}
use Rattle.cut_search.proofs.Giving.{Gets, among_none, among_more, among_join, but_none, but_same, but_join}

-- two reaches in one
abbrev pub both_reaches : {N : Type 0} → SeenReach N → SeenReach N → SeenReach N
both_reaches r s = record { met = r.met ++ s.met; long = r.long ++ s.long; halted = r.halted ++ s.halted; dropped = r.dropped ++ s.dropped }

abbrev pub no_reach : {N : Type 0} → SeenReach N
no_reach = record { met = []; long = []; halted = []; dropped = [] }

-- P is never
abbrev pub Never : Giving → Type 0
Never P = (v : List Value) (rules : List ℕ) (t : Tree) → ¬ P v rules t

pub record AllNever (P : Found) : Type 0 where
  pub met : Never P.met
  pub long : Never P.long
  pub halted : Never P.halted

-- R is what P or Q is
pub record Joins (variables : List DataSort) (P Q R : Giving) : Type 0 where
  pub left : Gets variables P R
  pub right : Gets variables Q R
  pub either : (v : List Value) → IsValuation variables v → (rules : List ℕ) (t : Tree) → R v rules t → P v rules t ⊎ Q v rules t

pub record AllJoin (variables : List DataSort) (P Q R : Found) : Type 0 where
  pub met : Joins variables P.met Q.met R.met
  pub long : Joins variables P.long Q.long R.long
  pub halted : Joins variables P.halted Q.halted R.halted
  pub left : Gets variables P.dropped R.dropped
  pub right : Gets variables Q.dropped R.dropped

-- Q is what P is
pub record AllSame (variables : List DataSort) (P Q : Found) : Type 0 where
  pub met : Gets variables P.met Q.met × Gets variables Q.met P.met
  pub long : Gets variables P.long Q.long × Gets variables Q.long P.long
  pub halted : Gets variables P.halted Q.halted × Gets variables Q.halted P.halted
  pub dropped : Gets variables P.dropped Q.dropped

module _ {N : Type 0} (variables : List DataSort) (sys : System) (Judged : Judgement N) where
  pub reach_join : (P Q R : Found) (r s : SeenReach N) → AllJoin variables P Q R → IsReach variables sys Judged P r → IsReach variables sys Judged Q s → IsReach variables sys Judged R (both_reaches r s)
  reach_join P Q R r s j p q = record {
    met = lists P.met Q.met R.met r.met s.met j.met p.met q.met;
    long = lists P.long Q.long R.long r.long s.long j.long p.long q.long;
    halted = lists P.halted Q.halted R.halted r.halted s.halted j.halted p.halted q.halted;
    dropped = among_join variables sys P.dropped Q.dropped R.dropped r.dropped s.dropped j.left j.right p.dropped q.dropped;
    allowed = All-append (λ l. Judged true l.condition) r.dropped s.dropped p.allowed q.allowed;
    met_kept = All-append (λ l. Judged false l.condition) r.met s.met p.met_kept q.met_kept;
    long_kept = All-append (λ l. Judged false l.condition) r.long s.long p.long_kept q.long_kept;
    halted_kept = All-append (λ l. Judged false l.condition) r.halted s.halted p.halted_kept q.halted_kept;
  }
    where
      lists : (A B C : Giving) (a b : List (SeenLeaf N)) → Joins variables A B C → AreLeavesBut variables sys r.dropped A a → AreLeavesBut variables sys s.dropped B b → AreLeavesBut variables sys (r.dropped ++ s.dropped) C (a ++ b)
      lists A B C a b k x y = but_join variables sys r.dropped s.dropped A B C a b k.left k.right (λ v fits none rules t c. k.either v fits rules t c) x y

  pub reach_same : (P Q : Found) (r : SeenReach N) → AllSame variables P Q → IsReach variables sys Judged P r → IsReach variables sys Judged Q r
  reach_same P Q r same p = record {
    met = lists P.met Q.met r.met same.met p.met;
    long = lists P.long Q.long r.long same.long p.long;
    halted = lists P.halted Q.halted r.halted same.halted p.halted;
    dropped = among_more variables sys P.dropped Q.dropped r.dropped same.dropped p.dropped;
    allowed = p.allowed;
    met_kept = p.met_kept;
    long_kept = p.long_kept;
    halted_kept = p.halted_kept;
  }
    where
      lists : (A B : Giving) (a : List (SeenLeaf N)) → Gets variables A B × Gets variables B A → AreLeavesBut variables sys r.dropped A a → AreLeavesBut variables sys r.dropped B a
      lists A B a k x = but_same variables sys r.dropped A B a k.0 (λ v fits none rules t y. k.1 v fits rules t y) x

  pub reach_none : (P : Found) → AllNever P → IsReach variables sys Judged P no_reach
  reach_none P never = record {
    met = but_none variables sys [] P.met (λ v fits none rules t x. never.met v rules t x);
    long = but_none variables sys [] P.long (λ v fits none rules t x. never.long v rules t x);
    halted = but_none variables sys [] P.halted (λ v fits none rules t x. never.halted v rules t x);
    dropped = among_none variables sys P.dropped;
    allowed = All-nil (λ (l : SeenLeaf N). Judged true l.condition);
    met_kept = All-nil (λ (l : SeenLeaf N). Judged false l.condition);
    long_kept = All-nil (λ (l : SeenLeaf N). Judged false l.condition);
    halted_kept = All-nil (λ (l : SeenLeaf N). Judged false l.condition);
  }

  -- judged by another, who allows and keeps no less
  pub reach_judged : (Other : Judgement N) → ((b : Bool) (c : Seen N) → Judged b c → Other b c) → (P : Found) (r : SeenReach N) → IsReach variables sys Judged P r → IsReach variables sys Other P r
  reach_judged Other more P r p = record {
    met = p.met;
    long = p.long;
    halted = p.halted;
    dropped = p.dropped;
    allowed = All-weaker (λ l. Judged true l.condition) (λ l. Other true l.condition) (λ l h. more true l.condition h) r.dropped p.allowed;
    met_kept = All-weaker (λ l. Judged false l.condition) (λ l. Other false l.condition) (λ l h. more false l.condition h) r.met p.met_kept;
    long_kept = All-weaker (λ l. Judged false l.condition) (λ l. Other false l.condition) (λ l h. more false l.condition h) r.long p.long_kept;
    halted_kept = All-weaker (λ l. Judged false l.condition) (λ l. Other false l.condition) (λ l h. more false l.condition h) r.halted p.halted_kept;
  }

-- what is found from what A or B relates is what is found from A and from B, and nothing where A is never
pub record Additive (F : Giving → Found) : Type 1 where
  pub joins : (variables : List DataSort) (A B C : Giving) → Joins variables A B C → AllJoin variables (F A) (F B) (F C)
  pub strict : (A : Giving) → Never A → AllNever (F A)

-- parts of joins
pub joins_never : (variables : List DataSort) → Joins variables Nothing Nothing Nothing
joins_never variables = record { left = λ v fits rules t x. x; right = λ v fits rules t x. x; either = λ v fits rules t x. inl x }

pub joins_with : (variables : List DataSort) (A B C Q : Giving) → Joins variables A B C → Joins variables (λ v rules t. A v rules t × Q v rules t) (λ v rules t. B v rules t × Q v rules t) (λ v rules t. C v rules t × Q v rules t)
joins_with variables A B C Q j = record { left = λ v fits rules t x. (j.left v fits rules t x.0, x.1); right = λ v fits rules t x. (j.right v fits rules t x.0, x.1); either = either }
  where
    either : (v : List Value) → IsValuation variables v → (rules : List ℕ) (t : Tree) → C v rules t × Q v rules t → (A v rules t × Q v rules t) ⊎ (B v rules t × Q v rules t)
    either v fits rules t x = go (j.either v fits rules t x.0)
      where
        go : A v rules t ⊎ B v rules t → (A v rules t × Q v rules t) ⊎ (B v rules t × Q v rules t)
        go (inl a) = inl (a, x.1)
        go (inr b) = inr (b, x.1)

-- one step more than what gives more
pub after_gets : (Steps : ℕ → Tree → Tree → Type 0) (Q : Tree → Type 0) (A B : List ℕ → Tree → Type 0) → ((rules : List ℕ) (t : Tree) → A rules t → B rules t) → (rules : List ℕ) (t : Tree) → After Steps A Q rules t → After Steps B Q rules t
after_gets Steps Q A B f rules t x = record { before = x.before; start = x.start; rule = x.rule; there = f x.before x.start x.there; step = x.step; splits = x.splits; has = x.has }

pub joins_after : (variables : List DataSort) (Steps : ℕ → Tree → Tree → Type 0) (Q : Tree → Type 0) (A B C : Giving) → Joins variables A B C → Joins variables (λ v. After Steps (A v) Q) (λ v. After Steps (B v) Q) (λ v. After Steps (C v) Q)
joins_after variables Steps Q A B C j = record {
  left = λ v fits. after_gets Steps Q (A v) (C v) (j.left v fits);
  right = λ v fits. after_gets Steps Q (B v) (C v) (j.right v fits);
  either = either;
}
  where
    either : (v : List Value) → IsValuation variables v → (rules : List ℕ) (t : Tree) → After Steps (C v) Q rules t → After Steps (A v) Q rules t ⊎ After Steps (B v) Q rules t
    either v fits rules t x = go (j.either v fits x.before x.start x.there)
      where
        go : A v x.before x.start ⊎ B v x.before x.start → After Steps (A v) Q rules t ⊎ After Steps (B v) Q rules t
        go (inl a) = inl (record { before = x.before; start = x.start; rule = x.rule; there = a; step = x.step; splits = x.splits; has = x.has })
        go (inr b) = inr (record { before = x.before; start = x.start; rule = x.rule; there = b; step = x.step; splits = x.splits; has = x.has })

pub split_additive : (In : Tree → Type 0) → Additive (SplitOf In)
split_additive In = record {
  joins = λ variables A B C j. record {
    met = joins_with variables A B C (λ v rules t. In t) j;
    long = joins_with variables A B C (λ v rules t. ¬ In t) j;
    halted = joins_never variables;
    left = j.left;
    right = j.right;
  };
  strict = λ A never. record { met = λ v rules t x. never v rules t x.0; long = λ v rules t x. never v rules t x.0; halted = λ v rules t x. x };
}

pub stops_additive : (Steps : ℕ → Tree → Tree → Type 0) → Additive (StopsOf Steps)
stops_additive Steps = record {
  joins = λ variables A B C j.
      let moved = joins_with variables A B C (λ v rules t. rules ≢ []) j in
      record {
        met = joins_never variables;
        long = joins_never variables;
        halted = joins_with variables A B C (λ v rules t. (rules ≢ []) × IsStuck Steps t) j;
        left = moved.left;
        right = moved.right;
      };
  strict = λ A never. record { met = λ v rules t x. x; long = λ v rules t x. x; halted = λ v rules t x. never v rules t x.0 };
}

pub next_additive : (Steps : ℕ → Tree → Tree → Type 0) (In : Tree → Type 0) → Additive (NextOf Steps In)
next_additive Steps In = record {
  joins = λ variables A B C j. record {
    met = joins_after variables Steps In A B C j;
    long = joins_after variables Steps (λ t. ¬ In t) A B C j;
    halted = joins_with variables A B C (λ v rules t. (rules ≢ []) × IsStuck Steps t) j;
    left = gone variables A C j.left;
    right = gone variables B C j.right;
  };
  strict = λ A never. record { met = λ v rules t x. never v x.before x.start x.there; long = λ v rules t x. never v x.before x.start x.there; halted = λ v rules t x. never v rules t x.0 };
}
  where
    gone : (variables : List DataSort) (A C : Giving) → Gets variables A C → Gets variables (NextOf Steps In A).dropped (NextOf Steps In C).dropped
    gone variables A C f v fits rules t (inl x) = inl (after_gets Steps (λ u. Unit {0}) (A v) (C v) (f v fits) rules t x)
    gone variables A C f v fits rules t (inr x) = inr (f v fits rules t x.0, x.1)

-- a reach is the same after the domain has grown
pub reach_stays : {S N : Type 0} (f g : N → Seen N) → Extends f g → (variables : List DataSort) (sys : System) (Judged : Judgement N) (P : Found) (r : Reach S N) → IsReach variables sys Judged P (seen_reach f r) → seen_reach g r ≡ seen_reach f r
reach_stays f g x variables sys Judged P r p =
    let met = leaves_same f g x sys r.met p.met.among.each in
    let long = leaves_same f g x sys r.long p.long.among.each in
    let halted = leaves_same f g x sys r.halted p.halted.among.each in
    let dropped = leaves_same f g x sys r.dropped p.dropped.each in
    λ i. record { met = met i; long = long i; halted = halted i; dropped = dropped i }

-- what two parts found, in one
pub record IsJoined {S N : Type 0} (r s all : Reach S N) : Type 0 where
  pub met : all.met ≡ r.met ++ s.met
  pub long : all.long ≡ r.long ++ s.long
  pub halted : all.halted ≡ r.halted ++ s.halted
  pub dropped : all.dropped ≡ r.dropped ++ s.dropped

pub seen_joined : {S N : Type 0} (f : N → Seen N) (r s all : Reach S N) → IsJoined r s all → seen_reach f all ≡ both_reaches (seen_reach f r) (seen_reach f s)
seen_joined f r s all j =
    let met = ap (seen_leaves f) j.met ∙ map-append (seen_leaf f) r.met s.met in
    let long = ap (seen_leaves f) j.long ∙ map-append (seen_leaf f) r.long s.long in
    let halted = ap (seen_leaves f) j.halted ∙ map-append (seen_leaf f) r.halted s.halted in
    let dropped = ap (seen_leaves f) j.dropped ∙ map-append (seen_leaf f) r.dropped s.dropped in
    λ i. record { met = met i; long = long i; halted = halted i; dropped = dropped i }

-- the first part was found before the domain grew
pub reach_joined : {S N : Type 0} (f g : N → Seen N) → Extends f g → (variables : List DataSort) (sys : System) (Judged : Judgement N) (P Q R : Found) (r s all : Reach S N) → AllJoin variables P Q R → IsJoined r s all → IsReach variables sys Judged P (seen_reach f r) → IsReach variables sys Judged Q (seen_reach g s) → IsReach variables sys Judged R (seen_reach g all)
reach_joined f g x variables sys Judged P Q R r s all j is p q =
    let now : IsReach variables sys Judged P (seen_reach g r) = subst (IsReach variables sys Judged P) (sym (reach_stays f g x variables sys Judged P r p)) p in
    subst (IsReach variables sys Judged R) (sym (seen_joined g r s all is)) (reach_join variables sys Judged P Q R (seen_reach g r) (seen_reach g s) j now q)

-- a reach with nothing
pub seen_nothing : {S N : Type 0} (f : N → Seen N) (r : Reach S N) → r.met ≡ [] → r.long ≡ [] → r.halted ≡ [] → r.dropped ≡ [] → seen_reach f r ≡ no_reach
seen_nothing f r m l h d =
    let met = ap (seen_leaves f) m in
    let long = ap (seen_leaves f) l in
    let halted = ap (seen_leaves f) h in
    let dropped = ap (seen_leaves f) d in
    λ i. record { met = met i; long = long i; halted = halted i; dropped = dropped i }

-- a loop over leaves, each of which adds its part
module _ {S N : Type 0} (variables : List DataSort) (sys : System) (Judged : Judgement N) (F : Giving → Found) (additive : Additive F) (f0 : N → Seen N) (leaves : List (Leaf S N)) where
  -- what is found from the first i leaves
  abbrev pub FromFirst : ℕ → Found
  FromFirst i = F (λ v rules t. Gives v rules t (take i (seen_leaves f0 leaves)))

  pub loop_start : (r : Reach S N) → seen_reach f0 r ≡ no_reach → IsReach variables sys Judged (FromFirst 0) (seen_reach f0 r)
  loop_start r e = subst (IsReach variables sys Judged (FromFirst 0)) (sym e) (reach_none variables sys Judged (FromFirst 0) (additive.strict (λ v rules t. Gives v rules t (take 0 (seen_leaves f0 leaves))) (λ v rules t a. any_none (Says {N = N} v rules t) a)))

  module _ (i : ℕ) (l : Leaf S N) (lt : i < length leaves) (is : l ≡ get_or leaves i l) where
    gives_more : Joins variables (λ v rules t. Gives v rules t (take i (seen_leaves f0 leaves))) (λ v rules t. Says v rules t (seen_leaf f0 l)) (λ v rules t. Gives v rules t (take (i + 1) (seen_leaves f0 leaves)))
    gives_more =
        let below = seen_below (seen_leaf f0) leaves i lt in
        let at = seen_at (seen_leaf f0) leaves i l lt is in
        record {
          left = λ v fits rules t x. (any_more (Says v rules t) (seen_leaves f0 leaves) i (seen_leaf f0 l) below at).1 (inl x);
          right = λ v fits rules t x. (any_more (Says v rules t) (seen_leaves f0 leaves) i (seen_leaf f0 l) below at).1 (inr x);
          either = λ v fits rules t x. (any_more (Says v rules t) (seen_leaves f0 leaves) i (seen_leaf f0 l) below at).0 x;
        }

    module _ (each : All (IsLeaf sys) (seen_leaves f0 leaves)) where
      pub leaf_first : IsLeaf sys (seen_leaf f0 l)
      leaf_first = mapped_at (IsLeaf sys) (seen_leaf f0) leaves i l each lt is

      pub leaf_now : (f : N → Seen N) → Extends f0 f → IsLeaf sys (seen_leaf f l)
      leaf_now f x = subst (IsLeaf sys) (sym (leaf_stays f0 f x sys l leaf_first)) leaf_first

      pub loop_more : (f g : N → Seen N) → Extends f0 f → Extends f g → (r s all : Reach S N) → IsJoined r s all → IsReach variables sys Judged (FromFirst i) (seen_reach f r) → IsReach variables sys Judged (F (λ v rules t. Says v rules t (seen_leaf f l))) (seen_reach g s) → IsReach variables sys Judged (FromFirst (i + 1)) (seen_reach g all)
      loop_more f g x y r s all j p q =
          let q' : IsReach variables sys Judged (F (λ v rules t. Says v rules t (seen_leaf f0 l))) (seen_reach g s) =
          subst (λ k. IsReach variables sys Judged (F (λ v rules t. Says v rules t k)) (seen_reach g s)) (leaf_stays f0 f x sys l leaf_first) q in
          reach_joined f g y variables sys Judged (FromFirst i) (F (λ v rules t. Says v rules t (seen_leaf f0 l))) (FromFirst (i + 1)) r s all
          (additive.joins variables (λ v rules t. Gives v rules t (take i (seen_leaves f0 leaves))) (λ v rules t. Says v rules t (seen_leaf f0 l)) (λ v rules t. Gives v rules t (take (i + 1) (seen_leaves f0 leaves))) gives_more)
          j p q'

  pub loop_end : (i : ℕ) (r : SeenReach N) → length leaves ≤ i → IsReach variables sys Judged (FromFirst i) r → IsReach variables sys Judged (F (λ v rules t. Gives v rules t (seen_leaves f0 leaves))) r
  loop_end i r le p =
      let long = length-map leaves (seen_leaf f0) in
      subst (λ ls. IsReach variables sys Judged (F (λ v rules t. Gives v rules t ls)) r) (take_all i (seen_leaves f0 leaves) (omega (arith, long))) p

-- a reach with halted leaves alone
pub seen_halted : {S N : Type 0} (f : N → Seen N) (k d m l : List (Leaf S N)) → m ≡ [] → l ≡ [] → seen_reach f (record { met = m; long = l; halted = k; dropped = d }) ≡ record { met = []; long = []; halted = seen_leaves f k; dropped = seen_leaves f d }
seen_halted f k d m l em el =
    let met = ap (seen_leaves f) em in
    let long = ap (seen_leaves f) el in
    λ i. record { met = met i; long = long i; halted = seen_leaves f k; dropped = seen_leaves f d }
