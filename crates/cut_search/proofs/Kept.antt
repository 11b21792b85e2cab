-- Leaves that are kept or dropped, and what is found of them.
use Rattle.std.proofs.Common.{arith, ◌≡◌, ◌≢◌, ◌↔◌, ℕ, Bool, true, false, not, ◌&&◌, IsTrue, List, [], ◌∷◌, ◌++◌, ◌<◌, length, get_or, All, refl, sym, ap, ◌∙◌, subst, inl, inr, if◌then◌else◌}
use Rattle.std.proofs.lemmas.Bool.{and_parts}
use Rattle.std.proofs.lemmas.List.{map-append}
use Rattle.std.proofs.lemmas.List.Elements.{All-nil, All-cons, All-head, All-tail, All-append}
use Rattle.data_value.specs.declared.DataSort.{DataSort}
use Rattle.data_value.specs.declared.Value.{Value}
use Rattle.data_value.specs.Nodes.{Seen, Extends, IsValuation}
use Rattle.data_value.specs.Truth.{truth, IsCondition, IsTruth}
use Rattle.sort_term.specs.declared.ids.RuleId.{RuleId}
use Rattle.sort_term.specs.declared.term.Term.{Term}
use Rattle.sort_term.specs.declared.points.Cut.{Cut}
use Rattle.sort_term.specs.System.{System}
use Rattle.sort_term.specs.Tree.{Tree}
use Rattle.sort_term.specs.Runs.{IsStuck, After}
use Rattle.sort_term.specs.Cuts.{InCut}
use Rattle.sort_term.specs.NodeTerms.{seen_term, is_valid_term}
use Rattle.sort_term.proofs.NodeTerming.{term_stays}
use Rattle.path_condition.specs.declared.leaf.Leaf.{Leaf}
use Rattle.path_condition.specs.Leaves.{SeenLeaf, seen_leaf, seen_leaves, rule_numbers, IsLeaf, Says, Gives, AreLeaves}
use Rattle.path_condition.proofs.LeafLemmas.{configuration_valid, leaf_stays, leaves_same}
use Rattle.symbolic_step.specs.OneStep.{StepsFrom, IsStuckWhere}
use Rattle.cut_search.specs.declared.reach.Reach.{Reach}
use Rattle.cut_cover.specs.Outside.{IsOutside}
use Rattle.unify.proofs.Carried.{seen_at, seen_below}
use Rattle.unify.proofs.Anys.{any_here}
use Rattle.cut_search.specs.Drops.{Giving, IsSettled}
use Rattle.cut_search.specs.Found.{under, SeenReach, seen_reach, Found, IsReach, IsSifted, Nothing, SplitOf, MovedOf, StopsOf, NextOf, Judgement, judged_by, conditions_of}
use Rattle.data_value.specs.Values.{flag_of, scalar_of}
use Rattle.simplify.specs.Simpler.{IsSimpler}
use Rattle.cut_search.specs.Simpler.{IsSimplerLeaf}
use Rattle.cut_search.proofs.Giving.{Gets, among_none, among_one, among_more, among_join, but_none, but_one, but_gone, but_same, but_before, but_after}
use Rattle.cut_search.proofs.Reaching.{AllSame, AllJoin, Joins, no_reach, reach_same, reach_none}

-- the nodes of a term stay valid where the domain grows
pub valid_stays : {N : Type 0} (f g : N → Seen N) → Extends f g → (t : Term N) → IsTrue (is_valid_term (seen_term f t)) → IsTrue (is_valid_term (seen_term g t))
valid_stays f g x t h = subst (λ u. IsTrue (is_valid_term u)) (sym (term_stays f g x t h)) h

pub condition_stays : {N : Type 0} (f g : N → Seen N) → Extends f g → (n : N) → IsCondition (f n) → IsCondition (g n)
condition_stays f g x n h = subst IsCondition (sym (x.keeps n h.valid)) h

pub leaf_later : {S N : Type 0} (f g : N → Seen N) → Extends f g → (sys : System) (l : Leaf S N) → IsLeaf sys (seen_leaf f l) → IsLeaf sys (seen_leaf g l)
leaf_later f g x sys l h = subst (IsLeaf sys) (sym (leaf_stays f g x sys l h)) h

pub leaves_later : {S N : Type 0} (f g : N → Seen N) → Extends f g → (sys : System) (ls : List (Leaf S N)) → All (IsLeaf sys) (seen_leaves f ls) → All (IsLeaf sys) (seen_leaves g ls)
leaves_later f g x sys ls h = subst (All (IsLeaf sys)) (sym (leaves_same f g x sys ls h)) h

-- the nodes of a leaf's state are valid
pub leaf_valid : {S N : Type 0} (f : N → Seen N) (sys : System) (l : Leaf S N) → IsLeaf sys (seen_leaf f l) → IsTrue (is_valid_term (seen_term f l.config.term))
leaf_valid f sys l h = configuration_valid sys (seen_term f l.config.term) h.state

-- a leaf under another condition is one, and stays as it is
pub under_leaf : {N : Type 0} (sys : System) (s : Seen N) (l : SeenLeaf N) → IsCondition s → IsLeaf sys l → IsLeaf sys (under s l)
under_leaf sys s l c h = record { condition = c; state = h.state }

pub under_same : {S N : Type 0} (f g : N → Seen N) → Extends f g → (n : N) (l : Leaf S N) → IsCondition (f n) → IsTrue (is_valid_term (seen_term f l.config.term)) → under (g n) (seen_leaf g l) ≡ under (f n) (seen_leaf f l)
under_same f g x n l c h =
    let condition = x.keeps n c.valid in
    let state = term_stays f g x l.config.term h in
    λ i. record { condition = condition i; state = state i; rules = rule_numbers l.rules }

-- rules, and their numbers
pub numbers_some : (rs : List RuleId) → rs ≢ [] → rule_numbers rs ≢ []
numbers_some [] h e = h refl
numbers_some (x ∷ rs) h e = let n : length (rule_numbers (x ∷ rs)) ≡ 0 = ap length e in absurd (omega arith)

module _ {N : Type 0} (variables : List DataSort) (sys : System) (Judged : Judgement N) where
  -- a leaf that is never true is left out
  pub sifted_none : (l : SeenLeaf N) → ((v : List Value) → truth l.condition v ≡ false) → IsSifted variables sys Judged (λ v rules t. Says v rules t l) [] []
  sifted_none l never = record {
    kept = but_none variables sys [] (λ v rules t. Says v rules t l) (λ v fits none rules t s. let off = never v in let on : truth l.condition v ≡ true = s.holds in let clash : true ≡ false = sym on ∙ off in absurd (cc));
    dropped = among_none variables sys (λ v rules t. Says v rules t l);
    allowed = All-nil (λ (k : SeenLeaf N). Judged true k.condition);
    settled = All-nil (λ (k : SeenLeaf N). Judged false k.condition);
  }

  -- a leaf that is dropped, or kept
  pub sifted_one : (b : Bool) (l : SeenLeaf N) → IsLeaf sys l → (b ≡ true → Judged true l.condition) → (b ≡ false → Judged false l.condition) → IsSifted variables sys Judged (λ v rules t. Says v rules t l) (if b then [] else l ∷ []) (if b then l ∷ [] else [])
  sifted_one true l is allowed settled = record {
    kept = but_gone variables sys l;
    dropped = among_one variables sys l is;
    allowed = All-cons (λ (k : SeenLeaf N). Judged true k.condition) l [] (allowed refl) (All-nil (λ (k : SeenLeaf N). Judged true k.condition));
    settled = All-nil (λ (k : SeenLeaf N). Judged false k.condition);
  }
  sifted_one false l is allowed settled = record {
    kept = but_one variables sys l is;
    dropped = among_none variables sys (λ v rules t. Says v rules t l);
    allowed = All-nil (λ (k : SeenLeaf N). Judged true k.condition);
    settled = All-cons (λ (k : SeenLeaf N). Judged false k.condition) l [] (settled refl) (All-nil (λ (k : SeenLeaf N). Judged false k.condition));
  }

  pub sifted_same : (P Q : Giving) (k d : List (SeenLeaf N)) → Gets variables P Q → Gets variables Q P → IsSifted variables sys Judged P k d → IsSifted variables sys Judged Q k d
  sifted_same P Q k d f g p = record {
    kept = but_same variables sys d P Q k f (λ v fits none rules t y. g v fits rules t y) p.kept;
    dropped = among_more variables sys P Q d f p.dropped;
    allowed = p.allowed;
    settled = p.settled;
  }

  -- what was met and what is outside
  pub sifted_both : (P Q R : Giving) (k d m e : List (SeenLeaf N)) → Gets variables P R → Gets variables Q R → IsSifted variables sys Judged P k d → IsSifted variables sys Judged Q m e →
      IsReach variables sys Judged (record { met = P; long = Q; halted = Nothing; dropped = R }) (record { met = k; long = m; halted = []; dropped = d ++ e })
  sifted_both P Q R k d m e f g p q = record {
    met = but_after variables sys d e P k p.kept;
    long = but_before variables sys d e Q m q.kept;
    halted = but_none variables sys (d ++ e) Nothing (λ v fits none rules t x. x);
    dropped = among_join variables sys P Q R d e f g p.dropped q.dropped;
    allowed = All-append (λ (l : SeenLeaf N). Judged true l.condition) d e p.allowed q.allowed;
    met_kept = p.settled;
    long_kept = q.settled;
    halted_kept = All-nil (λ (l : SeenLeaf N). Judged false l.condition);
  }

  -- what has made a step and is halted
  pub sifted_moved : (l : SeenLeaf N) (k d : List (SeenLeaf N)) → l.rules ≢ [] → IsSifted variables sys Judged (λ v rules t. Says v rules t l) k d → IsReach variables sys Judged (MovedOf (λ v rules t. Says v rules t l)) (record { met = []; long = []; halted = k; dropped = d })
  sifted_moved l k d moves p =
      let P : Giving = λ v rules t. Says v rules t l in
      let Q : Giving = λ v rules t. Says v rules t l × (rules ≢ []) in
      let same = sifted_same P Q k d (λ v fits rules t s. (s, λ e. moves (s.by ∙ e))) (λ v fits rules t s. s.0) p in
      record {
        met = but_none variables sys d Nothing (λ v fits none rules t x. x);
        long = but_none variables sys d Nothing (λ v fits none rules t x. x);
        halted = same.kept;
        dropped = same.dropped;
        allowed = same.allowed;
        met_kept = All-nil (λ (k : SeenLeaf N). Judged false k.condition);
        long_kept = All-nil (λ (k : SeenLeaf N). Judged false k.condition);
        halted_kept = same.settled;
      }

  pub none_moved : (l : SeenLeaf N) → l.rules ≡ [] → IsReach variables sys Judged (MovedOf (λ v rules t. Says v rules t l)) no_reach
  none_moved l e = reach_none variables sys Judged (MovedOf (λ v rules t. Says v rules t l)) (record { met = λ v rules t x. x; long = λ v rules t x. x; halted = λ v rules t x. x.1 (sym x.0.by ∙ e) })

-- a leaf alone
pub sifted_leaf : {S N : Type 0} (variables : List DataSort) (sys : System) (Judged : Judgement N) (f : N → Seen N) (b : Bool) (leaf : Leaf S N) (m l : SeenLeaf N) → seen_leaf f leaf ≡ m → m ≡ l → IsLeaf sys l → (b ≡ true → Judged true l.condition) → (b ≡ false → Judged false l.condition) → (k d : List (Leaf S N)) → k ≡ (if b then [] else leaf ∷ []) → d ≡ (if b then leaf ∷ [] else []) →
    IsSifted variables sys Judged (λ v rules t. Says v rules t l) (seen_leaves f k) (seen_leaves f d)
sifted_leaf {S} {N} variables sys Judged f b leaf m l made kept is allowed settled k d ek ed =
    subst (λ ks. IsSifted variables sys Judged (λ v rules t. Says v rules t l) ks (seen_leaves f d)) (sym (ap (seen_leaves f) ek ∙ stay b))
    (subst (λ ds. IsSifted variables sys Judged (λ v rules t. Says v rules t l) (if b then [] else l ∷ []) ds) (sym (ap (seen_leaves f) ed ∙ go b)) (sifted_one variables sys Judged b l is allowed settled))
  where
    same : seen_leaf f leaf ≡ l
    same = made ∙ kept

    stay : (b : Bool) → seen_leaves f (if b then [] else leaf ∷ []) ≡ (if b then [] else l ∷ [])
    stay true = refl
    stay false = ap (λ x. x ∷ []) same

    go : (b : Bool) → seen_leaves f (if b then leaf ∷ [] else []) ≡ (if b then l ∷ [] else [])
    go true = ap (λ x. x ∷ []) same
    go false = refl

pub count_one : {X : Type 0} (b : Bool) (x : X) (xs : List X) → xs ≡ (if b then x ∷ [] else []) → (if b then 1 else 0) ≡ length xs
count_one true x xs e = sym (ap length e)
count_one false x xs e = sym (ap length e)

-- what was kept and dropped before the domain grew
pub sifted_later : {S N : Type 0} (variables : List DataSort) (sys : System) (Judged : Judgement N) (f g : N → Seen N) → Extends f g → (P : Giving) (k d : List (Leaf S N)) → IsSifted variables sys Judged P (seen_leaves f k) (seen_leaves f d) → IsSifted variables sys Judged P (seen_leaves g k) (seen_leaves g d)
sifted_later variables sys Judged f g x P k d p =
    subst (λ ks. IsSifted variables sys Judged P ks (seen_leaves g d)) (sym (leaves_same f g x sys k p.kept.among.each))
    (subst (λ ds. IsSifted variables sys Judged P (seen_leaves f k) ds) (sym (leaves_same f g x sys d p.dropped.each)) p)

pub seen_divided : {S N : Type 0} (f : N → Seen N) (k m d e : List (Leaf S N)) (r : Reach S N) → r.met ≡ k → r.long ≡ m → r.halted ≡ [] → r.dropped ≡ d ++ e → seen_reach f r ≡ record { met = seen_leaves f k; long = seen_leaves f m; halted = []; dropped = seen_leaves f d ++ seen_leaves f e }
seen_divided f k m d e r ek em eh ed =
    let met = ap (seen_leaves f) ek in
    let long = ap (seen_leaves f) em in
    let halted = ap (seen_leaves f) eh in
    let dropped = ap (seen_leaves f) ed ∙ map-append (seen_leaf f) d e in
    λ i. record { met = met i; long = long i; halted = halted i; dropped = dropped i }

-- where the domain's variables are the same, and so are the conditions before
module _ {N : Type 0} (variables now : List DataSort) (e : now ≡ variables) (before later : List (Seen N)) (same : later ≡ before) (sys : System) (Judged : List DataSort → List (Seen N) → Judgement N) where
  pub sifted_now : (P : Giving) (k d : List (SeenLeaf N)) → IsSifted now sys (Judged now later) P k d → IsSifted variables sys (Judged variables before) P k d
  sifted_now P k d p = subst (λ bs. IsSifted variables sys (Judged variables bs) P k d) same (subst (λ vs. IsSifted vs sys (Judged vs later) P k d) e p)

  pub reach_now : (P : Found) (r : SeenReach N) → IsReach now sys (Judged now later) P r → IsReach variables sys (Judged variables before) P r
  reach_now P r p = subst (λ bs. IsReach variables sys (Judged variables bs) P r) same (subst (λ vs. IsReach vs sys (Judged vs later) P r) e p)

-- a condition stays one where the domain grows
pub one_before : {N : Type 0} (f g : N → Seen N) → Extends f g → (n : N) → IsCondition (f n) → (g n ∷ []) ≡ (f n ∷ [])
one_before f g x n h = ap (λ s. s ∷ []) (x.keeps n h.valid)

-- what is settled by conditions that are settled themselves
pub settled_more : {N : Type 0} (Keeps : Seen N → Type 0) (bs cs : List (Seen N)) → All (IsSettled Keeps cs) bs → (c : Seen N) → IsSettled Keeps bs c → IsSettled Keeps cs c
settled_more Keeps bs cs all c (inl kept) = inl kept
settled_more Keeps bs cs all c (inr (inl known)) = inr (inl known)
settled_more Keeps bs cs all c (inr (inr a)) = subst (IsSettled Keeps cs) (a.3 ∙ a.4) (all a.0 a.1 a.2)

module _ {N : Type 0} (Allows Keeps : List DataSort → Seen N → Type 0) (variables : List DataSort) where
  pub judged_more : (bs cs : List (Seen N)) → All (IsSettled (Keeps variables) cs) bs → (b : Bool) (c : Seen N) → judged_by Allows Keeps variables bs b c → judged_by Allows Keeps variables cs b c
  judged_more bs cs all true c h = h
  judged_more bs cs all false c h = settled_more (Keeps variables) bs cs all c h

  -- one of the leaves before
  pub judged_leaf : {S : Type 0} (f : N → Seen N) (leaves : List (Leaf S N)) (i : ℕ) (l : Leaf S N) → i < length leaves → l ≡ get_or leaves i l → (b : Bool) (c : Seen N) → judged_by Allows Keeps variables (f l.condition ∷ []) b c → judged_by Allows Keeps variables (conditions_of f leaves) b c
  judged_leaf {S} f leaves i l lt is =
      let cs = conditions_of f leaves in
      let of : Leaf S N → Seen N = λ x. f x.condition in
      let one : IsSettled (Keeps variables) cs (f l.condition) = inr (inr (i, f l.condition, seen_below of leaves i lt, sym (seen_at of leaves i l lt is), refl)) in
      judged_more (f l.condition ∷ []) cs (All-cons (IsSettled (Keeps variables) cs) (f l.condition) [] one (All-nil (IsSettled (Keeps variables) cs)))

-- what holds of the conditions of leaves
pub conditions_all : {S N : Type 0} (P : Seen N → Type 0) (f : N → Seen N) (ls : List (Leaf S N)) → All (λ l. P l.condition) (seen_leaves f ls) → All P (conditions_of f ls)
conditions_all P f [] h = All-nil P
conditions_all P f (l ∷ ls) h =
    All-cons P (f l.condition) (conditions_of f ls) (All-head (λ l. P l.condition) (seen_leaf f l) (seen_leaves f ls) h) (conditions_all P f ls (All-tail (λ l. P l.condition) (seen_leaf f l) (seen_leaves f ls) h))

-- the condition under which the search began is settled, and so are those of leaves, by a slice of them
pub start_settled : {N : Type 0} (Keeps : Seen N → Type 0) (c : Seen N) → IsSettled Keeps (c ∷ []) c
start_settled Keeps c = inr (inr (any_here (λ b. b ≡ c) c [] refl))

pub slice_settled : {S N : Type 0} (P : Seen N → Type 0) (f : N → Seen N) (ls slice : List (Leaf S N)) → slice ≡ ls → All (λ l. P l.condition) (seen_leaves f ls) → All P (conditions_of f slice)
slice_settled P f ls slice is h = subst (λ ks. All P (conditions_of f ks)) (sym is) (conditions_all P f ls h)

-- a simpler condition is one, and a leaf under it says the same
pub simpler_condition : {N : Type 0} (variables : List DataSort) (s n : Seen N) → IsCondition s → IsSimpler variables s n → IsCondition n
simpler_condition variables s n c simpler = record { valid = simpler.valid; sort = simpler.sort ∙ c.sort }

pub simpler_says : {N : Type 0} (variables : List DataSort) (s n : Seen N) → IsSimpler variables s n → (l : SeenLeaf N) (v : List Value) → IsValuation variables v → (rules : List ℕ) (t : Tree) → Says v rules t (under n l) ↔ Says v rules t (under s l)
simpler_says variables s n simpler l v fits rules t =
    let same : truth n v ≡ truth s v = ap (λ x. flag_of (scalar_of x)) (simpler.means v fits) in (
      λ h. record { holds = sym same ∙ h.holds; by = h.by; state = h.state },
      λ h. record { holds = same ∙ h.holds; by = h.by; state = h.state },
    )

-- a leaf under another condition, after the domain has grown
pub under_here : {S N : Type 0} (f g : N → Seen N) → Extends f g → (s : Seen N) (l : Leaf S N) → IsTrue (is_valid_term (seen_term f l.config.term)) → under s (seen_leaf g l) ≡ under s (seen_leaf f l)
under_here f g x s l h =
    let state = term_stays f g x l.config.term h in
    λ i. record { condition = s; state = state i; rules = rule_numbers l.rules }

pub under_moved : {N : Type 0} (sys : System) (s n : Seen N) (l k : SeenLeaf N) → k ≡ under n l → IsCondition n → IsLeaf sys (under s l) → IsLeaf sys k
under_moved sys s n l k e c is = subst (IsLeaf sys) (sym e) (record { condition = c; state = is.state })

-- a simpler leaf is one, and says the same
pub simpler_is_leaf : {N : Type 0} (variables : List DataSort) (sys : System) (l m : SeenLeaf N) → IsSimplerLeaf variables l m → IsLeaf sys l → IsLeaf sys m
simpler_is_leaf variables sys l m simpler is = record { condition = subst IsCondition (sym simpler.condition) is.condition; state = record { is = simpler.state.sorted sys.cons ∙ is.state.is } }

pub simpler_leaf_says : {N : Type 0} (variables : List DataSort) (l m : SeenLeaf N) → IsSimplerLeaf variables l m → (v : List Value) → IsValuation variables v → (rules : List ℕ) (t : Tree) → Says v rules t m ↔ Says v rules t l
simpler_leaf_says variables l m simpler v fits rules t =
    let same : truth m.condition v ≡ truth l.condition v = ap (λ s. truth s v) simpler.condition in
    let state = simpler.state.means v fits in (
      λ h. record { holds = sym same ∙ h.holds; by = sym simpler.rules ∙ h.by; state = sym state ∙ h.state },
      λ h. record { holds = same ∙ h.holds; by = simpler.rules ∙ h.by; state = state ∙ h.state },
    )

-- so it splits into the same
pub simpler_splits : {N : Type 0} (variables : List DataSort) (sys : System) (Judged : Judgement N) (In : Tree → Type 0) (l m : SeenLeaf N) → IsSimplerLeaf variables l m → (r : SeenReach N) → IsReach variables sys Judged (SplitOf In (λ v rules t. Says v rules t m)) r → IsReach variables sys Judged (SplitOf In (λ v rules t. Says v rules t l)) r
simpler_splits variables sys Judged In l m simpler r p = reach_same variables sys Judged (SplitOf In (λ v rules t. Says v rules t m)) (SplitOf In (λ v rules t. Says v rules t l)) r same p
  where
    to : Gets variables (λ v rules t. Says v rules t m) (λ v rules t. Says v rules t l)
    to v fits rules t x = (simpler_leaf_says variables l m simpler v fits rules t).0 x

    from : Gets variables (λ v rules t. Says v rules t l) (λ v rules t. Says v rules t m)
    from v fits rules t x = (simpler_leaf_says variables l m simpler v fits rules t).1 x

    same : AllSame variables (SplitOf In (λ v rules t. Says v rules t m)) (SplitOf In (λ v rules t. Says v rules t l))
    same = record {
      met = (λ v fits rules t x. (to v fits rules t x.0, x.1), λ v fits rules t x. (from v fits rules t x.0, x.1));
      long = (λ v fits rules t x. (to v fits rules t x.0, x.1), λ v fits rules t x. (from v fits rules t x.0, x.1));
      halted = (λ v fits rules t x. x, λ v fits rules t x. x);
      dropped = to;
    }

-- the leaf where one condition more is true says what the leaf says where that is true
pub part_says : {N : Type 0} (l : SeenLeaf N) (s n : Seen N) → IsTruth n (λ v. truth l.condition v && truth s v) → (v : List Value) (rules : List ℕ) (t : Tree) → Says v rules t (under n l) ↔ (Says v rules t l × (truth s v ≡ true))
part_says l s n is v rules t = (
  λ h. let both = and_parts (truth l.condition v) (truth s v) (sym (is.means v) ∙ h.holds) in (record { holds = both.0; by = h.by; state = h.state }, both.1),
  λ h. let a : truth l.condition v ≡ true = h.0.holds in let b : truth s v ≡ true = h.1 in record { holds = is.means v ∙ rw (a, b) refl; by = h.0.by; state = h.0.state },
)

-- the leaf where its state is in the cut, and where it isn't
module _ {S N : Type 0} (variables : List DataSort) (sys : System) (cuts : List (Cut S)) (l : SeenLeaf N) (o : Seen N) (is : IsOutside variables sys.cons cuts l.state o) where
  pub outside_says : (v : List Value) → IsValuation variables v → (rules : List ℕ) (t : Tree) → (Says v rules t l × (truth o v ≡ true)) ↔ (Says v rules t l × (¬ InCut sys.cons cuts t))
  outside_says v fits rules t = (to, from)
    where
      to : Says v rules t l × (truth o v ≡ true) → Says v rules t l × (¬ InCut sys.cons cuts t)
      to h = (h.0, λ i. let off : truth o v ≡ false = (is.inside v fits).1 (subst (InCut sys.cons cuts) (sym h.0.state) i) in let on : truth o v ≡ true = h.1 in let clash : true ≡ false = sym on ∙ off in cc)

      from : Says v rules t l × (¬ InCut sys.cons cuts t) → Says v rules t l × (truth o v ≡ true)
      from h = (h.0, go (truth o v) refl)
        where
          go : (b : Bool) → truth o v ≡ b → truth o v ≡ true
          go true e = e
          go false e = absurd (h.1 (subst (InCut sys.cons cuts) h.0.state ((is.inside v fits).0 e)))

  pub inside_says : (i : Seen N) → IsTruth i (λ v. not (truth o v)) → (v : List Value) → IsValuation variables v → (rules : List ℕ) (t : Tree) → (Says v rules t l × (truth i v ≡ true)) ↔ (Says v rules t l × InCut sys.cons cuts t)
  inside_says i means v fits rules t = (to, from)
    where
      to : Says v rules t l × (truth i v ≡ true) → Says v rules t l × InCut sys.cons cuts t
      to h = (h.0, subst (InCut sys.cons cuts) h.0.state ((is.inside v fits).0 (go (truth o v) (sym (means.means v) ∙ h.1))))
        where
          go : (b : Bool) → not b ≡ true → b ≡ false
          go true e = let clash : false ≡ true = e in absurd (cc)
          go false e = refl

      from : Says v rules t l × InCut sys.cons cuts t → Says v rules t l × (truth i v ≡ true)
      from h =
          let off : truth o v ≡ false = (is.inside v fits).1 (subst (InCut sys.cons cuts) (sym h.0.state) h.1) in
          (h.0, means.means v ∙ ap not off)

-- the leaf where it can make no step
pub stuck_says : {N : Type 0} (variables : List DataSort) (Steps : ℕ → Tree → Tree → Type 0) (l : SeenLeaf N) (s : Seen N) → IsStuckWhere variables Steps l s → (v : List Value) → IsValuation variables v → (rules : List ℕ) (t : Tree) → Says v rules t (under s l) ↔ (Says v rules t l × IsStuck Steps t)
stuck_says variables Steps l s is v fits rules t = (
  λ h. let x = (is.exact v fits).0 h.holds in (record { holds = x.0; by = h.by; state = h.state }, subst (IsStuck Steps) h.state x.1),
  λ h. record { holds = (is.exact v fits).1 (h.0.holds, subst (IsStuck Steps) (sym h.0.state) h.1); by = h.0.by; state = h.0.state },
)

-- the leaf that can make no step, and has made one
pub moved_stops : {N : Type 0} (variables : List DataSort) (sys : System) (Judged : Judgement N) (Steps : ℕ → Tree → Tree → Type 0) (l : SeenLeaf N) (s : Seen N) → IsStuckWhere variables Steps l s → (r : SeenReach N) → IsReach variables sys Judged (MovedOf (λ v rules t. Says v rules t (under s l))) r → IsReach variables sys Judged (StopsOf Steps (λ v rules t. Says v rules t l)) r
moved_stops variables sys Judged Steps l s is r p = reach_same variables sys Judged (MovedOf (λ v rules t. Says v rules t (under s l))) (StopsOf Steps (λ v rules t. Says v rules t l)) r same p
  where
    same : AllSame variables (MovedOf (λ v rules t. Says v rules t (under s l))) (StopsOf Steps (λ v rules t. Says v rules t l))
    same = record {
      met = (λ v fits rules t x. x, λ v fits rules t x. x);
      long = (λ v fits rules t x. x, λ v fits rules t x. x);
      halted = (
        λ v fits rules t x. let y = (stuck_says variables Steps l s is v fits rules t).0 x.0 in (y.0, (x.1, y.1)),
        λ v fits rules t x. ((stuck_says variables Steps l s is v fits rules t).1 (x.0, x.1.1), x.1.0),
      );
      dropped = λ v fits rules t x. (((stuck_says variables Steps l s is v fits rules t).0 x.0).0, x.1);
    }

-- the steps of a leaf, split by the cut, and the leaf where it can make none
module _ {N : Type 0} (variables : List DataSort) (sys : System) (Judged : Judgement N) (Steps : ℕ → Tree → Tree → Type 0) (In : Tree → Type 0) (l : SeenLeaf N) (ls : List (SeenLeaf N)) (are : AreLeaves variables sys (StepsFrom Steps l) ls) where
  has_after : (Q : Tree → Type 0) (v : List Value) → IsValuation variables v → (rules : List ℕ) (t : Tree) → (Gives v rules t ls × Q t) ↔ After Steps (λ rs u. Says v rs u l) Q rules t
  has_after Q v fits rules t = (
    λ h. let a = (are.exact v fits rules t).0 h.0 in record { before = a.before; start = a.start; rule = a.rule; there = a.there; step = a.step; splits = a.splits; has = h.1 },
    λ a. ((are.exact v fits rules t).1 (record { before = a.before; start = a.start; rule = a.rule; there = a.there; step = a.step; splits = a.splits; has = tt }), a.has),
  )

  joins_left : (P Q : Giving) → Gets variables P Q → Gets variables Q P → Joins variables P Nothing Q
  joins_left P Q f g = record { left = f; right = λ v fits rules t x. absurd x; either = λ v fits rules t x. inl (g v fits rules t x) }

  pub advance_joins : AllJoin variables (SplitOf In (λ v rules t. Gives v rules t ls)) (StopsOf Steps (λ v rules t. Says v rules t l)) (NextOf Steps In (λ v rules t. Says v rules t l))
  advance_joins = record {
    met = joins_left (λ v rules t. Gives v rules t ls × In t) (λ v. After Steps (λ rs u. Says v rs u l) In) (λ v fits rules t x. (has_after In v fits rules t).0 x) (λ v fits rules t x. (has_after In v fits rules t).1 x);
    long = joins_left (λ v rules t. Gives v rules t ls × (¬ In t)) (λ v. After Steps (λ rs u. Says v rs u l) (λ u. ¬ In u)) (λ v fits rules t x. (has_after (λ u. ¬ In u) v fits rules t).0 x) (λ v fits rules t x. (has_after (λ u. ¬ In u) v fits rules t).1 x);
    halted = record { left = λ v fits rules t x. absurd x; right = λ v fits rules t x. x; either = λ v fits rules t x. inr x };
    left = λ v fits rules t x. inl ((are.exact v fits rules t).0 x);
    right = λ v fits rules t x. inr x;
  }
