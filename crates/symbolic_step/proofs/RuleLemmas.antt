-- The steps by one rule.
use Rattle.std.proofs.Common.{◌≡◌, ◌↔◌, ℕ, ◌+◌, ◌<◌, false, ◌&&◌, IsTrue, List, [], ◌∷◌, ◌++◌, length, take, get_or, All, refl, sym, ap, ◌∙◌, subst}
use Rattle.data_value.specs.declared.DataSort.{DataSort}
use Rattle.data_value.specs.declared.Value.{Value}
use Rattle.std.proofs.lemmas.List.Elements.{All-get_or}
use Rattle.data_value.specs.Nodes.{Seen, Extends, IsValuation}
use Rattle.data_value.specs.Truth.{truth, IsCondition, IsTruth}
use Rattle.sort_term.specs.declared.term.Sort.TheVariants.{Own}
use Rattle.sort_term.specs.declared.term.Term.{Term}
use Rattle.sort_term.specs.System.{System}
use Rattle.sort_term.specs.Tree.{Tree}
use Rattle.sort_term.specs.NodeTerms.{seen_term, is_valid_term, tree_of}
use Rattle.sort_term.proofs.NodeTerming.{sorted_valid}
use Rattle.sort_term.specs.Step.{Tables, StepsBy}
use Rattle.unify.specs.declared.branch.Branch.{Branch}
use Rattle.unify.specs.Branches.{SeenBranch, seen_branch, seen_branches, IsBranch, IsConfiguration, AreBranches}
use Rattle.unify.proofs.Carried.{branch_stays, branches_stay, seen_at, seen_below}
use Rattle.path_condition.specs.declared.leaf.Leaf.{Leaf}
use Rattle.path_condition.specs.declared.path.Path.{Path}
use Rattle.path_condition.specs.Leaves.{SeenLeaf, seen_leaf, seen_leaves, IsLeaf, Gives}
use Rattle.path_condition.proofs.LeafLemmas.{leaf_stays, leaves_same, leaves_appended}
use Rattle.symbolic_step.specs.OneStep.{SeenPath, seen_path, start_of, StepsFrom, AreByRule, AppliesWhere}
use Rattle.symbolic_step.specs.Ends.{IsEndOf, AreTaken, some_holds}
use Rattle.symbolic_step.proofs.TakenLemmas.{taken_more, taken_same, holds_leads, none_leads}

module _ {N : Type 0} (variables : List DataSort) (sys : System) (tables : Tables) (p : SeenPath N) (n : ℕ) (state : Term (Seen N)) (bs : List (SeenBranch N)) (are : AreBranches variables sys tables n state bs) where
  Step : Tree → Tree → Type 0
  Step = StepsBy sys tables n

  Only : ℕ → Tree → Tree → Type 0
  Only m s t = (m ≡ n) × StepsBy sys tables n s t

  -- the leaves of a rule's branches are its steps
  pub taken_by_rule : (ls : List (SeenLeaf N)) → AreTaken sys p n bs ls → AreByRule variables sys (StepsBy sys tables n) n (start_of p state) ls
  taken_by_rule ls taken = record { are = record { each = taken.each; exact = exact }; live = taken.live }
    where
      exact : (v : List Value) → IsValuation variables v → (rules : List ℕ) (t : Tree) → Gives v rules t ls ↔ StepsFrom (λ m s u. (m ≡ n) × StepsBy sys tables n s u) (start_of p state) v rules t
      exact v fits rules t = (to, from)
        where
          to : Gives v rules t ls → StepsFrom (λ m s u. (m ≡ n) × StepsBy sys tables n s u) (start_of p state) v rules t
          to a =
              let x = (taken.exact v rules t).0 a in
              record {
                before = p.rules;
                start = tree_of v state;
                rule = n;
                there = record { holds = x.0; by = refl; state = refl };
                step = (refl, (are.exact v fits t).1 x.1.1);
                splits = x.1.0;
                has = tt;
              }

          from : StepsFrom (λ m s u. (m ≡ n) × StepsBy sys tables n s u) (start_of p state) v rules t → Gives v rules t ls
          from a =
              let rules_are : rules ≡ p.rules ++ n ∷ [] = a.splits ∙ ap (λ rs. rs ++ a.rule ∷ []) (sym a.there.by) ∙ ap (λ m. p.rules ++ m ∷ []) a.step.0 in
              let made : StepsBy sys tables n (tree_of v state) t = subst (λ s. StepsBy sys tables n s t) (sym a.there.state) a.step.1 in
              (taken.exact v rules t).1 (a.there.holds, (rules_are, (are.exact v fits t).0 made))

  -- the rule gives a step exactly where some branch's condition is true
  pub holds_applies : (s : Seen N) → IsTruth s (some_holds bs) → AppliesWhere variables (StepsBy sys tables n) state s
  holds_applies s is = record {
    condition = is.condition;
    somewhere = λ v fits h.
        let led = holds_leads bs v (sym (is.means v) ∙ h) in
        (led.0, (are.exact v fits led.0).1 led.1);
    nowhere = λ v fits h t made. none_leads bs v (sym (is.means v) ∙ h) t ((are.exact v fits t).0 made);
  }

-- a path stays as it is where the domain grows
pub path_stays : {N : Type 0} (f g : N → Seen N) → Extends f g → (p : Path N) → IsCondition (f p.condition) → seen_path g p ≡ seen_path f p
path_stays f g x p is =
    let with_condition : Seen _ → SeenPath _ = λ s. record { condition = s; rules = (seen_path f p).rules } in
    ap with_condition (x.keeps p.condition is.valid)

module _ {S N : Type 0} (f g : N → Seen N) (x : Extends f g) (sys : System) where
  -- branches stay as they are where the domain grows
  pub branches_kept : (variables : List DataSort) (tables : Tables) (n : ℕ) (state : Term (Seen N)) (found items : List (Branch S N)) → items ≡ found → AreBranches variables sys tables n state (seen_branches f found) → AreBranches variables sys tables n state (seen_branches g items)
  branches_kept variables tables n state found items e are =
      subst (AreBranches variables sys tables n state) (sym (ap (seen_branches g) e ∙ branches_stay f g x sys found are.each)) are

  module _ (bs : List (Branch S N)) (i : ℕ) (b : Branch S N) (lt : i < length bs) (is : b ≡ get_or bs i b) (all : All (IsBranch sys) (seen_branches f bs)) where
    -- the branch at a place of a list
    pub branch_at : IsBranch sys (seen_branch f b)
    branch_at =
        subst (IsBranch sys) (sym (seen_at (seen_branch f) bs i b lt is)) (All-get_or (IsBranch sys) (seen_branches f bs) i (seen_branch f b) (seen_below (seen_branch f) bs i lt) all)

    pub branch_same : seen_branch g b ≡ seen_branch f b
    branch_same = branch_stays f g x sys b branch_at

    pub branch_at_now : IsBranch sys (seen_branch g b)
    branch_at_now = subst (IsBranch sys) (sym branch_same) branch_at

    pub branch_valid : IsTrue (is_valid_term (seen_term g b.«result».term))
    branch_valid = sorted_valid sys.cons (seen_term g b.«result».term) (Own sys.config) branch_at_now.«result».is

-- the leaves so far and one more, in the grown domain
module _ {S N : Type 0} (f now after : N → Seen N) (x : Extends f now) (y : Extends now after) (sys : System) (p : Path N) (is_path : IsCondition (f p.condition)) (n : ℕ) (bs : List (SeenBranch N)) (i : ℕ) (b : SeenBranch N) (lt : i < length bs) (is : b ≡ get_or bs i b) (lawful : IsBranch sys b) (leaves : List (Leaf S N)) (before : AreTaken sys (seen_path f p) n (take i bs) (seen_leaves now leaves)) where
  pub taken_pushed : (made : N → Seen N) → Extends made after → (more : List (Leaf S N)) (l : Leaf S N) → more ≡ leaves ++ l ∷ [] → IsEndOf (seen_path now p) n b (seen_leaf made l) → AreTaken sys (seen_path f p) n (take (i + 1) bs) (seen_leaves after more)
  taken_pushed made z more l e is_end =
      let end_first : IsEndOf (seen_path f p) n b (seen_leaf made l) = subst (λ q. IsEndOf q n b (seen_leaf made l)) (path_stays f now x p is_path) is_end in
      let is_leaf : IsLeaf sys (seen_leaf made l) = record { condition = is_end.means.condition; state = subst (IsConfiguration sys) (sym is_end.state) lawful.«result» } in
      let kept : seen_leaf after l ≡ seen_leaf made l = leaf_stays made after z sys l is_leaf in
      let all : seen_leaves after more ≡ seen_leaves now leaves ++ seen_leaf made l ∷ [] = leaves_appended now after y sys leaves (l ∷ []) more before.each e ∙ ap (λ t. seen_leaves now leaves ++ t ∷ []) kept in
      subst (AreTaken sys (seen_path f p) n (take (i + 1) bs)) (sym all) (taken_more sys (seen_path f p) n bs i b lt is (seen_leaves now leaves) before (seen_leaf made l) lawful end_first)

  pub taken_kept : ((v : List Value) → truth (now p.condition) v && truth b.condition v ≡ false) → AreTaken sys (seen_path f p) n (take (i + 1) bs) (seen_leaves after leaves)
  taken_kept apart =
      let apart_first : (v : List Value) → truth (f p.condition) v && truth b.condition v ≡ false = subst (λ (s : Seen N). (v : List Value) → truth s v && truth b.condition v ≡ false) (x.keeps p.condition is_path.valid) apart in
      subst (AreTaken sys (seen_path f p) n (take (i + 1) bs)) (sym (leaves_same now after y sys leaves before.each)) (taken_same sys (seen_path f p) n bs i b lt is (seen_leaves now leaves) before apart_first)
