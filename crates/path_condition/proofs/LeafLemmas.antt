-- Leaves stay as they are where the domain grows, and under valuations that agree on its variables.
use Rattle.std.proofs.Common.{◌≡◌, ℕ, IsTrue, List, [], ◌∷◌, ◌++◌, length, All, refl, sym, ap, ◌∙◌}
use Rattle.std.proofs.lemmas.List.{map-append}
use Rattle.std.proofs.lemmas.List.Elements.{All-head, All-tail}
use Rattle.data_value.specs.declared.DataSort.{DataSort}
use Rattle.data_value.specs.declared.Value.{Value}
use Rattle.data_value.specs.Values.{flag_of, scalar_of}
use Rattle.data_value.specs.Nodes.{Seen, Extends}
use Rattle.data_value.specs.NodeLaws.{DependsOnVariables}
use Rattle.data_value.specs.Views.{AgreeBelow}
use Rattle.sort_term.specs.declared.term.Sort.TheVariants.{Own}
use Rattle.sort_term.specs.declared.term.Term.{Term}
use Rattle.sort_term.specs.System.{System}
use Rattle.sort_term.specs.Tree.{Tree}
use Rattle.sort_term.specs.NodeTerms.{seen_term, is_valid_term}
use Rattle.sort_term.proofs.NodeTerming.{term_stays, sorted_valid, depend_law}
use Rattle.unify.specs.Branches.{IsConfiguration}
use Rattle.unify.proofs.Anys.{any_among, any_map}
use Rattle.unify.proofs.Lists.{all_mapped}
use Rattle.path_condition.specs.declared.leaf.Leaf.{Leaf}
use Rattle.path_condition.specs.Leaves.{SeenLeaf, seen_leaf, seen_leaves, rule_numbers, IsLeaf, Says, Gives}
use Rattle.path_condition.specs.LeafLaws.{LeavesStay, LeavesDependOnVariables}

-- the nodes of a configuration are valid
pub configuration_valid : {N : Type 0} (sys : System) (t : Term (Seen N)) → IsConfiguration sys t → IsTrue (is_valid_term t)
configuration_valid sys t h = sorted_valid sys.cons t (Own sys.config) h.is

module _ {S N : Type 0} (f g : N → Seen N) (x : Extends f g) (sys : System) where
  pub leaf_stays : (l : Leaf S N) → IsLeaf sys (seen_leaf f l) → seen_leaf g l ≡ seen_leaf f l
  leaf_stays l h =
      let c : g l.condition ≡ f l.condition = x.keeps l.condition h.condition.valid in
      let t : seen_term g l.config.term ≡ seen_term f l.config.term = term_stays f g x l.config.term (configuration_valid sys (seen_term f l.config.term) h.state) in
      let with_condition : Seen N → SeenLeaf N = λ s. record { condition = s; state = seen_term g l.config.term; rules = rule_numbers l.rules } in
      let with_state : Term (Seen N) → SeenLeaf N = λ u. record { condition = f l.condition; state = u; rules = rule_numbers l.rules } in
      ap with_condition c ∙ ap with_state t

  pub leaves_same : (ls : List (Leaf S N)) → All (IsLeaf sys) (seen_leaves f ls) → seen_leaves g ls ≡ seen_leaves f ls
  leaves_same [] a = refl
  leaves_same (l ∷ ls) a =
      ap (λ s. s ∷ seen_leaves g ls) (leaf_stays l (All-head (IsLeaf sys) (seen_leaf f l) (seen_leaves f ls) a))
      ∙ ap (λ ss. seen_leaf f l ∷ ss) (leaves_same ls (All-tail (IsLeaf sys) (seen_leaf f l) (seen_leaves f ls) a))

  -- more leaves, in the grown domain
  pub leaves_appended : (old more new : List (Leaf S N)) → All (IsLeaf sys) (seen_leaves f old) → new ≡ old ++ more → seen_leaves g new ≡ seen_leaves f old ++ seen_leaves g more
  leaves_appended old more new a e =
      ap (seen_leaves g) e ∙ map-append (seen_leaf g) old more ∙ ap (λ ss. ss ++ seen_leaves g more) (leaves_same old a)

pub stay_law : (S N : Type 0) → LeavesStay S N
stay_law S N sys before after leaves x a = leaves_same before after x sys leaves a

pub agree_turned : (n : ℕ) (v w : List Value) → AgreeBelow n v w → AgreeBelow n w v
agree_turned n v w a = record { at = λ i l. sym (a.at i l) }

module _ {S N : Type 0} (sys : System) (look : N → Seen N) (variables : List DataSort) (depends : (n : N) → DependsOnVariables look variables n) where
  -- a leaf says the same under valuations that agree on the domain's variables
  pub says_same : (v w : List Value) → AgreeBelow (length variables) v w → (rules : List ℕ) (t : Tree) (l : Leaf S N) → IsLeaf sys (seen_leaf look l) → Says v rules t (seen_leaf look l) → Says w rules t (seen_leaf look l)
  says_same v w agree rules t l h s =
      let turned = agree_turned (length variables) v w agree in
      let valid = configuration_valid sys (seen_term look l.config.term) h.state in
      record {
        holds = ap (λ m. flag_of (scalar_of m)) (depends l.condition h.condition.valid w v turned) ∙ s.holds;
        by = s.by;
        state = depend_law N look variables depends l.config.term w v valid turned ∙ s.state;
      }

  pub gives_same : (v w : List Value) → AgreeBelow (length variables) v w → (rules : List ℕ) (t : Tree) (ls : List (Leaf S N)) → All (IsLeaf sys) (seen_leaves look ls) → Gives v rules t (seen_leaves look ls) → Gives w rules t (seen_leaves look ls)
  gives_same v w agree rules t ls a given =
      let each = all_mapped (IsLeaf sys) (seen_leaf look) ls a in
      let before = (any_map (Says v rules t) (seen_leaf look) ls).0 given in
      (any_map (Says w rules t) (seen_leaf look) ls).1
      (any_among (λ l. IsLeaf sys (seen_leaf look l)) (λ l. Says v rules t (seen_leaf look l)) (λ l. Says w rules t (seen_leaf look l)) ls each (says_same v w agree rules t) before)

pub depend_law_of_leaves : (S N : Type 0) → LeavesDependOnVariables S N
depend_law_of_leaves S N sys look variables leaves depends a v w agree rules t = (
  gives_same sys look variables depends v w agree rules t leaves a,
  gives_same sys look variables depends w v (agree_turned (length variables) v w agree) rules t leaves a,
)
