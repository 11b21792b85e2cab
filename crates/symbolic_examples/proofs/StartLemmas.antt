-- Configurations from their parts.
use Rattle.std.proofs.Common.{◌≡◌, ℕ, ◌+◌, ◌<◌, true, List, [], ◌∷◌, ◌++◌, length, map, take, get_or, slice_get, All, Some, Option, refl, ap, ◌∙◌}
use Rattle.std.proofs.lemmas.Bool.{eq-eqb}
use Rattle.std.proofs.lemmas.List.{take_more, map-append}
use Rattle.std.proofs.lemmas.List.Elements.{All-weaker}
use Rattle.data_value.specs.Nodes.{Seen}
use Rattle.data_value.proofs.TestLemmas.{decides_sort}
use Rattle.sort_term.specs.declared.ids.ConId.{ConId}
use Rattle.sort_term.specs.declared.semantics.Con.{Con}
use Rattle.sort_term.specs.declared.term.Sort.{Sort}
use Rattle.sort_term.specs.declared.term.Sort.TheVariants.{Own, Plain}
use Rattle.sort_term.specs.declared.term.Term.{Term}
use Rattle.sort_term.specs.declared.term.Term.TheVariants as term
use Rattle.sort_term.specs.Sorted.{is_same, have_sorts, con_sort}
use Rattle.sort_term.specs.NodeTerms.{seen_term, seen_sort}
use Rattle.sort_term.specs.System.{System}
use Rattle.sort_term.proofs.NodeTerming.{seen-Con, seen_sort-Con}
use Rattle.unify.specs.declared.branch.Branch.{Branch}
use Rattle.unify.specs.Branches.{seen_branch, seen_branches, IsBranch}
use Rattle.unify.proofs.Lists.{all_mapped}
use Rattle.path_condition.specs.declared.leaf.Leaf.{Leaf}
use Rattle.path_condition.specs.Leaves.{seen_leaf, seen_leaves, IsLeaf}
use Rattle.path_condition.proofs.LeafLemmas.{configuration_valid}
use Rattle.symbolic_examples.specs.Ends.{EndsAtNodes, LeadsToNodes}

-- parts have their own sorts
have_own : (args : List Sort) → have_sorts (map Some args) args ≡ true
have_own [] = refl
have_own (a ∷ args) = rw (same a, have_own args) refl
  where
    same : (b : Sort) → is_same b b ≡ true
    same (Own s) = eq-eqb s.0 s.0 refl
    same (Plain d) = (decides_sort d d).1 refl

-- a constructor at terms of the sorts that it takes
pub con_is : {N : Type 0} (f : N → Seen N) (cons : List Con) (k : ConId) (c : Con) (ts : List (Term N)) → slice_get cons k.0 ≡ Some c → map (λ t. seen_sort cons (seen_term f t)) ts ≡ map Some c.args → seen_sort cons (seen_term f (term.Con k ts)) ≡ Some (Own c.sort)
con_is f cons k c ts there sorts =
    let parts : map (seen_sort cons) (map (seen_term f) ts) ≡ map Some c.args = map_map ts ∙ sorts in
    ap (seen_sort cons) (seen-Con f k ts) ∙ seen_sort-Con cons k (map (seen_term f) ts) ∙ ap (λ o. con_sort o (map (seen_sort cons) (map (seen_term f) ts))) there
    ∙ ap (con_sort (Some c)) parts ∙ rw (have_own c.args) refl
  where
    map_map : (us : List (Term _)) → map (seen_sort cons) (map (seen_term f) us) ≡ map (λ t. seen_sort cons (seen_term f t)) us
    map_map [] = refl
    map_map (u ∷ us) = ap (λ xs. seen_sort cons (seen_term f u) ∷ xs) (map_map us)

-- one part more
pub parts_more : {X : Type 0} (f : X → Option Sort) (cs ds : List X) (xs : List Sort) (i : ℕ) (c : X) (x d : Sort) → i < length xs → x ≡ get_or xs i d → ds ≡ cs ++ c ∷ [] → map f cs ≡ map Some (take i xs) → f c ≡ Some x → map f ds ≡ map Some (take (i + 1) xs)
parts_more f cs ds xs i c x d lt is more so_far here =
    let e = ap (map f) more ∙ map-append f cs (c ∷ []) in
    let r = ap (map Some) (take_more xs i d lt) ∙ map-append Some (take i xs) (get_or xs i d ∷ []) in
    let h : f c ≡ Some (get_or xs i d) = here ∙ ap Some is in
    cc

module _ {S N : Type 0} (sys : System) (look : N → Seen N) where
  -- the nodes of leaves are valid
  pub leaves_at_nodes : (ls : List (Leaf S N)) → All (IsLeaf sys) (seen_leaves look ls) → All (EndsAtNodes look) ls
  leaves_at_nodes ls all =
      All-weaker (λ l. IsLeaf sys (seen_leaf look l)) (EndsAtNodes look) (λ l h. record { condition = h.condition.valid; state = configuration_valid sys (seen_term look l.config.term) h.state }) ls (all_mapped (IsLeaf sys) (seen_leaf look) ls all)

  -- the nodes of branches are valid
  pub branches_at_nodes : (bs : List (Branch S N)) → All (IsBranch sys) (seen_branches look bs) → All (LeadsToNodes look) bs
  branches_at_nodes bs all =
      All-weaker (λ b. IsBranch sys (seen_branch look b)) (LeadsToNodes look) (λ b h. record { condition = h.condition.valid; state = configuration_valid sys (seen_term look b.«result».term) h.«result» }) bs (all_mapped (IsBranch sys) (seen_branch look) bs all)
