-- The step of a rule from its branches over values as nodes.
use Rattle.std.proofs.Common.{◌≡◌, ◌⊎◌, inl, inr, ℕ, zero, suc, List, [], ◌∷◌, slice_get, Some, None, All, refl, sym, ap, ◌∙◌, subst}
use Rattle.std.specs.Prelude.{Any}
use Rattle.std.proofs.lemmas.List.Elements.{All-nil, All-head, All-tail}
use Rattle.data_value.specs.declared.Value.{Value}
use Rattle.data_value.specs.Nodes.{IsValuation}
use Rattle.data_value.specs.Values.{IsValue}
use Rattle.data_value.specs.Ground.{ground_seen}
use Rattle.sort_term.specs.System.{System}
use Rattle.sort_term.specs.Tree.{Tree}
use Rattle.sort_term.specs.Rules.{IsSemantics}
use Rattle.sort_term.specs.Step.{Tables, StepsBy, IsState}
use Rattle.sort_term.specs.NodeTerms.{seen_term}
use Rattle.sort_term.proofs.Agreeing.{one_step}
use Rattle.sort_term.proofs.GroundTerms.{ground_sort, ground_tree}
use Rattle.unify.specs.declared.branch.Branch.{Branch}
use Rattle.unify.specs.Branches.{IsConfiguration, LeadsTo, AreBranches, seen_branch, seen_branches}
use Rattle.unify.proofs.Anys.{any_none, any_here, any_later, any_cases}
use Rattle.ground_step.specs.Steps.{StepIs, IsTrueBranch}

-- the one valuation of no variables
pub no_values : IsValuation [] []
no_values = record { values = All-nil IsValue; sorted = refl }

-- a state is a configuration over values as nodes
pub state_configuration : (sys : System) (s : Tree) → IsState sys s → IsConfiguration sys (seen_term ground_seen s)
state_configuration sys s h = record { is = ground_sort sys.cons s ∙ h.is }

module _ {S : Type 0} where
  leads : (bs : List (Branch S Value)) (i : ℕ) (b : Branch S Value) (t : Tree) → slice_get bs i ≡ Some b → IsTrueBranch b → b.result.term ≡ t → Any (LeadsTo [] t) (seen_branches ground_seen bs)
  leads [] i b t there taken is = absurd (cc)
  leads (c ∷ bs) zero b t there taken is =
      let e : c ≡ b = cc in
      any_here (LeadsTo [] t) (seen_branch ground_seen c) (seen_branches ground_seen bs) (subst (λ d. LeadsTo [] t (seen_branch ground_seen d)) (sym e) (record { holds = taken; result = ground_tree [] b.result.term ∙ is }))
  leads (c ∷ bs) (suc i) b t there taken is = any_later (LeadsTo [] t) (seen_branch ground_seen c) (seen_branches ground_seen bs) (leads bs i b t there taken is)

  no_lead : (bs : List (Branch S Value)) (t : Tree) → All (λ b. ¬ IsTrueBranch b) bs → ¬ Any (LeadsTo [] t) (seen_branches ground_seen bs)
  no_lead [] t none x = any_none (LeadsTo [] t) x
  no_lead (b ∷ bs) t none x = go (no_lead bs t (All-tail (λ d. ¬ IsTrueBranch d) b bs none)) (any_cases (LeadsTo [] t) (seen_branch ground_seen b) (seen_branches ground_seen bs) x)
    where
      go : ¬ Any (LeadsTo [] t) (seen_branches ground_seen bs) → LeadsTo [] t (seen_branch ground_seen b) ⊎ Any (LeadsTo [] t) (seen_branches ground_seen bs) → ⊥
      go more (inl here) = All-head (λ d. ¬ IsTrueBranch d) b bs none here.holds
      go more (inr later) = more later

  module _ (sys : System) (tables : Tables) (n : ℕ) (s : Tree) (lawful : IsSemantics sys) (bs : List (Branch S Value)) (are : AreBranches [] sys tables n (seen_term ground_seen s) (seen_branches ground_seen bs)) where
    pub step_taken : (i : ℕ) (b : Branch S Value) → slice_get bs i ≡ Some b → IsTrueBranch b → StepIs sys tables n s (Some b.result.term)
    step_taken i b there taken = record {
      only = λ t a. ap Some (one_step sys lawful tables n s b.result.term t (steps b.result.term refl) a);
      there = λ t e. steps t (let q : b.result.term ≡ t = cc in q);
    }
      where
        steps : (t : Tree) → b.result.term ≡ t → StepsBy sys tables n s t
        steps t is = subst (λ x. StepsBy sys tables n x t) (ground_tree [] s) ((are.exact [] no_values t).1 (leads bs i b t there taken is))

    pub step_none : All (λ b. ¬ IsTrueBranch b) bs → StepIs sys tables n s None
    step_none none = record {
      only = λ t a. absurd (no_lead bs t none ((are.exact [] no_values t).0 (subst (λ x. StepsBy sys tables n x t) (sym (ground_tree [] s)) a)));
      there = λ t e. absurd (cc);
    }
