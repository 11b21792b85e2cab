-- Whether an item of a cut covers a state, from what makes its pattern equal to the state.
use Rattle.std.proofs.Common.{rules, ◌≡◌, ◌↔◌, ℕ, ◌<◌, Bool, true, false, IsTrue, List, [], length, map, get_or, Option, IsSome, All, sym, ◌∙◌, subst}
use Rattle.std.proofs.lemmas.List.Elements.{All-map}
use Rattle.data_value.specs.declared.Scalar.TheVariants.{Flag}
use Rattle.data_value.specs.declared.Value.{Value}
use Rattle.data_value.specs.declared.Value.TheVariants.{One}
use Rattle.data_value.specs.Ground.{ground_seen}
use Rattle.data_value.specs.GroundLawful.{ground-laws}
use Rattle.sort_term.specs.declared.points.Cut.{Cut}
use Rattle.sort_term.specs.System.{System}
use Rattle.sort_term.specs.Tree.{Tree, Trees, pattern_value}
use Rattle.sort_term.specs.Sorted.{pattern_sort}
use Rattle.sort_term.specs.Step.{IsState}
use Rattle.sort_term.specs.Cuts.{AllTrue, Covers, IsCovered}
use Rattle.sort_term.specs.Problems.{IsCut}
use Rattle.sort_term.specs.NodeTerms.{seen_term, seen_sort}
use Rattle.sort_term.proofs.Declared.{declares, only_in}
use Rattle.sort_term.proofs.GroundTerms.{ground_sort, ground_tree}
use Rattle.unify.specs.Scopes.{scope_of}
use Rattle.unify.specs.Binds.{IsBound}
use Rattle.data_value.specs.Truth.{AreTrue}
use Rattle.unify.specs.Meets.{AreApart, AreUnified}
use Rattle.unify.proofs.Filled.{filled, filled_agrees, filled_long, agreeing_fits}
use Rattle.unify.proofs.Lists.{all_mapped}
use Rattle.ground_step.specs.GroundBinds.{ground_binds, AgreesGround, Restricts}
use Rattle.ground_step.specs.Ready.{IsEvaluable}
use Rattle.ground_step.proofs.Taken.{no_values}

module _ {S : Type 0} (sys : System) (item : Cut S) (s : Tree) (checked : IsCut sys item) (state : IsState sys s) where
  -- what `unify` asks for
  pub pattern_some : IsSome (pattern_sort sys.cons item.vars item.pattern)
  pattern_some = subst IsSome (sym checked.pattern.is) (search rules)

  pub state_sort : seen_sort sys.cons (seen_term ground_seen s) ≡ pattern_sort sys.cons item.vars item.pattern
  state_sort = ground_sort sys.cons s ∙ state.is ∙ sym checked.pattern.is

  pub apart : AreApart item.pattern (seen_term ground_seen s) → IsTrue false ↔ IsCovered sys.cons item s
  apart a = (λ y. absurd (cc), λ x. absurd (a.never [] x.0 (x.1.pattern ∙ sym (ground_tree [] s))))

  module _ (bs : List (Option Tree)) (equations : List Value) (met : AreUnified (scope_of sys.cons item.vars []) item.pattern (seen_term ground_seen s) (ground_binds bs) (map ground_seen equations)) where
    abbrev AllFlags : Type 0
    AllFlags = All (λ x. x ≡ One (Flag true)) equations

    -- a valuation under which the pattern is the state gives the bound variables their trees, and makes the equations true
    met_by : (v : Trees) → pattern_value v item.pattern ≡ s → AgreesGround bs v × AllFlags
    met_by v is =
        let r = (met.exact [] no_values v).0 (is ∙ sym (ground_tree [] s)) in (
          r.0,
          all_mapped (λ n. n.meaning [] ≡ One (Flag true)) ground_seen equations r.1,
        )

    pub unequal : ¬ AllFlags → IsTrue false ↔ IsCovered sys.cons item s
    unequal differ = (λ y. absurd (cc), λ x. absurd (differ (met_by x.0 x.1.pattern).1))

    all_bound : (i : ℕ) → i < length item.vars → IsBound (ground_binds bs) i
    all_bound i l = (met.bound i).1 (only_in i item.pattern (checked.bound.each i l))

    pub whens_ready : All (IsEvaluable sys.cons bs) item.whens
    whens_ready k d l =
        let some : IsSome _ = subst IsSome (sym (checked.whens.sorted k d l).is) (search rules) in
        record { vars = item.vars; binds = met.lawful; sorted = some; known = λ i r. all_bound i (declares sys.cons item.vars (get_or item.whens k d) some i r) }

    pub covered : AllFlags → (ok : Bool) → Restricts bs bs ok (λ v. AllTrue v item.whens) → IsTrue ok ↔ IsCovered sys.cons item s
    covered equal ok w = (λ y. (v, holds y), λ x. (w.complete x.0 (met_by x.0 x.1.pattern).0 x.1.whens).0)
      where
        v : Trees
        v = filled [] (ground_binds bs)

        holds : IsTrue ok → Covers sys.cons item v s
        holds y =
            let long : length v ≡ length (ground_binds bs) = filled_long [] (ground_binds bs) in
            let agrees = filled_agrees [] (ground_binds bs) in
            let truths : AreTrue [] (map ground_seen equations) = All-map (λ n. n.meaning [] ≡ One (Flag true)) ground_seen equations equal in
            record {
              fits = agreeing_fits ground_seen [] sys.cons item.vars bs ground-laws met.lawful all_bound [] no_values v long agrees;
              pattern = (met.exact [] no_values v).1 (agrees, truths) ∙ ground_tree [] s;
              whens = (w.sound v agrees y).1;
            }
