-- What expressions give where variables are bound to trees.
use Rattle.std.proofs.Common.{◌≡◌, ◌↔◌, Bool, IsTrue, List, [], Option, IsSome, refl, sym, ◌∙◌, subst}
use Rattle.data_value.specs.Ground.{ground_seen}
use Rattle.sort_term.specs.declared.semantics.Con.{Con}
use Rattle.sort_term.specs.declared.rule.RuleExpr.{RuleExpr}
use Rattle.sort_term.specs.Tree.{Tree, Trees, value}
use Rattle.sort_term.specs.Sorted.{expr_sort_where}
use Rattle.sort_term.specs.NodeTerms.{seen_term}
use Rattle.sort_term.proofs.GroundTerms.{ground_tree}
use Rattle.unify.specs.Binds.{bound_sort, AreValid, Gives}
use Rattle.unify.proofs.Binding.{binds_valid}
use Rattle.unify.proofs.Filled.{sort_bound}
use Rattle.ground_step.specs.GroundBinds.{ground_binds, AgreesGround, Restricts}
use Rattle.ground_step.specs.Ready.{IsEvaluable}

module _ (cons : List Con) (bs : List (Option Tree)) (e : RuleExpr) where
  pub ready_valid : IsEvaluable cons bs e → AreValid (ground_binds bs)
  ready_valid r = binds_valid cons r.vars (ground_binds bs) r.binds

  pub ready_sorted : IsEvaluable cons bs e → IsSome (expr_sort_where cons (bound_sort cons (ground_binds bs)) e)
  ready_sorted r = subst IsSome (sym (sort_bound cons r.vars (ground_binds bs) e r.binds r.known)) r.sorted

  -- the expression's value is t under each valuation that agrees
  pub value_given : (t : Tree) → Gives cons (ground_binds bs) e (seen_term ground_seen t) → (v : Trees) → AgreesGround bs v → value v e ≡ t
  value_given t g v a = g.means [] v a ∙ ground_tree [] t

  -- whether t is another tree tells whether that is the expression's value
  pub equality_told : (t u : Tree) (ok : Bool) → Gives cons (ground_binds bs) e (seen_term ground_seen t) → (IsTrue ok ↔ (t ≡ u)) → Restricts bs bs ok (λ v. value v e ≡ u)
  equality_told t u ok g d = record {
    keeps = refl;
    sound = λ v a y. (a, value_given t g v a ∙ d.0 y);
    complete = λ v a h. (d.1 (sym (value_given t g v a) ∙ h), a);
  }
