-- What a search and a cleared valuation decide.
use Rattle.std.proofs.Common.{◌≡◌, ℕ, Bool, true, false, List, refl, ap, ◌∙◌, subst}
use Rattle.refute_check.specs.declared.lit.Lit.{Lit}
use Rattle.refute_check.specs.Truth.{IsUnsatisfiable}
use Rattle.clause_search.specs.Found.{IsSatisfiable}
use Rattle.data_value.specs.declared.DataSort.{DataSort}
use Rattle.data_value.specs.declared.Value.{Value}
use Rattle.data_value.specs.Values.{flag_of, scalar_of}
use Rattle.data_value.specs.Nodes.{Seen, IsValuation}
use Rattle.data_value.specs.Truth.{truth}
use Rattle.prover.specs.Answers.{IsTrueUnder, IsNeverTrue, IsSometimesTrue}
use Rattle.prover.specs.Usage.{AreUsed, IsCleared}

module _ {N : Type 0} (variables : List DataSort) (s : Seen N) where
  -- a cleared valuation makes a condition true where the other one does
  pub cleared_true : (look : N → Seen N) (sorts : List DataSort) (count : ℕ) (marks : List Bool) (v w : List Value) → sorts ≡ variables → AreUsed look s count marks → IsCleared sorts marks v w → IsTrueUnder variables s v → IsTrueUnder variables s w
  cleared_true look sorts count marks v w same used cleared is = record {
    fits = subst (λ ss. IsValuation ss w) same cleared.fits;
    holds = ap (λ y. flag_of (scalar_of y)) (used.enough w v cleared.kept) ∙ is.holds;
  }

  -- a condition is never true where clauses that would have a model have none
  pub never_true : (clauses : List (List Lit)) → (IsSometimesTrue variables s → IsSatisfiable clauses) → IsUnsatisfiable clauses → IsNeverTrue variables s
  never_true clauses complete none v fits = by (truth s v) refl
    where
      by : (b : Bool) → truth s v ≡ b → truth s v ≡ false
      by false e = e
      by true e = absurd (let model = complete (v, record { fits = fits; holds = e }) in let is = model.holds in let no_model = none model.assignment in cc)
