-- Where a constructor of an expression stands against another constructor of a term.
use Rattle.std.specs.Prelude.{◌≡◌, ◌≢◌, ℕ, List, [], ◌∷◌, slice_get, Option, Some, option_and_then}
use Rattle.sort_term.specs.declared.term.Term.{Term}
use Rattle.sort_term.specs.declared.term.Term.TheOpen.{Term-F}
use Rattle.sort_term.specs.declared.term.Term.TheViews.{out-Term}
use Rattle.sort_term.specs.declared.rule.RuleExpr.{RuleExpr}
use Rattle.sort_term.specs.declared.rule.RuleExpr.TheOpen.{RuleExpr-F}
use Rattle.sort_term.specs.declared.rule.RuleExpr.TheViews.{out-RuleExpr}
use Rattle.unify.specs.Places.{term_at}

-- the arguments of the constructor that an expression is
abbrev pub con_args_in : RuleExpr-F RuleExpr → List RuleExpr
con_args_in (RuleExpr-F.Con c es) = es
con_args_in _ = []

abbrev pub con_args : RuleExpr → List RuleExpr
con_args e = con_args_in (out-RuleExpr e)

-- what stands at a place below constructors, which is told by the numbers of the arguments that lead there
abbrev pub expr_at : List ℕ → RuleExpr → Option RuleExpr
expr_at [] e = Some e
expr_at (i ∷ place) e = option_and_then (expr_at place) (slice_get (con_args e) i)

-- a constructor stands against another constructor
abbrev pub ClashIn : {N : Type 0} → RuleExpr-F RuleExpr → Term-F N (Term N) → Type 0
ClashIn (RuleExpr-F.Con c es) (Term-F.Con d ts) = c ≢ d
ClashIn _ _ = ⊥

abbrev pub Clash : {N : Type 0} → RuleExpr → Term N → Type 0
Clash {N} e t = ClashIn (out-RuleExpr e) (out-Term N t)

-- they clash at some place
pub record ClashSomewhere {N : Type 0} (e : RuleExpr) (t : Term N) : Type 0 where
  pub place : List ℕ
  pub part : RuleExpr
  pub against : Term N
  pub stands : expr_at place e ≡ Some part
  pub stands_against : term_at place t ≡ Some against
  pub clash : Clash part against

-- an expression and the term at its place clash somewhere
pub record ClashAnywhere {N : Type 0} (es : List RuleExpr) (ts : List (Term N)) : Type 0 where
  pub at : ℕ
  pub part : RuleExpr
  pub against : Term N
  pub stands : slice_get es at ≡ Some part
  pub stands_against : slice_get ts at ≡ Some against
  pub clash : ClashSomewhere part against
