-- Steps go from states to states.
use Rattle.std.proofs.Common.{◌≡◌, ℕ, List, slice_get, Some, All, sym, ap, ◌∙◌, subst}
use Rattle.sort_term.specs.declared.term.Sort.TheVariants.{Own}
use Rattle.sort_term.specs.declared.rule.Rule.{Rule}
use Rattle.sort_term.specs.System.{System}
use Rattle.sort_term.specs.Tree.{Tree}
use Rattle.sort_term.specs.Sorted.{tree_sort}
use Rattle.sort_term.specs.Step.{Tables, StepsBy, IsState}
use Rattle.sort_term.specs.Rules.{IsRule, IsSemantics}
use Rattle.sort_term.proofs.Standing.{get-below, get-is}
use Rattle.sort_term.proofs.Sorting.{expr_keeps, pattern_keeps}

-- what holds of each item holds of the one at a place
pub all_at : {X : Type 0} (P : X → Type 0) (xs : List X) (i : ℕ) (x : X) → All P xs → slice_get xs i ≡ Some x → P x
all_at P xs i x a h = subst P (get-is xs i x x h) (a i x (get-below xs i x h))

-- a rule of a semantics passes its checks
pub rule_at : (sys : System) (n : ℕ) (r : Rule) → IsSemantics sys → slice_get sys.rules n ≡ Some r → IsRule sys.cons sys.tables sys.config r
rule_at sys n r h there = all_at (IsRule sys.cons sys.tables sys.config) sys.rules n r h.rules_pass.each there

pub step_states : (sys : System) (tables : Tables) (n : ℕ) (s t : Tree) → IsSemantics sys → StepsBy sys tables n s t → IsState sys s × IsState sys t
step_states sys tables n s t h a =
    let r = rule_at sys n a.rule h a.there in
    let before = pattern_keeps sys.cons a.rule.vars a.valuation a.takes.fits a.rule.head (Own sys.config) r.sorted.head.is in
    let after = expr_keeps sys.cons a.rule.vars a.valuation a.takes.fits a.rule.result (Own sys.config) r.sorted.result.is in (
      record { is = ap (tree_sort sys.cons) (sym a.takes.head) ∙ before },
      record { is = ap (tree_sort sys.cons) (sym a.takes.result) ∙ after },
    )
