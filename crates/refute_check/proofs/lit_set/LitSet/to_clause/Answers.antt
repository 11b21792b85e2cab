use Rattle.std.proofs.Common.{◌≡◌, ◌∙◌, ap, List}
use Rattle.std.proofs.lemmas.Result.{IfOk-weaker}
use Rattle.refute_check.specs.Literals.{has_lit}
use Rattle.refute_check.specs.Sets.{LitTable, marked}
use Rattle.refute_check.specs.declared.lit.Lit.{Lit as Literal}
use Rattle.refute_check.proofs.LitLemmas.{none_before}
use Rattle.refute_check.proofs.lit_set.LitSet.to_clause.Goals as goal

pub returns : goal.returns
returns c =
    IfOk-weaker c.from_slice.result (λ d. d ≡ c.as_slice-2.result.now) (λ d. (x : Literal) → has_lit d x ≡ marked c.args.self.now x)
    (λ d e x. ap (λ (ls : List Literal). has_lit ls x) (e ∙ c.as_slice-2.ensures.value) ∙ c.in_ok-gather.ensures.kept x ∙ none_before c.clear.new.self.items x _ c.clear.ensures.items ∙ ap (λ (m : LitTable). marked m x) c.self.view_is)
    c.from_slice.ensures
