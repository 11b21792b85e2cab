-- Where conditions hold, one at a time.
use Rattle.std.proofs.Common.{◌≡◌, ℕ, ◌+◌, ◌<◌, ◌&&◌, List, [], ◌∷◌, ◌++◌, length, take, get_or, All, sym, ap, ◌∙◌, subst}
use Rattle.std.proofs.lemmas.Bool.{and_parts, and_from}
use Rattle.std.proofs.lemmas.List.{take_more}
use Rattle.std.proofs.lemmas.List.Elements.{All-push}
use Rattle.data_value.specs.Nodes.{Seen}
use Rattle.data_value.specs.Truth.{truth, IsTruth}
use Rattle.sort_term.specs.declared.rule.RuleExpr.{RuleExpr}
use Rattle.sort_term.specs.Tree.{IsTrueTree, value}
use Rattle.sort_term.specs.Cuts.{AllTrue}
use Rattle.unify.specs.Binds.{Bound}
use Rattle.unify.proofs.Lists.{all_front}
use Rattle.cut_cover.specs.Conditions.{IsTrueWhere}

module _ {N : Type 0} (bs : Bound N) where
  -- all conditions so far, and one more
  pub all_of_more : (es : List RuleExpr) (i : ℕ) (e : RuleExpr) → i < length es → e ≡ get_or es i e → (s one next : Seen N) → IsTrueWhere bs (λ w. AllTrue w (take i es)) s → IsTrueWhere bs (λ w. IsTrueTree (value w e)) one → IsTruth next (λ v. truth s v && truth one v) → IsTrueWhere bs (λ w. AllTrue w (take (i + 1) es)) next
  all_of_more es i e l is s one next before here joins = record {
    condition = joins.condition;
    exact = λ v w a.
        let True : RuleExpr → Type 0 = λ x. IsTrueTree (value w x) in
        let more : take (i + 1) es ≡ take i es ++ e ∷ [] = take_more es i e l ∙ ap (λ x. take i es ++ x ∷ []) (sym is) in (
          λ h.
              let parts = and_parts (truth s v) (truth one v) (sym (joins.means v) ∙ h) in
              subst (All True) (sym more) (All-push True (take i es) e ((before.exact v w a).0 parts.0) ((here.exact v w a).0 parts.1)),
          λ h.
              let parts = all_front True (take i es) e (subst (All True) more h) in
              joins.means v ∙ and_from (truth s v) (truth one v) ((before.exact v w a).1 parts.0) ((here.exact v w a).1 parts.1),
        );
  }
