-- What the calls of a domain of trees make.
use Rattle.std.proofs.Common.{ℕ, ◌≡◌, ◌<◌, ◌+◌, true, IsTrue, List, [], ◌∷◌, ◌++◌, length, map, take, get_or, slice_get, Some, refl, ap, sym, ◌∙◌}
use Rattle.std.specs.List.{list_all}
use Rattle.std.proofs.lemmas.Bool.{and_from}
use Rattle.std.proofs.lemmas.List.{take_more, map_push}
use Rattle.std.proofs.lemmas.List.Elements.{All-head, All-tail}
use Rattle.std.proofs.lemmas.Option.{slice_get-get_or}
use Rattle.data_value.specs.declared.DataSort.{DataSort}
use Rattle.data_value.specs.declared.Scalar.{Scalar}
use Rattle.data_value.specs.declared.Value.{Value}
use Rattle.data_value.specs.declared.Value.TheVariants.{One}
use Rattle.data_value.specs.declared.Op.{Op}
use Rattle.data_value.specs.Sorts.{op_sort, is_sort_of}
use Rattle.data_value.specs.Values.{IsValue, is_value, value_sort}
use Rattle.data_value.specs.ValueTests.{decides_value}
use Rattle.data_value.specs.Nodes.{Seen, AllValid, AllKnown, IsConstant, IsApplied, Apply, sorts_of, known_scalar}
use Rattle.data_value.specs.Views.{IsVariable, shown_known}
use Rattle.data_value.specs.Known.{IsFolded}
use Rattle.data_value.proofs.SortLemmas.{sort_is_itself}
use Rattle.data_value.proofs.Folding.{applied_as_shown, applied_as_folded}
use Rattle.data_value.proofs.Grown.{extends-same}
use Rattle.expr_tree.specs.declared.expr.Expr.{Expr}
use Rattle.expr_tree.specs.declared.expr.Expr.TheVariants as expr
use Rattle.expr_tree.specs.Trees.{expr_shown, judged, tree_look}
use Rattle.expr_tree.specs.Shows.{tree_shows, judged_sorts}
use Rattle.expr_tree.proofs.Equations.{value-Variable, value-Constant, judged-Variable, judged-Constant, judged-Apply, shown-Constant}

-- the sorts of one node more
pub sorts_more : {N : Type 0} (f : N → Seen N) (ns : List N) (i : ℕ) (n : N) (ss ts : List DataSort) (s : DataSort) → i < length ns → n ≡ get_or ns i n → s ≡ (f n).sort → ts ≡ ss ++ s ∷ [] → ss ≡ sorts_of f (take i ns) → ts ≡ sorts_of f (take (i + 1) ns)
sorts_more f ns i n ss ts s lt at is pushed so_far =
    pushed ∙ ap (λ l. l ++ s ∷ []) so_far ∙ ap (λ (r : DataSort). sorts_of f (take i ns) ++ r ∷ []) (is ∙ ap (λ m. (f m).sort) at)
    ∙ sym (ap (sorts_of f) (take_more ns i n lt) ∙ map_push (λ m. (f m).sort) (take i ns) (get_or ns i n))

module _ (sorts : List DataSort) where
  all_pass : (es : List Expr) → AllValid (tree_look sorts) es → list_all (λ p. p.0) (map (judged sorts) es) ≡ true
  all_pass [] ok = refl
  all_pass (e ∷ es) ok =
      and_from (judged sorts e).0 (list_all (λ p. p.0) (map (judged sorts) es)) (All-head (λ d. IsTrue (judged sorts d).0) e es ok) (all_pass es (All-tail (λ d. IsTrue (judged sorts d).0) e es ok))

  pub fits_applied : (op : Op) (s : DataSort) (es ds : List Expr) → ds ≡ es → AllValid (tree_look sorts) es → Some s ≡ op_sort op (sorts_of (tree_look sorts) es) → (judged sorts (expr.Apply op s ds)).0 ≡ true
  fits_applied op s es ds same ok sorted =
      ap (λ l. (judged sorts (expr.Apply op s l)).0) same ∙ ap (λ p. p.0) (judged-Apply sorts op s es)
      ∙ and_from (list_all (λ p. p.0) (map (judged sorts) es)) (is_sort_of (op_sort op (map (λ p. p.1) (map (judged sorts) es))) s) (all_pass es ok)
      (sort_is_itself (op_sort op (map (λ p. p.1) (map (judged sorts) es))) s (ap (op_sort op) (judged_sorts sorts es) ∙ sym sorted))

  pub made_constant : (x y : Value) → IsValue x → y ≡ x → IsConstant (tree_look sorts) x (expr.Constant y)
  made_constant x y ok e = record {
    valid = ap (λ p. p.0) (judged-Constant sorts y) ∙ ap is_value e ∙ (decides_value x).1 ok;
    sort = ap (λ p. p.1) (judged-Constant sorts y) ∙ ap value_sort e;
    means = λ v. value-Constant v y ∙ e;
    knows = ap shown_known (shown-Constant y) ∙ ap known_scalar e;
  }

  pub made_variable : (i : ℕ) (s : DataSort) → i < length sorts → s ≡ get_or sorts i s → IsVariable (tree_look sorts) sorts i (expr.Variable i s)
  made_variable i s lt is =
      let at : slice_get sorts i ≡ Some s = slice_get-get_or sorts i s lt ∙ ap Some (sym is) in
      record {
        valid = ap (λ p. p.0) (judged-Variable sorts i s) ∙ sort_is_itself (slice_get sorts i) s at;
        sort = at ∙ ap Some (sym (ap (λ p. p.1) (judged-Variable sorts i s)));
        means = λ v. value-Variable v i s;
      }

  module _ (op : Op) (es : List Expr) (ok : AllValid (tree_look sorts) es) where
    pub made_folded : (c : Scalar) → IsFolded (tree_look sorts) op es c → IsApplied (tree_look sorts) (tree_look sorts) op es (expr.Constant (One c))
    made_folded c folded =
        let f = tree_look sorts in
        let valid = ap (λ p. p.0) (judged-Constant sorts (One c)) ∙ (decides_value (One c)).1 folded.scalar in
        applied_as_folded f f (extends-same f) sorts op es (expr.Constant (One c)) ok valid (tree_shows sorts (expr.Constant (One c)) valid) c (shown-Constant (One c)) folded

    pub made_applied : (e : Expr) → (judged sorts e).0 ≡ true → expr_shown e ≡ Apply op es → (AllKnown (tree_look sorts) es → ⊥) → IsApplied (tree_look sorts) (tree_look sorts) op es e
    made_applied e fits shown unknown = let f = tree_look sorts in applied_as_shown f f (extends-same f) sorts op es e ok fits (tree_shows sorts e fits) shown unknown
