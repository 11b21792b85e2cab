use Rattle.std.proofs.Common.{◌≡◌, List, ◌∷◌, [], ◌++◌, IsSome, length, slice_get, Some, refl, sym, ap, ◌∙◌, subst}
use Rattle.data_value.specs.declared.DataSort.TheVariants.{Bits as BitsSort, Map as MapSort}
use Rattle.data_value.specs.declared.Value.{Value}
use Rattle.data_value.specs.Sorts.{IsSort}
use Rattle.data_value.specs.Values.{IsValueOf}
use Rattle.data_value.specs.Ops.{got}
use Rattle.data_value.specs.Nodes.{Seen}
use Rattle.data_value.specs.Truth.{IsTruth, mean_same}
use Rattle.data_value.specs.Views.{value_at}
use Rattle.data_value.proofs.Grown.{extends-both}
use Rattle.data_value.proofs.NodeLemmas.{has_sort}
use Rattle.probe_keys.proofs.Lengthened.{settled}
use Rattle.probe_keys.proofs.Differing.{key_taken, differ_probed}
use Rattle.probe_keys.proofs.differ.differ.Goals as goal

pub fresh_key-requires : goal.fresh_key-requires
fresh_key-requires g c =
    let d = c.args.d.now in
    let widths = subst IsSort c.key_width-width.ensures.1 (has_sort (g.D.Domain.look d) (g.D.Domain.variables d) (g.met.D.Domain.laws d) c.args.pair.now.left c.requires.left_valid) in
    widths.0

pub word_at-requires-clause-sorted : goal.word_at-requires-clause-sorted
word_at-requires-clause-sorted g c =
    let look = g.D.Domain.look in
    let first = look c.args.d.now in
    let made = look c.fresh_key.new.d in
    let variables = g.D.Domain.variables c.args.d.now in
    let width = c.key_width-width.result in
    let map = c.args.pair.now.left in
    let sort : (made map).sort ≡ MapSort width c.key_width-width.ensures.0 = ap (λ (s : Seen _). s.sort) (c.in_ok-key.ensures.extends.keeps map c.requires.left_valid) ∙ c.key_width-width.ensures.1 in
    let key : slice_get (variables ++ BitsSort width ∷ []) (length variables) ≡ Some (made c.in_ok-key.key).sort = subst (λ ss. slice_get ss (length variables) ≡ Some (made c.in_ok-key.key).sort) c.in_ok-key.ensures.appended c.in_ok-key.ensures.key.sort in
    subst IsSome (sym (key_taken variables (made map).sort (made c.in_ok-key.key).sort width c.key_width-width.ensures.0 sort key)) refl

pub returns-clause-differ : goal.returns-clause-differ
returns-clause-differ g c =
    let look = g.D.Domain.look in
    let d = c.args.d.now in
    let first = look d in
    let with_key = look c.fresh_key.new.d in
    let with_left = look c.word_at.new.d in
    let with_right = look c.word_at-2.new.d in
    let with_same = look c.equal.new.d in
    let done = look c.negation.new.d in
    let variables = g.D.Domain.variables d in
    let pair = c.args.pair.now in
    let width = c.key_width-width.result in
    let words = c.key_width-width.ensures.0 in
    let key = c.in_ok-key.key in
    let a = first pair.left in
    let b = first pair.right in
    let l = with_left c.in_ok-left.left in
    let r = with_right c.in_ok-right.right in
    let same = with_same c.in_ok-same.same in
    let left_sort : a.sort ≡ MapSort width words = c.key_width-width.ensures.1 in
    let right_sort : b.sort ≡ MapSort width words = c.requires.right_sort ∙ sym c.requires.left_sort ∙ left_sort in
    let widths = subst IsSort left_sort (has_sort first variables (g.met.D.Domain.laws d) pair.left c.requires.left_valid) in
    let left_kept : with_key pair.left ≡ a = c.in_ok-key.ensures.extends.keeps pair.left c.requires.left_valid in
    let right_kept : with_left pair.right ≡ b = (extends-both _ _ _ c.in_ok-key.ensures.extends c.in_ok-left.ensures.extends).keeps pair.right c.requires.right_valid in
    let key_kept : with_left key ≡ with_key key = c.in_ok-left.ensures.extends.keeps key c.in_ok-key.ensures.key.valid in
    let word_kept : with_right c.in_ok-left.left ≡ l = c.in_ok-right.ensures.extends.keeps c.in_ok-left.left c.in_ok-left.ensures.word.valid in
    let left_is : (u : List Value) → l.meaning u ≡ got (a.meaning u ∷ value_at u (length variables) ∷ []) = λ u.
    c.in_ok-left.ensures.word.means u ∙ ap (λ (s : Seen _). got (s.meaning u ∷ (with_key key).meaning u ∷ [])) left_kept ∙ ap (λ z. got (a.meaning u ∷ z ∷ [])) (c.in_ok-key.ensures.key.means u) in
    let right_is : (u : List Value) → r.meaning u ≡ got (b.meaning u ∷ value_at u (length variables) ∷ []) = λ u.
    c.in_ok-right.ensures.word.means u ∙ ap (λ (s : Seen _). got (s.meaning u ∷ (with_left key).meaning u ∷ [])) right_kept
    ∙ ap (λ (s : Seen _). got (b.meaning u ∷ s.meaning u ∷ [])) key_kept ∙ ap (λ z. got (b.meaning u ∷ z ∷ [])) (c.in_ok-key.ensures.key.means u) in
    let same_is : IsTruth same (mean_same l r) = subst (λ (s : Seen _). IsTruth same (mean_same s r)) word_kept c.in_ok-same.ensures.means in
    let grown : g.D.Domain.variables c.negation.new.d ≡ variables ++ BitsSort width ∷ [] =
    c.in_ok-negation.ensures.same_variables ∙ c.in_ok-same.ensures.same_variables ∙ c.in_ok-right.ensures.same_variables ∙ c.in_ok-left.ensures.same_variables ∙ c.in_ok-key.ensures.appended in
    differ_probed variables width words widths.0 a b l r same (done c.in_ok-negation.field-0)
    (settled first variables (g.met.D.Symbolic.views d) pair.left c.requires.left_valid) (settled first variables (g.met.D.Symbolic.views d) pair.right c.requires.right_valid)
    (λ v fits. subst (λ s. IsValueOf s (a.meaning v)) left_sort ((g.met.D.Domain.laws d).sorted pair.left c.requires.left_valid v fits))
    (λ v fits. subst (λ s. IsValueOf s (b.meaning v)) right_sort ((g.met.D.Domain.laws d).sorted pair.right c.requires.right_valid v fits))
    left_is right_is same_is c.in_ok-negation.ensures.means (g.D.Domain.variables c.negation.new.d) grown
