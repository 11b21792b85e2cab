-- When all of a list and comparisons with a word are true.
use Rattle.std.proofs.Common.{◌≡◌, ◌↔◌, ℕ, true, List, sym, ap, ◌∙◌}
use Rattle.data_value.specs.declared.DataSort.TheVariants.{Bits as BitsSort}
use Rattle.data_value.specs.declared.Scalar.TheVariants.{Flag, Bits}
use Rattle.data_value.specs.declared.Value.{Value}
use Rattle.data_value.specs.declared.Value.TheVariants.{One, Map}
use Rattle.data_value.specs.Values.{IsValueOf, word_of, scalar_of}
use Rattle.data_value.specs.Nodes.{Seen}
use Rattle.data_value.specs.Truth.{IsTruth, AreTrue, all_true}
use Rattle.data_value.proofs.TruthLemmas.{decides_truth, decides_all}
use Rattle.sort_term.specs.declared.term.Term.TheVariants.{Plain}
use Rattle.sort_term.specs.Tree.{plain_of, IsTrueTree}
use Rattle.sort_term.proofs.Equations.{plain_of-Plain}

-- the truth value true
abbrev pub true_value : Value
true_value = One (Flag true)

-- a condition that is true where all of a list are means true exactly there
pub all_exact : {N : Type 0} (s : Seen N) (ss : List (Seen N)) → IsTruth s (all_true ss) → (v : List Value) → (s.meaning v ≡ true_value) ↔ AreTrue v ss
all_exact s ss is v = (
  λ h. (decides_all v ss).0 (sym (is.means v) ∙ (decides_truth v s).1 h),
  λ h. (decides_truth v s).0 (is.means v ∙ (decides_all v ss).1 h),
)

-- a word of a width is told by its number
pub word_is : (x : Value) (width number : ℕ) → IsValueOf (BitsSort width) x → (x ≡ One (Bits width number)) ↔ (word_of (scalar_of x) ≡ number)
word_is (One (Flag b)) width number h = absurd (let e = h.sort in cc)
word_is (Map m) width number h = absurd (let e = h.sort in cc)
word_is (One (Bits v n)) width number h =
    let same : v ≡ width = (let e = h.sort in cc) in (
      λ e. ap (λ y. word_of (scalar_of y)) e,
      λ e. ap (λ u. One (Bits u n)) same ∙ ap (λ k. One (Bits width k)) e,
    )

-- a value as a tree is true exactly where it is
pub plain_true : (x : Value) → IsTrueTree (Plain x) ↔ (x ≡ true_value)
plain_true x = (λ h. sym (plain_of-Plain x) ∙ ap plain_of h ∙ plain_of-Plain true_value, λ h. ap Plain h)
