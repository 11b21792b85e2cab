-- Places of inputs.
use Rattle.std.proofs.Common.{◌≡◌, ℕ, ◌==◌, if◌then◌else◌, Some, None, length, slice_get, get_or, ap, ap₂, ◌∙◌}
use Rattle.std.proofs.lemmas.Bool.{lt-ltb}
use Rattle.std.proofs.lemmas.Option.{get_or_from_slice_get, slice_get_within}
use Rattle.data_value.specs.declared.DataSort.TheVariants.{Bool as BoolSort, Bits as BitsSort}
use Rattle.data_value.specs.declared.Scalar.TheVariants.{Flag, Bits}
use Rattle.data_value.specs.declared.flat_formula.FlatNode.TheVariants.{Input}
use Rattle.data_value.specs.Values.{same_scalar}
use Rattle.map_reads.specs.declared.draft.Draft.{Draft}
use Rattle.map_reads.specs.Drafts.{value_of, IsDraft, IsPushed, HasValue}
use Rattle.map_reads.proofs.Drafting.{pushed, value_as, value_after, value_later, grows-both}

-- the word of an input
pub input_word : (old new : Draft) (p input w : ℕ) → IsDraft old → slice_get old.widths input ≡ Some w → IsPushed old new p (Input input) → HasValue old new p (BitsSort w) (λ words. Bits w (get_or words input 0))
input_word old new p input w draft width is =
    let here : get_or old.widths input 0 ≡ w = get_or_from_slice_get old.widths input w 0 width in
    let tested = lt-ltb input (length old.widths) (slice_get_within old.widths input w width) in
    let sort = ap (λ b. if b then Some (BitsSort (get_or old.widths input 0)) else None) tested ∙ ap (λ n. Some (BitsSort n)) here in
    value_as old new p (BitsSort w) _ _ (pushed old new p (Input input) draft is (BitsSort w) sort) (λ words. ap (λ n. Bits n (get_or words input 0)) here)

-- the truth value of an input of one bit
pub flag_input : (a b c d : Draft) (word one p input : ℕ) → HasValue a b word (BitsSort 1) (λ words. Bits 1 (get_or words input 0)) → HasValue b c one (BitsSort 1) (λ words. Bits 1 1) → HasValue c d p BoolSort (λ words. Flag (same_scalar (value_of c words word) (value_of c words one))) →
    HasValue a d p BoolSort (λ words. Flag (get_or words input 0 == 1))
flag_input a b c d word one p input first second third =
    value_as a d p BoolSort _ _ (value_after a c d p BoolSort _ (grows-both a b c first.grows second.grows) (second.reads ∙ first.reads) third)
    (λ words. ap₂ (λ s t. Flag (same_scalar s t)) (value_later b c first.draft second.grows word (BitsSort 1) words first.sort ∙ first.means words) (second.means words))
