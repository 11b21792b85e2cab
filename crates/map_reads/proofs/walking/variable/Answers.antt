use Rattle.std.proofs.Common.{◌≡◌, ◌<◌, ℕ, List, length, Some, slice_get, get_or, rules, refl, sym, ap, ◌∙◌, subst}
use Rattle.std.proofs.lemmas.Option.{slice_get-get_or}
use Rattle.data_value.specs.declared.DataSort.{DataSort}
use Rattle.data_value.specs.declared.DataSort.TheVariants.{Bool as BoolSort, Bits as BitsSort, Map as MapSort}
use Rattle.map_reads.specs.declared.placing.Place.TheVariants as place
use Rattle.map_reads.proofs.Drafting.{grows-same}
use Rattle.map_reads.proofs.Inputs.{input_word}
use Rattle.map_reads.proofs.Leaves.{input_of_variable, variable_at, variable_flag, variable_word, input_within}
use Rattle.map_reads.proofs.walking.variable.Goals as goal

pub bounds-as_slice-index : goal.bounds-as_slice-index
bounds-as_slice-index c =
    let l = input_within c.args.draft.now c.args.index c.requires.draft c.requires.index in
    subst (λ (xs : List ℕ). c.args.index < length xs) (sym c.as_slice.ensures) l

pub offset_bounds-as_slice-index : goal.offset_bounds-as_slice-index
offset_bounds-as_slice-index c =
    let l = input_within c.args.draft.now c.args.index c.requires.draft c.requires.index in
    let s : length c.as_slice.result.now ≡ length c.args.draft.now.scalars = ap (λ (xs : List ℕ). length xs) c.as_slice.ensures in
    let t = c.as_slice.type_inv.1 in
    search rules

pub returns-in_ok-input_flag-in-Bool : goal.returns-in_ok-input_flag-in-Bool
returns-in_ok-input_flag-in-Bool c =
    let old = c.args.draft.now in
    let i = c.args.index in
    let at : slice_get old.sorts i ≡ Some BoolSort = slice_get-get_or old.sorts i BoolSort c.requires.index ∙ ap Some (ap (λ (ss : List DataSort). get_or ss i BoolSort) (sym c.as_slice-2.ensures) ∙ c.in-Bool.is) in
    let input = input_of_variable old old i c.requires.draft BoolSort at in
    let same = ap (λ (xs : List ℕ). get_or xs i 0) c.as_slice.ensures ∙ input in
    let width = (c.requires.draft.reads_fit.inputs i BoolSort at).1 in
    variable_flag old c.input_flag.new.self i c.requires.draft c.in_ok-input_flag-in-Bool.field-0 _ at same (c.in_ok-input_flag-in-Bool.ensures c.requires.draft (ap (slice_get old.widths) same ∙ width))

pub returns-in_ok-push-in-Bits : goal.returns-in_ok-push-in-Bits
returns-in_ok-push-in-Bits c =
    let old = c.args.draft.now in
    let i = c.args.index in
    let n = c.in-Bits.field-0 in
    let at : slice_get old.sorts i ≡ Some (BitsSort n) = slice_get-get_or old.sorts i BoolSort c.requires.index ∙ ap Some (ap (λ (ss : List DataSort). get_or ss i BoolSort) (sym c.as_slice-2.ensures) ∙ c.in-Bits.is) in
    let input = input_of_variable old old i c.requires.draft (BitsSort n) at in
    let same = ap (λ (xs : List ℕ). get_or xs i 0) c.as_slice.ensures ∙ input in
    let width = (c.requires.draft.reads_fit.inputs i (BitsSort n) at).1 in
    variable_word old c.push.new.self i c.requires.draft c.in_ok-push-in-Bits.field-0 _ n at same (input_word old c.push.new.self c.in_ok-push-in-Bits.field-0 _ n c.requires.draft (ap (slice_get old.widths) same ∙ width) c.in_ok-push-in-Bits.ensures)

pub returns-in-Map : goal.returns-in-Map
returns-in-Map c =
    let old = c.args.draft.now in
    let i = c.args.index in
    let s = MapSort c.in-Map.field-0 c.in-Map.field-1 in
    let at : slice_get old.sorts i ≡ Some s = slice_get-get_or old.sorts i BoolSort c.requires.index ∙ ap Some (ap (λ (ss : List DataSort). get_or ss i BoolSort) (sym c.as_slice-2.ensures) ∙ c.in-Map.is) in
    variable_at old old i c.requires.draft s place.Map (grows-same old) c.requires.draft at refl
