-- That reads agree, as nodes.
use Rattle.std.proofs.Common.{ℕ, ◌||◌, [], ◌∷◌, get_or, refl, ap, ap₂, ◌∙◌}
use Rattle.std.specs.Prelude.{not}
use Rattle.data_value.specs.declared.DataSort.TheVariants.{Bool as BoolSort, Bits as BitsSort}
use Rattle.data_value.specs.declared.Scalar.TheVariants.{Flag, Bits}
use Rattle.data_value.specs.declared.Op.TheVariants.{Not, Or}
use Rattle.data_value.specs.declared.flat_formula.FlatNode.TheVariants.{Apply}
use Rattle.data_value.specs.Values.{same_scalar, flag_of}
use Rattle.map_reads.specs.declared.draft.Draft.{Draft}
use Rattle.map_reads.specs.Drafts.{value_of, Grows, IsPushed, HasValue}
use Rattle.map_reads.proofs.Drafting.{grows-both, sort_later, value_later, value_as, value_after, applied}
use Rattle.map_reads.proofs.Sorting.{two_at}

pub agreed : (a b c d e f g : Draft) (keys first second words apart p k w i j x y : ℕ) →
    HasValue a b keys BoolSort (λ us. Flag (same_scalar (value_of a us x) (value_of a us y))) → HasValue b c first (BitsSort w) (λ us. Bits w (get_or us i 0)) → HasValue c d second (BitsSort w) (λ us. Bits w (get_or us j 0)) →
    HasValue d e words BoolSort (λ us. Flag (same_scalar (value_of d us first) (value_of d us second))) → IsPushed e f apart (Apply Not (keys ∷ [])) → IsPushed f g p (Apply Or (apart ∷ words ∷ [])) →
    HasValue a g p BoolSort (λ us. Flag (not (same_scalar (value_of a us x) (value_of a us y)) || same_scalar (Bits w (get_or us i 0)) (Bits w (get_or us j 0))))
agreed a b c d e f g keys first second words apart p k w i j x y key_test one two word_test not_pushed or_pushed =
    let be : Grows b e = grows-both b c e one.grows (grows-both c d e two.grows word_test.grows) in
    let keys_later = sort_later b e key_test.draft be keys BoolSort key_test.sort in
    let negated = applied e f apart Not (keys ∷ []) (BoolSort ∷ []) BoolSort word_test.draft not_pushed (ap (λ s. s ∷ []) keys_later) refl in
    let words_later = sort_later e f word_test.draft negated.grows words BoolSort word_test.sort in
    let joined = applied f g p Or (apart ∷ words ∷ []) (BoolSort ∷ BoolSort ∷ []) BoolSort negated.draft or_pushed (two_at negated.sort words_later) refl in
    let af : Grows a f = grows-both a b f key_test.grows (grows-both b e f be negated.grows) in
    let reads = negated.reads ∙ word_test.reads ∙ two.reads ∙ one.reads ∙ key_test.reads in
    value_as a g p BoolSort _ _ (value_after a f g p BoolSort _ af reads joined)
    (λ us.
    let key_value = value_later b e key_test.draft be keys BoolSort us key_test.sort ∙ key_test.means us in
    let apart_value = negated.means us ∙ ap (λ s. Flag (not (flag_of s))) key_value in
    let first_value = value_later c d one.draft two.grows first (BitsSort w) us one.sort ∙ one.means us in
    let words_value = value_later e f word_test.draft negated.grows words BoolSort us word_test.sort ∙ word_test.means us ∙ ap₂ (λ s t. Flag (same_scalar s t)) first_value (two.means us) in
    ap₂ (λ s t. Flag (flag_of s || flag_of t)) apart_value words_value)
