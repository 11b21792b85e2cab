use Rattle.std.proofs.Common.{refl}
use Rattle.std.proofs.lemmas.Result.{IfOk-weaker}
use Rattle.data_value.specs.declared.DataSort.TheVariants.{Bits as BitsSort}
use Rattle.map_reads.proofs.Drafting.{get_begun, sort_later}
use Rattle.map_reads.proofs.Inputs.{input_word}
use Rattle.map_reads.proofs.Agreeing.{agreed}
use Rattle.map_reads.proofs.demand.agreement.Goals as goal

pub returns : goal.returns
returns c =
    let a = c.args.draft.now in
    let b = c.equal.new.self in
    let d1 = c.push.new.self in
    let d2 = c.push-2.new.self in
    let e = c.equal-2.new.self in
    let f = c.apply.new.self in
    let x = c.args.a.now in
    let y = c.args.b.now in
    let first = c.in_ok-first.first in
    let second = c.in_ok-second.second in
    IfOk-weaker c.apply-2.result _ _
    (λ p is k w draft x_sort y_sort x_width y_width.
    let keys = c.in_ok-keys.ensures (BitsSort k) draft refl x_sort y_sort in
    let one = input_word b d1 first x.word w keys.draft (get_begun a.widths b.widths x.word w keys.grows.widths x_width) c.in_ok-first.ensures in
    let y_later = get_begun b.widths d1.widths y.word w one.grows.widths (get_begun a.widths b.widths y.word w keys.grows.widths y_width) in
    let two = input_word d1 d2 second y.word w one.draft y_later c.in_ok-second.ensures in
    let test = c.in_ok-words.ensures (BitsSort w) two.draft refl (sort_later d1 d2 one.draft two.grows first (BitsSort w) one.sort) two.sort in
    agreed a b d1 d2 e f c.apply-2.new.self c.in_ok-keys.keys first second c.in_ok-words.words c.in_ok-apart.apart p k w x.word y.word x.key y.key keys one two test c.in_ok-apart.ensures is)
    c.apply-2.ensures
