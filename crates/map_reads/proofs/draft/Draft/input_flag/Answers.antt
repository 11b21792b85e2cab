use Rattle.std.proofs.Common.{refl, arith}
use Rattle.std.proofs.lemmas.Result.{IfOk-weaker}
use Rattle.data_value.specs.declared.DataSort.TheVariants.{Bits as BitsSort}
use Rattle.map_reads.proofs.Inputs.{input_word, flag_input}
use Rattle.map_reads.proofs.AtKeys.{fixed_word}
use Rattle.map_reads.proofs.Drafting.{sort_later}
use Rattle.map_reads.proofs.draft.Draft.input_flag.Goals as goal

pub returns : goal.returns
returns c =
    let a = c.args.self.now in
    let b = c.push.new.self in
    let d = c.push-2.new.self in
    let word = c.in_ok-word.word in
    let one = c.in_ok-one.one in
    IfOk-weaker c.equal.result _ _
    (λ p is draft width.
    let first = input_word a b word c.args.input 1 draft width c.in_ok-word.ensures in
    let second = fixed_word b d one 1 1 first.draft (omega arith, omega arith) (omega arith) c.in_ok-one.ensures in
    flag_input a b d c.equal.new.self word one p c.args.input first second (is (BitsSort 1) second.draft refl (sort_later b d first.draft second.grows word (BitsSort 1) first.sort) second.sort))
    c.equal.ensures
