use Rattle.std.proofs.Common.{◌≡◌, [], ◌∷◌, Some, sym}
use Rattle.data_value.specs.declared.DataSort.TheVariants.{Bits as BitsSort}
use Rattle.data_value.specs.declared.Scalar.TheVariants.{Bits}
use Rattle.data_value.proofs.NodeLemmas.{means_known}
use Rattle.simplify.proofs.RewriteLemmas.{word_found, absorbed_first, turned, found_through}
use Rattle.simplify.proofs.sums.behind_known.Goals as goal

pub returns-then-is_commutative : goal.returns-then-is_commutative
returns-then-is_commutative g c =
    let d = c.args.d.now in
    let look = g.D.Domain.look d in
    let vars = g.D.Domain.variables d in
    let laws = g.met.D.Domain.laws d in
    let op = c.args.op in
    let a = c.args.a.now in
    let b = c.args.b.now in
    let width = c.in-Some-Bits-Bits.width in
    let bits = c.in-Some-Bits-Bits.bits in
    let second : (look b).sort ≡ BitsSort width = cc in
    let known : (look a).known ≡ Some (Bits width bits) = cc in
    let first : (look a).sort ≡ BitsSort width = sym (means_known look vars laws a c.requires.first (Bits width bits) known).0.sort in
    let found = c.in_ok-at_word-in-Some-Bits-Bits.field-0 in
    found_through vars look op op (a ∷ b ∷ []) (b ∷ a ∷ []) (turned look vars laws op a b width c.requires.first c.requires.second first second (c.is_commutative.ensures c.if-is_commutative.true)) found
    (word_found look vars laws op b a width bits c.requires.second c.requires.first second known ((g.met.D.Symbolic.views d).shows a c.requires.first) found c.in_ok-at_word-in-Some-Bits-Bits.ensures)

pub returns-in-Some : goal.returns-in-Some
returns-in-Some g c =
    let d = c.args.d.now in
    let look = g.D.Domain.look d in
    let width = c.in-Some-Bits-Bits.width in
    let bits = c.in-Some-Bits-Bits.bits in
    let sort : (look c.args.b.now).sort ≡ BitsSort width = cc in
    let known : (look c.args.a.now).known ≡ Some (Bits width bits) = cc in
    absorbed_first look (g.D.Domain.variables d) (g.met.D.Domain.laws d) c.args.op c.args.a.now c.args.b.now width bits c.in-Some.scalar c.requires.first c.requires.second sort known c.in-Some.ensures
