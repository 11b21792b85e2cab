use Rattle.std.proofs.Common.{sym, ◌∙◌, subst}
use Rattle.std.proofs.lemmas.Option.{same_Some}
use Rattle.node_list.specs.Listed.{AreLines}
use Rattle.simplify.specs.Pairs.{IsSecond}
use Rattle.simplify.proofs.PairLemmas.{second_found, second_of, unpaired_of}
use Rattle.simplify.proofs.lines.replaced.Goals as goal

pub all_values-requires : goal.all_values-requires
all_values-requires g c = subst (AreLines (g.D.Domain.look c.args.d.now)) (sym c.as_slice.ensures.value) c.in_ok-lines-in-None.ensures.ordered

pub returns-in-Some-clause-simpler : goal.returns-in-Some-clause-simpler
returns-in-Some-clause-simpler g c =
    let look = g.D.Domain.look c.args.d.now in
    second_found look (g.D.Domain.variables c.args.d.now) (g.met.D.Symbolic.views c.args.d.now) c.args.pairs.now c.requires.pairs c.args.node.now c.in_ok-second.field-0 c.in-Some.second c.requires.node c.in-Some.is c.in_ok-second.ensures

pub returns-in-Some-clause-second : goal.returns-in-Some-clause-second
returns-in-Some-clause-second g c = λ i id paired.
    let look = g.D.Domain.look c.args.d.now in
    let found = second_of look c.args.pairs.now c.args.node.now c.in_ok-second.field-0 c.in-Some.second c.in-Some.is c.in_ok-second.ensures in
    subst (λ k. IsSecond look c.args.pairs.now k (look c.in-Some.second)) (same_Some found.0 i (sym found.1 ∙ id)) found.2

pub returns-in_ok-last_built-in-None-clause-second : goal.returns-in_ok-last_built-in-None-clause-second
returns-in_ok-last_built-in-None-clause-second g c = λ i id paired.
    absurd (paired (unpaired_of (g.D.Domain.look c.args.d.now) c.args.pairs.now c.args.node.now c.in_ok-second.field-0 c.in-None.is c.in_ok-second.ensures i id))
