use Rattle.std.proofs.Common.{sym, ap, ◌∙◌}
use Rattle.name_resolution.specs.Known.{vocabulary_of}
use Rattle.name_resolution.specs.Within.{asked, is_within_place}
use Rattle.name_resolution.proofs.Limits.{places_more, places_not}
use Rattle.name_resolution.proofs.within.+within.Goals as goal

pub are_within-returns-then-not-is_within : goal.are_within-returns-then-not-is_within
are_within-returns-then-not-is_within t c =
    let says = asked (vocabulary_of c.args.known.now) in
    sym (places_not says c.args.sorts.now c.args.raws.now c.loop-i.i c.index-raws-i.result c.loop-i-test.true c.index-raws-i.is
    (ap (λ place. is_within_place place (says c.index-raws-i.result)) (sym c.at.ensures) ∙ sym c.is_within.ensures ∙ c.if-not-is_within.true))

pub are_within-loop-i-preserved : goal.are_within-loop-i-preserved
are_within-loop-i-preserved t c =
    let says = asked (vocabulary_of c.args.known.now) in
    places_more says c.args.sorts.now c.args.raws.now c.loop-i.i c.index-raws-i.result c.loop-i-test.true c.index-raws-i.is c.loop-i.invariant
    (ap (λ place. is_within_place place (says c.index-raws-i.result)) (sym c.at.ensures) ∙ sym c.is_within.ensures ∙ c.if-not-is_within.false)
