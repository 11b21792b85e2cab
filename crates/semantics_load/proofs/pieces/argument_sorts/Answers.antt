use Rattle.std.proofs.Common.{sym, ◌∙◌}
use Rattle.name_resolution.specs.Known.{vocabulary_of, sort_of}
use Rattle.name_resolution.proofs.There.{there-pushed, there-not}
use Rattle.semantics_load.proofs.pieces.argument_sorts.Goals as goal

pub returns-in_default : goal.returns-in_default
returns-in_default c =
    sym (there-not (sort_of (vocabulary_of c.args.known.now)) c.args.raws.now c.loop-raw.raw-index c.raw-item.result c.loop-raw-test.true c.raw-item.is (sym c.sort.ensures ∙ c.in_default.is))

pub loop-raw-preserved : goal.loop-raw-preserved
loop-raw-preserved c =
    there-pushed (sort_of (vocabulary_of c.args.known.now)) c.args.raws.now c.loop-raw.raw-index c.raw-item.result c.loop-raw.sorts c.push.new.self c.in-Some.sort c.loop-raw-test.true c.raw-item.is c.loop-raw.invariant
    (sym c.sort.ensures ∙ c.in-Some.is) c.in_ok-push.ensures.ok
