use Rattle.std.proofs.Common.{None, Some, option_copied, slice_get, sym}
use Rattle.name_resolution.specs.Known.{vocabulary_of}
use Rattle.name_resolution.specs.Reads.{tree_says}
use Rattle.name_resolution.proofs.Arguments.{argument_is, arguments-pushed, arguments-none}
use Rattle.name_resolution.proofs.reading.+reading.Goals as goal

pub read_arguments-returns-in_default : goal.read_arguments-returns-in_default
read_arguments-returns-in_default g t c =
    let reading = g.X.Readable.reading in
    let says = tree_says reading (vocabulary_of c.args.known.now) c.args.variables.now in
    sym (arguments-none reading says c.args.sorts.now c.args.raws.now c.loop-i.i c.index-raws-i.result c.loop-i-test.true c.index-raws-i.is
    (argument_is reading (option_copied c.at.result) (slice_get c.args.sorts.now c.loop-i.i) (says c.index-raws-i.result) c.in_ok-arg.field-0 None c.at.ensures c.in_ok-arg.ensures c.in_default.is))

pub read_arguments-loop-i-preserved : goal.read_arguments-loop-i-preserved
read_arguments-loop-i-preserved g t c =
    let reading = g.X.Readable.reading in
    let says = tree_says reading (vocabulary_of c.args.known.now) c.args.variables.now in
    arguments-pushed reading says c.args.sorts.now c.args.raws.now c.loop-i.i c.index-raws-i.result c.loop-i.args c.push.new.self c.in-Some.arg c.loop-i-test.true c.index-raws-i.is c.loop-i.invariant
    (argument_is reading (option_copied c.at.result) (slice_get c.args.sorts.now c.loop-i.i) (says c.index-raws-i.result) c.in_ok-arg.field-0 (Some c.in-Some.arg) c.at.ensures c.in_ok-arg.ensures c.in-Some.is) c.in_ok-push.ensures.ok
