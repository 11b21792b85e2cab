use Rattle.std.proofs.Common.{sym, ◌∙◌}
use Rattle.name_resolution.specs.Known.{vocabulary_of}
use Rattle.name_resolution.specs.Reads.{expression_of}
use Rattle.name_resolution.proofs.There.{there-pushed, there-not}
use Rattle.name_resolution.proofs.reading.read_expressions.Goals as goal

pub returns-in_default : goal.returns-in_default
returns-in_default c =
    sym (there-not (expression_of (vocabulary_of c.args.known.now) c.args.variables.now) c.args.raws.now c.loop-raw.raw-index c.raw-item.result c.loop-raw-test.true c.raw-item.is (sym (c.in_ok-expr.ensures) ∙ c.in_default.is))

pub loop-raw-preserved : goal.loop-raw-preserved
loop-raw-preserved c =
    there-pushed (expression_of (vocabulary_of c.args.known.now) c.args.variables.now) c.args.raws.now c.loop-raw.raw-index c.raw-item.result c.loop-raw.exprs c.push.new.self c.in-Some.expr c.loop-raw-test.true c.raw-item.is c.loop-raw.invariant (sym (c.in_ok-expr.ensures) ∙ c.in-Some.is) c.in_ok-push.ensures.ok
