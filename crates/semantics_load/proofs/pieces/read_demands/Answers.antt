use Rattle.std.proofs.Common.{sym, ◌∙◌}
use Rattle.name_resolution.specs.Known.{vocabulary_of}
use Rattle.name_resolution.proofs.There.{there-pushed, there-not}
use Rattle.semantics_load.specs.Pieces.{demand_of}
use Rattle.semantics_load.proofs.pieces.read_demands.Goals as goal

pub returns-in_default : goal.returns-in_default
returns-in_default c =
    sym (there-not (demand_of (vocabulary_of c.args.known.now) c.args.names.now) c.args.raws.now c.loop-raw.raw-index c.raw-item.result c.loop-raw-test.true c.raw-item.is (sym c.in_ok-demand.ensures ∙ c.in_default.is))

pub loop-raw-preserved : goal.loop-raw-preserved
loop-raw-preserved c =
    there-pushed (demand_of (vocabulary_of c.args.known.now) c.args.names.now) c.args.raws.now c.loop-raw.raw-index c.raw-item.result c.loop-raw.demands c.push.new.self c.in-Some.demand c.loop-raw-test.true c.raw-item.is c.loop-raw.invariant
    (sym c.in_ok-demand.ensures ∙ c.in-Some.is) c.in_ok-push.ensures.ok
