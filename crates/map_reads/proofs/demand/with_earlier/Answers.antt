use Rattle.map_reads.proofs.Demanding.{earlier_more}
use Rattle.map_reads.proofs.demand.with_earlier.Goals as goal

pub loop-first-preserved : goal.loop-first-preserved
loop-first-preserved c = earlier_more c.args.draft.now c.loop-first.draft c.with_pair.new.draft c.args.root c.loop-first.demanded _ c.loop-first.first c.args.last c.requires.draft c.loop-first.invariant c.in_ok-demanded.ensures
