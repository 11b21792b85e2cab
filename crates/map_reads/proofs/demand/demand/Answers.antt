use Rattle.std.proofs.Common.{arith}
use Rattle.map_reads.proofs.Demanding.{reads_more, reads_all}
use Rattle.map_reads.proofs.demand.demand.Goals as goal

pub loop-last-preserved : goal.loop-last-preserved
loop-last-preserved c = reads_more c.args.draft.now c.loop-last.draft c.with_earlier.new.draft c.args.root c.loop-last.demanded _ c.loop-last.last c.requires.draft c.loop-last.invariant c.in_ok-demanded.ensures

pub returns : goal.returns
returns c = reads_all c.args.draft.now c.loop-last.draft c.args.root c.loop-last.demanded c.loop-last.last (omega arith) c.loop-last.invariant
