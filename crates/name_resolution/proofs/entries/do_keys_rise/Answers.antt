use Rattle.std.proofs.Common.{arith, sym}
use Rattle.name_resolution.proofs.Rising.{rises_on, rises_no_more}
use Rattle.name_resolution.proofs.entries.do_keys_rise.Goals as goal

pub returns-then-entries-i : goal.returns-then-entries-i
returns-then-entries-i c = sym (rises_no_more c.args.entries.now (0, 0) c.loop-i.i c.loop-i.invariant.begun c.loop-i-test.true c.if-entries-i.true)

pub loop-i-preserved : goal.loop-i-preserved
loop-i-preserved c = record {
  begun = omega arith;
  rise = rises_on c.args.entries.now (0, 0) c.loop-i.i c.loop-i.invariant.begun c.loop-i-test.true c.if-entries-i.false c.loop-i.invariant.rise;
}
