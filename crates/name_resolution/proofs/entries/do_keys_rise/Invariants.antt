use Rattle.std.proofs.Common.{◌≡◌, ◌≤◌, true, take}
use Rattle.data_value.specs.Maps.{rises_from}
use Rattle.name_resolution.proofs.entries.do_keys_rise.Given as goal

-- the keys so far rise
abbrev pub invariant-loop-i : goal.invariant-loop-i
invariant-loop-i l = record {
  begun : 1 ≤ l.i;
  rise : rises_from 0 (take l.i l.entries) ≡ true;
}
