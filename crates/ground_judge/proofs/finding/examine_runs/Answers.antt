use Rattle.ground_judge.proofs.Judged.{opposite}
use Rattle.ground_judge.proofs.finding.examine_runs.Goals as goal

pub returns : goal.returns
returns c =
    let rights = rw (c.as_slice.ensures, c.as_slice-2.ensures) at c.in_ok-rights_matched.ensures in
    let lefts = rw (c.as_slice-3.ensures, c.as_slice-4.ensures) at c.in_ok-lefts_matched.ensures in
    (c.in_default.ensures, opposite _ _ c.in_ok-rights_matched.rights_matched rights, opposite _ _ c.in_ok-lefts_matched.lefts_matched lefts)
