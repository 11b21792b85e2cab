use Rattle.std.proofs.Common.{◌≡◌, length, map, take, sym, ap, ◌∙◌}
use Rattle.sort_term.specs.declared.points.Point.{Point}
use Rattle.verdict.proofs.Runs.{has_run, witness_by}
use Rattle.verdict.proofs.showing.shown.Goals as goal

pub failure-requires : goal.failure-requires
failure-requires c =
    let found = c.args.found.now in
    let read = c.index-as_slice-place.result in
    let cut : c.in_ok-values.values ≡ take (length read.vars) found.values = rw c.as_slice-2.ensures at (c.in_ok-values.ensures ∙ ap (λ m. take m c.as_slice-2.result.now) c.len-count.ensures ∙ ap (λ (x : Point). take (length x.vars) c.as_slice-2.result.now) (sym c.index-as_slice-place.is)) in
    record {
      run = has_run c.args.problem.now c.args.place found.flaw found.values (map (λ r. r.0) c.args.rules.now) read (rw c.as_slice.ensures at c.index-as_slice-place.is) c.in_ok-values.values cut _ c.side_of_flaw.ensures c.requires.shown.0 c.requires.shown.1;
    }

pub returns : goal.returns
returns c =
    let found = c.args.found.now in
    let read = c.index-as_slice-place.result in
    let cut : c.in_ok-values.values ≡ take (length read.vars) found.values = rw c.as_slice-2.ensures at (c.in_ok-values.ensures ∙ ap (λ m. take m c.as_slice-2.result.now) c.len-count.ensures ∙ ap (λ (x : Point). take (length x.vars) c.as_slice-2.result.now) (sym c.index-as_slice-place.is)) in
    record {
      witness = witness_by c.args.problem.now c.args.place found.flaw found.values (map (λ r. r.0) c.args.rules.now) read (rw c.as_slice.ensures at c.index-as_slice-place.is) c.in_ok-values.values cut _ c.side_of_flaw.ensures c.in_ok-failure.field-0 c.in_ok-failure.ensures.is;
    }
