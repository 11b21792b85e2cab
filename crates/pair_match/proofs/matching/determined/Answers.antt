use Rattle.std.proofs.Common.{sym}
use Rattle.pair_match.proofs.Points.{unbound_lawful, other_binds, both_determine}
use Rattle.pair_match.proofs.matching.determined.Goals as goal

pub determine-requires-clause-binds : goal.determine-requires-clause-binds
determine-requires-clause-binds g c = unbound_lawful (g.D.Domain.look c.args.d.now) c.len.result c.in_ok-binds.binds c.in_ok-binds.ensures c.args.problem.now.left.cons c.args.point.now.vars (sym c.len.ensures)

pub determine-requires-2-clause-binds : goal.determine-requires-2-clause-binds
determine-requires-2-clause-binds g c =
    let left = rw c.if-not-branch.false at c.in_ok-determine.ensures in
    other_binds c.args.problem.now.left.cons c.args.problem.now.right.cons c.args.point.now.vars c.requires.point.vars.sorts _ left.lawful

pub returns : goal.returns
returns g c =
    let left = rw c.if-not-branch.false at c.in_ok-determine.ensures in
    let right = rw c.if-not-branch-2.false at c.in_ok-determine-2.ensures in
    both_determine c.args.problem.now c.args.point.now c.requires.point _ _ (g.D.Domain.look c.args.d.now) c.len.result c.in_ok-binds.binds c.in_ok-binds.ensures _ _ left right
