use Rattle.std.proofs.Common.{rules, ap, sym, ◌∙◌, Some, None, ◌≡◌, slice_get}
use Rattle.unify.specs.Binds.{seen_binds}
use Rattle.unify.proofs.Evaluated.{bound_seen, free_seen, past_seen, not_bound}
use Rattle.unify.proofs.evaluation.copy_bound.Goals as goal

pub copy_term-requires : goal.copy_term-requires
copy_term-requires g c =
    let there : slice_get c.args.binds.now c.args.variable ≡ Some (Some c.in-Some-Some.term) = search rules in
    c.requires.valid.at c.args.variable _ (bound_seen (g.D.Domain.look c.args.d.now) c.args.binds.now c.args.variable c.in-Some-Some.term there)

pub unreachable-requires : goal.unreachable-requires
unreachable-requires g c =
    let there : slice_get c.args.binds.now c.args.variable ≡ Some None = search rules in
    not_bound (seen_binds (g.D.Domain.look c.args.d.now) c.args.binds.now) c.args.variable (free_seen (g.D.Domain.look c.args.d.now) c.args.binds.now c.args.variable there) c.requires.bound

pub unreachable-requires-in-None : goal.unreachable-requires-in-None
unreachable-requires-in-None g c =
    let there : slice_get c.args.binds.now c.args.variable ≡ None = search rules in
    not_bound (seen_binds (g.D.Domain.look c.args.d.now) c.args.binds.now) c.args.variable (past_seen (g.D.Domain.look c.args.d.now) c.args.binds.now c.args.variable there) c.requires.bound

pub returns : goal.returns
returns g c =
    let there : slice_get c.args.binds.now c.args.variable ≡ Some (Some c.in-Some-Some.term) = search rules in
    bound_seen (g.D.Domain.look c.args.d.now) c.args.binds.now c.args.variable c.in-Some-Some.term there ∙ sym (ap Some c.in_ok-copy_term-in-Some-Some.ensures)
