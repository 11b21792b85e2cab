use Rattle.std.proofs.Common.{◌∙◌, ap, None}
use Rattle.std.specs.Prelude.{replicate}
use Rattle.unify.proofs.Unified.{start_lawful, start_repeats, start_unified}
use Rattle.unify.proofs.meet.unify.Goals as goal

pub join-requires-clause-matching : goal.join-requires-clause-matching
join-requires-clause-matching g c =
    start_lawful c.args.semantics.now.cons c.args.vars.now (g.D.Domain.look c.args.d.now) c.in_ok-unbound.field-0 c.new.result (c.in_ok-unbound.ensures ∙ ap (λ n. replicate n None) c.len.ensures) c.new.ensures

pub join-requires-clause-repeats : goal.join-requires-clause-repeats
join-requires-clause-repeats g c =
    start_repeats c.args.semantics.now.cons c.args.vars.now (g.D.Domain.look c.args.d.now) c.in_ok-unbound.field-0 c.new.result (c.in_ok-unbound.ensures ∙ ap (λ n. replicate n None) c.len.ensures) c.new.ensures _ c.requires.repeats

pub returns-then-branch-clause-meet : goal.returns-then-branch-clause-meet
returns-then-branch-clause-meet g c =
    start_unified c.args.semantics.now.cons c.args.vars.now (g.D.Domain.look c.args.d.now) c.in_ok-unbound.field-0 c.new.result (c.in_ok-unbound.ensures ∙ ap (λ n. replicate n None) c.len.ensures) c.new.ensures
    (g.D.Domain.variables c.args.d.now) _ _ _ _ (rw c.if-branch.true at c.in_ok-join.ensures.answer)
