use Rattle.std.proofs.Common.{◌≡◌, true}
use Rattle.refute_check.specs.Truth.{list_below}
use Rattle.bit_gates.specs.Bits.{Grounded}
use Rattle.bit_gates.proofs.RangeLemmas.{list_below_append, list_below_one}
use Rattle.bit_gates.proofs.KnownLemmas.{on_both, grounded_same, grounded_more}
use Rattle.bit_gates.proofs.builder.Builder.add.Goals as goal

pub invariant_of-self : goal.invariant_of-self
invariant_of-self c =
    let scoped : list_below c.args.self.now.clauses.vars c.push.new.self ≡ true = on_both c.push.result c.push.ensures.ok c.push.ensures.err
    (λ e. rw e (list_below_append _ _ _ c.args.self.now.clauses.scoped (list_below_one _ _ c.requires)))
    (λ e. rw e c.args.self.now.clauses.scoped) in
    let grounded : Grounded c.push.new.self = on_both c.push.result c.push.ensures.ok c.push.ensures.err
    (λ e. grounded_more c.args.self.now.clauses.list _ c.args.clause e c.args.self.now.grounded)
    (λ e. grounded_same c.args.self.now.clauses.list _ e c.args.self.now.grounded) in
    ((scoped, tt), (c.args.self.now.some, (grounded, tt)))
