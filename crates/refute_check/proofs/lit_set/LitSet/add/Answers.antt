use Rattle.std.proofs.Common.{subst, sym, List}
use Rattle.refute_check.specs.declared.lit.Lit.{Lit as Literal}
use Rattle.refute_check.specs.Sets.{Covers}
use Rattle.refute_check.proofs.SetLemmas.{covers_added, covers_kept}
use Rattle.refute_check.proofs.lit_set.LitSet.add.Goals as goal

pub invariant_of-self-in-Continue-branch-2 : goal.invariant_of-self-in-Continue-branch-2
invariant_of-self-in-Continue-branch-2 c =
    subst (λ (ls : List Literal). Covers ls c.add.new.self) (sym c.in_ok-push.ensures.items) (covers_added c.self.inside.added.items c.args.lit c.self.inside.marks c.add.new.self c.self.invariant c.in_ok-add.ensures.ok)

pub invariant_of-self-in_err-add : goal.invariant_of-self-in_err-add
invariant_of-self-in_err-add c =
    subst (λ (ls : List Literal). Covers ls c.add.new.self) (sym c.in_ok-push.ensures.items) (covers_kept c.self.inside.added.items c.args.lit c.self.inside.marks c.add.new.self c.self.invariant c.in_err-add.ensures.err)
