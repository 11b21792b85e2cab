use Rattle.std.proofs.Common.{◌∙◌, ap, ◌&&◌, ◌==◌, not, arith}
use Rattle.std.proofs.lemmas.Grind.{common_steps}
use Rattle.refute_check.specs.Sets.{Numbers, has_number}
use Rattle.refute_check.proofs.SetLemmas.{taken_out, not_reached}
use Rattle.refute_check.proofs.number_set.NumberSet.remove.Goals as goal

pub returns-then-number-len : goal.returns-then-number-len
returns-then-number-len c = λ k.
    taken_out (record { round = c.self.inside.round; stamps = c.self.inside.stamps.items }) c.args.number c.self.invariant (grind (arith, common_steps)) k
    ∙ ap (λ (s : Numbers). has_number s k && not (c.args.number == k)) c.self.view_is

pub returns-else-number-len : goal.returns-else-number-len
returns-else-number-len c =
    rw (← c.self.view_is) (not_reached (record { round = c.self.inside.round; stamps = c.self.inside.stamps.items }) c.args.number c.self.invariant (grind (arith, common_steps)))
