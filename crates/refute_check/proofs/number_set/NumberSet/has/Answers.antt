use Rattle.std.proofs.lemmas.Grind.{common_steps}
use Rattle.std.proofs.Common.{◌∙◌, ap, arith}
use Rattle.refute_check.specs.Sets.{Numbers, has_number}
use Rattle.refute_check.proofs.SetLemmas.{read_stamp, read_past}
use Rattle.refute_check.proofs.number_set.NumberSet.has.Goals as goal

pub returns-in-Some : goal.returns-in-Some
returns-in-Some c =
    read_stamp (record { round = c.self.inside.round; stamps = c.self.inside.stamps.items }) c.args.number c.in-Some.stamp.now (grind (arith, common_steps))
    ∙ ap (λ (s : Numbers). has_number s c.args.number) c.self.view_is

pub returns-in-None : goal.returns-in-None
returns-in-None c =
    read_past (record { round = c.self.inside.round; stamps = c.self.inside.stamps.items }) c.args.number c.self.invariant (grind (arith, common_steps))
    ∙ ap (λ (s : Numbers). has_number s c.args.number) c.self.view_is
