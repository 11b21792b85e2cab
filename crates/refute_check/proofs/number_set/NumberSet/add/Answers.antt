use Rattle.std.proofs.Common.{◌∙◌, ap, Bool, ◌||◌, ◌==◌}
use Rattle.refute_check.proofs.SetLemmas.{put_in, same_as, on_err_always}
use Rattle.refute_check.proofs.number_set.NumberSet.add.Goals as goal

pub returns-in_err-reach-clause-err : goal.returns-in_err-reach-clause-err
returns-in_err-reach-clause-err c =
    on_err_always c.from_residual.result (same_as (record { round = c.self.inside.round; stamps = c.self.inside.stamps.items }) c.args.self.now c.reach.new.stamps.items c.self.view_is c.reach.ensures.same)

pub returns-clause-ok : goal.returns-clause-ok
returns-clause-ok c = λ k.
    put_in c.self.inside.round c.reach.new.stamps.items c.args.number c.in_ok-reach.ensures.within k
    ∙ ap (λ (b : Bool). b || c.args.number == k) (same_as (record { round = c.self.inside.round; stamps = c.self.inside.stamps.items }) c.args.self.now c.reach.new.stamps.items c.self.view_is c.reach.ensures.same k)
