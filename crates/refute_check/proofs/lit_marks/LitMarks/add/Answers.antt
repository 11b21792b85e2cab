use Rattle.std.proofs.Common.{refl}
use Rattle.std.proofs.lemmas.Result.{on_ok_weaker, on_err_weaker}
use Rattle.refute_check.proofs.SetLemmas.{put_positive, put_negative, same_marked}
use Rattle.refute_check.proofs.lit_marks.LitMarks.add.Goals as goal

pub returns-then-lit-clause-ok : goal.returns-then-lit-clause-ok
returns-then-lit-clause-ok c =
    rw (← c.self.view_is) (on_ok_weaker c.add.result (put_positive (record { positive = c.self.inside.positive; negative = c.self.inside.negative }) c.add.new.self c.args.lit c.if-lit.true) c.add.ensures.ok)

pub returns-then-lit-clause-err : goal.returns-then-lit-clause-err
returns-then-lit-clause-err c =
    rw (← c.self.view_is) (on_err_weaker c.add.result (λ h. same_marked (record { positive = c.add.new.self; negative = c.self.inside.negative }) (record { positive = c.self.inside.positive; negative = c.self.inside.negative }) h (λ k. refl)) c.add.ensures.err)

pub returns-else-lit-clause-ok : goal.returns-else-lit-clause-ok
returns-else-lit-clause-ok c =
    rw (← c.self.view_is) (on_ok_weaker c.add-else-lit.result (put_negative (record { positive = c.self.inside.positive; negative = c.self.inside.negative }) c.add-else-lit.new.self c.args.lit c.if-lit.false) c.add-else-lit.ensures.ok)

pub returns-else-lit-clause-err : goal.returns-else-lit-clause-err
returns-else-lit-clause-err c =
    rw (← c.self.view_is) (on_err_weaker c.add-else-lit.result (λ h. same_marked (record { positive = c.self.inside.positive; negative = c.add-else-lit.new.self }) (record { positive = c.self.inside.positive; negative = c.self.inside.negative }) (λ k. refl) h) c.add-else-lit.ensures.err)
