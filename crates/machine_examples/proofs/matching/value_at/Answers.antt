use Rattle.machine_examples.proofs.matching.value_at.Goals as goal

pub evaluated-text-requires-clause-lawful : goal.evaluated-text-requires-clause-lawful
evaluated-text-requires-clause-lawful c = let m = rw c.in-Meets.is at c.in_ok-met.ensures in m.lawful

pub evaluated-text-requires-clause-bound : goal.evaluated-text-requires-clause-bound
evaluated-text-requires-clause-bound c = λ i h. let m = rw c.in-Meets.is at c.in_ok-met.ensures in (m.bound i).1 h
