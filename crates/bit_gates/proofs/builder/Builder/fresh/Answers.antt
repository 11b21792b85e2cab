use Rattle.std.proofs.Common.{◌+◌, arith}
use Rattle.bit_gates.proofs.RangeLemmas.{list_below_more}
use Rattle.bit_gates.proofs.builder.Builder.fresh.Goals as goal

pub invariant_of-self : goal.invariant_of-self
invariant_of-self c =
    ((list_below_more c.args.self.now.clauses.vars (c.args.self.now.clauses.vars + 1) _ (omega arith) c.args.self.now.clauses.scoped, tt), (omega arith, (c.args.self.now.grounded, tt)))
