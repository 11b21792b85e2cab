use Rattle.std.proofs.Common.{◌∙◌}
use Rattle.data_value.specs.Known.{IsFolded}
use Rattle.expr_pool.specs.Keys.{pool_look}
use Rattle.data_value.proofs.Folding.{applied_as_shown, applied_as_folded}
use Rattle.expr_pool.proofs.domain.PoolDomain.apply.Goals as goal

pub returns-in_ok-intern-in-Some-clause-made : goal.returns-in_ok-intern-in-Some-clause-made
returns-in_ok-intern-in-Some-clause-made c =
    let made = c.in_ok-intern-in-Some.ensures.made in
    applied_as_folded (pool_look c.args.self.now.nodes.keys) (pool_look c.intern.new.self.nodes.keys) c.intern.ensures.extends c.intern.new.self.variables.items c.args.op c.args.args.now c.in_ok-intern-in-Some.field-0
    c.requires.valid made.valid made.is c.in-Some.scalar made.shown (rw c.in-Some.is at c.in_ok-scalar.ensures)

pub returns-in_ok-intern-in-None-clause-made : goal.returns-in_ok-intern-in-None-clause-made
returns-in_ok-intern-in-None-clause-made c =
    let made = c.in_ok-intern-in-None.ensures.made in
    applied_as_shown (pool_look c.args.self.now.nodes.keys) (pool_look c.intern-in-None.new.self.nodes.keys) c.intern-in-None.ensures.extends c.intern-in-None.new.self.variables.items c.args.op c.args.args.now c.in_ok-intern-in-None.field-0
    c.requires.valid made.valid made.is (made.shown ∙ c.in_ok-key-in-None.ensures.shown) (rw c.in-None.is at c.in_ok-scalar.ensures)

pub returns-in_ok-intern-in-Some-clause-shown : goal.returns-in_ok-intern-in-Some-clause-shown
returns-in_ok-intern-in-Some-clause-shown c =
    let folded : IsFolded (pool_look c.args.self.now.nodes.keys) c.args.op c.args.args.now c.in-Some.scalar = rw c.in-Some.is at c.in_ok-scalar.ensures in
    λ unknown. absurd (unknown folded.known)
