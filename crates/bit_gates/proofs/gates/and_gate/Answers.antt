use Rattle.std.proofs.Common.{◌≡◌, ◌++◌, arith}
use Rattle.bit_gates.proofs.GateLemmas.{and_clauses, and_extends, and_means, and_added}
use Rattle.bit_gates.proofs.ExtendLemmas.{starts}
use Rattle.bit_gates.proofs.gates.and_gate.Goals as goal

pub returns-clause-extends : goal.returns-clause-extends
returns-clause-extends c =
    let z = c.in_ok-z.ensures.made in
    let e : c.demand_three.new.self.clauses.list ≡ c.args.b.now.clauses.list ++ and_clauses c.in_ok-z.z c.args.x c.args.y =
    and_added _ _ _ _ _ c.args.x c.args.y _ _ _ c.flip-not_x.ensures c.flip-not_y.ensures c.flip-not_z.ensures (starts _ _ _ _ c.in_ok-z.ensures.same c.in_ok-demand_two.ensures.added) c.in_ok-demand_two-2.ensures.added c.in_ok-demand_three.ensures.added in
    rw (c.demand_three.ensures.vars, c.demand_two-2.ensures.vars, c.demand_two.ensures.vars, c.in_ok-z.ensures.more) (and_extends c.args.b.now.clauses.vars c.args.b.now.clauses.list _ c.args.x c.args.y c.args.b.now.clauses.scoped c.requires.x c.requires.y (rw z at e))

pub returns-clause-made : goal.returns-clause-made
returns-clause-made c =
    let z = c.in_ok-z.ensures.made in
    let e : c.demand_three.new.self.clauses.list ≡ c.args.b.now.clauses.list ++ and_clauses c.in_ok-z.z c.args.x c.args.y =
    and_added _ _ _ _ _ c.args.x c.args.y _ _ _ c.flip-not_x.ensures c.flip-not_y.ensures c.flip-not_z.ensures (starts _ _ _ _ c.in_ok-z.ensures.same c.in_ok-demand_two.ensures.added) c.in_ok-demand_two-2.ensures.added c.in_ok-demand_three.ensures.added in
    record {
      in_range = rw (c.demand_three.ensures.vars, c.demand_two-2.ensures.vars, c.demand_two.ensures.vars, c.in_ok-z.ensures.more, z) (omega arith);
      means = λ a h. and_means a c.args.b.now.clauses.list _ c.in_ok-z.z c.args.x c.args.y e h;
    }
