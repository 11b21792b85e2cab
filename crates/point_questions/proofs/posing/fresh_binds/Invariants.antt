use Rattle.std.proofs.Common.{take}
use Rattle.data_value.specs.Nodes.{Extends}
use Rattle.unify.specs.Binds.{seen_binds}
use Rattle.point_questions.specs.Posed.{AreFresh}
use Rattle.point_questions.proofs.posing.fresh_binds.Given as goal

-- the variables so far are bound to those of the domain
abbrev pub invariant-loop-var : goal.invariant-loop-var
invariant-loop-var g l =
    let look = g.D.Domain.look in
    record {
      extends : Extends (look l.fn.d) (look l.d);
      fresh : AreFresh (take l.var-index l.vars) (g.D.Domain.variables l.d) (seen_binds (look l.d) l.binds);
    }
