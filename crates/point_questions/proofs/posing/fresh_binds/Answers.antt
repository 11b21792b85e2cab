use Rattle.data_value.proofs.Grown.{extends-both}
use Rattle.point_questions.proofs.Fresh.{fresh_more}
use Rattle.point_questions.proofs.posing.fresh_binds.Goals as goal

pub loop-var-preserved : goal.loop-var-preserved
loop-var-preserved g c =
    let look = g.D.Domain.look in
    let variables = g.D.Domain.variables in
    let x = c.var-item.result in
    let more = c.in_ok-node.ensures.appended in
    record {
      extends = extends-both _ _ _ c.loop-var.invariant.extends c.in_ok-node.ensures.extends;
      fresh = fresh_more (look c.loop-var.d) (look c.fresh_node.new.d) c.in_ok-node.ensures.extends c.args.vars.now (variables c.loop-var.d) c.loop-var.binds
          c.loop-var.var-index x c.loop-var-test.true c.var-item.is c.loop-var.invariant.fresh more.0 (variables c.fresh_node.new.d) more.1 more.2 c.in_ok-node.node c.in_ok-node.ensures.variable c.push.new.self c.in_ok-push.ensures.ok;
    }
