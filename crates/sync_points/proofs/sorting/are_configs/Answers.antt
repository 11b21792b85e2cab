use Rattle.std.proofs.Common.{rules, ◌↔◌, IsTrue, subst}
use Rattle.sort_term.specs.Problems.{IsConfigExpr}
use Rattle.sync_points.proofs.sorting.are_configs.Goals as goal

pub returns-then-is_config : goal.returns-then-is_config
returns-then-is_config c =
    let left = subst (λ s. IsTrue c.is_config.result ↔ IsConfigExpr s c.args.vars.now c.args.left.now) c.left.ensures c.is_config.ensures in
    let right = subst (λ s. IsTrue c.is_config-then-is_config.result ↔ IsConfigExpr s c.args.vars.now c.args.right.now) c.right.ensures c.is_config-then-is_config.ensures in search rules
