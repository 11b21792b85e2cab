use Rattle.std.proofs.Common.{rules, ◌↔◌, IsTrue, subst, List}
use Rattle.sort_term.specs.declared.rule.Var.{Var}
use Rattle.sort_term.specs.Problems.{IsConfigExpr}
use Rattle.sync_points.proofs.sorting.is_point_sorted.Goals as goal

pub returns-else-are_configs : goal.returns-else-are_configs
returns-else-are_configs c =
    let told = subst (λ (vars : List Var). IsTrue c.are_configs.result ↔ (IsConfigExpr c.args.draft.now.left vars c.args.point.now.left × IsConfigExpr c.args.draft.now.right vars c.args.point.now.right)) c.as_slice-vars.ensures c.are_configs.ensures in search rules
