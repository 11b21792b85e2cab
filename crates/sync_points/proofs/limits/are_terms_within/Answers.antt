use Rattle.std.proofs.Common.{rules, ◌↔◌, IsTrue, subst}
use Rattle.name_resolution.specs.Within.{IsWithinTree}
use Rattle.sync_points.proofs.limits.are_terms_within.Goals as goal

pub returns-else-is_within_tree : goal.returns-else-is_within_tree
returns-else-is_within_tree c = let told = subst (λ known. IsTrue c.is_within_tree.result ↔ IsWithinTree known c.args.left.now) c.left_known.ensures c.is_within_tree.ensures in search rules
