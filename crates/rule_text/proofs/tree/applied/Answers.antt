use Rattle.std.proofs.Common.{rules}
use Rattle.rule_text.proofs.TreeShapes.{con_applied, op_applied}
use Rattle.rule_text.proofs.tree.applied.Goals as goal

pub returns-then-is_reserved : goal.returns-then-is_reserved
returns-then-is_reserved c = λ place head all. op_applied place c.args.name c.args.numbers c.args.args (search rules) head all

pub returns : goal.returns
returns c = λ place head all. con_applied place c.args.name c.args.numbers c.args.args (search rules) head all
