use Rattle.std.proofs.Common.{reverse, nat_eq}
use Rattle.indexmap.specs.IndexMap.{get}
use Rattle.node_list.specs.Walks.{IsWalk, turns}
use Rattle.node_list.proofs.listing.listed.Given as goal

-- the walk leads to the lines of the root
abbrev pub invariant-loop-task : goal.invariant-loop-task
invariant-loop-task g l =
    let look = g.D.Domain.look l.d in
    IsWalk look (look l.root) (reverse l.tasks.items) l.walk.lines.items (get nat_eq l.walk.places) (reverse l.walk.found.items)

abbrev pub decreases-loop-task : goal.decreases-loop-task
decreases-loop-task g l = turns (g.D.Domain.look l.d) (reverse l.tasks.items)
