use Rattle.std.proofs.Common.{◌≡◌, ◌∷◌, length, reverse, nat_eq, ap, ◌∙◌, sym, subst, arith}
use Rattle.indexmap.specs.IndexMap.{get}
use Rattle.node_list.specs.declared.walk.Task.{Task}
use Rattle.node_list.specs.Walks.{IsOpened, IsWalk, turns}
use Rattle.node_list.proofs.Tops.{reverse_push, none_reversed}
use Rattle.node_list.proofs.Stacks.{walk_begins, walk_sought, turns_sought, walk_appended, walk_ends}
use Rattle.node_list.proofs.listing.listed.Goals as goal

pub loop-task-init : goal.loop-task-init
loop-task-init g c =
    let d = c.args.d.now in
    let look = g.D.Domain.look d in
    let shown = (g.met.D.Symbolic.views d).shows c.args.root.now c.requires in
    let walk = c.new-walk in
    walk_begins look (g.D.Domain.variables d) c.args.root.now shown c.requires (reverse c.open.new.tasks.items) walk.result.lines.items (get nat_eq walk.result.places) (reverse walk.result.found.items) walk.ensures.lines walk.ensures.places (ap reverse walk.ensures.found)
    (subst (λ ts. IsOpened look (look c.args.root.now) ts (reverse c.open.new.tasks.items)) (ap reverse c.new-tasks.ensures.items) c.in_ok-open.ensures)

pub loop-task-smaller-in-Continue-branch-2 : goal.loop-task-smaller-in-Continue-branch-2
loop-task-smaller-in-Continue-branch-2 g c =
    let d = c.args.d.now in
    let look = g.D.Domain.look d in
    let n = c.in-Find.node in
    let walk = c.loop-task.walk in
    let tasks = reverse c.pop.new.self.items in
    let popped = reverse_push c.pop.new.self.items c.loop-task.tasks.items c.in-Some.task c.in-Some.ensures.items ∙ ap (λ (t : Task _). t ∷ tasks) c.in-Find.is in
    let begun = subst (λ ts. IsWalk look (look c.args.root.now) ts walk.lines.items (get nat_eq walk.places) (reverse walk.found.items)) popped c.loop-task.invariant in
    let shown = (g.met.D.Symbolic.views d).shows n begun.pending.0 in
    let less = turns_sought look (g.D.Domain.variables d) (look c.args.root.now) n shown tasks (reverse c.seek-sought.new.tasks.items) walk.lines.items (get nat_eq walk.places) (reverse walk.found.items) (reverse c.seek-sought.new.walk.found.items) c.in_ok-sought-in-Find.ensures.sought in
    let all = ap (turns look) popped in
    omega arith

pub loop-task-preserved-in-Continue-branch-2 : goal.loop-task-preserved-in-Continue-branch-2
loop-task-preserved-in-Continue-branch-2 g c =
    let d = c.args.d.now in
    let look = g.D.Domain.look d in
    let root = look c.args.root.now in
    let n = c.in-Find.node in
    let walk = c.loop-task.walk in
    let next = c.seek-sought.new in
    let tasks = reverse c.pop.new.self.items in
    let popped = reverse_push c.pop.new.self.items c.loop-task.tasks.items c.in-Some.task c.in-Some.ensures.items ∙ ap (λ (t : Task _). t ∷ tasks) c.in-Find.is in
    let begun = subst (λ ts. IsWalk look root ts walk.lines.items (get nat_eq walk.places) (reverse walk.found.items)) popped c.loop-task.invariant in
    let shown = (g.met.D.Symbolic.views d).shows n begun.pending.0 in
    let sought = walk_sought look (g.D.Domain.variables d) root n shown tasks (reverse next.tasks.items) walk.lines.items (get nat_eq walk.places) (reverse walk.found.items) (reverse next.walk.found.items) begun c.in_ok-sought-in-Find.ensures.sought in
    subst (λ ls. IsWalk look root (reverse next.tasks.items) ls.items (get nat_eq next.walk.places) (reverse next.walk.found.items)) (sym c.in_ok-sought-in-Find.ensures.same.0)
    (subst (λ ps. IsWalk look root (reverse next.tasks.items) walk.lines.items (get nat_eq ps) (reverse next.walk.found.items)) (sym c.in_ok-sought-in-Find.ensures.same.1) sought)

pub append-requires-clause-new : goal.append-requires-clause-new
append-requires-clause-new g c =
    let look = g.D.Domain.look c.args.d.now in
    let walk = c.loop-task.walk in
    let popped = reverse_push c.pop.new.self.items c.loop-task.tasks.items c.in-Some.task c.in-Some.ensures.items ∙ ap (λ (t : Task _). t ∷ reverse c.pop.new.self.items) c.in-Append.is in
    (subst (λ ts. IsWalk look (look c.args.root.now) ts walk.lines.items (get nat_eq walk.places) (reverse walk.found.items)) popped c.loop-task.invariant).pending.2

pub loop-task-preserved : goal.loop-task-preserved
loop-task-preserved g c =
    let d = c.args.d.now in
    let look = g.D.Domain.look d in
    let root = look c.args.root.now in
    let walk = c.loop-task.walk in
    let next = c.append.new.walk in
    let tasks = reverse c.pop.new.self.items in
    let popped = reverse_push c.pop.new.self.items c.loop-task.tasks.items c.in-Some.task c.in-Some.ensures.items ∙ ap (λ (t : Task _). t ∷ tasks) c.in-Append.is in
    let begun = subst (λ ts. IsWalk look root ts walk.lines.items (get nat_eq walk.places) (reverse walk.found.items)) popped c.loop-task.invariant in
    walk_appended look (g.met.D.Symbolic.views d).one_by_id root c.in-Append.node tasks walk.lines.items next.lines.items (get nat_eq walk.places) (get nat_eq next.places) (reverse walk.found.items) (reverse next.found.items) begun c.in_ok-append-in-Append.ensures.listing c.in_ok-append-in-Append.ensures.appended

pub returns : goal.returns
returns g c =
    let look = g.D.Domain.look c.args.d.now in
    let walk = c.loop-task.walk in
    let none : length c.loop-task.tasks.items ≡ 0 = omega (arith, c.in_default.ensures.cases.0, c.loop-task.tasks.ok.0) in
    walk_ends look (look c.args.root.now) (reverse c.loop-task.tasks.items) walk.lines.items (get nat_eq walk.places) (reverse walk.found.items) (none_reversed c.loop-task.tasks.items none) c.loop-task.invariant
