use Rattle.std.proofs.Common.{◌≡◌, IsTrue, sym, subst}
use Rattle.data_value.specs.Truth.{IsCondition}
use Rattle.path_condition.specs.Leaves.{SeenLeaf, seen_leaf}
use Rattle.probe_keys.proofs.Turns.{item_at}
use Rattle.point_questions.specs.Lists.{run_flaw}
use Rattle.point_questions.proofs.Asking.{push_numbered}
use Rattle.point_questions.proofs.grounding.push_leaves.Goals as goal

pub copy-requires : goal.copy-requires
copy-requires g c =
    let look = g.D.Domain.look c.args.d.now in
    let leaves = c.args.leaves.now in
    let i = c.loop-place.place in
    let leaf = c.index-leaves-place.result in
    let is = item_at (λ (l : SeenLeaf _). IsCondition l.condition) (seen_leaf look) leaves i leaf c.loop-place-test.true c.index-leaves-place.is c.requires in
    subst (λ x. IsTrue (look x.condition).valid) c.index-leaves-place.is is.valid

pub loop-place-preserved : goal.loop-place-preserved
loop-place-preserved g c =
    let look = g.D.Domain.look c.args.d.now in
    let i = c.loop-place.place in
    let leaf = c.index-leaves-place.result in
    let copied = subst (λ x. look c.in_ok-formula.formula ≡ look x.condition) (sym c.index-leaves-place.is) c.in_ok-formula.ensures in
    push_numbered look (run_flaw c.args.escape c.args.side) c.args.leaves.now c.args.questions.now c.loop-place.questions c.push.new.self i leaf c.loop-place-test.true c.index-leaves-place.is
    c.flaw_of-flaw.result c.in_ok-formula.formula c.flaw_of-flaw.ensures copied c.loop-place.invariant c.in_ok-push.ensures.ok
