use Rattle.std.proofs.Common.{List, [], ◌∷◌, ◌++◌, map, reverse, sym, ap, ap₂, ◌∙◌}
use Rattle.std.proofs.lemmas.List.{map-append, map_more}
use Rattle.data_value.specs.Nodes.{Seen}
use Rattle.node_list.specs.declared.walk.Task.{Task}
use Rattle.node_list.specs.declared.walk.Task.TheVariants.{Find}
use Rattle.node_list.proofs.Tops.{reverse_cons, reverse_push}
use Rattle.node_list.proofs.walk.find_all.Goals as goal

pub loop-node-preserved : goal.loop-node-preserved
loop-node-preserved g c =
    let look = g.D.Domain.look c.args.d.now in
    let before = c.loop-node.invariant in
    let copy = c.in_ok-copy.field-0 in
    record {
      finds = copy ∷ before.finds;
      alike =
          ap (map look) (reverse_cons copy before.finds) ∙ map-append look (reverse before.finds) (copy ∷ [])
          ∙ ap₂ {A = List (Seen _)} {B = Seen _} {C = List (Seen _)} (λ ss s. ss ++ s ∷ []) before.alike (c.in_ok-copy.ensures ∙ ap look c.node-item.is)
          ∙ sym (map_more look c.args.nodes.now c.loop-node.node-index c.node-item.result c.loop-node-test.true);
      is = reverse_push c.loop-node.tasks.items c.push.new.self.items (Find copy) c.in_ok-push.ensures.items ∙ ap (λ (ts : List (Task _)). Find copy ∷ ts) before.is;
    }
