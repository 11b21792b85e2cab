use Rattle.std.proofs.Common.{refl}
use Rattle.node_list.specs.Walks.{known}
use Rattle.node_list.proofs.Tops.{reverse_push}
use Rattle.node_list.proofs.walk.seek.Goals as goal

pub returns-in_ok-push-in-Some-clause-sought : goal.returns-in_ok-push-in-Some-clause-sought
returns-in_ok-push-in-Some-clause-sought g c =
    known c.in-Some.place c.in-Some.ensures (reverse_push c.args.walk.now.found.items c.push.new.self.items c.in-Some.place c.in_ok-push-in-Some.ensures.items) refl
