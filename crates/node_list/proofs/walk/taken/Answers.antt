use Rattle.std.proofs.Common.{◌≡◌, ℕ, suc, ◌+◌, List, [], ◌∷◌, ◌++◌, reverse, take, drop, sym, ap, ◌∙◌, arith}
use Rattle.node_list.proofs.Tops.{reverse_push, taken_more, dropped_more}
use Rattle.node_list.proofs.walk.taken.Goals as goal

pub loop-turn-preserved : goal.loop-turn-preserved
loop-turn-preserved c =
    let all = reverse c.args.found.now.items in
    let k = c.loop-turn._turn in
    let place = c.in-Some.place in
    let rest = reverse c.pop.new.self.items in
    let popped : drop k all ≡ place ∷ rest = sym c.loop-turn.invariant.1 ∙ reverse_push c.pop.new.self.items c.loop-turn.found.items place c.in-Some.ensures.items in
    let next : suc k ≡ k + 1 = omega arith in (
      c.in_ok-push-in-Some.ensures.ok ∙ ap (λ (ps : List ℕ). ps ++ place ∷ []) c.loop-turn.invariant.0 ∙ sym (taken_more k all place rest popped) ∙ ap (λ n. take n all) next,
      sym (dropped_more k all place rest popped) ∙ ap (λ n. drop n all) next,
    )
