use Rattle.std.proofs.Common.{arith, ◌≡◌, ◌-◌, ◌+◌, ◌++◌, length, take, drop, sym, ap, ◌∙◌, subst}
use Rattle.node_list.specs.Listed.{AreLines}
use Rattle.prover.specs.Splitting.{IsLastMark}
use Rattle.prover.specs.Usage.{IsSearching}
use Rattle.prover.proofs.Pieces.{written_over}
use Rattle.prover.proofs.Searches.{search_begun, search_done}
use Rattle.prover.proofs.usage.used_variables.Goals as goal

pub loop-done-init : goal.loop-done-init
loop-done-init g c =
    let look = g.D.Domain.look c.args.d.now in
    let lines = c.in_ok-lines.lines.items in
    let last = subst (λ n. IsLastMark n c.in_ok-parts.parts.items) (omega (arith, c.len.ensures, c.in_ok-lines.lines.ok.0)) c.in_ok-parts.ensures in
    record {
      parts_count = c.in_ok-parts.ensures.count_is ∙ omega (arith, c.len.ensures, c.in_ok-lines.lines.ok.0);
      variables_count = c.in_ok-variables.ensures.count_is ∙ ap length c.sorts.ensures;
      searching = search_begun look (look c.args.node.now) lines (length lines - 0) (length c.sorts.result.now) c.in_ok-parts.parts.items c.in_ok-variables.variables.items c.in_ok-lines.ensures (omega arith) last c.in_ok-variables.ensures;
    }

pub search_line-requires-clause-lines : goal.search_line-requires-clause-lines
search_line-requires-clause-lines g c = subst (AreLines (g.D.Domain.look c.args.d.now)) (sym c.as_slice.ensures.value) c.in_ok-lines.ensures.ordered

pub loop-done-preserved : goal.loop-done-preserved
loop-done-preserved g c =
    let look = g.D.Domain.look c.args.d.now in
    let s = look c.args.node.now in
    let lines = c.in_ok-lines.lines.items in
    let place = c.len-in-loop-done.result - 1 - c.loop-done.done in
    let parts = c.loop-done.parts.items in
    let variables = c.loop-done.variables.items in
    let more = c.search_line.new.parts in
    let used = c.search_line.new.variables in
    let parts_counted : length more ≡ c.loop-done.parts.len = omega (arith, c.search_line.ensures.parts_count, ap length c.deref_mut.ensures.value, c.loop-done.parts.ok.0) in
    let variables_counted : length used ≡ c.loop-done.variables.len = omega (arith, c.search_line.ensures.variables_count, ap length c.deref_mut-in-loop-done.ensures.value, c.loop-done.variables.ok.0) in
    let parts_same = written_over more (drop (length more) parts) c.loop-done.parts.len parts_counted in
    let variables_same = written_over used (drop (length used) variables) c.loop-done.variables.len variables_counted in
    let before = subst (λ n. IsSearching look s lines n parts variables) (omega (arith, c.loop-done-test.true, c.len-in-loop-done.ensures, c.len-done-end.ensures, c.in_ok-lines.lines.ok.0)) c.loop-done.invariant.searching in
    let searched = c.search_line.ensures.searched s
    (subst (λ ls. IsSearching look s ls (place + 1) c.deref_mut.result.now c.deref_mut-in-loop-done.result.now) (sym c.as_slice.ensures.value)
    (subst (λ ps. IsSearching look s lines (place + 1) ps c.deref_mut-in-loop-done.result.now) (sym c.deref_mut.ensures.value)
    (subst (λ vs. IsSearching look s lines (place + 1) parts vs) (sym c.deref_mut-in-loop-done.ensures.value) before))) in
    record {
      parts_count = ap length parts_same ∙ parts_counted ∙ omega (arith, c.loop-done.parts.ok.0, c.loop-done.invariant.parts_count);
      variables_count = ap length variables_same ∙ variables_counted ∙ omega (arith, c.loop-done.variables.ok.0, c.loop-done.invariant.variables_count);
      searching = subst (λ ps. IsSearching look s lines (length lines - (c.loop-done.done + 1)) ps (take c.loop-done.variables.len (used ++ drop (length used) variables))) (sym parts_same) (subst (λ vs. IsSearching look s lines (length lines - (c.loop-done.done + 1)) more vs) (sym variables_same)
          (subst (λ n. IsSearching look s lines n more used) (omega (arith, c.len-in-loop-done.ensures, c.in_ok-lines.lines.ok.0)) (subst (λ ls. IsSearching look s ls place more used) c.as_slice.ensures.value searched)));
    }

pub returns : goal.returns
returns g c =
    let look = g.D.Domain.look c.args.d.now in
    let s = look c.args.node.now in
    let lines = c.in_ok-lines.lines.items in
    let searching = subst (λ n. IsSearching look s lines n c.loop-done.parts.items c.loop-done.variables.items) (omega (arith, c.loop-done-test.false, c.len-done-end.ensures, c.in_ok-lines.lines.ok.0)) c.loop-done.invariant.searching in
    search_done look s lines (g.D.Domain.variables c.args.d.now) (g.met.D.Symbolic.views c.args.d.now) c.in_ok-lines.ensures c.loop-done.parts.items c.loop-done.variables.items c.loop-done.invariant.variables_count searching
