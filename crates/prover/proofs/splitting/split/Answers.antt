use Rattle.std.proofs.Common.{arith, ◌≡◌, ◌-◌, ◌+◌, length, drop, sym, ap, ◌∙◌, subst}
use Rattle.node_list.specs.Listed.{AreLines}
use Rattle.prover.specs.Splitting.{IsLastMark, IsSplitting}
use Rattle.prover.proofs.Pieces.{written_over}
use Rattle.prover.proofs.Splits.{split_begun, split_done}
use Rattle.prover.proofs.splitting.split.Goals as goal

pub loop-done-init : goal.loop-done-init
loop-done-init g c =
    let look = g.D.Domain.look c.args.d.now in
    let lines = c.in_ok-lines.lines.items in
    let last = subst (λ n. IsLastMark n c.in_ok-joined.joined.items) (omega (arith, c.len.ensures, c.in_ok-lines.lines.ok.0)) c.in_ok-joined.ensures in
    record {
      count = c.in_ok-joined.ensures.count_is ∙ omega (arith, c.len.ensures, c.in_ok-lines.lines.ok.0);
      splitting = split_begun look (look c.args.root.now) lines (length lines - 0) c.in_ok-joined.joined.items _ c.in_ok-lines.ensures c.requires (omega arith) last c.new.ensures.items c.new-2.ensures.items;
    }

pub split_line-requires-clause-lines : goal.split_line-requires-clause-lines
split_line-requires-clause-lines g c = subst (AreLines (g.D.Domain.look c.args.d.now)) (sym c.as_slice.ensures.value) c.in_ok-lines.ensures.ordered

pub loop-done-preserved : goal.loop-done-preserved
loop-done-preserved g c =
    let look = g.D.Domain.look c.args.d.now in
    let s = look c.args.root.now in
    let lines = c.in_ok-lines.lines.items in
    let place = c.len-in-loop-done.result - 1 - c.loop-done.done in
    let marks = c.loop-done.joined.items in
    let more = c.split_line.new.joined in
    let counted : length more ≡ c.loop-done.joined.len = omega (arith, c.in_ok-split_line.ensures.count, ap length c.deref_mut.ensures.value, c.loop-done.joined.ok.0) in
    let same = written_over more (drop (length more) marks) c.loop-done.joined.len counted in
    let before = subst (λ n. IsSplitting look s lines n marks c.loop-done.parts) (omega (arith, c.loop-done-test.true, c.len-in-loop-done.ensures, c.len-done-end.ensures, c.in_ok-lines.lines.ok.0)) c.loop-done.invariant.splitting in
    let split = c.in_ok-split_line.ensures.split s
    (subst (λ ls. IsSplitting look s ls (place + 1) c.deref_mut.result.now c.loop-done.parts) (sym c.as_slice.ensures.value) (subst (λ ms. IsSplitting look s lines (place + 1) ms c.loop-done.parts) (sym c.deref_mut.ensures.value) before)) in
    record {
      count = ap length same ∙ counted ∙ omega (arith, c.loop-done.joined.ok.0, c.loop-done.invariant.count);
      splitting = subst (λ ms. IsSplitting look s lines (length lines - (c.loop-done.done + 1)) ms c.split_line.new.parts) (sym same)
          (subst (λ n. IsSplitting look s lines n more c.split_line.new.parts) (omega (arith, c.len-in-loop-done.ensures, c.in_ok-lines.lines.ok.0)) (subst (λ ls. IsSplitting look s ls place more c.split_line.new.parts) c.as_slice.ensures.value split));
    }

pub returns : goal.returns
returns g c =
    let look = g.D.Domain.look c.args.d.now in
    let s = look c.args.root.now in
    let lines = c.in_ok-lines.lines.items in
    split_done look s lines c.loop-done.joined.items c.loop-done.parts
    (subst (λ n. IsSplitting look s lines n c.loop-done.joined.items c.loop-done.parts) (omega (arith, c.loop-done-test.false, c.len-done-end.ensures, c.in_ok-lines.lines.ok.0)) c.loop-done.invariant.splitting)
