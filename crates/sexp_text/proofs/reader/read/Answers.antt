use Rattle.std.proofs.Common.{◌≡◌, arith, ◌∙◌, ◌+◌, length, subst, not, ap, nat_eq}
use Rattle.sexp_text.specs.Spells.{none, Spells}
use Rattle.sexp_text.specs.Open.{IsReadFrom}
use Rattle.sexp_text.proofs.Commented.{commented-more, comment_gap, in_comment, at_semicolon, commented-zero}
use Rattle.sexp_text.proofs.Reading.{read_gap, no_gap}
use Rattle.sexp_text.proofs.Clear.{clear_zero, clear_comment, clear_semicolon, faultless_end}
use Rattle.sexp_text.proofs.Sound.{faultless_text}
use Rattle.sexp_text.specs.Clear.{IsClear}
use Rattle.sexp_text.proofs.reader.read.Goals as goal

pub loop-at-init : goal.loop-at-init
loop-at-init c =
    record {
      within = omega arith;
      comment = commented-zero c.args.bytes.now;
      read = rw (c.new-tree.ensures.outer, c.new-tree.ensures.forms) (none (no_gap c.args.bytes.now 0));
      short = omega arith;
      clear = rw c.new-tree.ensures.outer (clear_zero c.args.bytes.now (omega arith));
    }

pub returns-clause-forms : goal.returns-clause-forms
returns-clause-forms c =
    let bytes = c.args.bytes.now in
    let end : c.loop-at.at ≡ length bytes = omega arith in
    let closed : c.loop-at.tree.outer ≡ _ = c.is_empty.ensures.0 c.if-not-is_empty.false in
    let read = subst (λ os. IsReadFrom bytes 0 os c.loop-at.tree.forms c.loop-at.at) closed c.loop-at.invariant.read in
    let clear = subst (λ n. IsClear bytes n (length bytes)) (ap length closed) (subst (λ n. IsClear bytes (length c.loop-at.tree.outer) n) end c.loop-at.invariant.clear) in
    faultless_text bytes c.loop-at.tree.forms c.loop-at.invariant.short (faultless_end bytes clear) (subst (λ n. Spells bytes c.loop-at.tree.forms 0 n) end read)

pub loop-at-preserved-then-comment : goal.loop-at-preserved-then-comment
loop-at-preserved-then-comment c =
    let bytes = c.args.bytes.now in
    let tree = c.loop-at.tree in
    let here = in_comment bytes c.loop-at.at (c.loop-at.invariant.comment ∙ c.if-comment.true) in
    record {
      within = omega arith;
      comment = commented-more bytes c.loop-at.at here;
      read = read_gap bytes tree.outer 0 tree.forms c.loop-at.at (c.loop-at.at + 1) c.loop-at.invariant.read (comment_gap bytes c.loop-at.at (omega arith) here);
      short = c.loop-at.invariant.short;
      clear = clear_comment bytes _ c.loop-at.at c.loop-at.invariant.clear c.loop-at-test.true (omega arith) (c.loop-at.invariant.comment ∙ c.if-comment.true);
    }

pub loop-at-preserved-then-byte-eq59 : goal.loop-at-preserved-then-byte-eq59
loop-at-preserved-then-byte-eq59 c =
    let bytes = c.args.bytes.now in
    let tree = c.loop-at.tree in
    let here = at_semicolon bytes c.loop-at.at c.if-byte-eq59.true in
    record {
      within = omega arith;
      comment = commented-more bytes c.loop-at.at here ∙ ap (λ n. not (nat_eq n 10)) c.if-byte-eq59.true;
      read = read_gap bytes tree.outer 0 tree.forms c.loop-at.at (c.loop-at.at + 1) c.loop-at.invariant.read (comment_gap bytes c.loop-at.at (omega arith) here);
      short = c.loop-at.invariant.short;
      clear = clear_semicolon bytes _ c.loop-at.at c.loop-at.invariant.clear c.loop-at-test.true c.if-byte-eq59.true;
    }
