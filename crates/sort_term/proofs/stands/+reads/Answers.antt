use Rattle.std.proofs.Common.{sym, ◌∙◌}
use Rattle.sort_term.specs.Stands.{reads}
use Rattle.sort_term.proofs.AnyOf.{any-found}
use Rattle.sort_term.proofs.stands.+reads.Goals as goal

pub some_reads-returns-then-reads : goal.some_reads-returns-then-reads
some_reads-returns-then-reads t c =
    sym (any-found (λ part. part) (reads c.args.i) c.args.exprs.now c.loop-expr.expr-index c.expr-item.result c.loop-expr-test.true c.expr-item.is (sym c.reads.ensures ∙ c.if-reads.true))
