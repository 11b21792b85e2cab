use Rattle.std.proofs.Common.{◌+◌, subst, sym, List, take, refl}
use Rattle.refute_check.specs.declared.lit.Lit.{Lit}
use Rattle.clause_search.specs.Analysis.{MarksClause}
use Rattle.clause_search.proofs.MarkLemmas.{marks_none, marks_more}
use Rattle.clause_search.proofs.marks.Marks.mark_all.Goals as goal

pub loop-lit-init : goal.loop-lit-init
loop-lit-init c = record { here = marks_none c.args.self.now; others = record { at = λ v h. h } }

pub loop-lit-preserved : goal.loop-lit-preserved
loop-lit-preserved c =
    let ls = c.as_slice-lit-items.result.now in
    let before = subst (λ (d : List Lit). MarksClause c.loop-lit.self (take c.loop-lit.lit-index d)) (sym c.as_slice-lit-items.ensures) c.loop-lit.invariant.here in
    let more = marks_more c.loop-lit.self c.mark.new.self ls c.loop-lit.lit-index _ _ c.loop-lit-test.true refl before c.mark.ensures.others c.mark.ensures.here in
    record {
      here = subst (λ (d : List Lit). MarksClause c.mark.new.self (take (c.loop-lit.lit-index + 1) d)) c.as_slice-lit-items.ensures more;
      others = record { at = λ v h. c.mark.ensures.others.at v (c.loop-lit.invariant.others.at v h) };
    }
