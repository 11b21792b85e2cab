use Rattle.std.proofs.Common.{ℕ, ◌++◌, List, length, map, take, sym, ◌∙◌, ap}
use Rattle.std.specs.List.{zip}
use Rattle.std.proofs.lemmas.List.{length_push}
use Rattle.std.proofs.lemmas.Slice.Zip.{zip_turn, zip_end}
use Rattle.report_text.specs.Lines.{lines_of}
use Rattle.report_text.specs.Reports.{value_line}
use Rattle.report_text.proofs.Pairs.{pairs_more, pairs_all}
use Rattle.report_text.proofs.reports.write_valuation.Goals as goal

pub loop-var-preserved : goal.loop-var-preserved
loop-var-preserved c =
    let turn = zip_turn c.args.vars.now c.args.values.now c.loop-var.yielded c.into_iter-var-iterator.result c.loop-var.var-iterator c.next.new.self c.next.result (cc) (cc) c.loop-var.yielded_by (c.in-Some.var, c.in-Some.value) c.in-Some.is c.next.ensures.steps in
    let more = pairs_more value_line c.args.vars.now c.args.values.now (length c.loop-var.yielded) c.in-Some.var.now c.in-Some.value.now turn.0 turn.1 (turn.2 _) (turn.3 _) _ _ _ c.loop-var.invariant c.in_ok-write_variable.ensures in
    more ∙ ap (λ (n : ℕ). c.args.text.now.items ++ lines_of (map value_line (take n (zip c.args.vars.now c.args.values.now)))) (sym (length_push c.loop-var.yielded (c.in-Some.var, c.in-Some.value)))

pub returns : goal.returns
returns c =
    let end = zip_end c.args.vars.now c.args.values.now c.loop-var.yielded c.into_iter-var-iterator.result c.loop-var.var-iterator c.next.new.self c.next.result (cc) (cc) c.loop-var.yielded_by c.in-None.is c.next.ensures.steps in
    c.loop-var.invariant ∙ ap (λ (zs : List ℕ). c.args.text.now.items ++ zs) (pairs_all value_line c.args.vars.now c.args.values.now (length c.loop-var.yielded) end)
