use Rattle.std.proofs.Common.{arith, ◌<◌, All, length, refl, sym, ◌∙◌, subst}
use Rattle.prover.specs.Splitting.{AreMarkedMore}
use Rattle.prover.proofs.Pieces.{line_at, marked_at, made_within}
use Rattle.prover.proofs.Searches.{view_variable, variable_within, search_constant, search_variable, search_apply}
use Rattle.prover.proofs.usage.search_line.Goals as goal

pub mark_all-requires : goal.mark_all-requires
mark_all-requires g c =
    let lines = c.args.lines.now in
    let line = c.index-lines-place.result in
    let here = line_at lines c.args.place line c.requires.place c.index-lines-place.is in
    subst (All (λ p. p < length c.args.parts.now)) (sym c.as_slice.ensures)
    (made_within (g.D.Domain.look c.args.d.now) lines c.requires.lines c.args.place line c.in-Apply.field-0 c.in-Apply.args (length c.args.parts.now) (omega (arith, c.requires.place, c.requires.parts)) here c.in-Apply.is)

pub view-requires : goal.view-requires
view-requires g c =
    let line = c.index-lines-place.result in
    (c.requires.lines c.args.place line (line_at c.args.lines.now c.args.place line c.requires.place c.index-lines-place.is)).valid

pub bounds-variables-index : goal.bounds-variables-index
bounds-variables-index g c =
    let line = c.index-lines-place.result in
    let valid = (c.requires.lines c.args.place line (line_at c.args.lines.now c.args.place line c.requires.place c.index-lines-place.is)).valid in
    let within = variable_within (g.D.Domain.look c.args.d.now) (g.D.Domain.variables c.args.d.now) (g.met.D.Symbolic.views c.args.d.now) line.node c.in-Variable.index valid (sym c.in-Variable.ensures) in
    omega (arith, within, c.requires.variables)

pub returns-in-Apply-clause-searched : goal.returns-in-Apply-clause-searched
returns-in-Apply-clause-searched g c = λ s before.
    let lines = c.args.lines.now in
    let line = c.index-lines-place.result in
    let here = line_at lines c.args.place line c.requires.place c.index-lines-place.is in
    let marked = marked_at c.args.parts.now c.args.place (omega (arith, c.requires.place, c.requires.parts)) c.if-not-parts-place.false in
    search_apply (g.D.Domain.look c.args.d.now) s lines c.requires.lines c.args.place line c.in-Apply.field-0 c.in-Apply.args here c.in-Apply.is c.args.parts.now c.mark_all.new.marks c.args.variables.now marked
    (subst (λ ps. AreMarkedMore ps c.args.parts.now c.mark_all.new.marks) c.as_slice.ensures c.mark_all.ensures.marked) before

pub returns-in-Variable-clause-searched : goal.returns-in-Variable-clause-searched
returns-in-Variable-clause-searched g c = λ s before.
    let line = c.index-lines-place.result in
    let here = line_at c.args.lines.now c.args.place line c.requires.place c.index-lines-place.is in
    let look = g.D.Domain.look c.args.d.now in
    let marked = marked_at c.args.parts.now c.args.place (omega (arith, c.requires.place, c.requires.parts)) c.if-not-parts-place.false in
    let valid = (c.requires.lines c.args.place line here).valid in
    let within = variable_within look (g.D.Domain.variables c.args.d.now) (g.met.D.Symbolic.views c.args.d.now) line.node c.in-Variable.index valid (sym c.in-Variable.ensures) in
    search_variable look s c.args.lines.now c.args.place c.in-Variable.index line c.args.parts.now c.args.variables.now here c.in-Leaf.is marked (sym c.in-Variable.ensures) (omega (arith, within, c.requires.variables)) before

pub returns-in_default : goal.returns-in_default
returns-in_default g c = record {
  parts_count = refl;
  variables_count = refl;
  searched = λ s before.
      let line = c.index-lines-place.result in
      let here = line_at c.args.lines.now c.args.place line c.requires.place c.index-lines-place.is in
      search_constant (g.D.Domain.look c.args.d.now) s c.args.lines.now c.args.place line c.args.parts.now c.args.variables.now here c.in-Leaf.is
      (λ i shown. c.in_default.not-Variable i (view_variable c.view.result i (c.view.ensures ∙ shown))) before;
}
