use Rattle.std.proofs.Common.{Some, None, refl, sym, ap}
use Rattle.std.proofs.lemmas.Bool.{iff_false}
use Rattle.rule_text.specs.declared.item.Item.TheVariants as item
use Rattle.program_text.specs.Rows.{RowsOf, program_loading}
use Rattle.program_text.proofs.Checks.{without_memory, told}
use Rattle.program_text.proofs.RowChecks.{unnamed, beyond, unsorted, double, lawful}
use Rattle.program_text.proofs.program_draft.ProgramDraft.row_of.Goals as goal

pub returns-in_default-clause-fault : goal.returns-in_default-clause-fault
returns-in_default-clause-fault g c = unnamed c.args.self.now c.args.name.now c.args.key c.args.raw.now (c.in_default.ensures.none c.args.key refl)

pub returns-then-not-is_within-clause-fault : goal.returns-then-not-is_within-clause-fault
returns-then-not-is_within-clause-fault g c =
    beyond c.args.self.now c.args.name.now c.args.key c.args.raw.now (c.in-Some.id, c.in-Some.table.now) c.in-Some.ensures.some.0 c.in-Some.ensures.some.1 (iff_false c.if-not-is_within.ensures refl)

pub returns-in_err-term-clause-fault : goal.returns-in_err-term-clause-fault
returns-in_err-term-clause-fault g c = without_memory program_loading c.args.self.now (item.Row c.args.name.now c.args.key c.args.raw.now) c.from_residual.result c.from_residual.ensures.1

pub returns-in_default-2-clause-fault : goal.returns-in_default-2-clause-fault
returns-in_default-2-clause-fault g c =
    let none = told _ _ _ c.in-Some.table.now.sort c.args.raw.now _ None (ap (λ (d : RowsOf). d.semantics) c.self.view_is) refl c.in_default-2.is c.in_ok-term.ensures in
    unsorted c.args.self.now c.args.name.now c.args.key c.args.raw.now (c.in-Some.id, c.in-Some.table.now) c.in-Some.ensures.some.0 c.in-Some.ensures.some.1 (c.if-not-is_within.ensures.0 refl) none

pub returns-then-has_key-clause-fault : goal.returns-then-has_key-clause-fault
returns-then-has_key-clause-fault g c =
    let sorted = told _ _ _ c.in-Some.table.now.sort c.args.raw.now _ (Some c.in-Some-2.term) (ap (λ (d : RowsOf). d.semantics) c.self.view_is) refl c.in-Some-2.is c.in_ok-term.ensures in
    double c.args.self.now c.args.name.now c.args.key c.args.raw.now (c.in-Some.id, c.in-Some.table.now) c.in-Some.ensures.some.0 c.in-Some.ensures.some.1 (c.if-not-is_within.ensures.0 refl) c.in-Some-2.term sorted (sym c.if-has_key.ensures)

pub returns-clause-taken : goal.returns-clause-taken
returns-clause-taken g c =
    let sorted = told _ _ _ c.in-Some.table.now.sort c.args.raw.now _ (Some c.in-Some-2.term) (ap (λ (d : RowsOf). d.semantics) c.self.view_is) refl c.in-Some-2.is c.in_ok-term.ensures in
    lawful c.args.self.now c.args.name.now c.args.key c.args.raw.now (c.in-Some.id, c.in-Some.table.now) c.in-Some.ensures.some.0 c.in-Some.ensures.some.1 (c.if-not-is_within.ensures.0 refl) c.in-Some-2.term sorted (sym c.if-has_key.ensures)
