use Rattle.std.proofs.Common.{Some, None, refl, sym, subst}
use Rattle.std.proofs.lemmas.Bool.{iff_false}
use Rattle.rule_text.specs.Faults.{IsFirstIn, TakesItem}
use Rattle.rule_text.specs.declared.error.ItemFault.TheVariants as fault
use Rattle.rule_text.specs.declared.item.Item.TheVariants as item
use Rattle.sort_term.specs.declared.term.Sort.TheVariants.{Own}
use Rattle.program_text.specs.States.{StartOf, start_loading}
use Rattle.program_text.proofs.Checks.{without_memory, told}
use Rattle.program_text.proofs.StartChecks.{second, unnamed, beyond, unsorted, lawful}
use Rattle.program_text.proofs.start_draft.StartDraft.tree_of.Goals as goal

pub returns-then-is_some-clause-fault : goal.returns-then-is_some-clause-fault
returns-then-is_some-clause-fault g c =
    subst (λ d. IsFirstIn start_loading d (item.Start c.args.raw.now) fault.Shape) c.self.view_is (second (record { semantics = c.self.inside.reader; tree = c.self.inside.tree }) c.args.raw.now (sym c.if-is_some.ensures))

pub returns-then-not-is_named-clause-fault : goal.returns-then-not-is_named-clause-fault
returns-then-not-is_named-clause-fault g c =
    subst (λ d. IsFirstIn start_loading d (item.Start c.args.raw.now) fault.Name) c.self.view_is (unnamed (record { semantics = c.self.inside.reader; tree = c.self.inside.tree }) c.args.raw.now (sym c.if-is_some.ensures) (sym c.if-not-is_named.ensures))

pub returns-then-not-is_within-clause-fault : goal.returns-then-not-is_within-clause-fault
returns-then-not-is_within-clause-fault g c =
    subst (λ d. IsFirstIn start_loading d (item.Start c.args.raw.now) fault.Limit) c.self.view_is (beyond (record { semantics = c.self.inside.reader; tree = c.self.inside.tree }) c.args.raw.now (sym c.if-is_some.ensures) (sym c.if-not-is_named.ensures) (iff_false c.if-not-is_within.ensures refl))

pub returns-in_err-tree-clause-fault : goal.returns-in_err-tree-clause-fault
returns-in_err-tree-clause-fault g c = without_memory start_loading c.args.self.now (item.Start c.args.raw.now) c.from_residual.result c.from_residual.ensures.1

pub returns-in-None-clause-fault : goal.returns-in-None-clause-fault
returns-in-None-clause-fault g c =
    let none = told _ c.self.inside.reader _ (Own c.self.inside.reader.config) c.args.raw.now _ None refl c.state_sort-sort.ensures c.in-None.is c.in_ok-tree.ensures in
    subst (λ d. IsFirstIn start_loading d (item.Start c.args.raw.now) fault.Sort) c.self.view_is (unsorted (record { semantics = c.self.inside.reader; tree = c.self.inside.tree }) c.args.raw.now (sym c.if-is_some.ensures) (sym c.if-not-is_named.ensures) (c.if-not-is_within.ensures.0 refl) none)

pub returns-in-Some-clause-taken : goal.returns-in-Some-clause-taken
returns-in-Some-clause-taken g c =
    let sorted = told _ c.self.inside.reader _ (Own c.self.inside.reader.config) c.args.raw.now _ (Some c.in-Some.tree) refl c.state_sort-sort.ensures c.in-Some.is c.in_ok-tree.ensures in
    let made = lawful (record { semantics = c.self.inside.reader; tree = c.self.inside.tree }) c.args.raw.now (sym c.if-is_some.ensures) (sym c.if-not-is_named.ensures) (c.if-not-is_within.ensures.0 refl) c.in-Some.tree sorted in
    subst (λ (d : StartOf). TakesItem start_loading d (item.Start c.args.raw.now) (record { semantics = d.semantics; tree = Some c.in-Some.tree })) c.self.view_is made
