use Rattle.std.proofs.Common.{subst}
use Rattle.std.proofs.lemmas.Bool.{iff_false}
use Rattle.rule_text.proofs.Firsts.{first_shape, first_name, first_limit}
use Rattle.semantics_load.specs.Loads.{semantics_loading}
use Rattle.semantics_load.specs.Names.{IsNamesIn}
use Rattle.semantics_load.proofs.checks.names_in_form.Goals as goal

pub returns-then-not-is_semantics_item-clause-fault : goal.returns-then-not-is_semantics_item-clause-fault
returns-then-not-is_semantics_item-clause-fault c = first_shape semantics_loading c.args.draft.now c.args.item.now (iff_false c.is_semantics_item.ensures c.if-not-is_semantics_item.true)

pub returns-in_default-clause-fault : goal.returns-in_default-clause-fault
returns-in_default-clause-fault c =
    first_name semantics_loading c.args.draft.now c.args.item.now (c.is_semantics_item.ensures.0 c.if-not-is_semantics_item.false)
    (subst (IsNamesIn c.args.draft.now c.args.item.now) c.in_default.is c.in_ok-names.ensures)

pub returns-then-is_within_limits-clause-ok : goal.returns-then-is_within_limits-clause-ok
returns-then-is_within_limits-clause-ok c =
    let named = subst (IsNamesIn c.args.draft.now c.args.item.now) c.in-Some.is c.in_ok-names.ensures in
    (record { shape = c.is_semantics_item.ensures.0 c.if-not-is_semantics_item.false; named = named.0; within = c.is_within_limits.ensures.0 c.if-is_within_limits.true }, named.1)

pub returns-else-is_within_limits-clause-fault : goal.returns-else-is_within_limits-clause-fault
returns-else-is_within_limits-clause-fault c =
    let named = subst (IsNamesIn c.args.draft.now c.args.item.now) c.in-Some.is c.in_ok-names.ensures in
    first_limit semantics_loading c.args.draft.now c.args.item.now (c.is_semantics_item.ensures.0 c.if-not-is_semantics_item.false) named.0 (iff_false c.is_within_limits.ensures c.if-is_within_limits.false)
