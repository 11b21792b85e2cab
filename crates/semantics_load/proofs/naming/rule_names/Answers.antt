use Rattle.std.proofs.Common.{subst}
use Rattle.name_resolution.specs.Named.{IsNamesOf}
use Rattle.semantics_load.proofs.RuleParts.{true_and_false, told_by, sorts_named, terms_named, rule_named}
use Rattle.semantics_load.proofs.naming.rule_names.Goals as goal
use Rattle.semantics_load.proofs.naming.rule_names.Goals.{else-are_sorts_named-via-then-are_sorts_named+else-are_terms_named, else-are_sorts_named-via-else-are_sorts_named}

pub returns-in_default : goal.returns-in_default
returns-in_default c = λ h. subst (IsNamesOf c.args.vars.now) c.in_default.is c.in_ok-names.ensures h.2.vars_named.names

pub returns-then-are_terms_named : goal.returns-then-are_terms_named
returns-then-are_terms_named c =
    let of = subst (IsNamesOf c.args.vars.now) c.in-Some.is c.in_ok-names.ensures in
    rule_named _ _ c.in-Some.names c.args.name.now c.args.vars.now _ _ _ c.known-known.ensures of (told_by _ _ _ c.config.ensures c.is_none.ensures c.if-is_none.false) (c.is_new_rule.ensures.0 c.if-not-is_new_rule.false) (c.are_sorts_named.ensures.0 c.if-are_sorts_named.true) (c.are_terms_named.ensures.0 c.if-are_terms_named.true)

pub returns-else-are_sorts_named : goal.returns-else-are_sorts_named
returns-else-are_sorts_named c =
    let of = subst (IsNamesOf c.args.vars.now) c.in-Some.is c.in_ok-names.ensures in
    elim c.else-are_sorts_named.branch [
      | else-are_sorts_named-via-then-are_sorts_named+else-are_terms_named w ↦ λ h. true_and_false _ (w.are_terms_named.ensures.1 (terms_named _ _ c.in-Some.names c.args.name.now c.args.vars.now _ _ _ c.known-known.ensures of h)) w.if-are_terms_named.false
      | else-are_sorts_named-via-else-are_sorts_named w ↦ λ h. true_and_false _ (c.are_sorts_named.ensures.1 (sorts_named _ _ c.in-Some.names c.args.name.now c.args.vars.now _ _ _ c.known-known.ensures of h)) w.if-are_sorts_named.false
    ]
