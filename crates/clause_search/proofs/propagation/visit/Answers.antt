use Rattle.std.proofs.Common.{◌∙◌, ap, sym, Some, List}
use Rattle.refute_check.specs.declared.lit.Lit.{Lit}
use Rattle.refute_check.specs.Derived.{clause_at}
use Rattle.clause_search.specs.Partial.{false_but}
use Rattle.clause_search.proofs.ClauseLemmas.{false_whole}
use Rattle.clause_search.proofs.TrailLemmas.{follows_pushed}
use Rattle.clause_search.proofs.propagation.visit.Goals as goal

pub returns-then-makes_false-clause-visit : goal.returns-then-makes_false-clause-visit
returns-then-makes_false-clause-visit c =
    let f = ap (λ (d : List Lit). false_but c.args.trail.now.values c.args.lit d) (sym c.clause.ensures.value) ∙ c.in_default.ensures in
    record { within = c.requires.number; falsified = false_whole c.args.trail.now.values c.args.lit (clause_at c.args.derivation.now.clauses c.args.number) f (sym c.if-makes_false.ensures) }

pub returns-in_ok-push-clause-follows : goal.returns-in_ok-push-clause-follows
returns-in_ok-push-clause-follows c =
    let f = ap (λ (d : List Lit). false_but c.args.trail.now.values c.args.lit d) (sym c.clause.ensures.value) ∙ c.in_default.ensures in
    follows_pushed c.args.derivation.now.clauses c.args.trail.now c.push.new.self (record { lit = c.args.lit; reason = Some c.args.number }) c.requires.trail (record { var = c.is_free.ensures.var c.if-is_free.true; undecided = c.is_free.ensures.undecided c.if-is_free.true; reason = (c.requires.number, f) }) c.in_ok-push.ensures
