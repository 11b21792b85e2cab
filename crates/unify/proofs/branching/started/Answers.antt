use Rattle.std.proofs.Common.{ℕ, List, Option, length, None, sym, subst, ap, ◌∙◌}
use Rattle.std.specs.Prelude.{replicate}
use Rattle.sort_term.specs.declared.term.Term.{Term}
use Rattle.sort_term.specs.Stands.{times}
use Rattle.sort_term.specs.NodeTerms.{seen_term}
use Rattle.unify.specs.Meets.{IsMatching, RebindsOnlyScalars, Equals}
use Rattle.unify.specs.Matchings.{seen_matchings, GoOn}
use Rattle.unify.proofs.Starting.{seen_nothing, nothing_lawful, nothing_repeats, head_some, has_started}
use Rattle.unify.specs.Scopes.{scope_of}
use Rattle.unify.proofs.branching.started.Goals as goal

pub joined-requires-clause-pattern : goal.joined-requires-clause-pattern
joined-requires-clause-pattern g c = head_some c.args.semantics.now c.args.rule.now c.requires.rule

pub joined-requires-clause-term : goal.joined-requires-clause-term
joined-requires-clause-term g c = c.requires.term.is ∙ sym c.requires.rule.sorted.head.is

pub joined-requires-clause-matching : goal.joined-requires-clause-matching
joined-requires-clause-matching g c =
    let look = g.D.Domain.look c.args.d.now in
    let vars = c.args.rule.now.vars in
    subst (IsMatching c.args.semantics.now.cons vars) (sym (seen_nothing look (length vars) (record { binds = c.in_ok-unbound.field-0; equations = c.new.result }) (c.in_ok-unbound.ensures ∙ ap (λ (n : ℕ). let bs : List (Option (Term g.row.D-Node.Denot)) = replicate n None in bs) c.len.ensures) c.new.ensures)) (nothing_lawful g.row.D-Node.Denot c.args.semantics.now.cons vars)

pub joined-requires-clause-repeats : goal.joined-requires-clause-repeats
joined-requires-clause-repeats g c =
    let look = g.D.Domain.look c.args.d.now in
    let r = c.args.rule.now in
    subst (λ x. RebindsOnlyScalars r.vars x.binds (λ i. times i r.head)) (sym (seen_nothing look (length r.vars) (record { binds = c.in_ok-unbound.field-0; equations = c.new.result }) (c.in_ok-unbound.ensures ∙ ap (λ (n : ℕ). let bs : List (Option (Term g.row.D-Node.Denot)) = replicate n None in bs) c.len.ensures) c.new.ensures)) (nothing_repeats g.row.D-Node.Denot c.args.semantics.now r c.requires.rule)

pub returns-clause-matchings : goal.returns-clause-matchings
returns-clause-matchings g c =
    let look = g.D.Domain.look c.args.d.now in
    let r = c.args.rule.now in
    let s = seen_term look c.args.term.now in
    let ms = seen_matchings (g.D.Domain.look c.joined.new.d) c.in_ok-joined.field-0 in
    has_started c.args.semantics.now r (g.D.Domain.variables c.args.d.now) s ms
    (subst (λ x. GoOn (scope_of c.args.semantics.now.cons r.vars (g.D.Domain.variables c.args.d.now)) x (λ i. times i r.head) (Equals r.head s) ms) (seen_nothing look (length r.vars) (record { binds = c.in_ok-unbound.field-0; equations = c.new.result }) (c.in_ok-unbound.ensures ∙ ap (λ (n : ℕ). let bs : List (Option (Term g.row.D-Node.Denot)) = replicate n None in bs) c.len.ensures) c.new.ensures) c.in_ok-joined.ensures.matchings)
