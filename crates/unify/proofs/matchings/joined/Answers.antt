use Rattle.std.proofs.Common.{false, map, All, [], ◌∷◌, ◌++◌, sym, subst, ap, ◌∙◌}
use Rattle.std.specs.List.{list_any}
use Rattle.data_value.specs.Truth.{IsCondition}
use Rattle.unify.specs.Equations.{known_as}
use Rattle.unify.proofs.KnownEquations.{dead_untrue}
use Rattle.sort_term.specs.Stands.{times}
use Rattle.sort_term.specs.NodeTerms.{seen_term}
use Rattle.unify.specs.Meets.{seen_matching, Equals}
use Rattle.unify.specs.Matchings.{seen_matchings, GoOn}
use Rattle.unify.proofs.GoingOn.{joined_on, apart_on, dead_on}
use Rattle.unify.specs.Scopes.{scope_of}
use Rattle.unify.proofs.matchings.joined.Goals as goal

pub returns-then-not-branch-clause-matchings : goal.returns-then-not-branch-clause-matchings
returns-then-not-branch-clause-matchings g c =
    let old = g.D.Domain.look c.args.d.now in
    let now = g.D.Domain.look c.join.new.d in
    let m = seen_matching old c.args.matching in
    let t = seen_term old c.args.term.now in
    subst (λ ms. GoOn (scope_of c.args.semantics.now.cons c.args.vars.now (g.D.Domain.variables c.args.d.now)) m (λ i. times i c.args.pattern.now) (Equals c.args.pattern.now t) (seen_matchings now ms)) (sym c.new.ensures)
    (apart_on c.args.semantics.now.cons c.args.vars.now (g.D.Domain.variables c.args.d.now) c.args.pattern.now t m (seen_matching now c.join.new.matching) (rw c.if-not-branch.true at c.in_ok-join.ensures.answer))

pub are_dead-requires : goal.are_dead-requires
are_dead-requires g c =
    let now = g.D.Domain.look c.join.new.d in
    let a = rw c.if-not-branch.false at c.in_ok-join.ensures.answer in
    subst (λ es. All IsCondition (map now es)) (sym c.as_slice.ensures) a.lawful.equations

pub returns-then-are_dead-clause-matchings : goal.returns-then-are_dead-clause-matchings
returns-then-are_dead-clause-matchings g c =
    let old = g.D.Domain.look c.args.d.now in
    let now = g.D.Domain.look c.join.new.d in
    let m = seen_matching old c.args.matching in
    let t = seen_term old c.args.term.now in
    let a = rw c.if-not-branch.false at c.in_ok-join.ensures.answer in
    let dead = ap (λ es. list_any (known_as false) (map now es)) (sym c.as_slice.ensures) ∙ sym c.are_dead.ensures ∙ c.if-are_dead.true in
    subst (λ ms. GoOn (scope_of c.args.semantics.now.cons c.args.vars.now (g.D.Domain.variables c.args.d.now)) m (λ i. times i c.args.pattern.now) (Equals c.args.pattern.now t) (seen_matchings now ms)) (sym c.new-then-are_dead.ensures)
    (dead_on c.args.semantics.now.cons c.args.vars.now (g.D.Domain.variables c.args.d.now) c.args.pattern.now t m (seen_matching now c.join.new.matching) a
    (dead_untrue now (g.D.Domain.variables c.join.new.d) (g.met.D.Domain.laws c.join.new.d) c.join.new.matching.equations a.lawful.equations dead))

pub returns-clause-matchings : goal.returns-clause-matchings
returns-clause-matchings g c =
    let old = g.D.Domain.look c.args.d.now in
    let now = g.D.Domain.look c.join.new.d in
    let m = seen_matching old c.args.matching in
    let t = seen_term old c.args.term.now in
    subst (λ ms. GoOn (scope_of c.args.semantics.now.cons c.args.vars.now (g.D.Domain.variables c.args.d.now)) m (λ i. times i c.args.pattern.now) (Equals c.args.pattern.now t) (seen_matchings now ms)) (sym (c.in_ok-push.ensures.ok ∙ ap (λ ms. ms ++ c.join.new.matching ∷ []) c.new-matchings.ensures))
    (joined_on c.args.semantics.now.cons c.args.vars.now (g.D.Domain.variables c.args.d.now) c.args.pattern.now t m (seen_matching now c.join.new.matching) (rw c.if-not-branch.false at c.in_ok-join.ensures.answer))
