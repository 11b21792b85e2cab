use Rattle.std.proofs.Common.{rules, ◌≡◌, ap, sym, ◌∙◌}
use Rattle.data_value.specs.declared.Value.TheVariants.{One}
use Rattle.unify.proofs.Equated.{conditions_kept, conditions_stay, none_added, added_same}
use Rattle.unify.proofs.matching.equate_literal.Goals as goal

pub equate-requires-clause-equations : goal.equate-requires-clause-equations
equate-requires-clause-equations g c =
    conditions_stay (g.D.Domain.look c.args.d.now) (g.D.Domain.look c.constant.new.self) c.in_ok-literal-in-None.ensures.extends c.args.equations.now c.requires.equations

pub returns-in-Some-clause-equal : goal.returns-in-Some-clause-equal
returns-in-Some-clause-equal g c = λ yes.
    let same : c.in-Some.known ≡ c.args.scalar = search rules in
    let means = (g.met.D.Domain.laws c.args.d.now).known c.args.node.now c.in-Some.known c.requires.node (sym c.in-Some.ensures) in
    none_added (g.D.Domain.variables c.args.d.now) _ _ c.requires.equations (λ v. means v ∙ ap One same)

pub returns-in_ok-equate-in-None-clause-equal : goal.returns-in_ok-equate-in-None-clause-equal
returns-in_ok-equate-in-None-clause-equal g c = λ yes.
    let look = g.D.Domain.look c.args.d.now in
    let mid = g.D.Domain.look c.constant.new.self in
    let made = c.in_ok-literal-in-None.ensures.made in
    let kept = c.in_ok-literal-in-None.ensures.extends.keeps c.args.node.now c.requires.node in
    added_same (g.D.Domain.variables c.args.d.now) (g.D.Domain.variables c.constant.new.self) _ _ _ _ _ c.in_ok-literal-in-None.ensures.same_variables
    (conditions_kept look mid c.in_ok-literal-in-None.ensures.extends c.args.equations.now c.requires.equations)
    (λ v. (λ e. sym (ap (λ s. s.meaning v) kept) ∙ e ∙ made.means v, λ e. ap (λ s. s.meaning v) kept ∙ e ∙ sym (made.means v)))
    c.in_ok-equate-in-None.ensures.equal
