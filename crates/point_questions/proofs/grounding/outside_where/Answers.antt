use Rattle.std.proofs.Common.{◌≡◌, ◌&&◌, subst}
use Rattle.data_value.specs.Truth.{IsTruth, truth}
use Rattle.sort_term.specs.NodeTerms.{seen_term}
use Rattle.point_questions.proofs.Asking.{outside_asked}
use Rattle.point_questions.proofs.grounding.outside_where.Goals as goal

pub returns-clause-outside : goal.returns-clause-outside
returns-clause-outside g c =
    let look = g.D.Domain.look in
    let first = look c.args.d.now in
    let middle = look c.outside.new.d in
    let e = middle c.in_ok-elsewhere.elsewhere in
    let s = look c.both.new.d c.in_ok-both.field-0 in
    let kept : middle c.args.condition.now ≡ first c.args.condition.now = c.in_ok-elsewhere.ensures.extends.keeps c.args.condition.now c.requires.condition.valid in
    outside_asked (g.D.Domain.variables c.args.d.now) c.args.semantics.now.cons c.args.cuts.now (seen_term first c.args.config.now.term) (first c.args.condition.now) e s
    c.in_ok-elsewhere.ensures.outside (subst (λ u. IsTruth s (λ v. truth u v && truth e v)) kept c.in_ok-both.ensures.means)
