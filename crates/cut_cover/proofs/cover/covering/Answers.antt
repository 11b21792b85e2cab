use Rattle.std.proofs.Common.{◌≡◌, ◌&&◌, map, All, sym, subst}
use Rattle.data_value.specs.Nodes.{IsLawful}
use Rattle.data_value.specs.Truth.{IsTruth, all_true, truth}
use Rattle.data_value.proofs.Grown.{extends-both}
use Rattle.sort_term.specs.NodeTerms.{seen_term}
use Rattle.sort_term.specs.Cuts.{AllTrue}
use Rattle.unify.specs.Binds.{seen_binds}
use Rattle.unify.specs.Meets.{IsMeet}
use Rattle.unify.specs.Scopes.{scope_of}
use Rattle.unify.proofs.Binding.{binds_valid}
use Rattle.unify.proofs.Evaluated.{binds_stay, valid_stay}
use Rattle.cut_cover.specs.Conditions.{IsBoundCondition, IsTrueWhere}
use Rattle.cut_cover.proofs.Covered.{apart_covers, whens_bound, meets_covers}
use Rattle.cut_cover.proofs.cover.covering.Goals as goal

pub all_hold-requires-clause-valid : goal.all_hold-requires-clause-valid
all_hold-requires-clause-valid g c =
    let look = g.D.Domain.look in
    let cons = c.args.semantics.now.cons in
    let item = c.args.item.now in
    let met = subst (IsMeet (scope_of cons item.vars (g.D.Domain.variables c.args.d.now)) (look c.unify.new.d) item.pattern (seen_term (look c.args.d.now) c.args.config.now.term)) c.in-Meets.is (rw c.term.ensures at c.in_ok-unify.ensures.meet) in
    valid_stay (look c.unify.new.d) (look c.all.new.d) c.in_ok-equal-in-Meets.ensures.extends c.in-Meets.binds (binds_valid cons item.vars _ met.lawful)

pub all_hold-requires-clause-conditions : goal.all_hold-requires-clause-conditions
all_hold-requires-clause-conditions g c =
    let look = g.D.Domain.look in
    let cons = c.args.semantics.now.cons in
    let item = c.args.item.now in
    let binds = c.in-Meets.binds in
    let variables = g.D.Domain.variables c.args.d.now in
    let t = seen_term (look c.args.d.now) c.args.config.now.term in
    let met = subst (IsMeet (scope_of cons item.vars variables) (look c.unify.new.d) item.pattern t) c.in-Meets.is (rw c.term.ensures at c.in_ok-unify.ensures.meet) in
    let same = binds_stay (look c.unify.new.d) (look c.all.new.d) c.in_ok-equal-in-Meets.ensures.extends binds (binds_valid cons item.vars _ met.lawful) in
    let bound = whens_bound variables c.args.semantics.now item t c.requires.item (look c.unify.new.d) binds (map (look c.unify.new.d) c.in-Meets.equations) met in
    subst (All (IsBoundCondition cons (seen_binds (look c.all.new.d) binds))) (sym c.as_slice-in-Meets.ensures) (subst (λ bs. All (IsBoundCondition cons bs) item.whens) (sym same) bound)

pub returns-in_err-holding-in-Meets-clause-extends : goal.returns-in_err-holding-in-Meets-clause-extends
returns-in_err-holding-in-Meets-clause-extends g c =
    extends-both _ _ _ c.in_ok-unify.ensures.extends (extends-both _ _ _ c.in_ok-equal-in-Meets.ensures.extends c.in_err-holding-in-Meets.ensures.extends)

pub returns-in_err-both-in-Meets-clause-extends : goal.returns-in_err-both-in-Meets-clause-extends
returns-in_err-both-in-Meets-clause-extends g c =
    extends-both _ _ _ c.in_ok-unify.ensures.extends (extends-both _ _ _ c.in_ok-equal-in-Meets.ensures.extends (extends-both _ _ _ c.in_ok-holding-in-Meets.ensures.extends c.in_err-both-in-Meets.ensures.extends))

pub returns-in_ok-flag-in-Apart-clause-covering : goal.returns-in_ok-flag-in-Apart-clause-covering
returns-in_ok-flag-in-Apart-clause-covering g c =
    let look = g.D.Domain.look in
    let cons = c.args.semantics.now.cons in
    let item = c.args.item.now in
    let variables = g.D.Domain.variables c.args.d.now in
    let t = seen_term (look c.args.d.now) c.args.config.now.term in
    apart_covers variables c.args.semantics.now item t c.requires.item
    (subst (IsMeet (scope_of cons item.vars variables) (look c.unify.new.d) item.pattern t) c.in-Apart.is (rw c.term.ensures at c.in_ok-unify.ensures.meet))
    (look c.flag.new.d c.in_ok-flag-in-Apart.field-0) c.in_ok-flag-in-Apart.ensures.means

pub returns-in_ok-both-in-Meets-clause-extends : goal.returns-in_ok-both-in-Meets-clause-extends
returns-in_ok-both-in-Meets-clause-extends g c =
    extends-both _ _ _ c.in_ok-unify.ensures.extends (extends-both _ _ _ c.in_ok-equal-in-Meets.ensures.extends (extends-both _ _ _ c.in_ok-holding-in-Meets.ensures.extends c.in_ok-both-in-Meets.ensures.extends))

pub returns-in_ok-both-in-Meets-clause-covering : goal.returns-in_ok-both-in-Meets-clause-covering
returns-in_ok-both-in-Meets-clause-covering g c =
    let look = g.D.Domain.look in
    let sys = c.args.semantics.now in
    let item = c.args.item.now in
    let binds = c.in-Meets.binds in
    let variables = g.D.Domain.variables c.args.d.now in
    let t = seen_term (look c.args.d.now) c.args.config.now.term in
    let met_in = look c.unify.new.d in
    let equal_in = look c.all.new.d in
    let holding_in = look c.all_hold.new.d in
    let equations = map met_in c.in-Meets.equations in
    let met = subst (IsMeet (scope_of sys.cons item.vars variables) met_in item.pattern t) c.in-Meets.is (rw c.term.ensures at c.in_ok-unify.ensures.meet) in
    let same = binds_stay met_in equal_in c.in_ok-equal-in-Meets.ensures.extends binds (binds_valid sys.cons item.vars _ met.lawful) in
    let laws : IsLawful met_in variables = subst (IsLawful met_in) c.in_ok-unify.ensures.same_variables (g.met.D.Domain.laws c.unify.new.d) in
    let equal = equal_in c.in_ok-equal-in-Meets.equal in
    let holding = holding_in c.in_ok-holding-in-Meets.holding in
    let next = look c.both.new.d c.in_ok-both-in-Meets.field-0 in
    let all : IsTruth equal (all_true equations) = subst (λ ns. IsTruth equal (all_true (map met_in ns))) c.as_slice.ensures c.in_ok-equal-in-Meets.ensures.means in
    let holds : IsTrueWhere (seen_binds met_in binds) (λ w. AllTrue w item.whens) holding =
    subst (λ es. IsTrueWhere (seen_binds met_in binds) (λ w. AllTrue w es) holding) c.as_slice-in-Meets.ensures
    (subst (λ bs. IsTrueWhere bs (λ w. AllTrue w c.as_slice-in-Meets.result.now) holding) same c.in_ok-holding-in-Meets.ensures.holding) in
    let kept : holding_in c.in_ok-equal-in-Meets.equal ≡ equal = c.in_ok-holding-in-Meets.ensures.extends.keeps c.in_ok-equal-in-Meets.equal all.condition.valid in
    let joins : IsTruth next (λ v. truth equal v && truth holding v) = subst (λ u. IsTruth next (λ v. truth u v && truth holding v)) kept c.in_ok-both-in-Meets.ensures.means in
    meets_covers variables sys item t c.requires.item met_in binds equations met laws equal holding next all holds joins
