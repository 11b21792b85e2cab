use Rattle.std.proofs.Common.{subst}
use Rattle.data_value.specs.Nodes.{IsLawful}
use Rattle.data_value.specs.declared.DataSort.TheVariants.{Bits as BitsSort}
use Rattle.data_value.specs.Sorts.{IsSort}
use Rattle.data_value.proofs.NodeLemmas.{has_sort}
use Rattle.unify.proofs.KeyTests.{is_sorted, key_stays, key_scalar, same_sorts, test_is}
use Rattle.unify.proofs.constants.key_test.Goals as goal

pub constant-requires : goal.constant-requires
constant-requires g c =
    let ok = is_sorted (g.D.Domain.look c.args.d.now c.args.key.now) (BitsSort c.args.width) c.requires.key in
    (subst IsSort ok.1 (has_sort (g.D.Domain.look c.args.d.now) (g.D.Domain.variables c.args.d.now) (g.met.D.Domain.laws c.args.d.now) c.args.key.now ok.0), c.requires.number)

pub equal-requires-clause-first : goal.equal-requires-clause-first
equal-requires-clause-first g c =
    key_stays (g.D.Domain.look c.args.d.now) (g.D.Domain.look c.constant.new.self) c.in_ok-literal.ensures.extends c.args.key.now c.args.width c.requires.key

pub equal-requires-clause-scalar : goal.equal-requires-clause-scalar
equal-requires-clause-scalar g c =
    key_scalar (g.D.Domain.look c.args.d.now) (g.D.Domain.look c.constant.new.self) c.in_ok-literal.ensures.extends (g.D.Domain.variables c.args.d.now) c.args.key.now c.in_ok-literal.literal c.args.width c.args.number c.requires.key c.in_ok-literal.ensures.made

pub equal-requires-clause-same_sort : goal.equal-requires-clause-same_sort
equal-requires-clause-same_sort g c =
    same_sorts (g.D.Domain.look c.args.d.now) (g.D.Domain.look c.constant.new.self) c.in_ok-literal.ensures.extends (g.D.Domain.variables c.args.d.now) c.args.key.now c.in_ok-literal.literal c.args.width c.args.number c.requires.key c.in_ok-literal.ensures.made

pub returns-clause-test : goal.returns-clause-test
returns-clause-test g c =
    test_is (g.D.Domain.look c.args.d.now) (g.D.Domain.look c.constant.new.self) c.in_ok-literal.ensures.extends (g.D.Domain.variables c.args.d.now) c.args.key.now c.in_ok-literal.literal c.args.width c.args.number c.requires.key c.in_ok-literal.ensures.made
    (g.D.Domain.look c.equal.new.d c.in_ok-equal.field-0) c.in_ok-equal.ensures.means (subst (IsLawful (g.D.Domain.look c.constant.new.self)) c.in_ok-literal.ensures.same_variables (g.met.D.Domain.laws c.constant.new.self))
