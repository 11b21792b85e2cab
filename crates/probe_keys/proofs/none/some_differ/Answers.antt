use Rattle.std.proofs.Common.{◌≡◌, ◌+◌, ◌||◌, true, false, [], take, All, refl, sym, subst}
use Rattle.std.proofs.lemmas.List.{take_all}
use Rattle.std.proofs.lemmas.List.Elements.{All-nil}
use Rattle.data_value.specs.Nodes.{Seen}
use Rattle.data_value.specs.Truth.{IsTruth, IsCondition, truth}
use Rattle.data_value.proofs.Grown.{extends-same, extends-both}
use Rattle.probe_keys.specs.Cases.{seen_pair, seen_pairs, AreMaps, AreSame}
use Rattle.probe_keys.specs.Probed.{IsProbed}
use Rattle.probe_keys.proofs.Lengthened.{settled, begins_both, begins_same}
use Rattle.probe_keys.proofs.Probing.{falsity_probed, either_probed, probed_same, probed_of}
use Rattle.probe_keys.proofs.Holding.{pair_stays, same_longer}
use Rattle.probe_keys.proofs.Turns.{item_at, all_more}
use Rattle.probe_keys.proofs.none.some_differ.Goals as goal

pub loop-pair-init : goal.loop-pair-init
loop-pair-init g c =
    let look = g.D.Domain.look c.args.d.now in
    let variables = g.D.Domain.variables c.args.d.now in
    let s = look c.args.first in
    record {
      extends = extends-same look;
      begins = begins_same variables variables refl;
      some = probed_same variables variables (λ v. true) (λ v. truth s v ≡ false) (λ v. (truth s v ≡ false) × All (AreSame v) (seen_pairs look [])) s (λ v fits. (λ e. (e, All-nil (AreSame v)), λ p. p.0))
          (falsity_probed variables s (settled look variables (g.met.D.Symbolic.views c.args.d.now) c.args.first c.requires.first.valid) c.requires.first);
    }

pub differ-requires : goal.differ-requires
differ-requires g c =
    let look = g.D.Domain.look in
    let first = look c.args.d.now in
    let now = look c.loop-pair.d in
    let here = item_at AreMaps (seen_pair first) c.args.pairs.now c.loop-pair.pair-index c.pair-item.result c.loop-pair-test.true c.pair-item.is c.requires.pairs in
    subst AreMaps (sym (pair_stays first now c.loop-pair.invariant.extends c.pair-item.result here)) here

pub returns-in_err-differs-clause-extends : goal.returns-in_err-differs-clause-extends
returns-in_err-differs-clause-extends g c = extends-both _ _ _ c.loop-pair.invariant.extends c.in_err-differs.ensures.extends

pub returns-in_err-differs-clause-begins : goal.returns-in_err-differs-clause-begins
returns-in_err-differs-clause-begins g c = begins_both _ _ _ c.loop-pair.invariant.begins c.in_err-differs.ensures.begins

pub either-requires-clause-first : goal.either-requires-clause-first
either-requires-clause-first g c =
    subst IsCondition (sym (c.in_ok-differs.ensures.extends.keeps c.loop-pair.joined c.loop-pair.invariant.some.condition.valid)) c.loop-pair.invariant.some.condition

pub returns-in_err-joined-clause-extends : goal.returns-in_err-joined-clause-extends
returns-in_err-joined-clause-extends g c = extends-both _ _ _ c.loop-pair.invariant.extends (extends-both _ _ _ c.in_ok-differs.ensures.extends c.in_err-joined.ensures.extends)

pub returns-in_err-joined-clause-begins : goal.returns-in_err-joined-clause-begins
returns-in_err-joined-clause-begins g c =
    begins_both _ _ _ (begins_both _ _ _ c.loop-pair.invariant.begins c.in_ok-differs.ensures.begins) (begins_same _ _ c.in_err-joined.ensures.same_variables)

pub loop-pair-preserved : goal.loop-pair-preserved
loop-pair-preserved g c =
    let look = g.D.Domain.look in
    let variables = g.D.Domain.variables in
    let first = look c.args.d.now in
    let now = look c.loop-pair.d in
    let made = look c.differ.new.d in
    let after = look c.either.new.d in
    let before = variables c.args.d.now in
    let middle = variables c.loop-pair.d in
    let grown = variables c.differ.new.d in
    let pairs = c.args.pairs.now in
    let i = c.loop-pair.pair-index in
    let pair = c.pair-item.result in
    let here = item_at AreMaps (seen_pair first) pairs i pair c.loop-pair-test.true c.pair-item.is c.requires.pairs in
    let s = now c.loop-pair.joined in
    let t = made c.in_ok-differs.differs in
    let u = after c.in_ok-joined.joined in
    let so_far : IsProbed before middle (λ v. true) (λ v. (truth (first c.args.first) v ≡ false) × All (AreSame v) (seen_pairs first (take i pairs))) s = c.loop-pair.invariant.some in
    let one : IsProbed middle grown (λ v. true) (λ v. AreSame v (seen_pair first pair)) t = subst (λ p. IsProbed middle grown (λ v. true) (λ v. AreSame v p) t) (pair_stays first now c.loop-pair.invariant.extends pair here) c.in_ok-differs.ensures.differ in
    let kept : made c.loop-pair.joined ≡ s = c.in_ok-differs.ensures.extends.keeps c.loop-pair.joined so_far.condition.valid in
    let joins : IsTruth u (λ v. truth s v || truth t v) = subst (λ (x : Seen _). IsTruth u (λ v. truth x v || truth t v)) kept c.in_ok-joined.ensures.means in
    let both = either_probed before middle grown (λ v. (truth (first c.args.first) v ≡ false) × All (AreSame v) (seen_pairs first (take i pairs))) (λ v. AreSame v (seen_pair first pair)) s t u so_far one
    (same_longer first before (g.met.D.Symbolic.views c.args.d.now) pair here) (settled now middle (g.met.D.Symbolic.views c.loop-pair.d) c.loop-pair.joined so_far.condition.valid)
    (g.met.D.Domain.laws c.loop-pair.d).sorts (g.met.D.Domain.laws c.differ.new.d).sorts joins in
    record {
      extends = extends-both _ _ _ c.loop-pair.invariant.extends (extends-both _ _ _ c.in_ok-differs.ensures.extends c.in_ok-joined.ensures.extends);
      begins = begins_both _ _ _ (begins_both _ _ _ c.loop-pair.invariant.begins c.in_ok-differs.ensures.begins) (begins_same _ _ c.in_ok-joined.ensures.same_variables);
      some = probed_of before grown (variables c.either.new.d) (λ v. true) (λ v. (truth (first c.args.first) v ≡ false) × All (AreSame v) (seen_pairs first (take (i + 1) pairs))) u c.in_ok-joined.ensures.same_variables
          (probed_same before grown (λ v. true) (λ v. ((truth (first c.args.first) v ≡ false) × All (AreSame v) (seen_pairs first (take i pairs))) × AreSame v (seen_pair first pair)) (λ v. (truth (first c.args.first) v ≡ false) × All (AreSame v) (seen_pairs first (take (i + 1) pairs))) u
          (λ v fits.
          let turn = all_more (AreSame v) (seen_pair first) pairs i pair c.loop-pair-test.true c.pair-item.is in
          (λ p. (p.0.0, turn.1 (p.0.1, p.1)), λ p. let r = turn.0 p.1 in ((p.0, r.0), r.1)))
          both);
    }

pub returns-clause-extends : goal.returns-clause-extends
returns-clause-extends g c = c.loop-pair.invariant.extends

pub returns-clause-begins : goal.returns-clause-begins
returns-clause-begins g c = c.loop-pair.invariant.begins

pub returns-clause-some : goal.returns-clause-some
returns-clause-some g c =
    let first = g.D.Domain.look c.args.d.now in
    let variables = g.D.Domain.variables in
    subst (λ ps. IsProbed (variables c.args.d.now) (variables c.loop-pair.d) (λ v. true) (λ v. (truth (first c.args.first) v ≡ false) × All (AreSame v) (seen_pairs first ps)) (g.D.Domain.look c.loop-pair.d c.loop-pair.joined))
    (take_all c.loop-pair.pair-index c.args.pairs.now c.loop-pair-test.false) c.loop-pair.invariant.some
