use Rattle.std.proofs.Common.{◌≡◌, true, false, not, List, All, sym, ap, ◌∙◌, subst}
use Rattle.data_value.specs.declared.Value.{Value}
use Rattle.data_value.specs.Truth.{truth}
use Rattle.probe_keys.specs.Cases.{seen_pairs, seen_case, AreMaps, AreSame, HoldsAt}
use Rattle.probe_keys.specs.Probed.{IsProbed}
use Rattle.probe_keys.proofs.Lengthened.{settled}
use Rattle.probe_keys.proofs.Probing.{falsity_probed, probed_same}
use Rattle.probe_keys.proofs.Holding.{pairs_stay, case_from}
use Rattle.probe_keys.proofs.none.excluded.Goals as goal

pub some_differ-requires-clause-pairs : goal.some_differ-requires-clause-pairs
some_differ-requires-clause-pairs g c =
    let look = g.D.Domain.look in
    let maps = c.args.case.now.maps in
    let same = pairs_stay (look c.args.d.now) (look c.negation.new.d) c.in_ok-untested.ensures.extends maps c.requires.maps in
    subst (λ ps. All AreMaps (seen_pairs (look c.negation.new.d) ps)) (sym c.as_slice.ensures) (subst (All AreMaps) (sym same) c.requires.maps)

pub returns-then-is_known_true-clause-excluded : goal.returns-then-is_known_true-clause-excluded
returns-then-is_known_true-clause-excluded g c =
    let look = g.D.Domain.look in
    let variables = g.D.Domain.variables in
    let before = variables c.args.d.now in
    let after = variables c.negation.new.d in
    let case = seen_case (look c.args.d.now) c.args.case.now in
    let means = c.in_ok-untested.ensures.means in
    let s = look c.negation.new.d c.in_ok-untested.untested in
    let never : (v : List Value) → truth s v ≡ false → HoldsAt v case = λ v e. let yes : truth s v ≡ true = c.is_known_true.ensures.means c.if-is_known_true.true v in absurd (cc) in
    subst (λ ss. IsProbed ss after (λ v. true) (λ v. HoldsAt v case) s) c.in_ok-untested.ensures.same_variables
    (probed_same after after (λ v. true) (λ v. truth s v ≡ false) (λ v. HoldsAt v case) s (λ v fits. (never v, λ h. means.means v ∙ ap not h.on))
    (falsity_probed after s (settled (look c.negation.new.d) after (g.met.D.Symbolic.views c.negation.new.d) c.in_ok-untested.untested means.condition.valid) means.condition))

pub returns-clause-excluded : goal.returns-clause-excluded
returns-clause-excluded g c =
    let look = g.D.Domain.look in
    let variables = g.D.Domain.variables in
    let first = look c.args.d.now in
    let negated = look c.negation.new.d in
    let before = variables c.args.d.now in
    let after = variables c.some_differ.new.d in
    let case = c.args.case.now in
    let untested = negated c.in_ok-untested.untested in
    let n = look c.some_differ.new.d c.in_ok-some_differ.field-0 in
    let same : seen_pairs negated c.as_slice.result.now ≡ seen_pairs first case.maps = ap (seen_pairs negated) c.as_slice.ensures ∙ pairs_stay first negated c.in_ok-untested.ensures.extends case.maps c.requires.maps in
    let some : IsProbed before after (λ v. true) (λ v. (truth untested v ≡ false) × All (AreSame v) (seen_pairs first case.maps)) n =
    subst (λ ps. IsProbed before after (λ v. true) (λ v. (truth untested v ≡ false) × All (AreSame v) ps) n) same
    (subst (λ ss. IsProbed ss after (λ v. true) (λ v. (truth untested v ≡ false) × All (AreSame v) (seen_pairs negated c.as_slice.result.now)) n) c.in_ok-untested.ensures.same_variables c.in_ok-some_differ.ensures.some) in
    probed_same before after (λ v. true) (λ v. (truth untested v ≡ false) × All (AreSame v) (seen_pairs first case.maps)) (λ v. HoldsAt v (seen_case first case)) n
    (λ v fits. case_from v (seen_case first case) (truth untested v) (c.in_ok-untested.ensures.means.means v)) some
