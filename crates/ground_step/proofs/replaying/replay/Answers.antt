use Rattle.std.proofs.Common.{◌≡◌, ℕ, ◌+◌, ◌≤◌, List, [], ◌∷◌, length, map, drop, get_or, None, Some, refl, sym, ap, subst}
use Rattle.std.proofs.lemmas.List.{drop_more, drop_all}
use Rattle.ground_step.specs.Reach.{LeadsTo}
use Rattle.ground_step.specs.Steps.{StepIs}
use Rattle.ground_step.proofs.States.{step_state}
use Rattle.ground_step.proofs.Leading.{leads_nowhere, leads_on, leads_off, no_rule}
use Rattle.ground_step.proofs.replaying.replay.Goals as goal

pub returns-then-count-rule : goal.returns-then-count-rule
returns-then-count-rule g c =
    let sys = c.args.semantics.now in
    let tables = c.args.program.now in
    let s = c.loop-rule.state.term in
    let i = c.loop-rule.rule-index in
    let rule = get_or c.args.rules.now i (record { 0 = 0 }) in
    let others : List ℕ = map (λ r. r.0) (drop (i + 1) c.args.rules.now) in
    let split : map (λ r. r.0) (drop i c.args.rules.now) ≡ rule.0 ∷ others = ap (map (λ r. r.0)) (drop_more c.args.rules.now i (record { 0 = 0 }) c.loop-rule-test.true) in
    let past : length sys.rules ≤ rule.0 = subst (λ xs. length xs ≤ rule.0) c.rules.ensures.value (subst (λ n. n ≤ rule.0) c.len-count.ensures c.if-count-rule.true) in
    c.loop-rule.invariant.rest None (subst (λ ns. LeadsTo sys tables s ns None) (sym split) (leads_off sys tables rule.0 s others (no_rule sys tables rule.0 s past)))

pub returns-in-None : goal.returns-in-None
returns-in-None g c =
    let sys = c.args.semantics.now in
    let tables = c.args.program.now in
    let s = c.loop-rule.state.term in
    let i = c.loop-rule.rule-index in
    let rule = get_or c.args.rules.now i (record { 0 = 0 }) in
    let others : List ℕ = map (λ r. r.0) (drop (i + 1) c.args.rules.now) in
    let split : map (λ r. r.0) (drop i c.args.rules.now) ≡ rule.0 ∷ others = ap (map (λ r. r.0)) (drop_more c.args.rules.now i (record { 0 = 0 }) c.loop-rule-test.true) in
    let told : StepIs sys tables rule.0 s None = rw c.in-None.is at c.in_ok-next.ensures in
    c.loop-rule.invariant.rest None (subst (λ ns. LeadsTo sys tables s ns None) (sym split) (leads_off sys tables rule.0 s others (λ t step. let e : None ≡ Some t = told.only t step in cc)))

pub loop-rule-preserved : goal.loop-rule-preserved
loop-rule-preserved g c =
    let sys = c.args.semantics.now in
    let tables = c.args.program.now in
    let s = c.loop-rule.state.term in
    let next = c.in-Some.next.term in
    let i = c.loop-rule.rule-index in
    let rule = get_or c.args.rules.now i (record { 0 = 0 }) in
    let others : List ℕ = map (λ r. r.0) (drop (i + 1) c.args.rules.now) in
    let split : map (λ r. r.0) (drop i c.args.rules.now) ≡ rule.0 ∷ others = ap (map (λ r. r.0)) (drop_more c.args.rules.now i (record { 0 = 0 }) c.loop-rule-test.true) in
    let told : StepIs sys tables rule.0 s (Some next) = rw c.in-Some.is at c.in_ok-next.ensures in
    record {
      state = step_state sys tables c.rules.ensures.valid rule.0 s next (told.there next refl);
      rest = λ o more. c.loop-rule.invariant.rest o (subst (λ ns. LeadsTo sys tables s ns o) (sym split) (leads_on sys tables rule.0 s next others o told more));
    }

pub returns : goal.returns
returns g c =
    let sys = c.args.semantics.now in
    let tables = c.args.program.now in
    let s = c.loop-rule.state.term in
    let none : map (λ r. r.0) (drop c.loop-rule.rule-index c.args.rules.now) ≡ [] = ap (map (λ r. r.0)) (drop_all c.loop-rule.rule-index c.args.rules.now c.loop-rule-test.false) in
    c.loop-rule.invariant.rest (Some s) (subst (λ ns. LeadsTo sys tables s ns (Some s)) (sym none) (leads_nowhere sys tables s))
