use Rattle.std.proofs.Common.{◌≡◌, ◌↔◌, true, false, IsTrue, [], All, subst, sym, ◌∙◌}
use Rattle.data_value.specs.declared.Scalar.TheVariants.{Flag}
use Rattle.data_value.specs.declared.Value.TheVariants.{One}
use Rattle.data_value.specs.Ground.{ground_seen}
use Rattle.sort_term.specs.NodeTerms.{seen_term}
use Rattle.unify.specs.Scopes.{scope_of}
use Rattle.unify.specs.Meets.{IsMeet}
use Rattle.ground_step.proofs.Covered.{state_sort, apart, unequal, whens_ready, covered}
use Rattle.ground_step.proofs.steps.in_item.Goals as goal

pub unify-requires-clause-term : goal.unify-requires-clause-term
unify-requires-clause-term g c = rw c.term.ensures (state_sort c.args.semantics.now c.args.item.now c.args.state.now.term c.requires.item c.requires.state)

pub returns-in-Apart : goal.returns-in-Apart
returns-in-Apart g c =
    apart c.args.semantics.now c.args.item.now c.args.state.now.term c.requires.item c.requires.state
    (subst (IsMeet (scope_of c.args.semantics.now.cons c.args.item.now.vars []) ground_seen c.args.item.now.pattern (seen_term ground_seen c.args.state.now.term)) c.in-Apart.is (rw c.term.ensures at c.in_ok-unify.ensures.meet))

pub returns-then-not-all_true : goal.returns-then-not-all_true
returns-then-not-all_true g c =
    let met = subst (IsMeet (scope_of c.args.semantics.now.cons c.args.item.now.vars []) ground_seen c.args.item.now.pattern (seen_term ground_seen c.args.state.now.term)) c.in-Meets.is (rw c.term.ensures at c.in_ok-unify.ensures.meet) in
    let told : IsTrue c.all_true.result ↔ All (λ x. x ≡ One (Flag true)) c.in-Meets.equations = rw c.as_slice.ensures at c.all_true.ensures in
    let wrong : c.all_true.result ≡ false = c.if-not-all_true.true in
    unequal c.args.semantics.now c.args.item.now c.args.state.now.term c.requires.item c.requires.state c.in-Meets.binds c.in-Meets.equations met (λ all. let right : c.all_true.result ≡ true = told.1 all in let q : true ≡ false = sym right ∙ wrong in cc)

pub all_hold-requires : goal.all_hold-requires
all_hold-requires g c =
    let met = subst (IsMeet (scope_of c.args.semantics.now.cons c.args.item.now.vars []) ground_seen c.args.item.now.pattern (seen_term ground_seen c.args.state.now.term)) c.in-Meets.is (rw c.term.ensures at c.in_ok-unify.ensures.meet) in
    rw c.as_slice-in-Meets.ensures (whens_ready c.args.semantics.now c.args.item.now c.args.state.now.term c.requires.item c.requires.state c.in-Meets.binds c.in-Meets.equations met)

pub returns-in_ok-all_hold-in-Meets : goal.returns-in_ok-all_hold-in-Meets
returns-in_ok-all_hold-in-Meets g c =
    let met = subst (IsMeet (scope_of c.args.semantics.now.cons c.args.item.now.vars []) ground_seen c.args.item.now.pattern (seen_term ground_seen c.args.state.now.term)) c.in-Meets.is (rw c.term.ensures at c.in_ok-unify.ensures.meet) in
    let told : IsTrue c.all_true.result ↔ All (λ x. x ≡ One (Flag true)) c.in-Meets.equations = rw c.as_slice.ensures at c.all_true.ensures in
    covered c.args.semantics.now c.args.item.now c.args.state.now.term c.requires.item c.requires.state c.in-Meets.binds c.in-Meets.equations met (told.0 c.if-not-all_true.false) c.in_ok-all_hold-in-Meets.field-0 (rw c.as_slice-in-Meets.ensures at c.in_ok-all_hold-in-Meets.ensures)
