use Rattle.std.proofs.Common.{rules, arith, ◌≡◌, ◌≤◌, Some, None, length, slice_get, ap, ◌∙◌}
use Rattle.std.proofs.lemmas.List.{length-map}
use Rattle.std.specs.Prelude.{option_map}
use Rattle.sort_term.specs.NodeTerms.{seen_term}
use Rattle.unify.proofs.Evaluated.{free_seen}
use Rattle.unify.proofs.Binding.{bound_node, term_node, bound_valid, term_valid, sorts_agree, is_scalar, rebound, bound_now, binds_valid, past_end, sorted_as_var}
use Rattle.unify.proofs.matching.bind.Goals as goal

pub plain_node-requires : goal.plain_node-requires
plain_node-requires g c =
    let look = g.D.Domain.look c.args.d.now in
    let binds = c.args.matching.now.binds in
    let there : slice_get binds c.args.variable ≡ Some (Some c.in-Some-Some.bound) = search rules in
    term_node _ _ look binds c.args.variable c.args.term.now _ c.requires.within c.requires.term c.requires.matching.binds c.requires.repeats there

pub copy-requires : goal.copy-requires
copy-requires g c =
    let look = g.D.Domain.look c.args.d.now in
    let binds = c.args.matching.now.binds in
    let there : slice_get binds c.args.variable ≡ Some (Some c.in-Some-Some.bound) = search rules in
    term_valid _ _ look binds c.args.variable c.args.term.now _ c.requires.within c.requires.term c.requires.matching.binds c.requires.repeats there (bound_node _ _ look binds c.args.variable c.args.term.now _ c.requires.within c.requires.term c.requires.matching.binds c.requires.repeats there).0 c.plain_node.result.now (bound_node _ _ look binds c.args.variable c.args.term.now _ c.requires.within c.requires.term c.requires.matching.binds c.requires.repeats there).1 c.plain_node.ensures

pub plain_node-requires-in-Some-Some : goal.plain_node-requires-in-Some-Some
plain_node-requires-in-Some-Some g c =
    let look = g.D.Domain.look c.args.d.now in
    let binds = c.args.matching.now.binds in
    let there : slice_get binds c.args.variable ≡ Some (Some c.in-Some-Some.bound) = search rules in
    bound_node _ _ look binds c.args.variable c.args.term.now _ c.requires.within c.requires.term c.requires.matching.binds c.requires.repeats there

pub equate-requires-clause-node : goal.equate-requires-clause-node
equate-requires-clause-node g c =
    let look = g.D.Domain.look c.args.d.now in
    let binds = c.args.matching.now.binds in
    let there : slice_get binds c.args.variable ≡ Some (Some c.in-Some-Some.bound) = search rules in
    bound_valid _ _ look binds c.args.variable c.args.term.now _ c.requires.within c.requires.term c.requires.matching.binds c.requires.repeats there c.plain_node-in-Some-Some.result.now c.plain_node.result.now c.plain_node-in-Some-Some.ensures c.plain_node.ensures

pub equate-requires-clause-other : goal.equate-requires-clause-other
equate-requires-clause-other g c =
    let look = g.D.Domain.look c.args.d.now in
    let binds = c.args.matching.now.binds in
    let there : slice_get binds c.args.variable ≡ Some (Some c.in-Some-Some.bound) = search rules in
    ap (λ s. s.valid) c.in_ok-copy-in-Some-Some.ensures ∙ term_valid _ _ look binds c.args.variable c.args.term.now _ c.requires.within c.requires.term c.requires.matching.binds c.requires.repeats there c.plain_node-in-Some-Some.result.now c.plain_node.result.now c.plain_node-in-Some-Some.ensures c.plain_node.ensures

pub equate-requires-clause-sorts : goal.equate-requires-clause-sorts
equate-requires-clause-sorts g c =
    let look = g.D.Domain.look c.args.d.now in
    let binds = c.args.matching.now.binds in
    let there : slice_get binds c.args.variable ≡ Some (Some c.in-Some-Some.bound) = search rules in
    sorts_agree _ _ look binds c.args.variable c.args.term.now _ c.requires.within c.requires.term c.requires.matching.binds c.requires.repeats there c.plain_node-in-Some-Some.result.now c.plain_node.result.now c.plain_node-in-Some-Some.ensures c.plain_node.ensures c.in_ok-copy-in-Some-Some.copy c.in_ok-copy-in-Some-Some.ensures

pub equate-requires-clause-scalar : goal.equate-requires-clause-scalar
equate-requires-clause-scalar g c =
    let look = g.D.Domain.look c.args.d.now in
    let binds = c.args.matching.now.binds in
    let there : slice_get binds c.args.variable ≡ Some (Some c.in-Some-Some.bound) = search rules in
    is_scalar _ _ look binds c.args.variable c.args.term.now _ c.requires.within c.requires.term c.requires.matching.binds c.requires.repeats there c.plain_node-in-Some-Some.result.now c.plain_node.result.now c.plain_node-in-Some-Some.ensures c.plain_node.ensures

pub copy_term-requires : goal.copy_term-requires
copy_term-requires g c = sorted_as_var c.args.semantics.now.cons c.args.vars.now c.args.variable _ c.requires.within c.requires.term

pub unreachable-requires : goal.unreachable-requires
unreachable-requires g c =
    let binds = c.args.matching.now.binds in
    let there : slice_get binds c.args.variable ≡ None = search rules in
    let past : length binds ≤ c.args.variable = past_end binds c.args.variable there in
    let long = c.requires.matching.binds.long in
    let same = length-map binds (option_map (seen_term (g.D.Domain.look c.args.d.now))) in
    let within = c.requires.within in
    omega arith

pub returns-in_ok-equate-in-Some-Some-clause-answer : goal.returns-in_ok-equate-in-Some-Some-clause-answer
returns-in_ok-equate-in-Some-Some-clause-answer g c =
    let look = g.D.Domain.look c.args.d.now in
    let binds = c.args.matching.now.binds in
    let there : slice_get binds c.args.variable ≡ Some (Some c.in-Some-Some.bound) = search rules in
    rebound _ _ look binds c.args.variable c.args.term.now _ c.requires.within c.requires.term c.requires.matching.binds c.requires.repeats there c.plain_node-in-Some-Some.result.now c.plain_node.result.now c.plain_node-in-Some-Some.ensures c.plain_node.ensures (g.D.Domain.look c.equate.new.d) c.in_ok-equate-in-Some-Some.ensures.extends (g.D.Domain.variables c.args.d.now) c.in_ok-copy-in-Some-Some.copy c.in_ok-copy-in-Some-Some.ensures _ _ (binds_valid _ _ _ c.requires.matching.binds) c.in_ok-equate-in-Some-Some.ensures.equal

pub returns-in_ok-copy-in-Some-None-clause-answer : goal.returns-in_ok-copy-in-Some-None-clause-answer
returns-in_ok-copy-in-Some-None-clause-answer g c =
    let look = g.D.Domain.look c.args.d.now in
    let binds = c.args.matching.now.binds in
    let there : slice_get binds c.args.variable ≡ Some None = search rules in
    bound_now _ _ _ look binds c.set.new.self c.args.variable c.args.term.now c.in_ok-copy-in-Some-None.copy _ c.requires.within c.requires.term c.requires.matching.binds (free_seen look binds c.args.variable there) c.requires.matching.equations c.in_ok-copy-in-Some-None.ensures c.set.ensures
