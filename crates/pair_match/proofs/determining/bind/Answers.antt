use Rattle.std.proofs.Common.{rules, arith, ◌≡◌, ◌≤◌, Some, None, length, slice_get}
use Rattle.std.proofs.lemmas.List.{length-map}
use Rattle.std.specs.Prelude.{option_map}
use Rattle.sort_term.specs.NodeTerms.{seen_term}
use Rattle.unify.proofs.Evaluated.{bound_seen, free_seen}
use Rattle.unify.proofs.Binding.{past_end, sorted_as_var}
use Rattle.pair_match.proofs.Determiners.{determines_bound, determines_set}
use Rattle.pair_match.proofs.determining.bind.Goals as goal

pub copy_term-requires : goal.copy_term-requires
copy_term-requires g c = sorted_as_var c.args.semantics.now.cons c.args.vars.now c.args.variable _ c.requires.within c.requires.config

pub unreachable-requires : goal.unreachable-requires
unreachable-requires g c =
    let binds = c.args.binds.now in
    let there : slice_get binds c.args.variable ≡ None = search rules in
    let past : length binds ≤ c.args.variable = past_end binds c.args.variable there in
    let long = c.requires.binds.long in
    let same = length-map binds (option_map (seen_term (g.D.Domain.look c.args.d.now))) in
    let within = c.requires.within in
    omega arith

pub returns-in-Some-Some : goal.returns-in-Some-Some
returns-in-Some-Some g c =
    let look = g.D.Domain.look c.args.d.now in
    let binds = c.args.binds.now in
    let there : slice_get binds c.args.variable ≡ Some (Some c.in-Some-Some.field-0-0) = search rules in
    determines_bound c.args.semantics.now.cons c.args.vars.now _ c.args.variable _ _ c.requires.binds (bound_seen look binds c.args.variable _ there)

pub returns-in_ok-copy-in-Some-None : goal.returns-in_ok-copy-in-Some-None
returns-in_ok-copy-in-Some-None g c =
    let look = g.D.Domain.look c.args.d.now in
    let binds = c.args.binds.now in
    let there : slice_get binds c.args.variable ≡ Some None = search rules in
    determines_set c.args.semantics.now.cons c.args.vars.now look binds c.set.new.self c.args.variable c.args.config.now c.in_ok-copy-in-Some-None.copy c.requires.within c.requires.config c.requires.binds (free_seen look binds c.args.variable there) c.in_ok-copy-in-Some-None.ensures c.set.ensures
