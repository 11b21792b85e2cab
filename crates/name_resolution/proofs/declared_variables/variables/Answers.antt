use Rattle.std.proofs.Common.{Some, sym, ap, ◌∙◌}
use Rattle.std.specs.Prelude.{option_map}
use Rattle.sort_term.specs.declared.term.Sort.{Sort}
use Rattle.name_resolution.specs.Known.{vocabulary_of}
use Rattle.name_resolution.specs.Reads.{variable_of}
use Rattle.name_resolution.proofs.There.{there-pushed, there-not}
use Rattle.name_resolution.proofs.declared_variables.variables.Goals as goal

pub returns-in_default : goal.returns-in_default
returns-in_default c =
    sym (there-not (variable_of (vocabulary_of c.args.known.now)) c.args.raws.now c.loop-raw.raw-index c.raw-item.result c.loop-raw-test.true c.raw-item.is
    (ap (option_map (λ (a : Sort). record { name = c.raw-item.result.name; sort = a })) (sym c.sort.ensures ∙ c.in_default.is)))

pub loop-raw-preserved : goal.loop-raw-preserved
loop-raw-preserved c =
    let raw = c.raw-item.result in
    let a = c.in-Some.sort in
    there-pushed (variable_of (vocabulary_of c.args.known.now)) c.args.raws.now c.loop-raw.raw-index raw c.loop-raw.vars c.push.new.self (record { name = c.in_ok-name.name; sort = a }) c.loop-raw-test.true c.raw-item.is c.loop-raw.invariant
    (ap (option_map (λ (a : Sort). record { name = raw.name; sort = a })) (sym c.sort.ensures ∙ c.in-Some.is) ∙ ap (λ n. Some (record { name = n; sort = a })) (sym c.in_ok-name.ensures)) c.in_ok-push.ensures.ok
