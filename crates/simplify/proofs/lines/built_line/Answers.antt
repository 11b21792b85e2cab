use Rattle.std.proofs.Common.{◌≡◌, sym, subst}
use Rattle.node_list.specs.declared.line.Made.TheVariants.{Apply}
use Rattle.simplify.specs.Pairs.{seen_pairs}
use Rattle.simplify.specs.Built.{AreThere, AreCopied}
use Rattle.simplify.proofs.BuiltLemmas.{ready_there, ready_args}
use Rattle.simplify.proofs.PairLemmas.{second_found}
use Rattle.simplify.proofs.SimplerLemmas.{simpler_valid, simpler_sorted, simpler_operator}
use Rattle.simplify.proofs.lines.built_line.Goals as goal

pub copies_at-requires : goal.copies_at-requires
copies_at-requires g c =
    let look = g.D.Domain.look c.args.d.now in
    let vars = g.D.Domain.variables c.args.d.now in
    let pairs = seen_pairs look c.args.pairs.now in
    let made : c.args.line.now.made ≡ Apply c.in-None-Apply.op c.in-None-Apply.places = cc in
    subst (AreThere look c.args.built.now) (sym c.as_slice.ensures)
    (ready_there look vars pairs c.args.built.now (look c.args.line.now.node) c.args.line.now.made c.in-None-Apply.op c.in-None-Apply.places made c.requires.ready.made)

pub simpler_operator-requires-clause-valid : goal.simpler_operator-requires-clause-valid
simpler_operator-requires-clause-valid g c =
    let look = g.D.Domain.look c.args.d.now in
    let vars = g.D.Domain.variables c.args.d.now in
    let pairs = seen_pairs look c.args.pairs.now in
    let made : c.args.line.now.made ≡ Apply c.in-None-Apply.op c.in-None-Apply.places = cc in
    let copied : AreCopied look c.args.built.now c.in-None-Apply.places c.as_slice-in-None-Apply.result.now =
    subst (λ ps. AreCopied look c.args.built.now ps c.as_slice-in-None-Apply.result.now) c.as_slice.ensures (subst (AreCopied look c.args.built.now c.as_slice.result.now) (sym c.as_slice-in-None-Apply.ensures.value) c.in_ok-args-in-None-Apply.ensures) in
    let args = ready_args look vars pairs c.args.built.now (look c.args.line.now.node) c.args.line.now.made c.in-None-Apply.op c.in-None-Apply.places c.as_slice-in-None-Apply.result.now made c.requires.ready.made copied in
    simpler_valid vars pairs look args.0 c.as_slice-in-None-Apply.result.now args.2

pub simpler_operator-requires-clause-sorted : goal.simpler_operator-requires-clause-sorted
simpler_operator-requires-clause-sorted g c =
    let look = g.D.Domain.look c.args.d.now in
    let vars = g.D.Domain.variables c.args.d.now in
    let pairs = seen_pairs look c.args.pairs.now in
    let made : c.args.line.now.made ≡ Apply c.in-None-Apply.op c.in-None-Apply.places = cc in
    let copied : AreCopied look c.args.built.now c.in-None-Apply.places c.as_slice-in-None-Apply.result.now =
    subst (λ ps. AreCopied look c.args.built.now ps c.as_slice-in-None-Apply.result.now) c.as_slice.ensures (subst (AreCopied look c.args.built.now c.as_slice.result.now) (sym c.as_slice-in-None-Apply.ensures.value) c.in_ok-args-in-None-Apply.ensures) in
    let args = ready_args look vars pairs c.args.built.now (look c.args.line.now.node) c.args.line.now.made c.in-None-Apply.op c.in-None-Apply.places c.as_slice-in-None-Apply.result.now made c.requires.ready.made copied in
    simpler_sorted vars pairs look c.args.line.now.node c.in-None-Apply.op args.0 c.as_slice-in-None-Apply.result.now ((g.met.D.Symbolic.views c.args.d.now).shows c.args.line.now.node c.requires.ready.valid) args.1 args.2

pub returns-in_ok-simpler_operator-in-None-Apply-clause-simpler : goal.returns-in_ok-simpler_operator-in-None-Apply-clause-simpler
returns-in_ok-simpler_operator-in-None-Apply-clause-simpler g c =
    let look = g.D.Domain.look c.args.d.now in
    let vars = g.D.Domain.variables c.args.d.now in
    let pairs = seen_pairs look c.args.pairs.now in
    let made : c.args.line.now.made ≡ Apply c.in-None-Apply.op c.in-None-Apply.places = cc in
    let copied : AreCopied look c.args.built.now c.in-None-Apply.places c.as_slice-in-None-Apply.result.now =
    subst (λ ps. AreCopied look c.args.built.now ps c.as_slice-in-None-Apply.result.now) c.as_slice.ensures (subst (AreCopied look c.args.built.now c.as_slice.result.now) (sym c.as_slice-in-None-Apply.ensures.value) c.in_ok-args-in-None-Apply.ensures) in
    let args = ready_args look vars pairs c.args.built.now (look c.args.line.now.node) c.args.line.now.made c.in-None-Apply.op c.in-None-Apply.places c.as_slice-in-None-Apply.result.now made c.requires.ready.made copied in
    simpler_operator vars pairs look c.args.line.now.node c.in-None-Apply.op args.0 c.as_slice-in-None-Apply.result.now _ ((g.met.D.Symbolic.views c.args.d.now).shows c.args.line.now.node c.requires.ready.valid) args.1 args.2 c.in_ok-simpler_operator-in-None-Apply.ensures.simpler

pub returns-in-Some-clause-simpler : goal.returns-in-Some-clause-simpler
returns-in-Some-clause-simpler g c =
    let look = g.D.Domain.look c.args.d.now in
    second_found look (g.D.Domain.variables c.args.d.now) (g.met.D.Symbolic.views c.args.d.now) c.args.pairs.now c.requires.pairs c.args.line.now.node c.in_ok-second.field-0 c.in-Some.second c.requires.ready.valid c.in-Some.is c.in_ok-second.ensures
