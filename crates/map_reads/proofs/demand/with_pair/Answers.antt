use Rattle.std.proofs.Common.{get_or}
use Rattle.std.proofs.lemmas.Result.{IfOk-weaker}
use Rattle.map_reads.specs.declared.read.Read.{Read}
use Rattle.map_reads.proofs.Demanding.{read_at, demanded_pair, demanded_pair_anyway}
use Rattle.map_reads.proofs.demand.with_pair.Goals as goal

pub returns-then-not-may_differ : goal.returns-then-not-may_differ
returns-then-not-may_differ c =
    let d = c.args.draft.now in
    let none : Read = record { variable = 0; key = 0; word = 0 } in
    let first = read_at d.reads c.as_slice.result.now c.args.first c.as_slice.ensures c.requires.first in
    let last = read_at d.reads c.as_slice-2.result.now c.args.last c.as_slice-2.ensures c.requires.last in
    demanded_pair_anyway d c.args.root c.args.first c.args.last (get_or c.as_slice.result.now c.args.first none) (get_or c.as_slice-2.result.now c.args.last none) c.requires.draft c.requires.root first last
    (c.may_differ.ensures.agree c.if-not-may_differ.true)

pub returns : goal.returns
returns c =
    let d = c.args.draft.now in
    let none : Read = record { variable = 0; key = 0; word = 0 } in
    let first = read_at d.reads c.as_slice.result.now c.args.first c.as_slice.ensures c.requires.first in
    let last = read_at d.reads c.as_slice-2.result.now c.args.last c.as_slice-2.ensures c.requires.last in
    IfOk-weaker c.apply.result _ _
    (λ p is.
    demanded_pair d c.agreement.new.draft c.apply.new.self c.args.root c.in_ok-agree.agree p c.args.first c.args.last (get_or c.as_slice.result.now c.args.first none) (get_or c.as_slice-2.result.now c.args.last none) c.requires.draft c.requires.root first last
    (c.may_differ.ensures.variable c.if-not-may_differ.false) c.in_ok-agree.ensures is)
    c.apply.ensures
