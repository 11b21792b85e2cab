use Rattle.std.proofs.Common.{arith, ◌<◌, All, length, refl, sym, ap, ◌∙◌, subst}
use Rattle.node_list.specs.declared.line.Made.TheVariants as made
use Rattle.prover.specs.Splitting.{AreMarkedMore, ArePaired}
use Rattle.prover.proofs.Pieces.{line_at, marked_at, made_within}
use Rattle.prover.proofs.Splits.{split_other, split_pair, split_both, both_at, equality_at, paired_says}
use Rattle.prover.proofs.splitting.split_line.Goals as goal

pub mark_all-requires : goal.mark_all-requires
mark_all-requires g c =
    let lines = c.args.lines.now in
    let line = c.index-lines-place.result in
    let here = line_at lines c.args.place line c.requires.place c.index-lines-place.is in
    subst (All (λ p. p < length c.args.joined.now)) (sym c.as_slice.ensures)
    (made_within (g.D.Domain.look c.args.d.now) lines c.requires.lines c.args.place line c.in-Apply.op c.in-Apply.args (length c.args.joined.now) (omega (arith, c.requires.place, c.requires.marks)) here c.in-Apply.is)

pub pair-requires-clause-places : goal.pair-requires-clause-places
pair-requires-clause-places g c =
    let look = g.D.Domain.look c.args.d.now in
    let line = c.index-lines-place.result in
    let here = line_at c.args.lines.now c.args.place line c.requires.place c.index-lines-place.is in
    let made_is = c.in-Apply.is ∙ ap (λ op. made.Apply op c.in-Apply.args) c.in-Eq.is in
    let of = equality_at look (g.D.Domain.variables c.args.d.now) (g.met.D.Symbolic.views c.args.d.now) c.args.lines.now c.requires.lines c.args.place line c.in-Apply.args here made_is in
    (of.1.a, of.1.b, c.as_slice-in-Eq.ensures ∙ of.1.places_are, let l = of.1.first.before in omega (arith, c.requires.place), let l = of.1.second.before in omega (arith, c.requires.place))

pub copy-requires : goal.copy-requires
copy-requires g c =
    let line = c.index-lines-place.result in
    (c.requires.lines c.args.place line (line_at c.args.lines.now c.args.place line c.requires.place c.index-lines-place.is)).valid

pub copy-requires-in-Leaf : goal.copy-requires-in-Leaf
copy-requires-in-Leaf g c =
    let line = c.index-lines-place.result in
    (c.requires.lines c.args.place line (line_at c.args.lines.now c.args.place line c.requires.place c.index-lines-place.is)).valid

pub returns-in-And-clause-split : goal.returns-in-And-clause-split
returns-in-And-clause-split g c = λ s before.
    let look = g.D.Domain.look c.args.d.now in
    let line = c.index-lines-place.result in
    let here = line_at c.args.lines.now c.args.place line c.requires.place c.index-lines-place.is in
    let marked = marked_at c.args.joined.now c.args.place (omega (arith, c.requires.place, c.requires.marks)) c.if-not-joined-place.false in
    let made_is = c.in-Apply.is ∙ ap (λ op. made.Apply op c.in-Apply.args) c.in-And.is in
    let of = both_at look (g.D.Domain.variables c.args.d.now) (g.met.D.Symbolic.views c.args.d.now) c.args.lines.now c.requires.lines c.args.place line c.in-Apply.args here made_is in
    split_both look s c.args.lines.now c.args.place line of.1.a of.1.b of.1.m of.1.n c.args.joined.now c.mark_all.new.marks c.args.parts.now here marked of.1.first of.1.second of.2 of.3 of.4
    (subst (λ ps. AreMarkedMore ps c.args.joined.now c.mark_all.new.marks) (c.as_slice.ensures ∙ of.1.places_are) c.mark_all.ensures.marked) before

pub returns-in_ok-push-in-Eq-clause-split : goal.returns-in_ok-push-in-Eq-clause-split
returns-in_ok-push-in-Eq-clause-split g c = λ s before.
    let look = g.D.Domain.look c.args.d.now in
    let line = c.index-lines-place.result in
    let here = line_at c.args.lines.now c.args.place line c.requires.place c.index-lines-place.is in
    let marked = marked_at c.args.joined.now c.args.place (omega (arith, c.requires.place, c.requires.marks)) c.if-not-joined-place.false in
    let made_is = c.in-Apply.is ∙ ap (λ op. made.Apply op c.in-Apply.args) c.in-Eq.is in
    let of = equality_at look (g.D.Domain.variables c.args.d.now) (g.met.D.Symbolic.views c.args.d.now) c.args.lines.now c.requires.lines c.args.place line c.in-Apply.args here made_is in
    let pair = c.in_ok-pair-in-Eq.field-0 in
    let says = paired_says look c.args.lines.now c.args.place c.in-Apply.args of.0 of.1 pair of.2 (subst (λ ps. ArePaired look c.args.lines.now ps pair) c.as_slice-in-Eq.ensures c.in_ok-pair-in-Eq.ensures) in
    split_pair look s c.args.lines.now c.args.place line pair c.args.joined.now c.args.parts.now _ here marked says.0 (λ v. of.3 v ∙ says.1 v) c.in_ok-push-in-Eq.ensures.items refl before

pub returns-in_ok-push-in_default : goal.returns-in_ok-push-in_default
returns-in_ok-push-in_default g c = record {
  count = refl;
  split = λ s before.
      let line = c.index-lines-place.result in
      let here = line_at c.args.lines.now c.args.place line c.requires.place c.index-lines-place.is in
      let marked = marked_at c.args.joined.now c.args.place (omega (arith, c.requires.place, c.requires.marks)) c.if-not-joined-place.false in
      split_other (g.D.Domain.look c.args.d.now) s c.args.lines.now c.args.place line c.in_ok-copy-in_default.field-0 c.args.joined.now c.args.parts.now _ here marked c.in_ok-copy-in_default.ensures refl c.in_ok-push-in_default.ensures.items before;
}

pub returns-in_ok-push-in-Leaf-clause-split : goal.returns-in_ok-push-in-Leaf-clause-split
returns-in_ok-push-in-Leaf-clause-split g c = λ s before.
    let line = c.index-lines-place.result in
    let here = line_at c.args.lines.now c.args.place line c.requires.place c.index-lines-place.is in
    let marked = marked_at c.args.joined.now c.args.place (omega (arith, c.requires.place, c.requires.marks)) c.if-not-joined-place.false in
    split_other (g.D.Domain.look c.args.d.now) s c.args.lines.now c.args.place line c.in_ok-copy-in-Leaf.field-0 c.args.joined.now c.args.parts.now _ here marked c.in_ok-copy-in-Leaf.ensures refl c.in_ok-push-in-Leaf.ensures.items before
