use Rattle.std.proofs.Common.{◌≡◌, ◌<◌, ◌-◌, List, length, slice_get, Some, arith, sym, ap, ◌∙◌, subst}
use Rattle.node_list.specs.declared.line.Line.{Line}
use Rattle.node_list.specs.Listed.{AreLines}
use Rattle.map_reads.specs.declared.placing.Place.{Place}
use Rattle.map_reads.specs.declared.placing.Place.TheVariants.{Scalar}
use Rattle.map_reads.specs.Placing.{IsScalarAt, IsNext}
use Rattle.map_reads.proofs.Placed.{walk_next, walk_ends, walk_placed}
use Rattle.map_reads.proofs.walking.place_of.Goals as goal

pub place_of_line-requires-clause-lines : goal.place_of_line-requires-clause-lines
place_of_line-requires-clause-lines g c = subst (AreLines (g.D.Domain.look c.args.d.now)) (sym c.as_slice.ensures.value) c.in_ok-lines.ensures.ordered

pub loop-line-preserved : goal.loop-line-preserved
loop-line-preserved g c =
    let look = g.D.Domain.look c.args.d.now in
    let lines = c.in_ok-lines.lines in
    let before = c.loop-line in
    let new = c.place_of_line.new.draft in
    let low : before._line < length lines.items = let t = c.loop-line-test.true in let n = c.len-line-end.ensures in omega (arith, lines.ok.0) in
    walk_next look c.args.draft.now before.draft new lines.items before.places.items c.push.new.self.items c.in_ok-place.place before._line low before.invariant
    (subst (λ (ls : List (Line _)). IsNext look before.draft new ls (length before.places.items) c.in_ok-place.place) c.as_slice.ensures.value
    (subst (λ (ps : List Place). IsNext look before.draft new c.as_slice.result.now (length ps) c.in_ok-place.place) c.as_slice-in-loop-line.ensures.value c.in_ok-place.ensures))
    c.in_ok-push.ensures.items

pub scalar_at-requires : goal.scalar_at-requires
scalar_at-requires g c =
    let look = g.D.Domain.look c.args.d.now in
    let lines = c.in_ok-lines.lines in
    let last = c.loop-line in
    let all : last._line ≡ length lines.items = let t = c.loop-line-test.false in let e = last.auto._line-end in let n = c.len-line-end.ensures in omega (arith, lines.ok.0) in
    let count : length lines.items - 1 ≡ c.len.result - 1 = let n = c.len.ensures in omega (arith, lines.ok.0) in
    subst (λ (ps : List Place). IsScalarAt ps (c.len.result - 1)) (sym c.as_slice-2.ensures.value)
    (subst (λ n. IsScalarAt last.places.items n) count (walk_ends look c.args.draft.now last.draft lines.items last.places.items last._line (look c.args.node.now) all c.in_ok-lines.ensures c.requires.node.scalar last.invariant))

pub returns : goal.returns
returns g c =
    let look = g.D.Domain.look c.args.d.now in
    let lines = c.in_ok-lines.lines in
    let last = c.loop-line in
    let count : length lines.items - 1 ≡ c.len.result - 1 = let n = c.len.ensures in omega (arith, lines.ok.0) in
    let at : slice_get last.places.items (length lines.items - 1) ≡ Some (Scalar c.scalar_at.result) = ap (slice_get last.places.items) count ∙ ap (λ (ps : List Place). slice_get ps (c.len.result - 1)) (sym c.as_slice-2.ensures.value) ∙ c.scalar_at.ensures in
    walk_placed look c.args.draft.now last.draft lines.items last.places.items last._line c.scalar_at.result (look c.args.node.now) c.in_ok-lines.ensures at last.invariant
