use Rattle.std.proofs.Common.{◌≡◌, ◌<◌, ◌≤◌, arith, rules, length, map, slice_get, Some, refl, ap, subst, ◌∙◌}
use Rattle.std.proofs.lemmas.List.{take_all}
use Rattle.std.proofs.lemmas.Option.{slice_get_read}
use Rattle.sort_term.specs.declared.term.Sort.TheVariants.{Own}
use Rattle.sort_term.specs.NodeTerms.{seen_term, seen_sort}
use Rattle.symbolic_examples.proofs.StartLemmas.{con_is, parts_more}
use Rattle.symbolic_examples.proofs.starts.configuration.Goals as goal

pub loop-place-preserved : goal.loop-place-preserved
loop-place-preserved g c =
    let look = g.D.Domain.look c.args.d.now in
    let cons = c.args.semantics.now.cons in
    parts_more (λ t. seen_sort cons (seen_term look t)) c.loop-place.parts.items c.push.new.self.items c.as_slice-sorts.result.now c.loop-place.place _ _ _ c.loop-place-test.true refl c.in_ok-push.ensures.items c.loop-place.invariant (c.in_ok-part.ensures cons)

pub returns : goal.returns
returns g c =
    let look = g.D.Domain.look c.args.d.now in
    let cons = c.args.semantics.now.cons in
    let sorts = c.as_slice-sorts.result.now in
    let con = c.index-cons-id.result in
    let within : c.in_ok-small.field-0 < length c.as_slice-cons.result.now = omega (arith, c.if-cons-id.false) in
    let there : slice_get cons c.in_ok-small.field-0 ≡ Some con =
    subst (λ xs. slice_get xs c.in_ok-small.field-0 ≡ Some con) (c.as_slice-cons.ensures ∙ c.cons.ensures.value) (slice_get_read c.as_slice-cons.result.now (length c.as_slice-cons.result.now) c.in_ok-small.field-0 con refl within c.index-cons-id.is) in
    let end : length sorts ≤ c.loop-place.place = omega (arith, c.loop-place-test.false) in
    let all : map (λ t. seen_sort cons (seen_term look t)) c.loop-place.parts.items ≡ map Some con.args = c.loop-place.invariant ∙ ap (map Some) (take_all c.loop-place.place sorts end ∙ c.as_slice-sorts.ensures) in
    let parts : map (λ t. seen_sort cons (seen_term look t)) c.from_vec.result ≡ map Some con.args = ap (map (λ t. seen_sort cons (seen_term look t))) c.from_vec.ensures ∙ all in
    let same : con.sort ≡ c.config.result = (let e = c.if-con-config.false in search rules) in
    let own : Some (Own con.sort) ≡ Some (Own c.args.semantics.now.config) = ap (λ s. Some (Own s)) (same ∙ c.config.ensures.value) in
    record { is = con_is look cons _ con c.from_vec.result there parts ∙ own }
