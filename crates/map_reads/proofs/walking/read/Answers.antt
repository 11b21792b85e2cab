use Rattle.std.proofs.Common.{◌≡◌, List, [], ◌∷◌, reverse, length, arith, ap, ◌∙◌, subst}
use Rattle.std.proofs.lemmas.List.{reverse-append, nil_from_length}
use Rattle.data_value.specs.Sorts.{is_scalar_sort}
use Rattle.map_reads.specs.declared.placing.Put.{Put}
use Rattle.map_reads.proofs.Operators.{get_sorted}
use Rattle.map_reads.proofs.Walks.{IsClimb, scalar_there, points_down, base_is, climb_begins, climbed, read_placed}
use Rattle.map_reads.proofs.walking.read.Goals as goal

pub scalar_at-place-requires : goal.scalar_at-place-requires
scalar_at-place-requires g c =
    let get = c.requires.get in
    let is = get_sorted get.map_node.sort get.key_node.sort get.sort get.sorted in
    scalar_there (g.D.Domain.look c.args.d.now) c.args.lines.now c.args.places.now c.args.draft.now c.requires.places c.args.key get.key_node get.key_at get.key_within (ap is_scalar_sort is.1.1.1.0)

pub puts_into-requires-clause-down : goal.puts_into-requires-clause-down
puts_into-requires-clause-down g c = points_down (g.D.Domain.look c.args.d.now) c.args.lines.now c.args.places.now c.args.draft.now c.requires.places

pub read_leaf-requires-clause-valid : goal.read_leaf-requires-clause-valid
read_leaf-requires-clause-valid g c =
    let d = c.args.d.now in
    let get = c.requires.get in
    let is = get_sorted get.map_node.sort get.key_node.sort get.sort get.sorted in
    (base_is (g.D.Domain.look d) c.args.lines.now c.args.places.now c.args.draft.now c.requires.places (g.D.Domain.variables d) (g.met.D.Domain.laws d) c.requires.lines c.requires.sorts c.args.map get.map_node c.in_ok-chain.chain c.index-lines-chain.result get.map_at (ap is_scalar_sort is.1.1.0) c.in_ok-chain.ensures).valid

pub read_leaf-requires-clause-leaf : goal.read_leaf-requires-clause-leaf
read_leaf-requires-clause-leaf g c =
    let d = c.args.d.now in
    let get = c.requires.get in
    let is = get_sorted get.map_node.sort get.key_node.sort get.sort get.sorted in
    (base_is (g.D.Domain.look d) c.args.lines.now c.args.places.now c.args.draft.now c.requires.places (g.D.Domain.variables d) (g.met.D.Domain.laws d) c.requires.lines c.requires.sorts c.args.map get.map_node c.in_ok-chain.chain c.index-lines-chain.result get.map_at (ap is_scalar_sort is.1.1.0) c.in_ok-chain.ensures).leaf

pub read_leaf-requires-clause-map : goal.read_leaf-requires-clause-map
read_leaf-requires-clause-map g c =
    let d = c.args.d.now in
    let get = c.requires.get in
    let is = get_sorted get.map_node.sort get.key_node.sort get.sort get.sorted in
    let base = base_is (g.D.Domain.look d) c.args.lines.now c.args.places.now c.args.draft.now c.requires.places (g.D.Domain.variables d) (g.met.D.Domain.laws d) c.requires.lines c.requires.sorts c.args.map get.map_node c.in_ok-chain.chain c.index-lines-chain.result get.map_at (ap is_scalar_sort is.1.1.0) c.in_ok-chain.ensures in
    ap is_scalar_sort base.sort ∙ ap is_scalar_sort is.1.1.0

pub loop-put-init : goal.loop-put-init
loop-put-init g c =
    let d = c.args.d.now in
    let get = c.requires.get in
    let is = get_sorted get.map_node.sort get.key_node.sort get.sort get.sorted in
    let chain = c.in_ok-chain.chain in
    let base = base_is (g.D.Domain.look d) c.args.lines.now c.args.places.now c.args.draft.now c.requires.places (g.D.Domain.variables d) (g.met.D.Domain.laws d) c.requires.lines c.requires.sorts c.args.map get.map_node chain c.index-lines-chain.result get.map_at (ap is_scalar_sort is.1.1.0) c.in_ok-chain.ensures in
    climb_begins (g.D.Domain.look d) c.args.lines.now c.args.places.now c.args.draft.now c.requires.places c.read_leaf.new.draft c.args.map c.scalar_at-place.result chain.base c.in_ok-found.found get.map_node.sort _ (reverse chain.puts.items) c.in_ok-chain.ensures.leads base c.in_ok-found.ensures

pub loop-put-preserved : goal.loop-put-preserved
loop-put-preserved g c =
    let look = g.D.Domain.look c.args.d.now in
    let old = c.args.draft.now in
    let lines = c.args.lines.now in
    let places = c.args.places.now in
    let before = c.loop-put in
    let popped = ap (λ (ps : List Put). reverse ps) c.in-Some.ensures.items ∙ reverse-append c.pop.new.self.items (c.in-Some.put ∷ []) in
    climbed look lines places old c.requires.places before.draft c.over.new.draft c.args.map c.scalar_at-place.result c.in-Some.put (reverse c.pop.new.self.items) before.found c.in_ok-found-2.found c.requires.draft
    (subst (λ (ps : List Put). IsClimb look old before.draft lines places c.args.map c.scalar_at-place.result ps before.found) popped before.invariant) c.in_ok-found-2.ensures

pub returns : goal.returns
returns g c =
    let d = c.args.d.now in
    let look = g.D.Domain.look d in
    let old = c.args.draft.now in
    let lines = c.args.lines.now in
    let places = c.args.places.now in
    let last = c.loop-put in
    let none : length last.chain.puts.items ≡ 0 = omega (arith, c.in_default.ensures.cases.0, last.chain.puts.ok.0) in
    read_placed look lines places old c.requires.places (g.D.Domain.variables d) (g.met.D.Domain.laws d) c.requires.lines c.requires.sorts last.draft c.args.map c.args.key c.scalar_at-place.result last.found c.scalar_at-place.ensures
    (subst (λ (ps : List Put). IsClimb look old last.draft lines places c.args.map c.scalar_at-place.result ps last.found) (ap (λ (ps : List Put). reverse ps) (nil_from_length last.chain.puts.items none)) last.invariant)
