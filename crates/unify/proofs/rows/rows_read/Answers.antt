use Rattle.std.proofs.Common.{arith, ◌≡◌, ◌<◌, All, length, Some, sym, subst, ap, ◌∙◌}
use Rattle.std.specs.Prelude.{option_map, Any}
use Rattle.data_value.specs.declared.DataSort.TheVariants.{Bits as BitsSort}
use Rattle.sort_term.specs.declared.term.Sort.TheVariants.{Plain as DataOf}
use Rattle.sort_term.specs.declared.rule.Source.TheVariants.{Row as RowOf}
use Rattle.sort_term.specs.declared.semantics.Table.{Table}
use Rattle.sort_term.specs.Sorted.{pattern_sort}
use Rattle.sort_term.specs.Stands.{times}
use Rattle.sort_term.specs.NodeTerms.{seen_term, seen_sort, tree_of}
use Rattle.sort_term.proofs.Standing.{get-below}
use Rattle.unify.specs.Meets.{seen_matching, IsMatching, RebindsOnlyScalars}
use Rattle.unify.specs.Matchings.{seen_matchings, IsRowFor, ReadsRow}
use Rattle.unify.proofs.Nodes.{data_node, plain_sort, plain_tree}
use Rattle.unify.proofs.Binding.{binds_valid}
use Rattle.unify.proofs.Carried.{lawful_nodes, matching_stays}
use Rattle.unify.proofs.Readied.{key_sort, key_some, pattern_some, pattern_repeats}
use Rattle.unify.proofs.GoingOn.{go_on_from}
use Rattle.unify.proofs.RowReads.{rows_are, rows_on}
use Rattle.unify.proofs.rows.rows_read.Goals as goal

pub evaluate-requires-clause-valid : goal.evaluate-requires-clause-valid
evaluate-requires-clause-valid g c = binds_valid c.args.semantics.now.cons c.args.vars.now _ c.requires.matching.binds

pub evaluate-requires-clause-sorted : goal.evaluate-requires-clause-sorted
evaluate-requires-clause-sorted g c = key_some c.args.semantics.now.cons c.args.semantics.now.tables c.args.vars.now (seen_matching (g.D.Domain.look c.args.d.now) c.args.matching.now) c.requires.matching c.args.pattern.now c.args.table c.args.key.now c.requires.ready

pub plain_node-node-requires : goal.plain_node-node-requires
plain_node-node-requires g c =
    let old = g.D.Domain.look c.args.d.now in
    let now = g.D.Domain.look c.evaluate.new.d in
    let sys = c.args.semantics.now in
    let vars = c.args.vars.now in
    let m = seen_matching old c.args.matching.now in
    let lawful = c.requires.matching in
    let p = c.args.pattern.now in
    let e = c.args.key.now in
    let read = key_sort sys.cons sys.tables vars m lawful p c.args.table e c.requires.ready in
    data_node sys.cons now c.in_ok-term.term (BitsSort read.0.key) (c.in_ok-term.ensures.value.sorted ∙ read.2)

pub key_width-width-requires : goal.key_width-width-requires
key_width-width-requires g c =
    let old = g.D.Domain.look c.args.d.now in
    let now = g.D.Domain.look c.evaluate.new.d in
    let sys = c.args.semantics.now in
    let vars = c.args.vars.now in
    let m = seen_matching old c.args.matching.now in
    let lawful = c.requires.matching in
    let p = c.args.pattern.now in
    let e = c.args.key.now in
    let read = key_sort sys.cons sys.tables vars m lawful p c.args.table e c.requires.ready in
    get-below sys.tables c.args.table.0 read.0 read.1

pub rows-requires : goal.rows-requires
rows-requires g c =
    let old = g.D.Domain.look c.args.d.now in
    let now = g.D.Domain.look c.evaluate.new.d in
    let sys = c.args.semantics.now in
    let vars = c.args.vars.now in
    let m = seen_matching old c.args.matching.now in
    let lawful = c.requires.matching in
    let p = c.args.pattern.now in
    let e = c.args.key.now in
    let read = key_sort sys.cons sys.tables vars m lawful p c.args.table e c.requires.ready in
    let l : c.args.table.0 < length sys.tables = get-below sys.tables c.args.table.0 read.0 read.1 in
    let long = c.requires.program.long in
    omega arith

pub any_row-requires-clause-rows : goal.any_row-requires-clause-rows
any_row-requires-clause-rows g c =
    let old = g.D.Domain.look c.args.d.now in
    let now = g.D.Domain.look c.evaluate.new.d in
    let sys = c.args.semantics.now in
    let vars = c.args.vars.now in
    let m = seen_matching old c.args.matching.now in
    let lawful = c.requires.matching in
    let p = c.args.pattern.now in
    let e = c.args.key.now in
    let read = key_sort sys.cons sys.tables vars m lawful p c.args.table e c.requires.ready in
    subst (λ rs. All (IsRowFor sys.cons c.key_width-width.result (pattern_sort sys.cons vars p)) rs) (sym c.as_slice-rows.ensures)
    (rows_are sys c.args.program.now c.args.table.0 c.key_width-width.result read.0 _ vars p c.requires.program read.1 c.rows.ensures c.key_width-width.ensures read.3)

pub any_row-requires-clause-node : goal.any_row-requires-clause-node
any_row-requires-clause-node g c =
    let old = g.D.Domain.look c.args.d.now in
    let now = g.D.Domain.look c.evaluate.new.d in
    let sys = c.args.semantics.now in
    let vars = c.args.vars.now in
    let m = seen_matching old c.args.matching.now in
    let lawful = c.requires.matching in
    let p = c.args.pattern.now in
    let e = c.args.key.now in
    let read = key_sort sys.cons sys.tables vars m lawful p c.args.table e c.requires.ready in
    let same : Some read.0.key ≡ Some c.key_width-width.result = sym (ap (option_map (λ (x : Table). x.key)) read.1) ∙ c.key_width-width.ensures in
    let wide : read.0.key ≡ c.key_width-width.result = cc in
    sym (plain_sort sys.cons now c.plain_node-node.result.now) ∙ ap (λ t. seen_sort sys.cons (seen_term now t)) (sym c.plain_node-node.ensures) ∙ c.in_ok-term.ensures.value.sorted ∙ read.2 ∙ ap (λ n. Some (DataOf (BitsSort n))) wide

pub any_row-requires-clause-pattern : goal.any_row-requires-clause-pattern
any_row-requires-clause-pattern g c =
    let old = g.D.Domain.look c.args.d.now in
    let now = g.D.Domain.look c.evaluate.new.d in
    let sys = c.args.semantics.now in
    let vars = c.args.vars.now in
    let m = seen_matching old c.args.matching.now in
    let lawful = c.requires.matching in
    let p = c.args.pattern.now in
    let e = c.args.key.now in
    let read = key_sort sys.cons sys.tables vars m lawful p c.args.table e c.requires.ready in
    pattern_some sys.cons sys.tables vars m lawful p (RowOf c.args.table e) c.requires.ready

pub any_row-requires-clause-matching : goal.any_row-requires-clause-matching
any_row-requires-clause-matching g c =
    let old = g.D.Domain.look c.args.d.now in
    let now = g.D.Domain.look c.evaluate.new.d in
    let sys = c.args.semantics.now in
    let vars = c.args.vars.now in
    let m = seen_matching old c.args.matching.now in
    let lawful = c.requires.matching in
    let p = c.args.pattern.now in
    let e = c.args.key.now in
    let read = key_sort sys.cons sys.tables vars m lawful p c.args.table e c.requires.ready in
    subst (IsMatching sys.cons vars) (sym (matching_stays old now c.in_ok-term.ensures.extends c.args.matching.now (lawful_nodes sys.cons vars m lawful))) lawful

pub any_row-requires-clause-repeats : goal.any_row-requires-clause-repeats
any_row-requires-clause-repeats g c =
    let old = g.D.Domain.look c.args.d.now in
    let now = g.D.Domain.look c.evaluate.new.d in
    let sys = c.args.semantics.now in
    let vars = c.args.vars.now in
    let m = seen_matching old c.args.matching.now in
    let lawful = c.requires.matching in
    let p = c.args.pattern.now in
    let e = c.args.key.now in
    let read = key_sort sys.cons sys.tables vars m lawful p c.args.table e c.requires.ready in
    subst (λ x. RebindsOnlyScalars vars x.binds (λ i. times i p)) (sym (matching_stays old now c.in_ok-term.ensures.extends c.args.matching.now (lawful_nodes sys.cons vars m lawful))) (pattern_repeats sys.cons sys.tables vars m lawful p (RowOf c.args.table e) c.requires.ready)

pub returns-clause-matchings : goal.returns-clause-matchings
returns-clause-matchings g c =
    let old = g.D.Domain.look c.args.d.now in
    let now = g.D.Domain.look c.evaluate.new.d in
    let sys = c.args.semantics.now in
    let vars = c.args.vars.now in
    let m = seen_matching old c.args.matching.now in
    let lawful = c.requires.matching in
    let p = c.args.pattern.now in
    let e = c.args.key.now in
    let read = key_sort sys.cons sys.tables vars m lawful p c.args.table e c.requires.ready in
    let kept = matching_stays old now c.in_ok-term.ensures.extends c.args.matching.now (lawful_nodes sys.cons vars m lawful) in
    let variables = g.D.Domain.variables c.args.d.now in
    let node = c.plain_node-node.result.now in
    let ms = seen_matchings (g.D.Domain.look c.any_row.new.d) c.in_ok-any_row.field-0 in
    rows_on sys.cons vars variables sys c.args.program.now c.requires.program c.args.table read.0 c.as_slice-rows.result.now read.1 (c.rows.ensures ∙ ap Some (sym c.as_slice-rows.ensures)) p e (now node) m
    (λ v w a. c.in_ok-term.ensures.value.means v w a ∙ ap (λ t. tree_of v (seen_term now t)) c.plain_node-node.ensures ∙ plain_tree now v node) ms
    (go_on_from sys.cons vars (g.D.Domain.variables c.evaluate.new.d) variables (seen_matching now c.args.matching.now) m (λ i. times i p) (λ v w. Any (ReadsRow (now node) p v w) c.as_slice-rows.result.now) ms c.in_ok-term.ensures.same_variables kept c.in_ok-any_row.ensures.matchings)
