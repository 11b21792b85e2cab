use Rattle.std.proofs.Common.{rules, ◌≡◌, ◌==◌, ◌∷◌, [], ◌++◌, List, ℕ, slice_get, slice_set, sym, ap, ap₂, ◌∙◌}
use Rattle.std.specs.List.{list_any}
use Rattle.std.proofs.lemmas.List.{map-append}
use Rattle.sort_term.specs.declared.program.Row.{Row}
use Rattle.program_text.specs.Rows.{rows_at, list_at, RowsOf}
use Rattle.program_text.proofs.Keys.{list_there, keys_there, keys_of, has_of, keys_set, length_set}
use Rattle.program_text.proofs.program_draft.ProgramDraft.with_row.Goals as goal

pub push-requires : goal.push-requires
push-requires g c =
    let there = keys_there c.draft.inside.row_lists.items c.draft.inside.key_tables.items c.args.id.0 c.index_mut.result.now c.draft.invariant.0 (search rules) c.index_mut.ensures.value in
    ap (list_any (λ k. c.args.row.key == k)) (there ∙ ap (λ (d : RowsOf). keys_of (rows_at d c.args.id)) c.draft.view_is) ∙ has_of (rows_at c.args.self c.args.id) c.args.row.key ∙ c.requires.new

pub invariant_of-draft : goal.invariant_of-draft
invariant_of-draft g c =
    let lists = c.draft.inside.row_lists.items in
    let i = c.args.id.0 in
    let keys_here = keys_there lists c.draft.inside.key_tables.items i c.index_mut.result.now c.draft.invariant.0 (search rules) c.index_mut.ensures.value in
    let rows_here = list_there lists i c.index_mut-2.result.now (search rules) c.index_mut-2.ensures.value in
    let more : keys_of c.push-2.new.self ≡ c.push.new.self =
    ap keys_of (c.in_ok-push-2.ensures.ok ∙ ap (λ rows. rows ++ c.args.row ∷ []) rows_here) ∙ map-append (λ (r : Row). r.key) (list_at (slice_get lists i)) (c.args.row ∷ [])
    ∙ sym (c.in_ok-push.ensures ∙ ap (λ ks. ks ++ c.args.row.key ∷ []) keys_here) in (
      keys_set lists i c.push-2.new.self ∙ ap₂ (λ (ks : List (List ℕ)) (k : List ℕ). slice_set ks i k) c.draft.invariant.0 more,
      length_set lists i c.push-2.new.self ∙ c.draft.invariant.1,
    )

pub returns : goal.returns
returns g c =
    let lists = c.draft.inside.row_lists.items in
    let i = c.args.id.0 in
    let rows_here = list_there lists i c.index_mut-2.result.now (search rules) c.index_mut-2.ensures.value in
    let row : c.push-2.new.self ≡ list_at (slice_get lists i) ++ c.args.row ∷ [] = c.in_ok-push-2.ensures.ok ∙ ap (λ rows. rows ++ c.args.row ∷ []) rows_here in
    ap (λ rows. record { semantics = c.draft.inside.reader; rows = slice_set lists i rows }) row
    ∙ ap (λ (d : RowsOf). record { semantics = d.semantics; rows = slice_set d.rows i (rows_at d c.args.id ++ c.args.row ∷ []) }) c.draft.view_is
