use Rattle.std.proofs.Common.{rules, ◌==◌, ap, ◌∙◌}
use Rattle.std.specs.List.{list_any}
use Rattle.program_text.specs.Rows.{RowsOf, rows_at}
use Rattle.program_text.proofs.Keys.{keys_there, keys_of, has_of}
use Rattle.program_text.proofs.program_draft.ProgramDraft.has_key.Goals as goal

pub returns : goal.returns
returns g c =
    let there = keys_there c.self.inside.row_lists.items c.self.inside.key_tables.items c.args.id.0 c.index.result.now c.self.invariant.0 (search rules) c.index.ensures in
    c.has.ensures ∙ ap (list_any (λ k. c.args.key == k)) (there ∙ ap (λ (d : RowsOf). keys_of (rows_at d c.args.id)) c.self.view_is) ∙ has_of (rows_at c.args.self.now c.args.id) c.args.key
