use Rattle.std.proofs.Common.{sym, ◌∙◌}
use Rattle.std.proofs.lemmas.Bool.{iff_false}
use Rattle.rule_text.proofs.Firsts.{first_sort}
use Rattle.semantics_load.specs.Loads.{semantics_loading}
use Rattle.semantics_load.proofs.Checking.{says_nothing, is_not_sorted}
use Rattle.semantics_load.proofs.checks.sorted_piece.Goals as goal

pub piece-requires : goal.piece-requires
piece-requires c = record { names = c.requires.names }

pub returns-in_default-clause-fault : goal.returns-in_default-clause-fault
returns-in_default-clause-fault c =
    let form = c.requires.form in
    first_sort semantics_loading c.args.draft.now c.args.item.now form.shape form.named form.within
    (says_nothing c.args.draft.now c.args.item.now (sym c.in_ok-piece.ensures ∙ c.in_default.is))

pub returns-then-is_piece_sorted-clause-ok : goal.returns-then-is_piece_sorted-clause-ok
returns-then-is_piece_sorted-clause-ok c = record { says = sym c.in_ok-piece.ensures ∙ c.in-Some.is; sorted = c.is_piece_sorted.ensures.0 c.if-is_piece_sorted.true }

pub returns-else-is_piece_sorted-clause-fault : goal.returns-else-is_piece_sorted-clause-fault
returns-else-is_piece_sorted-clause-fault c =
    let form = c.requires.form in
    first_sort semantics_loading c.args.draft.now c.args.item.now form.shape form.named form.within
    (is_not_sorted c.args.draft.now c.args.item.now c.in-Some.piece (sym c.in_ok-piece.ensures ∙ c.in-Some.is) (iff_false c.is_piece_sorted.ensures c.if-is_piece_sorted.false))
