use Rattle.std.proofs.lemmas.Bool.{iff_false}
use Rattle.rule_text.proofs.Firsts.{first_unbound}
use Rattle.semantics_load.specs.Loads.{semantics_loading}
use Rattle.semantics_load.proofs.Checking.{has_sorts, is_not_bound}
use Rattle.semantics_load.proofs.checks.lawful_piece.Goals as goal

pub sorted_piece-requires-clause-form : goal.sorted_piece-requires-clause-form
sorted_piece-requires-clause-form c = c.in_ok-names.ensures.ok.0

pub sorted_piece-requires-clause-names : goal.sorted_piece-requires-clause-names
sorted_piece-requires-clause-names c = c.in_ok-names.ensures.ok.1

pub returns-then-is_piece_bound-clause-ok : goal.returns-then-is_piece_bound-clause-ok
returns-then-is_piece_bound-clause-ok c = record { form = c.in_ok-names.ensures.ok.0; said = c.in_ok-piece.ensures.ok; bound = c.is_piece_bound.ensures.0 c.if-is_piece_bound.true }

pub returns-else-is_piece_bound-clause-fault : goal.returns-else-is_piece_bound-clause-fault
returns-else-is_piece_bound-clause-fault c =
    let form = c.in_ok-names.ensures.ok.0 in
    let said = c.in_ok-piece.ensures.ok in
    first_unbound semantics_loading c.args.draft.now c.args.item.now form.shape form.named form.within (has_sorts c.args.draft.now c.args.item.now c.in_ok-piece.piece said)
    (is_not_bound c.args.draft.now c.args.item.now c.in_ok-piece.piece said.says (iff_false c.is_piece_bound.ensures c.if-is_piece_bound.false))
