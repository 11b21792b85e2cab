use Rattle.std.proofs.Common.{refl, sym, ◌∙◌}
use Rattle.sync_points.specs.Names.{HasNames, vars_in}
use Rattle.sync_points.proofs.Passing.{names_there, failed, unbound, undetermined, lawful_piece}
use Rattle.sync_points.proofs.draft.lawful_piece.Goals as goal

pub returns-then-not-is_piece_bound-clause-fault : goal.returns-then-not-is_piece_bound-clause-fault
returns-then-not-is_piece_bound-clause-fault c =
    let d = c.args.draft.now in
    let i = c.args.item.now in
    let named = names_there (HasNames d i) (vars_in i) _ _ c.in_ok-names.ensures c.in-Some.is in
    unbound d i c.in-Some-2.piece (c.if-not-is_points_item.ensures.0 refl) named.0 (c.if-not-is_within_limits.ensures.0 refl) (sym c.in_ok-piece.ensures ∙ c.in-Some-2.is) (c.if-not-is_piece_sorted.ensures.0 refl) (failed c.if-not-is_piece_bound.ensures.1)

pub returns-then-not-is_piece_determined-clause-fault : goal.returns-then-not-is_piece_determined-clause-fault
returns-then-not-is_piece_determined-clause-fault c =
    let d = c.args.draft.now in
    let i = c.args.item.now in
    let named = names_there (HasNames d i) (vars_in i) _ _ c.in_ok-names.ensures c.in-Some.is in
    undetermined d i c.in-Some-2.piece (c.if-not-is_points_item.ensures.0 refl) named.0 (c.if-not-is_within_limits.ensures.0 refl) (sym c.in_ok-piece.ensures ∙ c.in-Some-2.is) (c.if-not-is_piece_sorted.ensures.0 refl) (c.if-not-is_piece_bound.ensures.0 refl) (failed c.if-not-is_piece_determined.ensures.1)

pub returns-clause-ok : goal.returns-clause-ok
returns-clause-ok c =
    let d = c.args.draft.now in
    let i = c.args.item.now in
    let named = names_there (HasNames d i) (vars_in i) _ _ c.in_ok-names.ensures c.in-Some.is in
    lawful_piece d i c.in-Some-2.piece (c.if-not-is_points_item.ensures.0 refl) named.0 (c.if-not-is_within_limits.ensures.0 refl) (sym c.in_ok-piece.ensures ∙ c.in-Some-2.is) (c.if-not-is_piece_sorted.ensures.0 refl) (c.if-not-is_piece_bound.ensures.0 refl) (c.if-not-is_piece_determined.ensures.0 refl)
