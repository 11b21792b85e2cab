use Rattle.std.proofs.Common.{◌≡◌, [], ◌∷◌, List, map, length, refl, sym, ap, ◌∙◌}
use Rattle.std.proofs.lemmas.List.{length-map}
use Rattle.sort_term.specs.declared.program.Row.{Row}
use Rattle.sort_term.specs.declared.semantics.Table.{Table}
use Rattle.sort_term.specs.System.{System}
use Rattle.program_text.proofs.program_draft.ProgramDraft.new.Goals as goal

-- no rows have no keys
no_keys : (tables : List Table) → map (λ (rows : List Row). map (λ r. r.key) rows) (map (λ _. []) tables) ≡ map (λ _. []) tables
no_keys [] = refl
no_keys (t ∷ more) = ap (λ ks. [] ∷ ks) (no_keys more)

pub invariant_of-result : goal.invariant_of-result
invariant_of-result g c = (
  ap (map (λ (rows : List Row). map (λ r. r.key) rows)) c.in-Ok.ensures.rows ∙ no_keys _ ∙ sym c.in-Ok.ensures.keys,
  ap length c.in-Ok.ensures.rows ∙ length-map _ _ ∙ ap length (c.as_slice.ensures ∙ c.tables.ensures.value) ∙ ap (λ (s : System). length s.tables) (sym c.in_ok-reader.ensures),
)
