use Rattle.std.proofs.Common.{◌≡◌, Bool, true, false, map, refl, sym, ap, ◌∙◌}
use Rattle.std.specs.Prelude.{not, IsTrue, ◌↔◌}
use Rattle.name_resolution.specs.Names.{place_of}
use Rattle.name_resolution.proofs.Places.{new_name, old_name}
use Rattle.name_resolution.proofs.names.NameTable.declare_word.Goals as goal

absent : (r b : Bool) → r ≡ not b → r ≡ true → b ≡ false
absent r true e h = sym (sym e ∙ h)
absent r false e h = refl

present : (r b : Bool) → r ≡ not b → r ≡ false → b ≡ true
present r true e h = refl
present r false e h = sym (sym e ∙ h)

tells : {P : Type 0} (r : Bool) → (r ≡ true → P) → (r ≡ false → ¬ P) → IsTrue r ↔ P
tells true new old = (λ _. new refl, λ _. refl)
tells false new old = (λ is. absurd cc, λ p. absurd (old refl p))

-- the place of the name among the names before
pub returns-clause-told : goal.returns-clause-told
returns-clause-told c =
    let seen : place_of c.in_ok-bytes.bytes.items (map (λ v. v.items) c.self.inside.words.keys) ≡ place_of c.args.word.now c.args.self.now = ap (place_of c.in_ok-bytes.bytes.items) c.self.view_is ∙ ap (λ name. place_of name c.args.self.now) c.in_ok-bytes.ensures.items in
    tells c.in_ok-_place.is_new
    (λ new. sym seen ∙ new_name (λ v. v.items) c.in_ok-bytes.bytes.items c.self.inside.words.keys (absent _ _ c.in_ok-_place.ensures.added new))
    (λ old new. old_name (λ v. v.items) c.in_ok-bytes.bytes.items c.self.inside.words.keys (present _ _ c.in_ok-_place.ensures.added old) (seen ∙ new))
