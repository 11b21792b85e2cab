-- Of constructors with distinct names each is found by its name.
use Rattle.std.proofs.Common.{◌≡◌, ◌≢◌, ℕ, ◌<◌, List, map, length, get_or, slice_get, Option, None, Some, refl, sym, ap, ◌∙◌, inl, inr}
use Rattle.std.specs.Prelude.{bytes_eq, option_map, option_and_then}
use Rattle.std.proofs.lemmas.Bool.{cases_order}
use Rattle.std.proofs.lemmas.List.Folds.{list_any-from_Any}
use Rattle.std.proofs.lemmas.List.Quantifiers.{position-Some}
use Rattle.std.proofs.lemmas.Slice.Eq.{bytes_eq-Decides}
use Rattle.sort_term.specs.Names.{AreDistinct}
use Rattle.sort_term.specs.System.{System}
use Rattle.sort_term.specs.declared.ids.ConId.{ConId}
use Rattle.sort_term.specs.declared.semantics.Con.{Con}
use Rattle.sort_term.proofs.Standing.{get-below, get-is}
use Rattle.name_resolution.specs.Names.{place_of}
use Rattle.name_resolution.specs.Known.{vocabulary_in, con_at, con_of}
use Rattle.name_resolution.proofs.Places.{position-map, old_name}

module _ {X : Type 0} (key : X → List ℕ) (xs : List X) (i : ℕ) (x : X) (there : slice_get xs i ≡ Some x) (distinct : AreDistinct key xs) where
  -- the name stands somewhere
  found : place_of (key x) (map key xs) ≢ None
  found = old_name key (key x) xs (list_any-from_Any (λ y. bytes_eq (key x) (key y)) xs (i, x, get-below xs i x there, get-is xs i x x there, (bytes_eq-Decides (key x) (key x)).1 refl))

  -- and nowhere else
  only : (j : ℕ) → place_of (key x) (map key xs) ≡ Some j → j ≡ i
  only j e =
      let at = position-Some (λ y. bytes_eq (key x) (key y)) xs j x (sym (position-map key (bytes_eq (key x)) xs) ∙ e) in
      let below : i < length xs = get-below xs i x there in
      let here : get_or xs i x ≡ x = get-is xs i x x there in
      let named : key x ≡ key (get_or xs j x) = (bytes_eq-Decides (key x) (key (get_or xs j x))).0 at.1 in
      elim (cases_order j i) [
        | inl same ↦ same
        | inr (inl before) ↦ absurd (distinct j i x before below (sym named ∙ ap key (sym here)))
        | inr (inr behind) ↦ absurd (distinct i j x behind at.0 (ap key here ∙ named))
      ]

  -- a thing stands at the place of its name
  pub place_is : place_of (key x) (map key xs) ≡ Some i
  place_is = by (place_of (key x) (map key xs)) refl
    where
      by : (o : Option ℕ) → place_of (key x) (map key xs) ≡ o → place_of (key x) (map key xs) ≡ Some i
      by None e = absurd (found e)
      by (Some j) e = e ∙ ap Some (only j e)

-- a constructor is found by its name
pub con_is : (s : System) (c : ConId) (con : Con) → AreDistinct (λ k. k.name) s.cons → slice_get s.cons c.0 ≡ Some con → con_of (vocabulary_in s) con.name ≡ Some (c, con)
con_is s c con distinct there =
    ap (option_and_then (con_at (vocabulary_in s))) (place_is (λ (k : Con). k.name) s.cons c.0 con there distinct) ∙ ap (λ (o : Option Con). option_map (λ k. (c, k)) o) there
