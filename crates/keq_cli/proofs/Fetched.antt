-- Files that are fetched one after the other.
use Rattle.std.proofs.Common.{◌≡◌, ◌<◌, ℕ, ◌+◌, List, [], ◌∷◌, ◌++◌, map, take, length, get_or, All, Bool, IsTrue, Option, None, Some, IsSome, IfSome, option_map, sym, ap, ap₂, ◌∙◌, subst}
use Rattle.std.specs.Prelude.{String}
use Rattle.std.specs.declared.alloc.Global.{Global}
use Rattle.std.specs.FinMap.{get}
use Rattle.std.specs.String.{string_bytes}
use Rattle.std.proofs.lemmas.List.{take_more, map-append, length-map}
use Rattle.std.proofs.lemmas.List.Elements.{All-get_or}
use Rattle.std.proofs.Math.ListN.{get_or-map}
use Rattle.keq_cli.specs.Outside.{FileMap, IsHeld, IsFetched, IsMissingIfSteady}
use Rattle.keq_cli.specs.Words.{Ask, text_ask}
use Rattle.keq_cli.specs.Asked.{asks_of}
use Rattle.keq_cli.specs.Plan.{Texts}
use Rattle.keq_cli.specs.Texts.{AreFetched}

-- the front of the text under a name, if one is held
abbrev front_of : FileMap → Ask → Option (List ℕ)
front_of files ask = option_map (take ask.most) (get files ask.name)

module _ (names : List (String Global)) (k : ℕ) (name : String Global) (within : k < length names) (is : name ≡ get_or names k name) where
  -- the names up to this one
  asks_more : asks_of (take (k + 1) names) ≡ asks_of (take k names) ++ text_ask (string_bytes name) ∷ []
  asks_more =
      ap asks_of (take_more names k name within ∙ ap (λ (n : String Global). take k names ++ n ∷ []) (sym is))
      ∙ ap (map text_ask) (map-append string_bytes (take k names) (name ∷ []))
      ∙ map-append text_ask (map string_bytes (take k names)) (string_bytes name ∷ [])

  -- one file more is fetched
  one_more : (files : FileMap) (texts : Texts) (text : List ℕ) → AreFetched files (asks_of (take k names)) texts → IsFetched files (string_bytes name) 1048577 text → AreFetched files (asks_of (take (k + 1) names)) (texts ++ text ∷ [])
  one_more files texts text so_far fetched =
      let here : front_of files (text_ask (string_bytes name)) ≡ Some text = ap (option_map (take 1048577)) fetched.held ∙ ap Some (sym fetched.front) in
      ap (map (front_of files)) asks_more
      ∙ map-append (front_of files) (asks_of (take k names)) (text_ask (string_bytes name) ∷ [])
      ∙ ap₂ (λ xs (x : Option (List ℕ)). xs ++ x ∷ []) so_far here
      ∙ sym (map-append Some texts (text ∷ []))

  -- the same of what a shelf tells, of a name that was called by its bytes
  pub fetched_more : (held : Option FileMap) (called : List ℕ) → called ≡ string_bytes name → (texts new : Texts) (text : List ℕ) → new ≡ texts ++ text ∷ [] → IfSome held (λ files. AreFetched files (asks_of (take k names)) texts) → IfSome held (λ files. IsFetched files called 1048577 text) → IfSome held (λ files. AreFetched files (asks_of (take (k + 1) names)) new)
  fetched_more None called same texts new text is_new so_far fetched = tt
  fetched_more (Some files) called same texts new text is_new so_far fetched =
      subst (AreFetched files (asks_of (take (k + 1) names))) (sym is_new) (one_more files texts text so_far (subst (λ (bytes : List ℕ). IsFetched files bytes 1048577 text) same fetched))

  -- a name of those that are held is held
  held_at : (files : FileMap) → All (λ ask. IsHeld files ask.name) (asks_of names) → IsHeld files (string_bytes name)
  held_at files all =
      let there : get_or (asks_of names) k (text_ask (string_bytes name)) ≡ text_ask (string_bytes name) =
      get_or-map text_ask (map string_bytes names) k (string_bytes name) ∙ ap text_ask (get_or-map string_bytes names k name ∙ ap string_bytes (sym is)) in
      let low : k < length (asks_of names) = subst (λ n. k < n) (sym (length-map (map string_bytes names) text_ask ∙ length-map names string_bytes)) within in
      subst (λ (ask : Ask). IsHeld files ask.name) there (All-get_or (λ (ask : Ask). IsHeld files ask.name) (asks_of names) k (text_ask (string_bytes name)) low all)

  -- so a steady shelf that tells that it holds the names doesn't miss one
  pub never_missing : (steady : Bool) (held : Option FileMap) (called : List ℕ) → called ≡ string_bytes name → IsTrue steady → IsSome held → IfSome held (λ files. All (λ ask. IsHeld files ask.name) (asks_of names)) → IsMissingIfSteady steady held called → ⊥
  never_missing steady None called same is_steady told all missing = absurd cc
  never_missing steady (Some files) called same is_steady told all missing =
      let none : get files called ≡ None = missing is_steady in
      let some : IsSome (get files called) = subst (IsHeld files) (sym same) (held_at files all) in
      let never : IsSome {T = List ℕ} None = subst IsSome none some in cc
