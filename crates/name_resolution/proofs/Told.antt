-- Whether all of a list are told to pass.
use Rattle.std.proofs.Common.{◌≡◌, ℕ, ◌<◌, Bool, false, List, map, length, get_or, sym, ap, ◌∙◌}
use Rattle.std.specs.List.{list_all}
use Rattle.std.proofs.lemmas.List.Folds.{list_all-map, list_all_at}

-- one that doesn't pass
pub told_not : {X : Type 0} (f : X → Bool) (xs : List X) (i : ℕ) (x : X) → i < length xs → x ≡ get_or xs i x → f x ≡ false → list_all (λ arg. arg) (map f xs) ≡ false
told_not f xs i x within is fails = list_all-map (λ arg. arg) f xs ∙ list_all_at f xs i x within (ap f (sym is) ∙ fails)
