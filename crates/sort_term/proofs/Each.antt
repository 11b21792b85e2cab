-- A fact for each item of a list, by recursion, as an induction gives it.
use Rattle.std.proofs.Common.{List, [], ◌∷◌}

abbrev pub Each : {A : Type 0} → (A → Type 0) → List A → Type 0
Each P [] = Unit {0}
Each P (x ∷ xs) = P x × Each P xs
