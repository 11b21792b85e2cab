-- Things that act one after the other.
use Rattle.std.specs.Prelude.{◌≡◌, List, [], ◌∷◌}

-- the things, each after those before it, take d to e
abbrev pub InTurn : {D X : Type 0} → (D → X → D → Type 0) → D → List X → D → Type 0
InTurn Step d [] e = d ≡ e
InTurn {D} Step d (x ∷ more) e = (m : D) × Step d x m × InTurn Step m more e
