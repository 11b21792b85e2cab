-- The texts that a command asks for, and what a shelf holds of them.
use Rattle.std.specs.Prelude.{◌≡◌, Bool, IsTrue, List, map, take, length, All, Option, Some, IfSome, option_map}
use Rattle.std.specs.FinMap.{get}
use Rattle.keq_cli.specs.Outside.{FileMap, IsHeld}
use Rattle.keq_cli.specs.Plan.{Texts}
use Rattle.keq_cli.specs.Words.{Ask, Command, files_asked}

-- each file that is asked for is held
abbrev pub HoldsNamed : FileMap → Option Command → Type 0
HoldsNamed files command = All (λ ask. IsHeld files ask.name) (files_asked command)

-- a steady shelf that holds each file that is asked for, where it tells what it holds
abbrev pub HoldsSteadily : Bool → Option FileMap → Option Command → Type 0
HoldsSteadily steady held command = IsTrue steady × IfSome held (λ files. HoldsNamed files command)

-- what is held under the names, in their order, is these texts
abbrev pub AreHeld : FileMap → List Ask → Texts → Type 0
AreHeld files asks texts = map (λ ask. get files ask.name) asks ≡ map Some texts

-- the first bytes of what is held under the names, as many as are asked for, are these fronts
abbrev pub AreFetched : FileMap → List Ask → Texts → Type 0
AreFetched files asks fronts = map (λ ask. option_map (take ask.most) (get files ask.name)) asks ≡ map Some fronts

-- texts for what is asked: as many, and where the shelf tells what it holds, what is held under the names
pub record MayHold (held : Option FileMap) (asks : List Ask) (texts : Texts) : Type 0 where
  pub as_many : length texts ≡ length asks
  pub told : IfSome held (λ files. AreHeld files asks texts)
