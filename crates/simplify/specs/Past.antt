-- Reads of maps into which words were put.
use Rattle.std.specs.Prelude.{◌≡◌, ◌<◌, ◌≤◌, IsTrue, List, [], ◌∷◌}
use Rattle.data_value.specs.declared.DataSort.{DataSort}
use Rattle.data_value.specs.declared.Value.{Value}
use Rattle.data_value.specs.declared.Op.TheVariants.{Get}
use Rattle.data_value.specs.Ops.{op_value}
use Rattle.data_value.specs.Nodes.{Seen, IsValuation}
use Rattle.simplify.specs.Simpler.{IsSimplerThan}
use Rattle.simplify.specs.declared.reads.Past.{Past}
use Rattle.simplify.specs.declared.reads.Past.TheVariants as past

-- A map has at a key what another one has there, and is no larger.
pub record IsEarlier {N : Type 0} (variables : List DataSort) (look : N → Seen N) (map key rest : N) : Type 0 where
  pub valid : IsTrue (look rest).valid
  pub sort : (look rest).sort ≡ (look map).sort
  pub means : (v : List Value) → IsValuation variables v → op_value Get ((look rest).meaning v ∷ (look key).meaning v ∷ []) ≡ op_value Get ((look map).meaning v ∷ (look key).meaning v ∷ [])
  pub small : (look rest).size ≤ (look map).size

-- What a read of a map at a key comes to.
abbrev pub IsPast : {N : Type 0} → List DataSort → (N → Seen N) → N → N → Past N → Type 0
IsPast variables look map key (past.Word n) = IsSimplerThan variables look Get (map ∷ key ∷ []) (look n)
IsPast variables look map key (past.Before rest) = IsEarlier variables look map key rest × ((look rest).height < (look map).height)
IsPast variables look map key past.Unclear = Unit {0}
