-- The multiple of a quotient, and the remainder.
use Rattle.std.specs.Prelude.{◌≡◌, ◌⊎◌, List, [], ◌∷◌}
use Rattle.data_value.specs.declared.Value.{Value}
use Rattle.data_value.specs.declared.Op.{Op}
use Rattle.data_value.specs.declared.Op.TheVariants.{Mul, Udiv, Urem}
use Rattle.data_value.specs.Ops.{op_value}
use Rattle.data_value.specs.Nodes.{Seen, Apply}
use Rattle.simplify.specs.Split.{IsSplit}

-- A node means what an operator gives two nodes.
abbrev pub MeansOf : {N : Type 0} → (N → Seen N) → N → Op → N → N → Type 0
MeansOf look n op a b = (v : List Value) → (look n).meaning v ≡ op_value op ((look a).meaning v ∷ (look b).meaning v ∷ [])

-- A node means the quotient of x by y times y, in one order or the other.
abbrev pub IsMultiple : {N : Type 0} → (N → Seen N) → N → N → N → Type 0
IsMultiple {N} look n x y =
    (v : List Value) →
    let quotient = op_value Udiv ((look x).meaning v ∷ (look y).meaning v ∷ []) in
    ((look n).meaning v ≡ op_value Mul (quotient ∷ (look y).meaning v ∷ [])) ⊎ ((look n).meaning v ≡ op_value Mul ((look y).meaning v ∷ quotient ∷ []))

-- One node is the multiple of a quotient, the other is the remainder, and s is the dividend.
pub record IsDividend {N : Type 0} (look : N → Seen N) (product rest : N) (s : Seen N) : Type 0 where
  pub dividend : N
  pub divisor : N
  pub remainder : (look rest).shown ≡ Apply Urem (dividend ∷ divisor ∷ [])
  pub multiple : IsMultiple look product dividend divisor
  pub same : s ≡ look dividend

-- One node and another are the multiple of a quotient and the remainder, or the upper and the lower bits of a word, and s is the whole.
abbrev pub IsWhole : {N : Type 0} → (N → Seen N) → N → N → Seen N → Type 0
IsWhole look upper lower s = IsDividend look upper lower s ⊎ IsSplit look upper lower s
