-- Words of which the lower bits are cleared, and these bits alone.
use Rattle.std.specs.Prelude.{◌≡◌, ◌-◌, ◌^◌, ℕ, [], ◌∷◌, Some}
use Rattle.data_value.specs.declared.Scalar.TheVariants.{Bits}
use Rattle.data_value.specs.declared.Op.TheVariants.{BvAnd, Shl, Lshr}
use Rattle.data_value.specs.Nodes.{Seen, Apply}

-- A node is known as the word y, of some width.
abbrev pub IsKnownWord : {N : Type 0} → Seen N → ℕ → Type 0
IsKnownWord s y = (w : ℕ) × (s.known ≡ Some (Bits w y))

-- A node shows x, moved down by k bits.
pub record IsMovedDown {N : Type 0} (look : N → Seen N) (n x : N) (k : ℕ) : Type 0 where
  pub word : N
  pub count : N
  pub shown : (look n).shown ≡ Apply Lshr (word ∷ count ∷ [])
  pub same : look word ≡ look x
  pub known : IsKnownWord (look count) k

-- A node shows x, moved down by k bits and up again.
pub record IsCleared {N : Type 0} (look : N → Seen N) (n x : N) (k : ℕ) : Type 0 where
  pub inner : N
  pub count : N
  pub shown : (look n).shown ≡ Apply Shl (inner ∷ count ∷ [])
  pub moved : IsMovedDown look inner x k
  pub known : IsKnownWord (look count) k

-- One node is a word with some lower bits cleared, the other is these bits of it, and s is the word.
pub record IsSplit {N : Type 0} (look : N → Seen N) (upper lower : N) (s : Seen N) : Type 0 where
  pub word : N
  pub mask : N
  pub count : ℕ
  pub shown : (look lower).shown ≡ Apply BvAnd (word ∷ mask ∷ [])
  pub known : IsKnownWord (look mask) (2 ^ count - 1)
  pub cleared : IsCleared look upper word count
  pub same : s ≡ look word
