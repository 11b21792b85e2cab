-- Bits of words that are made of others.
use Rattle.std.specs.Prelude.{◌≡◌, ◌<◌, ◌≤◌, ℕ, List, [], ◌∷◌}
use Rattle.data_value.specs.declared.DataSort.{DataSort}
use Rattle.data_value.specs.declared.DataSort.TheVariants.{Bits as BitsSort}
use Rattle.data_value.specs.declared.Op.TheVariants.{Extract, Zext}
use Rattle.data_value.specs.Nodes.{Seen, Apply}
use Rattle.simplify.specs.Rewrites.{AreNoHarder, IsScalarFor}
use Rattle.simplify.specs.declared.parts.Span.{Span}
use Rattle.simplify.specs.declared.parts.Inner.{Inner}
use Rattle.simplify.specs.declared.parts.Inner.TheVariants as inner

-- Bits of a node are other bits of another one, which is no larger.
abbrev pub AreBitsOf : {N : Type 0} → List DataSort → (N → Seen N) → Span N → Span N → Type 0
AreBitsOf variables look p q = AreNoHarder variables look (Extract p.hi p.lo) (p.node ∷ []) (Extract q.hi q.lo) (q.node ∷ [])

-- What bits of a node come to.
abbrev pub IsInner : {N : Type 0} → List DataSort → (N → Seen N) → Span N → Inner N → Type 0
IsInner variables look p (inner.Known c) = IsScalarFor variables look (Extract p.hi p.lo) (p.node ∷ []) c
IsInner variables look p (inner.Bits q) = AreBitsOf variables look p q × ((look q.node).height < (look p.node).height)
IsInner variables look p inner.Unclear = Unit {0}

-- A node shows another one, widened by zeros.
abbrev pub IsWidened : {N : Type 0} → (N → Seen N) → N → N → Type 0
IsWidened look a x = (n : ℕ) × ((look a).shown ≡ Apply (Zext n) (x ∷ []))

-- These are bits of words of a sort.
abbrev pub IsWithin : DataSort → ℕ → ℕ → Type 0
IsWithin (BitsSort w) hi lo = (lo ≤ hi) × (hi < w)
IsWithin _ hi lo = ⊥
