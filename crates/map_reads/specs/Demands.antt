-- Reads that agree, and formulas that demand it.
use Rattle.std.specs.Prelude.{◌≡◌, ℕ, true, List, Some, slice_get, slice_index, ◌↔◌}
use Rattle.data_value.specs.declared.DataSort.TheVariants.{Bool as BoolSort}
use Rattle.data_value.specs.declared.flat_formula.FlatNode.{FlatNode}
use Rattle.data_value.specs.Values.{flag_of}
use Rattle.map_reads.specs.declared.read.Read.{Read}
use Rattle.map_reads.specs.declared.draft.Draft.{Draft}
use Rattle.map_reads.specs.Tied.{value_in}
use Rattle.map_reads.specs.Drafts.{sort_at, value_of, IsDraft, Grows}

-- Two reads of one variable at equal keys have equal words.
abbrev pub Agree : List ℕ → List FlatNode → List ℕ → Read → Read → Type 0
Agree widths nodes words a b = a.variable ≡ b.variable → value_in widths nodes words a.key ≡ value_in widths nodes words b.key → slice_index words a.word ≡ slice_index words b.word

-- The reads of two numbers agree.
abbrev pub AgreeAt : List ℕ → List FlatNode → List Read → List ℕ → ℕ → ℕ → Type 0
AgreeAt widths nodes reads words i j = (a b : Read) → slice_get reads i ≡ Some a → slice_get reads j ≡ Some b → Agree widths nodes words a b

-- Each two reads agree.
abbrev pub AllAgree : List ℕ → List FlatNode → List Read → List ℕ → Type 0
AllAgree widths nodes reads words = (i j : ℕ) → AgreeAt widths nodes reads words i j

-- the reads of two numbers agree, as far as the draft goes
abbrev pub AgreeIn : Draft → List ℕ → ℕ → ℕ → Type 0
AgreeIn d words i j = AgreeAt d.widths d.nodes d.reads words i j

-- a place that is true where an earlier one is and the words are as demanded, in a draft that got no more reads
pub record IsDemanded (old new : Draft) (root p : ℕ) (demand : List ℕ → Type 0) : Type 0 where
  pub grows : Grows old new
  pub draft : IsDraft new
  pub reads : new.reads ≡ old.reads
  pub sort : sort_at new p ≡ Some BoolSort
  pub means : (words : List ℕ) → (flag_of (value_of new words p) ≡ true) ↔ ((flag_of (value_of old words root) ≡ true) × demand words)
