-- What a formula without maps says of the formula that it comes from.
use Rattle.std.specs.Prelude.{◌≡◌, ℕ, true, List, ◌↔◌}
use Rattle.data_value.specs.declared.Value.{Value}
use Rattle.data_value.specs.Nodes.{Seen, IsValuation}
use Rattle.data_value.specs.Truth.{truth}
use Rattle.data_value.specs.Flat.{AreWords}
use Rattle.map_reads.specs.declared.read.Reads.{Reads}
use Rattle.map_reads.specs.declared.draft.Draft.{Draft}
use Rattle.map_reads.specs.Lifted.{lifted, FlatHolds, TiedBy}

-- Where words and a valuation say the same, the words make the flat formula true exactly where the valuation makes the formula true.
abbrev pub MeansTheSame : {N : Type 0} → Seen N → Reads → Type 0
MeansTheSame formula r = (words : List ℕ) (v : List Value) → IsValuation r.sorts v → AreWords r.flat.widths words → TiedBy r words v → FlatHolds r words ↔ (truth formula v ≡ true)

-- Words that make the flat formula true are lifted to a valuation that makes the formula true, and say the same as it.
pub record IsLift {N : Type 0} (formula : Seen N) (r : Reads) (words : List ℕ) : Type 0 where
  pub fits : IsValuation r.sorts (lifted r words)
  pub ties : TiedBy r words (lifted r words)
  pub holds : truth formula (lifted r words) ≡ true

abbrev pub IsSound : {N : Type 0} → Seen N → Reads → Type 0
IsSound formula r = (words : List ℕ) → AreWords r.flat.widths words → FlatHolds r words → IsLift formula r words

-- Words that say the same as a valuation.
pub record WordsFor (r : Reads) (v : List Value) : Type 0 where
  pub words : List ℕ
  pub fit : AreWords r.flat.widths words
  pub ties : TiedBy r words v

-- Every valuation has words that say the same.
abbrev pub HasWords : Reads → Type 0
HasWords r = (v : List Value) → IsValuation r.sorts v → WordsFor r v

-- the reads of a draft, with the formula at this place
pub record IsFinished (d : Draft) (place : ℕ) (r : Reads) : Type 0 where
  pub nodes : r.flat.nodes ≡ d.nodes
  pub widths : r.flat.widths ≡ d.widths
  pub root : r.flat.root ≡ place
  pub sorts : r.sorts ≡ d.sorts
  pub scalars : r.scalars ≡ d.scalars
  pub reads : r.reads ≡ d.reads
