-- Which items of a semantics are well sorted, and which rules bind their variables.
use Rattle.std.specs.Prelude.{◌≡◌, IsTrue, All, Some, ⊤}
use Rattle.rule_text.specs.declared.item.Item.{Item}
use Rattle.sort_term.specs.declared.ids.SortId.{SortId}
use Rattle.sort_term.specs.declared.rule.Rule.{Rule}
use Rattle.sort_term.specs.Signature.{has_con, is_usable}
use Rattle.sort_term.specs.Rules.{IsSorted, RepeatsOnlyScalars, AllStandIn, ReadsBound}
use Rattle.sort_term.specs.Stands.{patterns_of}
use Rattle.semantics_load.specs.declared.piece.Piece.{Piece}
use Rattle.semantics_load.specs.declared.piece.Piece.TheVariants as piece
use Rattle.semantics_load.specs.Declaring.{Declared}
use Rattle.semantics_load.specs.Pieces.{piece_of}

-- a rule is well sorted: its variables have sorts that may be used, and one that stands more than once in its patterns is scalar
pub record IsRuleSorted (d : Declared) (r : Rule) : Type 0 where
  pub usable : All (λ x. IsTrue (is_usable d.cons x.sort)) r.vars
  pub sorted : (config : SortId) → d.config ≡ Some config → IsSorted d.cons d.tables config r
  pub repeats : RepeatsOnlyScalars r.vars (patterns_of r)

-- what an item says is well sorted: it uses declared sorts that have a constructor by now, and its terms fit
abbrev pub IsPieceSorted : Declared → Piece → Type 0
IsPieceSorted d (piece.Sort name) = ⊤
IsPieceSorted d (piece.Con c) = All (λ a. IsTrue (is_usable d.cons a)) c.args
IsPieceSorted d (piece.Table t) = IsTrue (is_usable d.cons t.sort)
IsPieceSorted d (piece.Config a) = IsTrue (has_con d.cons a)
IsPieceSorted d (piece.Rule r) = IsRuleSorted d r

-- an item says something, which is well sorted
pub record HasSorts (d : Declared) (i : Item) : Type 0 where
  pub piece : Piece
  pub says : piece_of d i ≡ Some piece
  pub sorted : IsPieceSorted d piece

-- the patterns of a rule bind all its variables, each before it is read
abbrev pub IsPieceBound : Piece → Type 0
IsPieceBound (piece.Rule r) = AllStandIn r.vars (patterns_of r) × ReadsBound r.vars r.head r.demands
IsPieceBound _ = ⊤

-- what an item says binds its variables
abbrev pub BindsAll : Declared → Item → Type 0
BindsAll d i = (p : Piece) → piece_of d i ≡ Some p → IsPieceBound p
