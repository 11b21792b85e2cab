-- Which items of a points text name only what is known, and give new names.
use Rattle.std.specs.Prelude.{◌≡◌, ℕ, true, false, ◌||◌, IsTrue, List, [], map, All, Option, Some, None, ⊤}
use Rattle.rule_text.specs.declared.item.RawVar.{RawVar}
use Rattle.rule_text.specs.declared.item.RawTree.{RawTree}
use Rattle.rule_text.specs.declared.item.Item.{Item}
use Rattle.rule_text.specs.declared.item.Item.TheVariants as item
use Rattle.sort_term.specs.declared.points.Points.{Points}
use Rattle.sort_term.specs.declared.points.Cut.{Cut}
use Rattle.sort_term.specs.System.{System}
use Rattle.name_resolution.specs.Names.{IsNew}
use Rattle.name_resolution.specs.Known.{Vocabulary, vocabulary_in}
use Rattle.name_resolution.specs.Named.{is_named_tree, is_named_sort, AreVarNames}
use Rattle.name_resolution.specs.Variables.{names_of, AreVarsNamed}
use Rattle.sync_points.specs.declared.piece.Piece.{Piece}
use Rattle.sync_points.specs.declared.piece.Piece.TheVariants as piece
use Rattle.sync_points.specs.Pieces.{PointsOf, no_names}

-- the pattern and the conditions of an item of a cut name only these variables and what is known
pub record ArePartsNamed (known : Vocabulary) (names : List (List ℕ)) (pattern : RawTree) (whens : List RawTree) : Type 0 where
  pub pattern_named : IsTrue (is_named_tree known names pattern)
  pub whens_named : All (λ e. IsTrue (is_named_tree known names e)) whens

-- an item of a cut names only what its side's semantics declares
pub record IsCutNamed (known : Vocabulary) (vars : List RawVar) (pattern : RawTree) (whens : List RawTree) : Type 0 where
  pub vars_named : AreVarsNamed known vars
  pub parts : ArePartsNamed known (names_of vars) pattern whens

-- an item of a cut has its names, over its side's semantics and the items of that cut before it: it names only what the semantics
-- declares, and gives a name that none of them has
abbrev pub HasCutNames : {S : Type 0} → System → List (Cut S) → List ℕ → List RawVar → RawTree → List RawTree → Type 0
HasCutNames s before name vars pattern whens = IsNew name (map (λ c. c.name) before) × IsCutNamed (vocabulary_in s) vars pattern whens

-- in each term of a point over these variables only constructors of its side are named, and in the conditions none
pub record AreTermsNamed (left right : Vocabulary) (names : List (List ℕ)) (left_term right_term : RawTree) (whens : List RawTree) : Type 0 where
  pub left_named : IsTrue (is_named_tree left names left_term)
  pub right_named : IsTrue (is_named_tree right names right_term)
  pub whens_named : All (λ e. IsTrue (is_named_tree no_names names e)) whens

-- A point names only what is known: sorts of either semantics, in each term what that side's semantics declares, and in its
-- conditions no constructor.
pub record IsPointNamed (left right : Vocabulary) (vars : List RawVar) (left_term right_term : RawTree) (whens : List RawTree) : Type 0 where
  pub names : AreVarNames vars
  pub sorts : All (λ x. IsTrue (is_named_sort left x.sort || is_named_sort right x.sort)) vars
  pub terms : AreTermsNamed left right (names_of vars) left_term right_term whens

-- an item names only what is known, and gives a name that none of its kind has, for cuts of its side
abbrev pub HasNames : PointsOf → Item → Type 0
HasNames d (item.Cut true name vars pattern whens) = HasCutNames d.left d.points.left_cuts name vars pattern whens
HasNames d (item.Cut false name vars pattern whens) = HasCutNames d.right d.points.right_cuts name vars pattern whens
HasNames d (item.Point name vars left_term right_term whens) = IsNew name (map (λ p. p.name) d.points.points) × IsPointNamed (vocabulary_in d.left) (vocabulary_in d.right) vars left_term right_term whens
HasNames d _ = ⊤

-- the variables of an item
abbrev pub vars_in : Item → List RawVar
vars_in (item.Cut left name vars pattern whens) = vars
vars_in (item.Point name vars left right whens) = vars
vars_in _ = []

-- the names of variables where a statement holds; none where it doesn't
abbrev pub AreNamesIf : Type 0 → List RawVar → Option (List (List ℕ)) → Type 0
AreNamesIf P raws (Some names) = P × (names ≡ names_of raws)
AreNamesIf P raws None = ¬ P

-- what an item says has a name that none of its kind has, for cuts of its side
abbrev pub IsPieceNew : Points → Piece → Type 0
IsPieceNew p (piece.LeftCut c) = IsNew c.name (map (λ other. other.name) p.left_cuts)
IsPieceNew p (piece.RightCut c) = IsNew c.name (map (λ other. other.name) p.right_cuts)
IsPieceNew p (piece.Point q) = IsNew q.name (map (λ other. other.name) p.points)
