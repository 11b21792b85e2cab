-- The cuts and points that items make are lawful.
use Rattle.std.proofs.Common.{arith, ◌≡◌, ℕ, ◌<◌, ◌≤◌, true, false, List, [], ◌∷◌, ◌++◌, All, map, length, None, Some, refl, sym, ap, ap₂, ◌∙◌, subst}
use Rattle.std.proofs.lemmas.List.Elements.{All-nil}
use Rattle.rule_text.specs.declared.item.Item.{Item}
use Rattle.rule_text.specs.declared.item.Item.TheVariants as item
use Rattle.rule_text.specs.declared.item.RawVar.{RawVar}
use Rattle.rule_text.specs.declared.item.RawTree.{RawTree}
use Rattle.rule_text.specs.declared.error.ItemFault.TheVariants as fault
use Rattle.rule_text.specs.declared.error.LoadFault.{LoadFault}
use Rattle.rule_text.specs.Faults.{TakesItem, IsWholeText, IsFaultOf}
use Rattle.rule_text.proofs.OneEnd.{one_value, one_fault, no_value_and_fault}
use Rattle.rule_text.proofs.Taking.{text_keeps}
use Rattle.sort_term.specs.declared.points.Cut.{Cut}
use Rattle.sort_term.specs.declared.points.Point.{Point}
use Rattle.sort_term.specs.declared.points.Points.{Points}
use Rattle.sort_term.specs.System.{System}
use Rattle.sort_term.specs.Names.{AreDistinct}
use Rattle.sort_term.specs.Signature.{is_known, is_plain}
use Rattle.sort_term.specs.Problems.{IsCut, AreCuts, AreUndefs, IsPointOf, AreDetermined}
use Rattle.sort_term.specs.Rules.{AllStandIn}
use Rattle.sort_term.proofs.Pushed.{IsOther, no_cuts, cuts_push, points_push}
use Rattle.name_resolution.specs.Known.{vocabulary_in}
use Rattle.name_resolution.specs.Names.{IsNew}
use Rattle.name_resolution.specs.Variables.{names_of}
use Rattle.name_resolution.proofs.Places.{apart_from_new}
use Rattle.name_resolution.proofs.Read.{expressions_stay}
use Rattle.sync_points.specs.declared.piece.Piece.{Piece}
use Rattle.sync_points.specs.declared.piece.Piece.TheVariants as piece
use Rattle.sync_points.specs.Pieces.{PointsOf, no_points, no_names, nothing, cut_of, point_of, piece_of, points_with, with_piece}
use Rattle.sync_points.specs.Names.{HasNames, IsCutNamed, IsPointNamed}
use Rattle.sync_points.specs.Limits.{IsCutWithin, IsPointWithin, IsWithinLimits}
use Rattle.sync_points.specs.Sorts.{IsCutSorted, IsPointSorted, IsPieceSorted, IsPieceBound, IsPieceDetermined, HasSorts}
use Rattle.sync_points.specs.Loads.{points_loading, lacking_point, Adds}
use Rattle.sync_points.specs.Text.{IsPointsText, AreLawful}
use Rattle.sync_points.proofs.Said.{cut_parts, point_parts, made_of}
use Rattle.sync_points.proofs.Kept.{read_vars, sort_known, sort_plain}
use Rattle.sync_points.proofs.Passing.{same_piece}

-- cuts and points that are lawful as far as they are there
record AreLawfulSoFar (left right : System) (p : Points) : Type 0 where
  left_cuts : AreCuts left p.left_cuts
  right_cuts : AreCuts right p.right_cuts
  undefs : p.undefs ≡ []
  few : length p.points ≤ 64
  distinct : AreDistinct (λ q. q.name) p.points
  each : All (IsPointOf left right) p.points

-- no thing has the name of one more
other_names : {X : Type 0} (key : X → List ℕ) (xs : List X) (x : X) (name : List ℕ) → key x ≡ name → IsNew name (map key xs) → IsOther key xs x
other_names key xs x name is new k d within same = apart_from_new key name xs new k d within (same ∙ is)

-- an item of a cut that passes its checks
module _ {S : Type 0} (s : System) (name : List ℕ) (raws : List RawVar) (pattern : RawTree) (whens : List RawTree) (c : Cut S) where
  cut_lawful : cut_of (vocabulary_in s) name raws pattern whens ≡ Some c → IsCutNamed (vocabulary_in s) raws pattern whens → IsCutWithin (vocabulary_in s) raws pattern whens → IsCutSorted s c → AllStandIn c.vars (c.pattern ∷ []) → IsCut s c
  cut_lawful is named within sorted bound =
      let known = vocabulary_in s in
      let parts = cut_parts name _ _ _ c is in
      record {
        vars = read_vars known (is_known s.sorts) (sort_known known) raws c.vars named.vars_named.names within.vars_within parts.vars_there;
        pattern = sorted.pattern;
        repeats = sorted.repeats;
        bound = bound;
        whens = record { few = subst (λ n. n ≤ 16) (sym (expressions_stay known (names_of raws) whens c.whens parts.whens_there)) within.whens_within.few; sorted = sorted.whens };
      }

  one_cut_more : (cuts : List (Cut S)) → AreCuts s cuts → IsNew name (map (λ other. other.name) cuts) → length cuts < 64 → cut_of (vocabulary_in s) name raws pattern whens ≡ Some c → IsCut s c → AreCuts s (cuts ++ c ∷ [])
  one_cut_more cuts so_far new few is lawful =
      cuts_push s cuts c so_far few (other_names (λ (other : Cut S). other.name) cuts c name (cut_parts name _ _ _ c is).named new) lawful

-- a point that passes its checks
module _ (left right : System) (name : List ℕ) (raws : List RawVar) (left_term right_term : RawTree) (whens : List RawTree) (p : Point) where
  point_lawful : point_of (vocabulary_in left) (vocabulary_in right) name raws left_term right_term whens ≡ Some p → IsPointNamed (vocabulary_in left) (vocabulary_in right) raws left_term right_term whens → IsPointWithin (vocabulary_in left) (vocabulary_in right) raws left_term right_term whens → IsPointSorted left right p → AreDetermined p.vars p.left p.right → IsPointOf left right p
  point_lawful is named within sorted determined =
      let parts = point_parts name _ _ _ _ p is in
      record {
        vars = read_vars no_names is_plain sort_plain raws p.vars named.names within.vars_within parts.vars_there;
        left_term = sorted.left_term;
        right_term = sorted.right_term;
        whens = record { few = subst (λ n. n ≤ 16) (sym (expressions_stay no_names (names_of raws) whens p.whens parts.whens_there)) within.whens_within.few; sorted = sorted.whens };
        determined = determined;
      }

-- there are no undefined items
no_undefs : {S : Type 0} {items : List (Cut S)} → AreUndefs items []
no_undefs {items = items} = record { there = All-nil (λ k. k < length items); rising = λ i j d l m. absurd (omega arith) }

-- what an item says that passes its checks is one lawful thing more
module _ (d : PointsOf) (so_far : AreLawfulSoFar d.left d.right d.points) where
  more : (i : Item) (p : Piece) → piece_of d.left d.right i ≡ Some p → HasNames d i → IsWithinLimits d i → IsPieceSorted d.left d.right p → IsPieceBound p → IsPieceDetermined p → AreLawfulSoFar d.left d.right (points_with d.points p)
  more (item.Cut true name vars pattern whens) p is named within sorted bound determined =
      let m = made_of piece.LeftCut _ p is in
      let c = m.0 in
      let lawful = cut_lawful d.left name vars pattern whens c m.1 named.1 within.1 (subst (IsPieceSorted d.left d.right) (sym m.2) sorted) (subst IsPieceBound (sym m.2) bound) in
      subst (λ q. AreLawfulSoFar d.left d.right (points_with d.points q)) m.2
      record {
        left_cuts = one_cut_more d.left name vars pattern whens c d.points.left_cuts so_far.left_cuts named.0 within.0 m.1 lawful;
        right_cuts = so_far.right_cuts;
        undefs = so_far.undefs;
        few = so_far.few;
        distinct = so_far.distinct;
        each = so_far.each;
      }
  more (item.Cut false name vars pattern whens) p is named within sorted bound determined =
      let m = made_of piece.RightCut _ p is in
      let c = m.0 in
      let lawful = cut_lawful d.right name vars pattern whens c m.1 named.1 within.1 (subst (IsPieceSorted d.left d.right) (sym m.2) sorted) (subst IsPieceBound (sym m.2) bound) in
      subst (λ q. AreLawfulSoFar d.left d.right (points_with d.points q)) m.2
      record {
        left_cuts = so_far.left_cuts;
        right_cuts = one_cut_more d.right name vars pattern whens c d.points.right_cuts so_far.right_cuts named.0 within.0 m.1 lawful;
        undefs = so_far.undefs;
        few = so_far.few;
        distinct = so_far.distinct;
        each = so_far.each;
      }
  more (item.Point name vars left right whens) p is named within sorted bound determined =
      let m = made_of piece.Point _ p is in
      let q = m.0 in
      let lawful = point_lawful d.left d.right name vars left right whens q m.1 named.1 within.1 (subst (IsPieceSorted d.left d.right) (sym m.2) sorted) (subst IsPieceDetermined (sym m.2) determined) in
      let other = other_names (λ (point : Point). point.name) d.points.points q name (point_parts name _ _ _ _ q m.1).named named.0 in
      let all = points_push d.left d.right d.points.points q within.0 so_far.distinct so_far.each other lawful in
      subst (λ r. AreLawfulSoFar d.left d.right (points_with d.points r)) m.2
      record { left_cuts = so_far.left_cuts; right_cuts = so_far.right_cuts; undefs = so_far.undefs; few = all.few; distinct = all.distinct; each = all.each }
  more (item.Sort name) p is named within sorted bound determined = absurd cc
  more (item.Con name args sort) p is named within sorted bound determined = absurd cc
  more (item.Table name key sort) p is named within sorted bound determined = absurd cc
  more (item.Config name) p is named within sorted bound determined = absurd cc
  more (item.Rule name vars head demands outcome) p is named within sorted bound determined = absurd cc
  more (item.Row table key term) p is named within sorted bound determined = absurd cc
  more (item.Start tree) p is named within sorted bound determined = absurd cc

-- each item that is taken keeps the cuts and points lawful
keeps : (d : PointsOf) (i : Item) (e : PointsOf) → AreLawfulSoFar d.left d.right d.points → TakesItem points_loading d i e → AreLawfulSoFar e.left e.right e.points
keeps d i e so_far takes =
    let p = takes.adds.piece in
    let says = takes.adds.says in
    let sorts : HasSorts d.left d.right i = takes.lawful fault.Sort in
    let same = same_piece (piece_of d.left d.right i) sorts.piece p sorts.says says in
    let lawful = more d so_far i p says (takes.lawful fault.Name) (takes.lawful fault.Limit) (subst (IsPieceSorted d.left d.right) same sorts.sorted) (takes.lawful fault.Unbound p says) (takes.lawful fault.Undetermined p says) in
    subst (λ f. AreLawfulSoFar f.left f.right f.points) (sym takes.adds.is) lawful

begins : (left right : System) → AreLawfulSoFar left right nothing
begins left right = record { left_cuts = no_cuts left; right_cuts = no_cuts right; undefs = refl; few = omega arith; distinct = λ i j d l m. absurd (omega arith); each = All-nil (IsPointOf left right) }

-- where nothing lacks there is a point
some_point : (points : List Point) → lacking_point points ≡ None → 1 ≤ length points
some_point [] none = absurd cc
some_point (p ∷ rest) none = omega arith

-- no text has undefined items
pub texts_have_no_undefs : (left right : System) (bytes : List ℕ) (p : Points) → IsPointsText left right bytes p → p.undefs ≡ []
texts_have_no_undefs left right bytes p text =
    let all = text_keeps points_loading (no_points left right) (λ d. AreLawfulSoFar d.left d.right d.points) (begins left right) keeps bytes (record { left = left; right = right; points = p }) text.whole.text in
    all.undefs

-- the cuts and points of a text are lawful
pub texts_are_lawful : (left right : System) (bytes : List ℕ) (p : Points) → IsPointsText left right bytes p → AreLawful left right p
texts_are_lawful left right bytes p text =
    let all = text_keeps points_loading (no_points left right) (λ d. AreLawfulSoFar d.left d.right d.points) (begins left right) keeps bytes (record { left = left; right = right; points = p }) text.whole.text in
    record { left_cuts = all.left_cuts; right_cuts = all.right_cuts; undefs = subst (AreUndefs p.left_cuts) (sym all.undefs) no_undefs; points = record { some = some_point p.points text.whole.whole; few = all.few; distinct = all.distinct; each = all.each } }

-- what an item adds is determined
pub adds_one : (d : PointsOf) (i : Item) (e f : PointsOf) → Adds d i e → Adds d i f → e ≡ f
adds_one d i e f a b = a.is ∙ ap (with_piece d) (same_piece (piece_of d.left d.right i) a.piece b.piece a.says b.says) ∙ sym b.is

module _ (left right : System) (bytes : List ℕ) where
  -- a text is that of at most one list of cuts and points
  pub one_points : (p q : Points) → IsPointsText left right bytes p → IsPointsText left right bytes q → p ≡ q
  one_points p q a b =
      let draft : Points → PointsOf = λ r. record { left = left; right = right; points = r } in
      ap (λ (d : PointsOf). d.points) (one_value points_loading adds_one (no_points left right) bytes (draft p) (draft q) a.whole b.whole)

  -- it has at most one first fault
  pub one_points_fault : (f g : LoadFault) → IsFaultOf points_loading (no_points left right) bytes f → IsFaultOf points_loading (no_points left right) bytes g → f ≡ g
  one_points_fault = one_fault points_loading adds_one (no_points left right) bytes

  -- and none where it is that of cuts and points
  pub no_points_and_fault : (p : Points) (f : LoadFault) → IsPointsText left right bytes p → ¬ IsFaultOf points_loading (no_points left right) bytes f
  no_points_and_fault p f text has = no_value_and_fault points_loading adds_one (no_points left right) bytes (record { left = left; right = right; points = p }) f text.whole has

module _ (left right : System) where
  -- each item that is taken leaves the two semantics as they are
  sides_stay : (d : PointsOf) (i : Item) (e : PointsOf) → (d.left ≡ left) × (d.right ≡ right) → TakesItem points_loading d i e → (e.left ≡ left) × (e.right ≡ right)
  sides_stay d i e so_far takes = (ap (λ (f : PointsOf). f.left) takes.adds.is ∙ so_far.0, ap (λ (f : PointsOf). f.right) takes.adds.is ∙ so_far.1)

  -- the text that makes a draft is that of its cuts and points
  pub text_of_draft : (bytes : List ℕ) (start d : PointsOf) (p : Points) → start ≡ no_points left right → IsWholeText points_loading start bytes d → p ≡ d.points → IsPointsText left right bytes p
  text_of_draft bytes start d p starts whole is =
      let text = subst (λ s. IsWholeText points_loading s bytes d) starts whole in
      let sides = text_keeps points_loading (no_points left right) (λ e. (e.left ≡ left) × (e.right ≡ right)) (refl, refl) sides_stay bytes d text.text in
      let draft : Points → PointsOf = λ q. record { left = left; right = right; points = q } in
      let same : d ≡ draft p = ap₂ (λ l r. record { left = l; right = r; points = d.points }) sides.0 sides.1 ∙ ap draft (sym is) in
      record { whole = subst (IsWholeText points_loading (no_points left right) bytes) same text }
