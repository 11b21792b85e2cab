-- What passes its checks still does with one more item at the end, and without items.
use Rattle.std.proofs.Common.{arith, ◌≡◌, ◌≢◌, ℕ, zero, suc, ◌<◌, ◌==◌, true, false, IsFalse, List, [], ◌∷◌, ◌++◌, length, take, get_or, slice_get, Some, All, refl, sym, ap, ◌∙◌, subst, ◌⊎◌, inl, inr}
use Rattle.std.specs.List.{list_any}
use Rattle.std.specs.Prelude.{AllPairs}
use Rattle.std.proofs.Math.Seq.{take-append_seam}
use Rattle.std.proofs.lemmas.List.{length_push, take-append-le}
use Rattle.std.proofs.lemmas.List.Elements.{All-nil, All-push}
use Rattle.std.proofs.lemmas.List.Quantifiers.{all_pairs_push}
use Rattle.std.proofs.lemmas.Option.{slice_get_within}
use Rattle.sort_term.specs.declared.ids.SortId.{SortId}
use Rattle.sort_term.specs.declared.semantics.Con.{Con}
use Rattle.sort_term.specs.declared.semantics.Table.{Table}
use Rattle.sort_term.specs.declared.program.Row.{Row}
use Rattle.sort_term.specs.declared.points.Cut.{Cut}
use Rattle.sort_term.specs.declared.points.Point.{Point}
use Rattle.sort_term.specs.declared.rule.Rule.{Rule}
use Rattle.sort_term.specs.System.{System}
use Rattle.sort_term.specs.Names.{IsFree, AreDistinct}
use Rattle.sort_term.specs.Signature.{IsCon, IsTable, AreSorts, AreDeclared, AreCons, AreTables}
use Rattle.sort_term.specs.Rules.{IsRule, AreRules}
use Rattle.sort_term.specs.Problems.{IsRow, AreRows, IsCut, AreCuts, IsPointOf, ArePoints}
use Rattle.sort_term.proofs.Distinct.{get-any, key-any}

-- no item has the key of one more
abbrev pub IsOther : {X K : Type 0} → (X → K) → List X → X → Type 0
IsOther {X} key xs x = (k : ℕ) (d : X) → k < length xs → key (get_or xs k d) ≢ key x

no_pairs : {X : Type 0} (R : X → X → Type 0) → AllPairs R []
no_pairs R i j d l m = absurd (omega arith)

pub no_sorts : AreSorts []
no_sorts = record { few = omega arith; distinct = no_pairs (λ a b. a ≢ b); free = All-nil IsFree }

pub sorts_push : (sorts : List (List ℕ)) (name : List ℕ) → AreSorts sorts → length sorts < 64 → IsOther (λ other. other) sorts name → IsFree name → AreSorts (sorts ++ name ∷ [])
sorts_push sorts name h l other free =
    record {
      few = omega (arith, length_push sorts name);
      distinct = all_pairs_push (λ a b. a ≢ b) sorts name h.distinct other;
      free = All-push IsFree sorts name h.free free;
    }

-- an item that is there with one more at the end was there, or is the last
pushed_at : {X : Type 0} (xs : List X) (x y : X) (k : ℕ) → slice_get (xs ++ x ∷ []) k ≡ Some y → (slice_get xs k ≡ Some y) ⊎ ((k ≡ length xs) × (x ≡ y))
pushed_at [] x y zero h = inr (refl, cc)
pushed_at [] x y (suc k) h = absurd (cc)
pushed_at (z ∷ xs) x y zero h = inl h
pushed_at (z ∷ xs) x y (suc k) h = elim (pushed_at xs x y k h) [ inl e ↦ inl e | inr d ↦ inr (ap suc d.0, d.1) ]

pub no_cons : (sorts : List (List ℕ)) → AreCons sorts []
no_cons sorts = record { few = omega arith; distinct = no_pairs (λ a b. a.name ≢ b.name); declared = record { each = λ k c there. absurd (cc) } }

module _ (sorts : List (List ℕ)) (cons : List Con) (c : Con) where
  declared_push : AreDeclared sorts cons → IsCon sorts cons c → AreDeclared sorts (cons ++ c ∷ [])
  declared_push h new = record { each = λ k d there. each k d (pushed_at cons c d k there) }
    where
      each : (k : ℕ) (d : Con) → (slice_get cons k ≡ Some d) ⊎ ((k ≡ length cons) × (c ≡ d)) → IsCon sorts (take k (cons ++ c ∷ [])) d
      each k d (inl there) =
          let l = slice_get_within cons k d there in
          subst (λ before. IsCon sorts before d) (sym (take-append-le k cons (c ∷ []) (omega arith))) (h.each k d there)
      each k d (inr last) =
          let before : take k (cons ++ c ∷ []) ≡ cons = ap (λ n. take n (cons ++ c ∷ [])) last.0 ∙ take-append_seam cons (c ∷ []) in
          subst (IsCon sorts (take k (cons ++ c ∷ []))) last.1 (subst (λ front. IsCon sorts front c) (sym before) new)

  pub cons_push : AreCons sorts cons → length cons < 256 → IsOther (λ d. d.name) cons c → IsCon sorts cons c → AreCons sorts (cons ++ c ∷ [])
  cons_push h l other new =
      record {
        few = omega (arith, length_push cons c);
        distinct = all_pairs_push (λ a b. a.name ≢ b.name) cons c h.distinct other;
        declared = declared_push h.declared new;
      }

pub no_tables : (cons : List Con) → AreTables cons []
no_tables cons = record { few = omega arith; distinct = no_pairs (λ a b. a.name ≢ b.name); each = All-nil (IsTable cons) }

pub tables_push : (cons : List Con) (tables : List Table) (t : Table) → AreTables cons tables → length tables < 16 → IsOther (λ other. other.name) tables t → IsTable cons t → AreTables cons (tables ++ t ∷ [])
tables_push cons tables t h l other new =
    record {
      few = omega (arith, length_push tables t);
      distinct = all_pairs_push (λ a b. a.name ≢ b.name) tables t h.distinct other;
      each = All-push (IsTable cons) tables t h.each new;
    }

module _ (cons : List Con) (tables : List Table) (config : SortId) where
  pub no_rules : AreRules cons tables config []
  no_rules = record { few = omega arith; distinct = no_pairs (λ a b. a.name ≢ b.name); each = All-nil (IsRule cons tables config) }

  pub rules_push : (rules : List Rule) (r : Rule) → AreRules cons tables config rules → length rules < 1000 → IsOther (λ other. other.name) rules r → IsRule cons tables config r → AreRules cons tables config (rules ++ r ∷ [])
  rules_push rules r h l other new =
      record {
        few = omega (arith, length_push rules r);
        distinct = all_pairs_push (λ a b. a.name ≢ b.name) rules r h.distinct other;
        each = All-push (IsRule cons tables config) rules r h.each new;
      }

-- a test that finds no row of a key tells that each has another
other_key : (rows : List Row) (r : Row) → IsFalse (list_any (λ row. row.key == r.key) rows) → IsOther (λ row. row.key) rows r
other_key rows r none k d l same =
    let found = key-any (λ (row : Row). row.key) r.key rows (k, get_or rows k d, l, get-any rows k (get_or rows k d) d l, same) in
    absurd (let e : false ≡ true = sym none ∙ found in cc)

module _ (cons : List Con) (t : Table) where
  pub no_rows : AreRows cons t []
  no_rows = record { few = omega arith; distinct = no_pairs (λ a b. a.key ≢ b.key); each = All-nil (IsRow cons t) }

  pub rows_push : (rows : List Row) (r : Row) → AreRows cons t rows → length rows < 4096 → IsFalse (list_any (λ row. row.key == r.key) rows) → IsRow cons t r → AreRows cons t (rows ++ r ∷ [])
  rows_push rows r h l none new =
      record {
        few = omega (arith, length_push rows r);
        distinct = all_pairs_push (λ a b. a.key ≢ b.key) rows r h.distinct (other_key rows r none);
        each = All-push (IsRow cons t) rows r h.each new;
      }

module _ {S : Type 0} (s : System) where
  pub no_cuts : AreCuts {S = S} s []
  no_cuts = record { few = omega arith; distinct = no_pairs (λ a b. a.name ≢ b.name); each = All-nil (IsCut {S = S} s) }

  pub cuts_push : (items : List (Cut S)) (c : Cut S) → AreCuts s items → length items < 64 → IsOther (λ item. item.name) items c → IsCut s c → AreCuts s (items ++ c ∷ [])
  cuts_push items c h l other new =
      record {
        few = omega (arith, length_push items c);
        distinct = all_pairs_push (λ a b. a.name ≢ b.name) items c h.distinct other;
        each = All-push (IsCut s) items c h.each new;
      }

pub points_push : (left right : System) (points : List Point) (p : Point) → length points < 64 → AreDistinct (λ q. q.name) points → All (IsPointOf left right) points → IsOther (λ q. q.name) points p → IsPointOf left right p → ArePoints left right (points ++ p ∷ [])
points_push left right points p l distinct each other new =
    record {
      some = omega (arith, length_push points p);
      few = omega (arith, length_push points p);
      distinct = all_pairs_push (λ a b. a.name ≢ b.name) points p distinct other;
      each = All-push (IsPointOf left right) points p each new;
    }
