-- A rule has as many `let`s and conditions as are written.
use Rattle.std.proofs.Common.{◌≡◌, ◌≤◌, ℕ, ◌+◌, Bool, true, false, cond, List, [], ◌∷◌, map, count_by, Option, Some, None, refl, sym, ap, ◌∙◌, subst}
use Rattle.std.specs.Prelude.{option_map}
use Rattle.std.proofs.lemmas.Option.{same_Some}
use Rattle.std.proofs.lemmas.List.Sums.{sum_by-cons}
use Rattle.rule_text.specs.declared.item.RawDemand.{RawDemand}
use Rattle.rule_text.specs.declared.item.RawDemand.TheVariants as written
use Rattle.sort_term.specs.declared.ids.TableId.{TableId}
use Rattle.sort_term.specs.declared.semantics.Table.{Table}
use Rattle.sort_term.specs.declared.rule.Pattern.{Pattern}
use Rattle.sort_term.specs.declared.rule.RuleExpr.{RuleExpr}
use Rattle.sort_term.specs.declared.rule.Demand.{Demand}
use Rattle.sort_term.specs.declared.rule.Demand.TheVariants.{When}
use Rattle.sort_term.specs.Rules.{is_let, is_when, HasFewDemands}
use Rattle.name_resolution.specs.Known.{Vocabulary, table_of}
use Rattle.name_resolution.specs.Reads.{pattern_of, expression_of}
use Rattle.name_resolution.proofs.Read.{all_stay}
use Rattle.semantics_load.specs.Pieces.{let_from, let_row_from, demand_of, demands_of}
use Rattle.semantics_load.specs.Limits as raw

-- a `let` and a condition
let_kind : (p : Option Pattern) (e : Option RuleExpr) (d : Demand) → let_from p e ≡ Some d → (is_let d ≡ true) × (is_when d ≡ false)
let_kind None None d h = absurd cc
let_kind None (Some e) d h = absurd cc
let_kind (Some p) None d h = absurd cc
let_kind (Some p) (Some e) d h = let s = same_Some _ d h in (ap is_let (sym s), ap is_when (sym s))

row_kind : (p : Option Pattern) (t : Option (TableId × Table)) (e : Option RuleExpr) (d : Demand) → let_row_from p t e ≡ Some d → (is_let d ≡ true) × (is_when d ≡ false)
row_kind None t e d h = absurd cc
row_kind (Some p) None e d h = absurd cc
row_kind (Some p) (Some t) None d h = absurd cc
row_kind (Some p) (Some t) (Some e) d h = let s = same_Some _ d h in (ap is_let (sym s), ap is_when (sym s))

when_kind : (e : Option RuleExpr) (d : Demand) → option_map When e ≡ Some d → (is_let d ≡ false) × (is_when d ≡ true)
when_kind None d h = absurd cc
when_kind (Some e) d h = let s = same_Some _ d h in (ap is_let (sym s), ap is_when (sym s))

module _ (known : Vocabulary) (vars : List (List ℕ)) where
  -- a demand is of the kind that is written
  kind_stays : (r : RawDemand) (d : Demand) → demand_of known vars r ≡ Some d → (is_let d ≡ raw.is_let r) × (is_when d ≡ raw.is_condition r)
  kind_stays (written.Let p e) d h = let_kind (pattern_of known vars p) (expression_of known vars e) d h
  kind_stays (written.LetRow p table key) d h = row_kind (pattern_of known vars p) (table_of known table) (expression_of known vars key) d h
  kind_stays (written.When e) d h = when_kind (expression_of known vars e) d h

  lets_stay : (raws : List RawDemand) (ds : List Demand) → demands_of known vars raws ≡ Some ds → map is_let ds ≡ map raw.is_let raws
  lets_stay = all_stay (demand_of known vars) is_let raw.is_let (λ r d h. (kind_stays r d h).0)

  whens_stay : (raws : List RawDemand) (ds : List Demand) → demands_of known vars raws ≡ Some ds → map is_when ds ≡ map raw.is_condition raws
  whens_stay = all_stay (demand_of known vars) is_when raw.is_condition (λ r d h. (kind_stays r d h).1)

-- a count by what a test tells of each
count_told : {X : Type 0} (p : X → Bool) (xs : List X) → count_by p xs ≡ count_by (λ b. b) (map p xs)
count_told p [] = refl
count_told p (x ∷ xs) =
    sum_by-cons (λ y. cond (p y) 1 0) x xs
    ∙ ap (λ n. cond (p x) 1 0 + n) (count_told p xs)
    ∙ sym (sum_by-cons (λ b. cond b 1 0) (p x) (map p xs))

same_count : {X Y : Type 0} (p : X → Bool) (q : Y → Bool) (xs : List X) (ys : List Y) → map p xs ≡ map q ys → count_by p xs ≡ count_by q ys
same_count p q xs ys same = count_told p xs ∙ ap (count_by (λ b. b)) same ∙ sym (count_told q ys)

-- few demands are written
pub few_demands : (known : Vocabulary) (vars : List (List ℕ)) (raws : List RawDemand) (ds : List Demand) → demands_of known vars raws ≡ Some ds → count_by raw.is_let raws ≤ 16 → count_by raw.is_condition raws ≤ 16 → HasFewDemands ds
few_demands known vars raws ds h lets whens =
    record {
      lets = subst (λ n. n ≤ 16) (sym (same_count is_let raw.is_let ds raws (lets_stay known vars raws ds h))) lets;
      whens = subst (λ n. n ≤ 16) (sym (same_count is_when raw.is_condition ds raws (whens_stay known vars raws ds h))) whens;
    }
