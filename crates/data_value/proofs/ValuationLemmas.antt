-- Valuations of joined lists of sorts.
use Rattle.std.proofs.Common.{List, ◌++◌, map, take, drop, length, All, sym, ap, ◌∙◌, subst}
use Rattle.std.proofs.Math.Seq.{take-append_seam, drop-append_seam}
use Rattle.std.proofs.lemmas.List.{take-append-drop, take-map, drop-map, map-append}
use Rattle.std.proofs.lemmas.List.Elements.{All-append, All-take, All-drop}
use Rattle.data_value.specs.declared.DataSort.{DataSort}
use Rattle.data_value.specs.declared.Value.{Value}
use Rattle.data_value.specs.Sorts.{IsSort}
use Rattle.data_value.specs.Values.{IsValue, value_sort}
use Rattle.data_value.specs.Trials.{trial}
use Rattle.data_value.specs.Nodes.{IsValuation}
use Rattle.data_value.proofs.TrialLemmas.{trial_fits}

pub valuations_join : (ss ts : List DataSort) (v w : List Value) → IsValuation ss v → IsValuation ts w → IsValuation (ss ++ ts) (v ++ w)
valuations_join ss ts v w a b = record {
  values = All-append IsValue v w a.values b.values;
  sorted = map-append value_sort v w ∙ ap (λ l. l ++ map value_sort w) a.sorted ∙ ap (λ l. ss ++ l) b.sorted;
}

pub valuation_parts : (ss ts : List DataSort) (v : List Value) → IsValuation (ss ++ ts) v → IsValuation ss (take (length ss) v) × IsValuation ts (drop (length ss) v)
valuation_parts ss ts v is =
    let n = length ss in (
      record { values = All-take IsValue n v is.values; sorted = sym (take-map value_sort n v) ∙ ap (take n) is.sorted ∙ take-append_seam ss ts },
      record { values = All-drop IsValue n v is.values; sorted = sym (drop-map value_sort n v) ∙ ap (drop n) is.sorted ∙ drop-append_seam ss ts },
    )

pub parts_join : (ss ts : List DataSort) (v : List Value) → IsValuation ss (take (length ss) v) × IsValuation ts (drop (length ss) v) → IsValuation (ss ++ ts) v
parts_join ss ts v is =
    let n = length ss in
    subst (IsValuation (ss ++ ts)) (take-append-drop n v) (valuations_join ss ts (take n v) (drop n v) is.0 is.1)

-- the first trial is a valuation
pub some_valuation : (ss : List DataSort) → All IsSort ss → (v : List Value) × IsValuation ss v
some_valuation ss all = let t = trial_fits 0 ss all in (trial 0 ss, record { values = t.0; sorted = t.1 })
