-- Cases stay as they are where a domain grows, and hold where they held whatever further variables are.
use Rattle.std.proofs.Common.{◌≡◌, ◌↔◌, Bool, true, false, not, List, [], ◌∷◌, ◌++◌, All, refl, sym, ap, ◌∙◌}
use Rattle.std.proofs.lemmas.List.Elements.{All-head, All-tail, All-nil, All-cons}
use Rattle.data_value.specs.declared.DataSort.{DataSort}
use Rattle.data_value.specs.declared.Value.{Value}
use Rattle.data_value.specs.Nodes.{Seen, Extends}
use Rattle.data_value.specs.Truth.{truth}
use Rattle.data_value.specs.Views.{IsViewed}
use Rattle.probe_keys.specs.declared.case.Case.{Case}
use Rattle.probe_keys.specs.declared.case.MapPair.{MapPair}
use Rattle.probe_keys.specs.Cases.{SeenPair, SeenCase, seen_pair, seen_pairs, seen_case, seen_cases, AreMaps, AreSame, IsCase, HoldsAt}
use Rattle.probe_keys.proofs.Lengthened.{Stays, settled, settled_truth}

module _ {N : Type 0} (f g : N → Seen N) (x : Extends f g) where
  -- a pair of maps is the same pair after the domain has grown
  pub pair_stays : (p : MapPair N) → AreMaps (seen_pair f p) → seen_pair g p ≡ seen_pair f p
  pair_stays p are =
      let with_left : Seen N → SeenPair N = λ s. record { left = s; right = g p.right } in
      let with_right : Seen N → SeenPair N = λ s. record { left = f p.left; right = s } in
      ap with_left (x.keeps p.left are.left_valid) ∙ ap with_right (x.keeps p.right are.right_valid)

  pub pairs_stay : (ps : List (MapPair N)) → All AreMaps (seen_pairs f ps) → seen_pairs g ps ≡ seen_pairs f ps
  pairs_stay [] a = refl
  pairs_stay (p ∷ ps) a =
      ap (λ s. s ∷ seen_pairs g ps) (pair_stays p (All-head AreMaps (seen_pair f p) (seen_pairs f ps) a))
      ∙ ap (λ ss. seen_pair f p ∷ ss) (pairs_stay ps (All-tail AreMaps (seen_pair f p) (seen_pairs f ps) a))

  -- and a case the same case
  pub case_stays : (c : Case N) → IsCase (seen_case f c) → seen_case g c ≡ seen_case f c
  case_stays c is =
      let with_test : Seen N → SeenCase N = λ s. record { test = s; maps = seen_pairs g c.maps } in
      let with_maps : List (SeenPair N) → SeenCase N = λ ss. record { test = f c.test; maps = ss } in
      ap with_test (x.keeps c.test is.test.valid) ∙ ap with_maps (pairs_stay c.maps is.maps)

  pub cases_stay : (cs : List (Case N)) → All IsCase (seen_cases f cs) → seen_cases g cs ≡ seen_cases f cs
  cases_stay [] a = refl
  cases_stay (c ∷ cs) a =
      ap (λ s. s ∷ seen_cases g cs) (case_stays c (All-head IsCase (seen_case f c) (seen_cases f cs) a))
      ∙ ap (λ ss. seen_case f c ∷ ss) (cases_stay cs (All-tail IsCase (seen_case f c) (seen_cases f cs) a))

module _ {N : Type 0} (look : N → Seen N) (variables : List DataSort) (views : IsViewed look variables) where
  -- maps are equal where they were
  pub same_longer : (p : MapPair N) → AreMaps (seen_pair look p) → Stays variables (λ v. AreSame v (seen_pair look p))
  same_longer p are = record {
    longer = λ v w fits.
        let left : (look p.left).meaning (v ++ w) ≡ (look p.left).meaning v = (settled look variables views p.left are.left_valid).same v w fits in
        let right : (look p.right).meaning (v ++ w) ≡ (look p.right).meaning v = (settled look variables views p.right are.right_valid).same v w fits in
        (λ e. sym left ∙ e ∙ right, λ e. left ∙ e ∙ sym right);
  }

  all_longer : (ps : List (MapPair N)) → All AreMaps (seen_pairs look ps) → Stays variables (λ v. All (AreSame v) (seen_pairs look ps))
  all_longer [] a = record { longer = λ v w fits. (λ _. All-nil (AreSame v), λ _. All-nil (AreSame (v ++ w))) }
  all_longer (p ∷ ps) a = record {
    longer = λ v w fits.
        let s = seen_pair look p in
        let ss = seen_pairs look ps in
        let here = (same_longer p (All-head AreMaps s ss a)).longer v w fits in
        let rest = (all_longer ps (All-tail AreMaps s ss a)).longer v w fits in (
          λ all. All-cons (AreSame v) s ss (here.0 (All-head (AreSame (v ++ w)) s ss all)) (rest.0 (All-tail (AreSame (v ++ w)) s ss all)),
          λ all. All-cons (AreSame (v ++ w)) s ss (here.1 (All-head (AreSame v) s ss all)) (rest.1 (All-tail (AreSame v) s ss all)),
        );
  }

  -- a case holds where it held
  pub holds_longer : (c : Case N) → IsCase (seen_case look c) → Stays variables (λ v. HoldsAt v (seen_case look c))
  holds_longer c is = record {
    longer = λ v w fits.
        let on : truth (look c.test) (v ++ w) ≡ truth (look c.test) v = settled_truth variables (look c.test) (settled look variables views c.test is.test.valid) v w fits in
        let maps = (all_longer c.maps is.maps).longer v w fits in
        (λ h. record { on = sym on ∙ h.on; same = maps.0 h.same }, λ h. record { on = on ∙ h.on; same = maps.1 h.same });
  }

-- a case holds where what is true exactly where its test isn't is false, and its maps are equal
pub case_from : {N : Type 0} (v : List Value) (c : SeenCase N) (untested : Bool) → untested ≡ not (truth c.test v) → ((untested ≡ false) × All (AreSame v) c.maps) ↔ HoldsAt v c
case_from v c untested e = (
  λ p. record { on = on (truth c.test v) (sym e ∙ p.0); same = p.1 },
  λ h. (e ∙ ap not h.on, h.same),
)
  where
    on : (b : Bool) → not b ≡ false → b ≡ true
    on true h = refl
    on false h = absurd (cc)
