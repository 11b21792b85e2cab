-- Equations and pairs of maps: what stays, and one more.
use Rattle.std.proofs.Common.{◌≡◌, ℕ, true, IsTrue, List, [], ◌∷◌, ◌++◌, map, sym, ap, ◌∙◌, subst}
use Rattle.std.proofs.lemmas.List.{map-append}
use Rattle.std.proofs.lemmas.List.Elements.{All-push}
use Rattle.data_value.specs.declared.DataSort.{DataSort}
use Rattle.data_value.specs.declared.DataSort.TheVariants.{Map}
use Rattle.data_value.specs.declared.Scalar.TheVariants.{Flag}
use Rattle.data_value.specs.declared.Value.TheVariants.{One}
use Rattle.data_value.specs.Sorts.{is_scalar_sort}
use Rattle.data_value.specs.Nodes.{Seen, Extends, IsLawful}
use Rattle.data_value.specs.Truth.{IsCondition, IsTruth, mean_same}
use Rattle.unify.proofs.Equated.{conditions_kept, equation_exact}
use Rattle.unify.proofs.Lists.{all_front}
use Rattle.probe_keys.specs.declared.case.MapPair.{MapPair}
use Rattle.probe_keys.specs.Cases.{SeenPair, seen_pair, seen_pairs, AreMaps, AreSame}
use Rattle.probe_keys.proofs.Holding.{pairs_stay}
use Rattle.pair_match.specs.declared.sameness.Sameness.{Sameness}
use Rattle.pair_match.specs.Sameness.{SeenSameness, seen_sameness, IsSameness, AddsSameness}

-- equations and pairs of maps stay as they are where the domain grows
module _ {N : Type 0} (f g : N → Seen N) (x : Extends f g) where
  pub sameness_stays : (s : Sameness N) → IsSameness (seen_sameness f s) → seen_sameness g s ≡ seen_sameness f s
  sameness_stays s h =
      let one : List (Seen N) → SeenSameness N = λ es. record { equations = es; maps = seen_pairs g s.maps } in
      let two : List (SeenPair N) → SeenSameness N = λ ms. record { equations = map f s.equations; maps = ms } in
      ap one (conditions_kept f g x s.equations h.equations) ∙ ap two (pairs_stay f g x s.maps h.maps)

-- one more pair of maps
module _ {N : Type 0} (f : N → Seen N) (variables : List DataSort) (old new : Sameness N) (p : MapPair N) (found : N) (lawful : IsSameness (seen_sameness f old)) (equations : new.equations ≡ old.equations) (maps : new.maps ≡ old.maps ++ p ∷ []) where
  abbrev With : SeenSameness N
  With = record { equations = map f old.equations; maps = seen_pairs f old.maps ++ seen_pair f p ∷ [] }

  with_is : seen_sameness f new ≡ With
  with_is =
      let one : List (Seen N) → SeenSameness N = λ es. record { equations = es; maps = seen_pairs f new.maps } in
      let two : List (SeenPair N) → SeenSameness N = λ ms. record { equations = map f old.equations; maps = ms } in
      ap one (ap (map f) equations) ∙ ap two (ap (seen_pairs f) maps ∙ map-append (seen_pair f) old.maps (p ∷ []))

  pub adds_maps : (k w : ℕ) → IsTrue (f p.left).valid → IsTrue (f found).valid → (f p.left).sort ≡ Map k w → (f found).sort ≡ (f p.left).sort → f p.right ≡ f found → AddsSameness variables (seen_sameness f old) (seen_sameness f new) (λ v. (f p.left).meaning v ≡ (f found).meaning v)
  adds_maps k w left_valid found_valid sort same copied = subst (λ s. AddsSameness variables (seen_sameness f old) s (λ v. (f p.left).meaning v ≡ (f found).meaning v)) (sym with_is) (record {
    lawful = record { equations = lawful.equations; maps = All-push AreMaps (seen_pairs f old.maps) (seen_pair f p) lawful.maps are };
    exact = λ v fits. (
      λ h. let r = all_front (AreSame v) (seen_pairs f old.maps) (seen_pair f p) h.same in (record { equal = h.equal; same = r.0 }, r.1 ∙ ap (λ s. s.meaning v) copied),
      λ h. record { equal = h.0.equal; same = All-push (AreSame v) (seen_pairs f old.maps) (seen_pair f p) h.0.same (h.1 ∙ sym (ap (λ s. s.meaning v) copied)) },
    );
  })
    where
      are : AreMaps (seen_pair f p)
      are = record {
        left_valid = left_valid;
        right_valid = ap (λ s. s.valid) copied ∙ found_valid;
        key_width = k;
        word_width = w;
        left_sort = sort;
        right_sort = ap (λ s. s.sort) copied ∙ same ∙ sort;
      }

-- one more equation
module _ {N : Type 0} (f g : N → Seen N) (x : Extends f g) (variables : List DataSort) (old new : Sameness N) (q : N) (lawful : IsSameness (seen_sameness f old)) (equations : new.equations ≡ old.equations ++ q ∷ []) (maps : new.maps ≡ old.maps) where
  abbrev Equated : SeenSameness N
  Equated = record { equations = map f old.equations ++ g q ∷ []; maps = seen_pairs f old.maps }

  equated_is : seen_sameness g new ≡ Equated
  equated_is =
      let one : List (Seen N) → SeenSameness N = λ es. record { equations = es; maps = seen_pairs g new.maps } in
      let two : List (SeenPair N) → SeenSameness N = λ ms. record { equations = map f old.equations ++ g q ∷ []; maps = ms } in
      ap one (ap (map g) equations ∙ map-append g old.equations (q ∷ []) ∙ ap (λ es. es ++ g q ∷ []) (conditions_kept f g x old.equations lawful.equations))
      ∙ ap two (ap (seen_pairs g) maps ∙ pairs_stay f g x old.maps lawful.maps)

  pub adds_equation : IsLawful f variables → (m n : N) → IsTrue (f m).valid → IsTrue (f n).valid → (f n).sort ≡ (f m).sort → IsTrue (is_scalar_sort (f m).sort) → IsTruth (g q) (mean_same (f m) (f n)) → AddsSameness variables (seen_sameness f old) (seen_sameness g new) (λ v. (f m).meaning v ≡ (f n).meaning v)
  adds_equation laws m n mv nv sorts scalar is = subst (λ s. AddsSameness variables (seen_sameness f old) s (λ v. (f m).meaning v ≡ (f n).meaning v)) (sym equated_is) (record {
    lawful = record { equations = All-push IsCondition (map f old.equations) (g q) lawful.equations is.condition; maps = lawful.maps };
    exact = λ v fits.
        let e = equation_exact f variables laws m n mv nv sorts scalar (g q) is v fits in
        let True : Seen N → Type 0 = λ s. s.meaning v ≡ One (Flag true) in (
          λ h. let r = all_front True (map f old.equations) (g q) h.equal in (record { equal = r.0; same = h.same }, e.0 r.1),
          λ h. record { equal = All-push True (map f old.equations) (g q) h.0.equal (e.1 h.1); same = h.0.same },
        );
  })
