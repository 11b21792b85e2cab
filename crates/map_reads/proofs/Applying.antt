-- Operators at the nodes of lines.
use Rattle.std.proofs.Common.{◌≡◌, ℕ, zero, suc, ◌<◌, true, IsTrue, Some, List, [], ◌∷◌, length, take, map, All, slice_get, get_or, arith, refl, ap, ap₂, sym, ◌∙◌, subst}
use Rattle.std.proofs.lemmas.List.{length-map}
use Rattle.std.proofs.lemmas.List.Elements.{All-nil, All-cons}
use Rattle.std.proofs.lemmas.Option.{same_Some}
use Rattle.data_value.specs.declared.DataSort.{DataSort}
use Rattle.data_value.specs.declared.Value.{Value}
use Rattle.data_value.specs.declared.Op.{Op}
use Rattle.data_value.specs.declared.Op.TheVariants.{Get, Put as PutOp}
use Rattle.data_value.specs.Sorts.{is_scalar_sort, op_sort}
use Rattle.data_value.specs.Values.{IsValueOf, scalar_of}
use Rattle.data_value.specs.Ops.{op_value, scalar_value}
use Rattle.data_value.specs.Nodes.{Seen, IsValuation, IsLawful, sorts_of, meanings_of}
use Rattle.data_value.specs.Views.{IsShown, shown_sort, shown_value}
use Rattle.node_list.specs.declared.line.Line.{Line}
use Rattle.node_list.specs.declared.line.Made.TheVariants as made
use Rattle.node_list.specs.Listed.{StandsAt, StandAt, IsMade, AreLines}
use Rattle.node_list.proofs.Lines.{stand_length}
use Rattle.map_reads.specs.declared.draft.Draft.{Draft}
use Rattle.map_reads.specs.declared.placing.Place.{Place}
use Rattle.map_reads.specs.declared.placing.Place.TheVariants.{Scalar, Map, Over}
use Rattle.map_reads.specs.declared.placing.Put.{Put}
use Rattle.map_reads.specs.Drafts.{sort_at, value_of, TiedTo, IsDraft, Grows, IsPlaced}
use Rattle.map_reads.specs.Placing.{IsScalarAt, IsApplication, HavePlaces, HasPlace, IsNext, IsGet, IsApply, IsLeaf, StandsFor, IsOver, read_meant, scalar_meant}
use Rattle.map_reads.proofs.Drafting.{grows-same, applied, placed}
use Rattle.map_reads.proofs.Leaves.{placed_as}
use Rattle.map_reads.proofs.Operators.{AreScalar, op_scalars, op_on_scalars, get_two, put_three, get_sorted, put_sorted}
use Rattle.map_reads.proofs.Walks.{stands_below, scalar_there, scalar_stands, means_own, word_there}

two_items : {X : Type 0} (xs : List X) → length xs ≡ 2 → (a : X) × ((b : X) × (xs ≡ a ∷ b ∷ []))
two_items [] l = absurd (omega arith)
two_items (x ∷ []) l = absurd (omega arith)
two_items (x ∷ y ∷ []) l = (x, (y, refl))
two_items (x ∷ y ∷ z ∷ xs) l = absurd (omega arith)

three_items : {X : Type 0} (xs : List X) → length xs ≡ 3 → (a : X) × ((b : X) × ((c : X) × (xs ≡ a ∷ b ∷ c ∷ [])))
three_items [] l = absurd (omega arith)
three_items (x ∷ []) l = absurd (omega arith)
three_items (x ∷ y ∷ []) l = absurd (omega arith)
three_items (x ∷ y ∷ z ∷ []) l = (x, (y, (z, refl)))
three_items (x ∷ y ∷ z ∷ u ∷ xs) l = absurd (omega arith)

module _ {N : Type 0} (look : N → Seen N) where
  -- one of the nodes that stand at places
  stands_one : (ls : List (Line N)) (ps : List ℕ) (ns : List N) (i : ℕ) (n : N) → StandAt look ls ps ns → slice_get ns i ≡ Some n → StandsAt look ls (get_or ps i 0) (look n)
  stands_one ls [] [] i n at is = absurd (cc)
  stands_one ls [] (m ∷ ns) i n at is = absurd at
  stands_one ls (p ∷ ps) [] i n at is = absurd at
  stands_one ls (p ∷ ps) (m ∷ ns) zero n at is = subst (λ x. StandsAt look ls p (look x)) (same_Some m n is) at.0
  stands_one ls (p ∷ ps) (m ∷ ns) (suc i) n at is = stands_one ls ps ns i n at.1 is

  -- a line whose node was made by an operator
  pub is_apply : (lines : List (Line N)) (k : ℕ) (line : Line N) (op : Op) (args : List ℕ) → AreLines look lines → slice_get lines k ≡ Some line → line.made ≡ made.Apply op args → IsApply look lines k op args
  is_apply lines k line op args ordered at is =
      let m = subst (IsMade look (take k lines) (look line.node)) is (ordered k line at).made in
      record { line = line; at = at; nodes = m.0; shown = m.1; stand = m.2 }

  -- the line k has its place
  pub is_next : (old new : Draft) (lines : List (Line N)) (k : ℕ) (line : Line N) (place : Place) → slice_get lines k ≡ Some line → Grows old new → IsDraft new → StandsFor look new lines k (look line.node) place → IsNext look old new lines k place
  is_next old new lines k line place at grows draft for = record {
    grows = grows;
    draft = draft;
    stands = λ other is. subst (λ (l : Line N). StandsFor look new lines k (look l.node) place) (same_Some line other (sym at ∙ is)) for;
  }

  leaf_stands : (new : Draft) (lines : List (Line N)) (k : ℕ) (s : Seen N) (place : Place) → IsMade look (take k lines) s made.Leaf → HasPlace new s.sort (scalar_meant s) place → StandsFor look new lines k s place
  leaf_stands new lines k s (Scalar p) none has = has
  leaf_stands new lines k s Map none has = (has, none)
  leaf_stands new lines k s (Over m put) none has = absurd has

  pub next_leaf : (old new : Draft) (lines : List (Line N)) (k : ℕ) (line : Line N) (place : Place) → AreLines look lines → slice_get lines k ≡ Some line → line.made ≡ made.Leaf → IsLeaf old new (look line.node) place → IsNext look old new lines k place
  next_leaf old new lines k line place ordered at is leaf =
      is_next old new lines k line place at leaf.grows leaf.draft
      (leaf_stands new lines k (look line.node) place (subst (IsMade look (take k lines) (look line.node)) is (ordered k line at).made) leaf.stands)

  module _ (lines : List (Line N)) (places : List Place) (old : Draft) (have : HavePlaces look old lines places) where
    -- scalars among the first lines have places
    all_there : (ps : List ℕ) (ns : List N) → StandAt look (take (length places) lines) ps ns → AreScalar (sorts_of look ns) → All (IsScalarAt places) ps
    all_there [] [] at one = All-nil (IsScalarAt places)
    all_there [] (n ∷ ns) at one = absurd at
    all_there (p ∷ ps) [] at one = absurd at
    all_there (p ∷ ps) (n ∷ ns) at one =
        let below = stands_below look lines (length places) p (look n) at.0 in
        All-cons (IsScalarAt places) p ps (scalar_there look lines places old have p (look n) below.1 below.0 one.0) (all_there ps ns at.1 one.1)

    -- their sorts and values are those of the places
    sorts_there : (ps : List ℕ) (ns : List N) (qs : List ℕ) → StandAt look (take (length places) lines) ps ns → map (λ p. slice_get places p) ps ≡ map (λ q. Some (Scalar q)) qs → map (sort_at old) qs ≡ map Some (sorts_of look ns)
    sorts_there [] [] [] at e = refl
    sorts_there [] [] (q ∷ qs) at e = absurd (cc)
    sorts_there [] (n ∷ ns) qs at e = absurd at
    sorts_there (p ∷ ps) [] qs at e = absurd at
    sorts_there (p ∷ ps) (n ∷ ns) [] at e = absurd (cc)
    sorts_there (p ∷ ps) (n ∷ ns) (q ∷ qs) at e =
        let here : slice_get places p ≡ Some (Scalar q) = cc in
        let rest : map (λ r. slice_get places r) ps ≡ map (λ r. Some (Scalar r)) qs = cc in
        let below = stands_below look lines (length places) p (look n) at.0 in
        ap₂ (λ x xs. x ∷ xs) (scalar_stands look lines places old have p (look n) q below.1 here).sort (sorts_there ps ns qs at.1 rest)

    values_there : (ps : List ℕ) (ns : List N) (qs us : List ℕ) (v : List Value) → IsValuation old.sorts v → TiedTo old us v → StandAt look (take (length places) lines) ps ns → map (λ p. slice_get places p) ps ≡ map (λ q. Some (Scalar q)) qs → map (value_of old us) qs ≡ map scalar_of (meanings_of look v ns)
    values_there [] [] [] us v fits tied at e = refl
    values_there [] [] (q ∷ qs) us v fits tied at e = absurd (cc)
    values_there [] (n ∷ ns) qs us v fits tied at e = absurd at
    values_there (p ∷ ps) [] qs us v fits tied at e = absurd at
    values_there (p ∷ ps) (n ∷ ns) [] us v fits tied at e = absurd (cc)
    values_there (p ∷ ps) (n ∷ ns) (q ∷ qs) us v fits tied at e =
        let here : slice_get places p ≡ Some (Scalar q) = cc in
        let rest : map (λ r. slice_get places r) ps ≡ map (λ r. Some (Scalar r)) qs = cc in
        let below = stands_below look lines (length places) p (look n) at.0 in
        ap₂ (λ x xs. x ∷ xs) ((scalar_stands look lines places old have p (look n) q below.1 here).means us v fits tied) (values_there ps ns qs us v fits tied at.1 rest)

    module _ (variables : List DataSort) (laws : IsLawful look variables) (shows : (n : N) → IsTrue (look n).valid → IsShown look variables n) (ordered : AreLines look lines) (sorts : old.sorts ≡ variables) (draft : IsDraft old) (args : List ℕ) where
      sorted : (op : Op) (is : IsApply look lines (length places) op args) → op_sort op (sorts_of look is.nodes) ≡ Some (look is.line.node).sort
      sorted op is = let shown = shows is.line.node (ordered (length places) is.line is.at).valid in ap (shown_sort look variables) (sym is.shown) ∙ shown.sort

      means : (op : Op) (is : IsApply look lines (length places) op args) (v : List Value) → op_value op (meanings_of look v is.nodes) ≡ (look is.line.node).meaning v
      means op is v = let shown = shows is.line.node (ordered (length places) is.line is.at).valid in ap (shown_value look v) (sym is.shown) ∙ sym (shown.means v)

      stands_arg : (op : Op) (is : IsApply look lines (length places) op args) (i : ℕ) (n : N) → slice_get is.nodes i ≡ Some n → (get_or args i 0 < length places) × StandsAt look lines (get_or args i 0) (look n)
      stands_arg op is i n at = stands_below look lines (length places) (get_or args i 0) (look n) (stands_one (take (length places) lines) args is.nodes i n is.stand at)

      -- how many arguments the two operators on maps have
      pub two_args : IsApply look lines (length places) Get args → length args ≡ 2
      two_args is = stand_length look (take (length places) lines) args is.nodes is.stand ∙ sym (length-map is.nodes (λ n. (look n).sort)) ∙ get_two (sorts_of look is.nodes) _ (sorted Get is)

      pub three_args : IsApply look lines (length places) PutOp args → length args ≡ 3
      three_args is = stand_length look (take (length places) lines) args is.nodes is.stand ∙ sym (length-map is.nodes (λ n. (look n).sort)) ∙ put_three (sorts_of look is.nodes) _ (sorted PutOp is)

      two_nodes : (is : IsApply look lines (length places) Get args) → (m : N) × ((k : N) × (is.nodes ≡ m ∷ k ∷ []))
      two_nodes is = two_items is.nodes (sym (length-map is.nodes (λ n. (look n).sort)) ∙ get_two (sorts_of look is.nodes) _ (sorted Get is))

      three_nodes : (is : IsApply look lines (length places) PutOp args) → (m : N) × ((k : N) × ((x : N) × (is.nodes ≡ m ∷ k ∷ x ∷ [])))
      three_nodes is = three_items is.nodes (sym (length-map is.nodes (λ n. (look n).sort)) ∙ put_three (sorts_of look is.nodes) _ (sorted PutOp is))

      pub is_get : IsApply look lines (length places) Get args → IsGet look lines places (get_or args 0 0) (get_or args 1 0)
      is_get is =
          let two = two_nodes is in
          let m = two.0 in
          let k = two.1.0 in
          let map_arg = stands_arg Get is 0 m (ap (λ ns. slice_get ns 0) two.1.1) in
          let key_arg = stands_arg Get is 1 k (ap (λ ns. slice_get ns 1) two.1.1) in
          record {
            sort = (look is.line.node).sort;
            map_node = look m;
            key_node = look k;
            map_at = map_arg.1;
            key_at = key_arg.1;
            map_within = map_arg.0;
            key_within = key_arg.0;
            sorted = ap (λ ns. op_sort Get (sorts_of look ns)) (sym two.1.1) ∙ sorted Get is;
          }

      -- a read has its place
      pub next_get : (new : Draft) (p : ℕ) → IsApply look lines (length places) Get args → ((m k : Seen N) (t : DataSort) → StandsAt look lines (get_or args 0 0) m → StandsAt look lines (get_or args 1 0) k → op_sort Get (m.sort ∷ k.sort ∷ []) ≡ Some t → IsPlaced old new p t (read_meant m k)) → IsNext look old new lines (length places) (Scalar p)
      unfolding is_get
      next_get new p is told =
          let two = two_nodes is in
          let m = two.0 in
          let k = two.1.0 in
          let s = look is.line.node in
          let get = is_get is in
          let parts = get_sorted (look m).sort (look k).sort s.sort get.sorted in
          let same = λ (v : List Value). ap (λ ns. scalar_of (op_value Get (meanings_of look v ns))) (sym two.1.1) ∙ ap scalar_of (means Get is v) in
          let found = placed_as old new p s.sort (read_meant (look m) (look k)) (scalar_meant s) (told (look m) (look k) s.sort get.map_at get.key_at get.sorted) (λ v fits. same v) in
          is_next old new lines (length places) is.line (Scalar p) is.at found.grows found.draft (ap is_scalar_sort parts.1.1.1.1, found.stands)

      put_parts : (is : IsApply look lines (length places) PutOp args) → op_sort PutOp ((look (three_nodes is).0).sort ∷ (look (three_nodes is).1.0).sort ∷ (look (three_nodes is).1.1.0).sort ∷ []) ≡ Some (look is.line.node).sort
      put_parts is = ap (λ ns. op_sort PutOp (sorts_of look ns)) (sym (three_nodes is).1.1.1) ∙ sorted PutOp is

      -- the key and the word of a put are scalars
      pub put_key : IsApply look lines (length places) PutOp args → IsScalarAt places (get_or args 1 0)
      put_key is =
          let three = three_nodes is in
          let parts = put_sorted _ _ _ _ (put_parts is) in
          let arg = stands_arg PutOp is 1 three.1.0 (ap (λ ns. slice_get ns 1) three.1.1.1) in
          scalar_there look lines places old have (get_or args 1 0) (look three.1.0) arg.1 arg.0 (ap is_scalar_sort parts.1.1.1.0)

      pub put_word : IsApply look lines (length places) PutOp args → IsScalarAt places (get_or args 2 0)
      put_word is =
          let three = three_nodes is in
          let parts = put_sorted _ _ _ _ (put_parts is) in
          let arg = stands_arg PutOp is 2 three.1.1.0 (ap (λ ns. slice_get ns 2) three.1.1.1) in
          scalar_there look lines places old have (get_or args 2 0) (look three.1.1.0) arg.1 arg.0 (ap is_scalar_sort parts.1.1.1.1.0)

      -- a map after a put has none
      pub next_put : (put : Put) → IsApply look lines (length places) PutOp args → slice_get places (get_or args 1 0) ≡ Some (Scalar put.key) → slice_get places (get_or args 2 0) ≡ Some (Scalar put.word) → IsNext look old old lines (length places) (Over (get_or args 0 0) put)
      next_put put is key_is word_is =
          let three = three_nodes is in
          let m = three.0 in
          let k = three.1.0 in
          let x = three.1.1.0 in
          let s = look is.line.node in
          let parts = put_sorted (look m).sort (look k).sort (look x).sort s.sort (put_parts is) in
          let map_arg = stands_arg PutOp is 0 m (ap (λ ns. slice_get ns 0) three.1.1.1) in
          let key_arg = stands_arg PutOp is 1 k (ap (λ ns. slice_get ns 1) three.1.1.1) in
          let word_arg = stands_arg PutOp is 2 x (ap (λ ns. slice_get ns 2) three.1.1.1) in
          let over : IsOver old s (look m) put = record {
            key_width = parts.0;
            word_width = parts.1.0;
            sort = parts.1.1.1.1.1;
            same_sort = parts.1.1.0 ∙ sym parts.1.1.1.1.1;
            key = look k;
            word = look x;
            key_at = word_there look lines places old have variables laws ordered sorts (get_or args 1 0) (look k) put.key parts.0 key_arg.1 key_is parts.1.1.1.0;
            word_at = word_there look lines places old have variables laws ordered sorts (get_or args 2 0) (look x) put.word parts.1.0 word_arg.1 word_is parts.1.1.1.1.0;
            map_value = λ v fits. subst (λ t. IsValueOf t ((look m).meaning v)) parts.1.1.0 (means_own look lines places old have variables laws ordered sorts (get_or args 0 0) (look m) map_arg.1 v fits);
            means = λ v. sym (means PutOp is v) ∙ ap (λ ns. op_value PutOp (meanings_of look v ns)) three.1.1.1;
          } in
          is_next old old lines (length places) is.line (Over (get_or args 0 0) put) is.at (grows-same old) draft (map_arg.0, (look m, map_arg.1, over))

      module _ (op : Op) (is : IsApply look lines (length places) op args) (no_get : op ≡ Get → ⊥) (no_put : op ≡ PutOp → ⊥) where
        scalars : AreScalar (sorts_of look is.nodes) × (is_scalar_sort (look is.line.node).sort ≡ true)
        scalars = op_scalars op (sorts_of look is.nodes) (look is.line.node).sort no_get no_put (sorted op is)

        -- all other operators are at scalars
        pub args_there : All (IsScalarAt places) args
        args_there = all_there args is.nodes is.stand scalars.0

        pub next_scalar : (new : Draft) (p : ℕ) → IsApplication places args op old new p → IsNext look old new lines (length places) (Scalar p)
        next_scalar new p got =
            let s = look is.line.node in
            let has = applied old new p op got.args (sorts_of look is.nodes) s.sort draft got.pushed (sorts_there args is.nodes got.args is.stand got.at) (sorted op is) in
            let found = placed old new draft has.grows p s.sort _ (scalar_meant s) has
            (λ us v fits tied.
            ap (scalar_value op) (values_there args is.nodes got.args us v fits tied is.stand got.at)
            ∙ ap scalar_of (sym (op_on_scalars op (meanings_of look v is.nodes) no_get no_put) ∙ means op is v)) in
            is_next old new lines (length places) is.line (Scalar p) is.at found.grows found.draft (scalars.1, found.stands)
