-- Conditions that are taken apart.
use Rattle.std.proofs.Common.{arith, ◌≡◌, ◌↔◌, ◌⊎◌, inl, inr, ℕ, zero, suc, ◌+◌, ◌<◌, Bool, true, false, ◌&&◌, IsTrue, List, [], ◌∷◌, ◌++◌, length, take, slice_get, All, Some, refl, sym, ap, ◌∙◌, subst}
use Rattle.std.proofs.lemmas.Bool.{cases_lt}
use Rattle.std.proofs.lemmas.List.Elements.{All-nil, All-push, All-pop, All-head, All-tail}
use Rattle.std.proofs.lemmas.List.{length-map}
use Rattle.std.proofs.lemmas.Option.{same_Some}
use Rattle.data_value.specs.declared.DataSort.{DataSort}
use Rattle.data_value.specs.declared.DataSort.TheVariants.{Bool as BoolSort}
use Rattle.data_value.specs.declared.Scalar.{Scalar}
use Rattle.data_value.specs.declared.Value.{Value}
use Rattle.data_value.specs.declared.Op.TheVariants.{And, Eq}
use Rattle.data_value.specs.Sorts.{is_scalar_sort}
use Rattle.data_value.specs.Values.{flag_of, scalar_of, same_scalar}
use Rattle.data_value.specs.Nodes.{Seen, Apply, AllValid, sorts_of}
use Rattle.data_value.specs.Views.{IsViewed, shown_sort, shown_value, shown_args}
use Rattle.data_value.specs.Truth.{truth, mean_same, IsCondition}
use Rattle.data_value.proofs.TestLemmas.{decides_scalar}
use Rattle.node_list.specs.declared.line.Line.{Line}
use Rattle.node_list.specs.declared.line.Made.TheVariants as made
use Rattle.node_list.specs.Listed.{IsMade, StandsAt, AreLines, IsListed}
use Rattle.simplify.specs.declared.pair.Pair.{Pair}
use Rattle.prover.specs.declared.parts.Parts.{Parts}
use Rattle.prover.specs.Parts.{AreEqual, IsTrueNode, IsEquation, AreParts, IsSplit}
use Rattle.prover.specs.Splitting.{IsMarked, IsLastMark, Remains, IsSplitting, AreMarkedMore, ArePaired}
use Rattle.prover.proofs.Pieces.{Earlier, TwoEarlier, two_earlier, and_takes, equality_takes}

module _ {N : Type 0} (look : N → Seen N) (s : Seen N) (lines : List (Line N)) where
  -- a place that isn't marked is taken apart as it stands
  pub split_unmarked : (place : ℕ) (marks : List Bool) (parts : Parts N) → (IsMarked marks place → ⊥) → IsSplitting look s lines (place + 1) marks parts → IsSplitting look s lines place marks parts
  split_unmarked place marks parts unmarked is = record {
    conditions = λ p line lt m at. is.conditions p line (omega arith) m at;
    fits = is.fits;
    means = λ v. (
      λ h. let r = (is.means v).0 h in record { marked = λ p line lt m at. r.marked p line (omega arith) m at; others = r.others },
      λ r. (is.means v).1 (record {
        marked = λ p line lt m at. elim (cases_lt p place) [
          | inl l ↦ r.marked p line l m at
          | inr ge ↦ absurd (unmarked (subst (IsMarked marks) (let g = ge in omega arith) m))
        ];
        others = r.others;
      }),
    );
  }

  -- a marked place is taken apart where its line says what is marked or made of it
  pub split_taken : (place : ℕ) (line : Line N) (marks more : List Bool) (parts after : Parts N) → slice_get lines place ≡ Some line → IsMarked marks place
      → ((p : ℕ) (l : Line N) → p < place → IsMarked more p → slice_get lines p ≡ Some l → IsCondition (look l.node)) → AreParts look after
      → ((v : List Value) → ((truth (look line.node) v ≡ true) × Remains look v lines place marks parts) ↔ Remains look v lines place more after)
      → IsSplitting look s lines (place + 1) marks parts → IsSplitting look s lines place more after
  split_taken place line marks more parts after here marked conditions fits same is = record {
    conditions = conditions;
    fits = fits;
    means = λ v. (
      λ h.
          let r = (is.means v).0 h in
          (same v).0 (r.marked place line (omega arith) marked here, record { marked = λ p l lt m at. r.marked p l (omega arith) m at; others = r.others }),
      λ r.
          let both = (same v).1 r in
          (is.means v).1 (record {
            marked = λ p l lt m at. elim (cases_lt p place) [
              | inl below ↦ both.1.marked p l below m at
              | inr ge ↦
                  let e : p ≡ place = let g = ge in omega arith in
                  let same_line : Some l ≡ Some line = sym at ∙ ap (slice_get lines) e ∙ here in
                  subst (λ k. truth (look k.node) v ≡ true) (sym (same_Some l line same_line)) both.0
            ];
            others = both.1.others;
          }),
    );
  }

  -- the line becomes one of the others
  pub split_other : (place : ℕ) (line : Line N) (n : N) (marks : List Bool) (parts after : Parts N) → slice_get lines place ≡ Some line → IsMarked marks place → look n ≡ look line.node
      → after.pairs.items ≡ parts.pairs.items → after.others.items ≡ parts.others.items ++ n ∷ [] → IsSplitting look s lines (place + 1) marks parts → IsSplitting look s lines place marks after
  split_other place line n marks parts after here marked copy pairs others is =
      let condition : IsCondition (look n) = subst IsCondition (sym copy) (is.conditions place line (omega arith) marked here) in
      split_taken place line marks marks parts after here marked (λ p l lt m at. is.conditions p l (omega arith) m at)
      (record {
        equations = subst (All (IsEquation look)) (sym pairs) is.fits.equations;
        conditions = subst (All (λ m. IsCondition (look m))) (sym others) (All-push (λ m. IsCondition (look m)) parts.others.items n is.fits.conditions condition);
      })
      (λ v. (
        λ both. record {
          marked = both.1.marked;
          others = record {
            equal = subst (All (AreEqual look v)) (sym pairs) both.1.others.equal;
            holds = subst (All (IsTrueNode look v)) (sym others) (All-push (IsTrueNode look v) parts.others.items n both.1.others.holds (subst (λ t. truth t v ≡ true) (sym copy) both.0));
          };
        },
        λ r.
            let parted = All-pop (IsTrueNode look v) (parts.others.items ++ n ∷ []) parts.others.items (Some n) refl (subst (All (IsTrueNode look v)) others r.others.holds) in (
              subst (λ t. truth t v ≡ true) copy parted.1,
              record {
                marked = r.marked;
                others = record { equal = subst (All (AreEqual look v)) pairs r.others.equal; holds = parted.0 };
              },
            ),
      ))
      is

  -- the line becomes a pair
  pub split_pair : (place : ℕ) (line : Line N) (q : Pair N) (marks : List Bool) (parts after : Parts N) → slice_get lines place ≡ Some line → IsMarked marks place
      → IsEquation look q → ((v : List Value) → truth (look line.node) v ≡ mean_same (look q.first) (look q.second) v)
      → after.pairs.items ≡ parts.pairs.items ++ q ∷ [] → after.others.items ≡ parts.others.items → IsSplitting look s lines (place + 1) marks parts → IsSplitting look s lines place marks after
  split_pair place line q marks parts after here marked equation says pairs others is =
      split_taken place line marks marks parts after here marked (λ p l lt m at. is.conditions p l (omega arith) m at)
      (record {
        equations = subst (All (IsEquation look)) (sym pairs) (All-push (IsEquation look) parts.pairs.items q is.fits.equations equation);
        conditions = subst (All (λ m. IsCondition (look m))) (sym others) is.fits.conditions;
      })
      (λ v. (
        λ both. record {
          marked = both.1.marked;
          others = record {
            equal = subst (All (AreEqual look v)) (sym pairs) (All-push (AreEqual look v) parts.pairs.items q both.1.others.equal (sym (says v) ∙ both.0));
            holds = subst (All (IsTrueNode look v)) (sym others) both.1.others.holds;
          };
        },
        λ r.
            let parted = All-pop (AreEqual look v) (parts.pairs.items ++ q ∷ []) parts.pairs.items (Some q) refl (subst (All (AreEqual look v)) pairs r.others.equal) in (
              says v ∙ parted.1,
              record {
                marked = r.marked;
                others = record { equal = parted.0; holds = subst (All (IsTrueNode look v)) others r.others.holds };
              },
            ),
      ))
      is

  -- two lines that the line joins are marked
  pub split_both : (place : ℕ) (line : Line N) (a b : ℕ) (m n : N) (marks more : List Bool) (parts : Parts N) → slice_get lines place ≡ Some line → IsMarked marks place
      → Earlier look lines place a m → Earlier look lines place b n → IsCondition (look m) → IsCondition (look n)
      → ((v : List Value) → truth (look line.node) v ≡ (truth (look m) v && truth (look n) v))
      → AreMarkedMore (a ∷ b ∷ []) marks more → IsSplitting look s lines (place + 1) marks parts → IsSplitting look s lines place more parts
  split_both place line a b m n marks more parts here marked first second first_is second_is says marks_more is =
      split_taken place line marks more parts parts here marked
      (λ p l lt h at. elim (marks_more.only p h) [
        | inl old ↦ is.conditions p l (omega arith) old at
        | inr one ↦ elim (of_two p one.0 one.1) [
          | inl e ↦ subst IsCondition (sym (first_here p l e at)) first_is
          | inr e ↦ subst IsCondition (sym (second_here p l e at)) second_is
        ]
      ])
      is.fits
      (λ v. (
        λ both.
            let parts_true = and_parts (truth (look m) v) (truth (look n) v) (sym (says v) ∙ both.0) in
            record {
              marked = λ p l lt h at. elim (marks_more.only p h) [
                | inl old ↦ both.1.marked p l lt old at
                | inr one ↦ elim (of_two p one.0 one.1) [
                  | inl e ↦ subst (λ t. truth t v ≡ true) (sym (first_here p l e at)) parts_true.0
                  | inr e ↦ subst (λ t. truth t v ≡ true) (sym (second_here p l e at)) parts_true.1
                ]
              ];
              others = both.1.others;
            },
        λ r.
            let left : truth (look m) v ≡ true = subst (λ t. truth t v ≡ true) first.same (r.marked a first.line first.before (All-head (IsMarked more) a (b ∷ []) marks_more.these) first.at) in
            let right : truth (look n) v ≡ true = subst (λ t. truth t v ≡ true) second.same (r.marked b second.line second.before (All-head (IsMarked more) b [] (All-tail (IsMarked more) a (b ∷ []) marks_more.these)) second.at) in
            (says v ∙ rw (left, right) refl, record { marked = λ p l lt h at. r.marked p l lt (marks_more.kept p h) at; others = r.others }),
      ))
      is
    where
      of_two : (p i : ℕ) → slice_get (a ∷ b ∷ []) i ≡ Some p → (p ≡ a) ⊎ (p ≡ b)
      of_two p zero e = inl (sym (same_Some a p e))
      of_two p (suc zero) e = inr (sym (same_Some b p e))
      of_two p (suc (suc i)) e = absurd (cc)

      first_here : (p : ℕ) (l : Line N) → p ≡ a → slice_get lines p ≡ Some l → look l.node ≡ look m
      first_here p l e at = ap (λ k. look k.node) (same_Some l first.line (sym at ∙ ap (slice_get lines) e ∙ first.at)) ∙ first.same

      second_here : (p : ℕ) (l : Line N) → p ≡ b → slice_get lines p ≡ Some l → look l.node ≡ look n
      second_here p l e at = ap (λ k. look k.node) (same_Some l second.line (sym at ∙ ap (slice_get lines) e ∙ second.at)) ∙ second.same

      and_parts : (x y : Bool) → (x && y) ≡ true → (x ≡ true) × (y ≡ true)
      and_parts true y e = (refl, e)
      and_parts false y e = absurd (cc)

  -- at first the last line is marked, and no part is there
  pub split_begun : (count : ℕ) (marks : List Bool) (parts : Parts N) → IsListed look s lines → IsCondition s → count ≡ length lines → IsLastMark count marks → parts.pairs.items ≡ [] → parts.others.items ≡ [] → IsSplitting look s lines count marks parts
  split_begun count marks parts listed condition counted last pairs others =
      let top = listed.last in
      let line = top.2.0 in
      let there : (p : ℕ) (l : Line N) → IsMarked marks p → slice_get lines p ≡ Some l → look l.node ≡ s =
      λ p l m at.
      let e : p ≡ top.0 = let i = (last.last p).0 m in omega (arith, top.1, counted) in
      ap (λ k. look k.node) (same_Some l line (sym at ∙ ap (slice_get lines) e ∙ top.2.1)) ∙ top.2.2 in
      record {
        conditions = λ p l lt m at. subst IsCondition (sym (there p l m at)) condition;
        fits = record {
          equations = subst (All (IsEquation look)) (sym pairs) (All-nil (IsEquation look));
          conditions = subst (All (λ m. IsCondition (look m))) (sym others) (All-nil (λ m. IsCondition (look m)));
        };
        means = λ v. (
          λ h. record {
            marked = λ p l lt m at. subst (λ t. truth t v ≡ true) (sym (there p l m at)) h;
            others = record {
              equal = subst (All (AreEqual look v)) (sym pairs) (All-nil (AreEqual look v));
              holds = subst (All (IsTrueNode look v)) (sym others) (All-nil (IsTrueNode look v));
            };
          },
          λ r. subst (λ t. truth t v ≡ true) top.2.2 (r.marked top.0 line (omega (arith, top.1, counted)) ((last.last top.0).1 (omega (arith, top.1, counted))) top.2.1),
        );
      }

  -- at the end the parts hold exactly where the condition is true
  pub split_done : (marks : List Bool) (parts : Parts N) → IsSplitting look s lines 0 marks parts → IsSplit look s parts
  split_done marks parts is = record {
    fits = is.fits;
    means = λ v. (λ h. ((is.means v).0 h).others, λ r. (is.means v).1 (record { marked = λ p l lt m at. absurd (omega arith); others = r }));
  }

module _ {N : Type 0} (look : N → Seen N) (variables : List DataSort) (views : IsViewed look variables) (lines : List (Line N)) (ordered : AreLines look lines) where
  -- "and" at the nodes of two earlier lines
  pub both_at : (place : ℕ) (line : Line N) (places : List ℕ) → slice_get lines place ≡ Some line → line.made ≡ made.Apply And places
      → (args : List N) × (two : TwoEarlier look lines place places args) × IsCondition (look two.m) × IsCondition (look two.n) × ((v : List Value) → truth (look line.node) v ≡ (truth (look two.m) v && truth (look two.n) v))
  both_at place line places here is =
      let at = ordered place line here in
      let shows = views.shows line.node at.valid in
      let kind = subst (λ k. IsMade look (take place lines) (look line.node) k) is at.made in
      let sorts = and_takes (sorts_of look kind.0) (look line.node).sort (sym (ap (shown_sort look variables) kind.1) ∙ shows.sort) in
      let count : length kind.0 ≡ 2 = sym (length-map kind.0 (λ n. (look n).sort)) ∙ ap length sorts in
      let two = two_earlier look lines place places kind.0 kind.2 count in
      let valid = subst (AllValid look) two.args_are (subst (λ x. AllValid look (shown_args x)) kind.1 shows.args_valid) in
      let both : ◌≡◌ {A = List DataSort} ((look two.m).sort ∷ (look two.n).sort ∷ []) (BoolSort ∷ BoolSort ∷ []) = sym (ap (sorts_of look) two.args_are) ∙ sorts in (
        kind.0,
        two,
        record { valid = All-head (λ n. IsTrue (look n).valid) two.m (two.n ∷ []) valid; sort = cc },
        record { valid = All-head (λ n. IsTrue (look n).valid) two.n [] (All-tail (λ n. IsTrue (look n).valid) two.m (two.n ∷ []) valid); sort = cc },
        λ v. ap (λ x. flag_of (scalar_of x)) (shows.means v ∙ ap (shown_value look v) (kind.1 ∙ ap (Apply And) two.args_are)),
      )

  -- equality at the nodes of two earlier lines
  pub equality_at : (place : ℕ) (line : Line N) (places : List ℕ) → slice_get lines place ≡ Some line → line.made ≡ made.Apply Eq places
      → (args : List N) × (two : TwoEarlier look lines place places args) × IsEquation look (record { first = two.m; second = two.n }) × ((v : List Value) → truth (look line.node) v ≡ mean_same (look two.m) (look two.n) v)
  equality_at place line places here is =
      let at = ordered place line here in
      let shows = views.shows line.node at.valid in
      let kind = subst (λ k. IsMade look (take place lines) (look line.node) k) is at.made in
      let sorts = equality_takes (sorts_of look kind.0) (look line.node).sort (sym (ap (shown_sort look variables) kind.1) ∙ shows.sort) in
      let count : length kind.0 ≡ 2 = sym (length-map kind.0 (λ n. (look n).sort)) ∙ ap length sorts.2 in
      let two = two_earlier look lines place places kind.0 kind.2 count in
      let valid = subst (AllValid look) two.args_are (subst (λ x. AllValid look (shown_args x)) kind.1 shows.args_valid) in
      let both : ◌≡◌ {A = List DataSort} ((look two.m).sort ∷ (look two.n).sort ∷ []) (sorts.0 ∷ sorts.1 ∷ []) = sym (ap (sorts_of look) two.args_are) ∙ sorts.2 in
      let first : (look two.m).sort ≡ sorts.0 = cc in
      let second : (look two.n).sort ≡ sorts.1 = cc in (
        kind.0,
        two,
        record {
          first = All-head (λ n. IsTrue (look n).valid) two.m (two.n ∷ []) valid;
          second = All-head (λ n. IsTrue (look n).valid) two.n [] (All-tail (λ n. IsTrue (look n).valid) two.m (two.n ∷ []) valid);
          scalar = ap is_scalar_sort first ∙ sorts.3;
          sort = second ∙ sorts.4 ∙ sym first;
        },
        λ v. ap (λ x. flag_of (scalar_of x)) (shows.means v ∙ ap (shown_value look v) (kind.1 ∙ ap (Apply Eq) two.args_are)),
      )

-- equality is the same in both orders
pub same_turned : (x y : Scalar) → same_scalar x y ≡ same_scalar y x
same_turned x y = by (same_scalar x y) (same_scalar y x) refl refl
  where
    by : (p q : Bool) → same_scalar x y ≡ p → same_scalar y x ≡ q → same_scalar x y ≡ same_scalar y x
    by true q e f = let is = (decides_scalar x y).0 e in e ∙ sym ((decides_scalar y x).1 (sym is))
    by false true e f = absurd (let is = (decides_scalar y x).0 f in let t = (decides_scalar x y).1 (sym is) in cc)
    by false false e f = e ∙ sym f

-- a pair of the nodes of the two lines says what their equality says
pub paired_says : {N : Type 0} (look : N → Seen N) (lines : List (Line N)) (place : ℕ) (places : List ℕ) (args : List N) (two : TwoEarlier look lines place places args) (q : Pair N)
    → IsEquation look (record { first = two.m; second = two.n }) → ArePaired look lines places q → IsEquation look q × ((v : List Value) → mean_same (look two.m) (look two.n) v ≡ mean_same (look q.first) (look q.second) v)
paired_says {N} look lines place places args two q is paired = elim (paired two.a two.b two.places_are) [
  | inl at ↦
      let first : look q.first ≡ look two.m = same_line two.a (look q.first) two.first.line at.first two.first.at ∙ two.first.same in
      let second : look q.second ≡ look two.n = same_line two.b (look q.second) two.second.line at.second two.second.at ∙ two.second.same in (
        record {
          first = subst (λ t. IsTrue t.valid) (sym first) is.first;
          second = subst (λ t. IsTrue t.valid) (sym second) is.second;
          scalar = ap (λ t. is_scalar_sort t.sort) first ∙ is.scalar;
          sort = ap (λ t. t.sort) second ∙ is.sort ∙ sym (ap (λ t. t.sort) first);
        },
        λ v. rw (first, second) refl,
      )
  | inr at ↦
      let first : look q.first ≡ look two.n = same_line two.b (look q.first) two.second.line at.first two.second.at ∙ two.second.same in
      let second : look q.second ≡ look two.m = same_line two.a (look q.second) two.first.line at.second two.first.at ∙ two.first.same in (
        record {
          first = subst (λ t. IsTrue t.valid) (sym first) is.second;
          second = subst (λ t. IsTrue t.valid) (sym second) is.first;
          scalar = ap (λ t. is_scalar_sort t.sort) first ∙ ap is_scalar_sort is.sort ∙ is.scalar;
          sort = ap (λ t. t.sort) second ∙ sym is.sort ∙ sym (ap (λ t. t.sort) first);
        },
        λ v. same_turned (scalar_of ((look two.m).meaning v)) (scalar_of ((look two.n).meaning v)) ∙ rw (first, second) refl,
      )
]
  where
    same_line : (p : ℕ) (t : Seen N) (line : Line N) → StandsAt look lines p t → slice_get lines p ≡ Some line → t ≡ look line.node
    same_line p t line stands at = sym stands.2 ∙ ap (λ k. look k.node) (same_Some stands.0 line (sym stands.1 ∙ at))
