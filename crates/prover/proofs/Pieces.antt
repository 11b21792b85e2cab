-- What lines are made of.
use Rattle.std.proofs.Common.{arith, ◌≡◌, ℕ, ◌<◌, Bool, true, false, List, [], ◌∷◌, ◌++◌, length, take, slice_get, get_or, All, Some, None, refl, sym, ap, ◌∙◌, subst}
use Rattle.std.proofs.lemmas.List.Elements.{All-nil, All-cons, All-weaker}
use Rattle.std.proofs.lemmas.List.{take-append-le, take_all}
use Rattle.std.proofs.lemmas.Option.{slice_get-get_or, get_or_from_slice_get}
use Rattle.data_value.specs.declared.DataSort.{DataSort}
use Rattle.data_value.specs.declared.DataSort.TheVariants.{Bool as BoolSort, Bits as BitsSort, Map as MapSort}
use Rattle.data_value.specs.declared.Op.{Op}
use Rattle.data_value.specs.declared.Op.TheVariants.{And, Eq}
use Rattle.data_value.specs.Sorts.{op_sort, is_scalar_sort, same_sort}
use Rattle.data_value.specs.Nodes.{Seen}
use Rattle.data_value.proofs.TestLemmas.{sorts_agree}
use Rattle.node_list.specs.declared.line.Line.{Line}
use Rattle.node_list.specs.declared.line.Made.TheVariants as made
use Rattle.node_list.specs.Listed.{StandsAt, StandAt, IsMade, AreLines}
use Rattle.prover.specs.Splitting.{IsMarked}
use Rattle.prover.proofs.Marks.{taken_at}

-- the line of a place
pub line_at : {N : Type 0} (lines : List (Line N)) (place : ℕ) (line : Line N) → place < length lines → line ≡ get_or lines place line → slice_get lines place ≡ Some line
line_at lines place line lt is = slice_get-get_or lines place line lt ∙ ap Some (sym is)

-- a place with a mark
pub marked_at : (marks : List Bool) (place : ℕ) → place < length marks → get_or marks place false ≡ true → IsMarked marks place
marked_at marks place lt is = slice_get-get_or marks place false lt ∙ ap Some is

-- a place without one
pub unmarked_at : (marks : List Bool) (place : ℕ) → get_or marks place false ≡ false → IsMarked marks place → ⊥
unmarked_at marks place is m = let there : get_or marks place false ≡ true = get_or_from_slice_get marks place true false m in cc

-- a list that is written over all of another
pub written_over : {X : Type 0} (xs ys : List X) (n : ℕ) → length xs ≡ n → take n (xs ++ ys) ≡ xs
written_over xs ys n e = take-append-le n xs ys (omega (arith, e)) ∙ take_all n xs (omega (arith, e))

module _ {N : Type 0} (look : N → Seen N) where
  -- a line that stands before another
  pub record Earlier (lines : List (Line N)) (place p : ℕ) (n : N) : Type 0 where
    pub line : Line N
    pub before : p < place
    pub at : slice_get lines p ≡ Some line
    pub same : look line.node ≡ look n

  pub earlier : (lines : List (Line N)) (place p : ℕ) (n : N) → StandsAt look (take place lines) p (look n) → Earlier lines place p n
  earlier lines place p n h =
      let there = taken_at place lines p h.0 h.1 in
      record { line = h.0; before = there.0; at = there.1; same = h.2 }

  -- two lines, of which an operator is made
  pub record TwoEarlier (lines : List (Line N)) (place : ℕ) (places : List ℕ) (args : List N) : Type 0 where
    pub a : ℕ
    pub b : ℕ
    pub m : N
    pub n : N
    pub places_are : places ≡ a ∷ b ∷ []
    pub args_are : args ≡ m ∷ n ∷ []
    pub first : Earlier lines place a m
    pub second : Earlier lines place b n

  pub two_earlier : (lines : List (Line N)) (place : ℕ) (places : List ℕ) (args : List N) → StandAt look (take place lines) places args → length args ≡ 2 → TwoEarlier lines place places args
  two_earlier lines place (a ∷ b ∷ []) (m ∷ n ∷ []) h two = record {
    a = a;
    b = b;
    m = m;
    n = n;
    places_are = refl;
    args_are = refl;
    first = earlier lines place a m h.0;
    second = earlier lines place b n h.1.0;
  }
  two_earlier lines place [] [] h two = absurd (omega (arith, two))
  two_earlier lines place [] (m ∷ ms) h two = absurd h
  two_earlier lines place (a ∷ ps) [] h two = absurd h
  two_earlier lines place (a ∷ []) (m ∷ []) h two = absurd (omega (arith, two))
  two_earlier lines place (a ∷ []) (m ∷ n ∷ ms) h two = absurd h.1
  two_earlier lines place (a ∷ b ∷ ps) (m ∷ []) h two = absurd h.1
  two_earlier lines place (a ∷ b ∷ []) (m ∷ n ∷ k ∷ ms) h two = absurd h.1.1
  two_earlier lines place (a ∷ b ∷ c ∷ ps) (m ∷ n ∷ []) h two = absurd h.1.1
  two_earlier lines place (a ∷ b ∷ c ∷ ps) (m ∷ n ∷ k ∷ ms) h two = absurd (omega (arith, two))

-- the sorts that "and" takes
pub and_takes : (ss : List DataSort) (t : DataSort) → op_sort And ss ≡ Some t → ss ≡ BoolSort ∷ BoolSort ∷ []
and_takes (BoolSort ∷ BoolSort ∷ []) t e = refl
and_takes [] t e = absurd (cc)
and_takes (BoolSort ∷ []) t e = absurd (cc)
and_takes (BoolSort ∷ BoolSort ∷ s ∷ ss) t e = absurd (cc)
and_takes (BoolSort ∷ BitsSort w ∷ ss) t e = absurd (cc)
and_takes (BoolSort ∷ MapSort k w ∷ ss) t e = absurd (cc)
and_takes (BitsSort w ∷ ss) t e = absurd (cc)
and_takes (MapSort k w ∷ ss) t e = absurd (cc)

-- the sorts that equality takes
pub equality_takes : (ss : List DataSort) (t : DataSort) → op_sort Eq ss ≡ Some t → (a : DataSort) × (b : DataSort) × (ss ≡ a ∷ b ∷ []) × (is_scalar_sort a ≡ true) × (b ≡ a)
equality_takes [] t e = absurd (cc)
equality_takes (a ∷ []) t e = absurd (cc)
equality_takes (a ∷ b ∷ c ∷ ss) t e = absurd (cc)
equality_takes (a ∷ b ∷ []) t e = by (is_scalar_sort a) (same_sort a b) refl refl
  where
    by : (p q : Bool) → is_scalar_sort a ≡ p → same_sort a b ≡ q → (c : DataSort) × (d : DataSort) × (◌≡◌ {A = List DataSort} (a ∷ b ∷ []) (c ∷ d ∷ [])) × (is_scalar_sort c ≡ true) × (d ≡ c)
    by true true p q = (a, b, refl, p, sym (sorts_agree a b q))
    by false q p h = absurd (let gives : op_sort Eq (a ∷ b ∷ []) ≡ None = rw p refl in cc)
    by true false p h = absurd (let gives : op_sort Eq (a ∷ b ∷ []) ≡ None = rw (p, h) refl in cc)

module _ {N : Type 0} (look : N → Seen N) (lines : List (Line N)) (ordered : AreLines look lines) where
  standing : (place : ℕ) (places : List ℕ) (args : List N) → StandAt look (take place lines) places args → All (λ p. p < place) places
  standing place [] [] h = All-nil (λ p. p < place)
  standing place [] (n ∷ ns) h = absurd h
  standing place (p ∷ ps) [] h = absurd h
  standing place (p ∷ ps) (n ∷ ns) h = All-cons (λ q. q < place) p ps (earlier look lines place p n h.0).before (standing place ps ns h.1)

  -- the lines that a line is made of come before it
  pub made_before : (place : ℕ) (line : Line N) (op : Op) (places : List ℕ) → slice_get lines place ≡ Some line → line.made ≡ made.Apply op places → All (λ p. p < place) places
  made_before place line op places here is =
      let kind = subst (λ k. IsMade look (take place lines) (look line.node) k) is (ordered place line here).made in
      standing place places kind.0 kind.2

  pub made_within : (place : ℕ) (line : Line N) (op : Op) (places : List ℕ) (n : ℕ) → place < n → slice_get lines place ≡ Some line → line.made ≡ made.Apply op places → All (λ p. p < n) places
  made_within place line op places n lt here is = All-weaker (λ p. p < place) (λ p. p < n) (λ p l. omega arith) places (made_before place line op places here is)
