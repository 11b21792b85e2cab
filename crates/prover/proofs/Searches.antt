-- The variables that a node uses, by its lines from the last one down.
use Rattle.std.proofs.Common.{arith, ◌≡◌, ◌⊎◌, inl, inr, ℕ, zero, suc, ◌+◌, ◌<◌, Bool, true, IsTrue, List, [], ◌∷◌, length, set, take, slice_get, All, Some, refl, sym, ap, ◌∙◌, subst}
use Rattle.std.proofs.lemmas.Bool.{cases_lt}
use Rattle.std.proofs.lemmas.List.Elements.{All-nil, All-cons, All-head, All-tail}
use Rattle.std.proofs.lemmas.Option.{same_Some, slice_get_within, get_or_from_slice_get}
use Rattle.data_value.specs.declared.DataSort.{DataSort}
use Rattle.data_value.specs.declared.Value.{Value}
use Rattle.data_value.specs.declared.Op.{Op}
use Rattle.data_value.specs.declared.symbolic.View.{View}
use Rattle.data_value.specs.declared.symbolic.View.TheVariants as view
use Rattle.data_value.specs.Ops.{op_value}
use Rattle.data_value.specs.Nodes.{Seen, Shown, Variable, Constant, Apply, meanings_of}
use Rattle.data_value.specs.Views.{IsViewed, shown_in, shown_sort, shown_args, shown_value, value_at}
use Rattle.node_list.specs.declared.line.Line.{Line}
use Rattle.node_list.specs.declared.line.Made.{Made}
use Rattle.node_list.specs.declared.line.Made.TheVariants as made
use Rattle.node_list.specs.Listed.{StandAt, IsMade, AreLines, IsListed}
use Rattle.prover.specs.Splitting.{IsMarked, IsLastMark, AreMarkedMore}
use Rattle.prover.specs.Usage.{IsPart, Uses, AgreeAt, AreUsed, AreUnmarked, IsSearching, places_of}
use Rattle.prover.specs.Usage.IsPart.{itself, argument}
use Rattle.prover.proofs.Marks.{set_here, set_kept, set_only}
use Rattle.prover.proofs.Pieces.{earlier, made_before}

-- a view that shows a variable is of one
pub view_variable : {N : Type 0} (r : View N) (i : ℕ) → shown_in r ≡ Variable i → r ≡ view.Variable i
view_variable (view.Variable j) i e = let same : j ≡ i = cc in ap view.Variable same
view_variable (view.Constant x) i e = absurd (cc)
view_variable (view.Apply op ns) i e = absurd (cc)

-- a variable that a node shows is one of the domain's
pub variable_within : {N : Type 0} (look : N → Seen N) (variables : List DataSort) → IsViewed look variables → (n : N) (i : ℕ) → IsTrue (look n).valid → (look n).shown ≡ Variable i → i < length variables
variable_within look variables views n i ok e = slice_get_within variables i (look n).sort (sym (ap (shown_sort look variables) e) ∙ (views.shows n ok).sort)

-- a place that isn't below n is n or isn't below n + 1
at_or_past : (p n : ℕ) → (p < n → ⊥) → (p ≡ n) ⊎ (p < n + 1 → ⊥)
at_or_past p n past = elim (cases_lt p (n + 1)) [
  | inl l ↦ elim (cases_lt p n) [ inl below ↦ absurd (past below) | inr ge ↦ inl (let g = ge in omega arith) ]
  | inr ge ↦ inr (λ l. let g = ge in omega arith)
]

module _ {N : Type 0} (look : N → Seen N) (s : Seen N) (lines : List (Line N)) where
  line_is : (p place : ℕ) (l line : Line N) → p ≡ place → slice_get lines p ≡ Some l → slice_get lines place ≡ Some line → l ≡ line
  line_is p place l line e at here = same_Some l line (sym at ∙ ap (slice_get lines) e ∙ here)

  -- nothing is marked for a place that isn't marked itself
  pub search_unmarked : (place : ℕ) (parts variables : List Bool) → (IsMarked parts place → ⊥) → IsSearching look s lines (place + 1) parts variables → IsSearching look s lines place parts variables
  search_unmarked place parts variables unmarked is = record {
    root = is.root;
    parts_of = is.parts_of;
    only = is.only;
    leaves = λ p i line past m at shown. elim (at_or_past p place past) [
      | inl e ↦ absurd (unmarked (subst (IsMarked parts) e m))
      | inr later ↦ is.leaves p i line later m at shown
    ];
    arguments = λ p k q line past m at arg. elim (at_or_past p place past) [
      | inl e ↦ absurd (unmarked (subst (IsMarked parts) e m))
      | inr later ↦ is.arguments p k q line later m at arg
    ];
  }

  -- nor for a constant
  pub search_constant : (place : ℕ) (line : Line N) (parts variables : List Bool) → slice_get lines place ≡ Some line → line.made ≡ made.Leaf → ((i : ℕ) → (look line.node).shown ≡ Variable i → ⊥)
      → IsSearching look s lines (place + 1) parts variables → IsSearching look s lines place parts variables
  search_constant place line parts variables here leaf other is = record {
    root = is.root;
    parts_of = is.parts_of;
    only = is.only;
    leaves = λ p i l past m at shown. elim (at_or_past p place past) [
      | inl e ↦ absurd (other i (subst (λ k. (look k.node).shown ≡ Variable i) (line_is p place l line e at here) shown))
      | inr later ↦ is.leaves p i l later m at shown
    ];
    arguments = λ p k q l past m at arg. elim (at_or_past p place past) [
      | inl e ↦ absurd (let empty : slice_get (places_of made.Leaf) k ≡ Some q = subst (λ x. slice_get (places_of x) k ≡ Some q) (ap (λ j. j.made) (line_is p place l line e at here) ∙ leaf) arg in cc)
      | inr later ↦ is.arguments p k q l later m at arg
    ];
  }

  -- a variable is marked
  pub search_variable : (place index : ℕ) (line : Line N) (parts variables : List Bool) → slice_get lines place ≡ Some line → line.made ≡ made.Leaf → IsMarked parts place → (look line.node).shown ≡ Variable index → index < length variables
      → IsSearching look s lines (place + 1) parts variables → IsSearching look s lines place parts (set variables index true)
  search_variable place index line parts variables here leaf marked shown_is within is = record {
    root = is.root;
    parts_of = is.parts_of;
    only = λ i m. elim (set_only variables index i m) [
      | inl old ↦ is.only i old
      | inr e ↦ subst (Uses look s) e (look line.node, is.parts_of place line marked here, shown_is)
    ];
    leaves = λ p i l past m at shown. elim (at_or_past p place past) [
      | inl e ↦
          let same : Variable index ≡ Variable i = sym shown_is ∙ ap (λ k. (look k.node).shown) (sym (line_is p place l line e at here)) ∙ shown in
          let index_is : index ≡ i = cc in
          subst (IsMarked (set variables index true)) index_is (set_here variables index within)
      | inr later ↦ set_kept variables index i (is.leaves p i l later m at shown)
    ];
    arguments = λ p k q l past m at arg. elim (at_or_past p place past) [
      | inl e ↦ absurd (let empty : slice_get (places_of made.Leaf) k ≡ Some q = subst (λ x. slice_get (places_of x) k ≡ Some q) (ap (λ j. j.made) (line_is p place l line e at here) ∙ leaf) arg in cc)
      | inr later ↦ is.arguments p k q l later m at arg
    ];
  }

  -- the lines that a line is made of are marked
  module _ (ordered : AreLines look lines) (place : ℕ) (line : Line N) (op : Op) (places : List ℕ) (here : slice_get lines place ≡ Some line) (made_is : line.made ≡ made.Apply op places) where
    kind : IsMade look (take place lines) (look line.node) (made.Apply op places)
    kind = subst (λ k. IsMade look (take place lines) (look line.node) k) made_is (ordered place line here).made

    argument_at : IsPart look s (look line.node) → (qs : List ℕ) (ns : List N) (i p : ℕ) (l : Line N) → ((j : ℕ) (n : N) → slice_get ns j ≡ Some n → IsPart look s (look n)) → StandAt look (take place lines) qs ns → slice_get qs i ≡ Some p → slice_get lines p ≡ Some l → IsPart look s (look l.node)
    argument_at part [] ns i p l each h at there = absurd (cc)
    argument_at part (q ∷ qs) [] i p l each h at there = absurd h
    argument_at part (q ∷ qs) (n ∷ ns) zero p l each h at there =
        let e = earlier look lines place q n h.0 in
        let place_is : q ≡ p = same_Some q p at in
        let same : l ≡ e.line = same_Some l e.line (sym there ∙ ap (slice_get lines) (sym place_is) ∙ e.at) in
        subst (IsPart look s) (sym e.same ∙ ap (λ k. look k.node) (sym same)) (each 0 n refl)
    argument_at part (q ∷ qs) (n ∷ ns) (suc i) p l each h at there = argument_at part qs ns i p l (λ j m got. each (suc j) m got) h.1 at there

    pub search_apply : (parts more variables : List Bool) → IsMarked parts place → AreMarkedMore places parts more → IsSearching look s lines (place + 1) parts variables → IsSearching look s lines place more variables
    search_apply parts more variables marked extended is =
        let part = is.parts_of place line marked here in
        let each : (j : ℕ) (n : N) → slice_get kind.0 j ≡ Some n → IsPart look s (look n) = λ j n got. argument (look line.node) j n part (subst (λ x. slice_get (shown_args x) j ≡ Some n) (sym kind.1) got) in
        let before = made_before look lines ordered place line op places here made_is in
        record {
          root = λ p e. extended.kept p (is.root p e);
          parts_of = λ p l m at. elim (extended.only p m) [
            | inl old ↦ is.parts_of p l old at
            | inr one ↦ argument_at part places kind.0 one.0 p l each kind.2 one.1 at
          ];
          only = is.only;
          leaves = λ p i l past m at shown. elim (at_or_past p place past) [
            | inl e ↦ absurd (let same : Apply op kind.0 ≡ Variable i = sym kind.1 ∙ ap (λ k. (look k.node).shown) (sym (line_is p place l line e at here)) ∙ shown in cc)
            | inr later ↦ elim (extended.only p m) [
              | inl old ↦ is.leaves p i l later old at shown
              | inr one ↦ absurd (past (at_place before one.0 p one.1))
            ]
          ];
          arguments = λ p k q l past m at arg. elim (at_or_past p place past) [
            | inl e ↦
                let there : slice_get places k ≡ Some q = subst (λ x. slice_get (places_of x) k ≡ Some q) (ap (λ j. j.made) (line_is p place l line e at here) ∙ made_is) arg in
                marked_at extended.these k q there
            | inr later ↦ elim (extended.only p m) [
              | inl old ↦ extended.kept q (is.arguments p k q l later old at arg)
              | inr one ↦ absurd (past (at_place before one.0 p one.1))
            ]
          ];
        }
      where
        at_place : All (λ p. p < place) places → (i p : ℕ) → slice_get places i ≡ Some p → p < place
        at_place all i p at = subst (λ q. q < place) (get_or_from_slice_get places i p p at) (all i p (slice_get_within places i p at))

        marked_at : All (IsMarked more) places → (i p : ℕ) → slice_get places i ≡ Some p → IsMarked more p
        marked_at all i p at = subst (IsMarked more) (get_or_from_slice_get places i p p at) (all i p (slice_get_within places i p at))

  -- at first the last line is marked
  pub search_begun : (count variable_count : ℕ) (parts variables : List Bool) → IsListed look s lines → count ≡ length lines → IsLastMark count parts → AreUnmarked variable_count variables → IsSearching look s lines count parts variables
  search_begun count variable_count parts variables listed counted last none =
      let top = listed.last in
      let line = top.2.0 in
      record {
        root = λ p e. (last.last p).1 (omega (arith, counted));
        parts_of = λ p l m at.
            let e : p ≡ top.0 = let i = (last.last p).0 m in omega (arith, top.1, counted) in
            subst (IsPart look s) (sym (ap (λ k. look k.node) (line_is p top.0 l line e at top.2.1) ∙ top.2.2)) itself;
        only = λ i m. absurd (none.none i m);
        leaves = λ p i l past m at shown. absurd (past (let w = slice_get_within lines p l at in omega (arith, counted)));
        arguments = λ p k q l past m at arg. absurd (past (let w = slice_get_within lines p l at in omega (arith, counted)));
      }

  -- valuations that agree at marked variables give the parts one meaning
  module _ (variable_sorts : List DataSort) (views : IsViewed look variable_sorts) (ordered : AreLines look lines) (parts variables : List Bool) (is : IsSearching look s lines 0 parts variables) (v w : List Value) (agree : AgreeAt variables v w) where
    abbrev Same : N → Type 0
    Same n = (look n).meaning v ≡ (look n).meaning w

    same_all : (ns : List N) → All Same ns → meanings_of look v ns ≡ meanings_of look w ns
    same_all [] a = refl
    same_all (n ∷ ns) a =
        let here : (look n).meaning v ≡ (look n).meaning w = All-head Same n ns a in
        let rest : meanings_of look v ns ≡ meanings_of look w ns = same_all ns (All-tail Same n ns a) in
        cc

    same_shown : (x : Shown N) → ((i : ℕ) → x ≡ Variable i → value_at v i ≡ value_at w i) → All Same (shown_args x) → shown_value look v x ≡ shown_value look w x
    same_shown (Variable i) at a = at i refl
    same_shown (Constant x) at a = refl
    same_shown (Apply op ns) at a = ap (op_value op) (same_all ns a)

    abbrev Lower : ℕ → Type 0
    Lower p = (q : ℕ) (l : Line N) → q < p → IsMarked parts q → slice_get lines q ≡ Some l → Same l.node

    same_args : (p : ℕ) → Lower p → (places : List ℕ) (args : List N) → StandAt look (take p lines) places args → ((i q : ℕ) → slice_get places i ≡ Some q → IsMarked parts q) → All Same args
    same_args p lower [] [] h marked = All-nil Same
    same_args p lower [] (n ∷ ns) h marked = absurd h
    same_args p lower (q ∷ qs) [] h marked = absurd h
    same_args p lower (q ∷ qs) (n ∷ ns) h marked =
        let e = earlier look lines p q n h.0 in
        All-cons Same n ns (subst (λ t. t.meaning v ≡ t.meaning w) e.same (lower q e.line e.before (marked 0 q refl) e.at)) (same_args p lower qs ns h.1 (λ i r at. marked (suc i) r at))

    same_made : (p : ℕ) (line : Line N) → Lower p → ((i q : ℕ) → slice_get (places_of line.made) i ≡ Some q → IsMarked parts q) → (m : Made) → line.made ≡ m → IsMade look (take p lines) (look line.node) m → All Same (shown_args (look line.node).shown)
    same_made p line lower marked made.Leaf e h = subst (All Same) (sym h) (All-nil Same)
    same_made p line lower marked (made.Apply op places) e h =
        subst (λ x. All Same (shown_args x)) (sym h.1) (same_args p lower places h.0 h.2 (λ i q at. marked i q (subst (λ m. slice_get (places_of m) i ≡ Some q) (sym e) at)))

    same_step : (p : ℕ) (line : Line N) → Lower p → IsMarked parts p → slice_get lines p ≡ Some line → Same line.node
    same_step p line lower m at =
        let lawful = ordered p line at in
        let shows = views.shows line.node lawful.valid in
        shows.means v
        ∙ same_shown (look line.node).shown (λ i shown. agree i (is.leaves p i line (λ l. omega arith) m at shown)) (same_made p line lower (λ i q got. is.arguments p i q line (λ l. omega arith) m at got) line.made refl lawful.made)
        ∙ sym (shows.means w)

    same_below : (k p : ℕ) (line : Line N) → p < k → IsMarked parts p → slice_get lines p ≡ Some line → Same line.node
    same_below zero = λ p line lt m at. absurd (omega arith)
    same_below (suc k) = λ p line lt m at. same_step p line (λ q l below marked there. same_below k q l (omega arith) marked there) m at

    pub same_meaning : (p : ℕ) (line : Line N) → IsMarked parts p → slice_get lines p ≡ Some line → Same line.node
    same_meaning p line m at = same_below (suc p) p line (omega arith) m at

  -- at the end every variable is marked that the node depends on
  pub search_done : (sorts : List DataSort) → IsViewed look sorts → IsListed look s lines → (parts variables : List Bool) → length variables ≡ length sorts → IsSearching look s lines 0 parts variables → AreUsed look s (length sorts) variables
  search_done sorts views listed parts variables count is =
      let top = listed.last in
      record {
        count_is = count;
        only = is.only;
        enough = λ v w agree. subst (λ t. t.meaning v ≡ t.meaning w) top.2.2 (same_meaning sorts views listed.ordered parts variables is v w agree top.0 top.2.0 (is.root top.0 top.1) top.2.1);
      }
