-- Lines that get more, and domains that grow under them.
use Rattle.std.proofs.Common.{arith, ◌≡◌, ℕ, zero, suc, ◌<◌, ◌+◌, ◌⊎◌, inl, inr, Bool, true, false, nat_eq, IsTrue, List, [], ◌∷◌, ◌++◌, length, map, take, get_or, slice_get, Option, Some, None, refl, sym, ap, ◌∙◌, subst}
use Rattle.std.specs.Prelude.{MatchOption}
use Rattle.std.proofs.lemmas.Bool.{eqb-true, eq-eqb}
use Rattle.std.proofs.lemmas.List.{take_more, take-append-le, take_at}
use Rattle.std.proofs.lemmas.Option.{same_Some, slice_get_within}
use Rattle.data_value.specs.Nodes.{Seen, Extends}
use Rattle.data_value.specs.Views.{BeginsWith, shown_args}
use Rattle.node_list.specs.declared.line.Line.{Line}
use Rattle.node_list.specs.declared.line.Made.{Made}
use Rattle.node_list.specs.declared.line.Made.TheVariants as made
use Rattle.node_list.specs.Listed.{StandsAt, StandAt, IsMade, IsMadeOf, IsLine, AreLines, ArePlaced, AreRemembered, AreOnce, IsListing, IsListed}
use Rattle.node_list.specs.Walks.{IsNew}

-- whether the number of a node is this one
own_id : (o : Option ℕ) (i : ℕ) → (o ≡ Some i) ⊎ (o ≡ Some i → ⊥)
own_id None i = inr (λ (e : None ≡ Some i). cc)
own_id (Some j) i = by (nat_eq j i) refl
  where
    by : (b : Bool) → nat_eq j i ≡ b → (Some j ≡ Some i) ⊎ (Some j ≡ Some i → ⊥)
    by true h = inl (ap Some (eqb-true j i h))
    by false h = inr (λ (e : Some j ≡ Some i). let both : true ≡ false = sym (eq-eqb j i (same_Some j i e)) ∙ h in cc)

-- what holds where there is no place, and of each that there is
pub match_option : (o : Option ℕ) (A : Type 0) (B : ℕ → Type 0) → (o ≡ None → A) → ((p : ℕ) → o ≡ Some p → B p) → MatchOption o A B
match_option None A B a b = a refl
match_option (Some p) A B a b = b p refl

-- lists that begin with others
pub begins-same : {X : Type 0} (xs : List X) → BeginsWith xs xs
begins-same xs = ([], append-none xs)
  where
    append-none : {X : Type 0} (ys : List X) → ys ≡ ys ++ []
    append-none [] = refl
    append-none (y ∷ ys) = ap (λ l. y ∷ l) (append-none ys)

append-both : {X : Type 0} (xs ys zs : List X) → (xs ++ ys) ++ zs ≡ xs ++ (ys ++ zs)
append-both [] ys zs = refl
append-both (x ∷ xs) ys zs = ap (λ l. x ∷ l) (append-both xs ys zs)

pub begins-both : {X : Type 0} (xs ys zs : List X) → BeginsWith ys xs → BeginsWith zs ys → BeginsWith zs xs
begins-both xs ys zs p q = (p.0 ++ q.0, q.1 ∙ ap (λ l. l ++ q.0) p.1 ∙ append-both xs p.0 q.0)

pub begins-push : {X : Type 0} (xs ys : List X) (x : X) → ys ≡ xs ++ x ∷ [] → BeginsWith ys xs
begins-push xs ys x e = (x ∷ [], e)

get_left : {X : Type 0} (xs ys : List X) (k : ℕ) (x : X) → slice_get xs k ≡ Some x → slice_get (xs ++ ys) k ≡ Some x
get_left [] ys k x e = cc
get_left (y ∷ xs) ys zero x e = e
get_left (y ∷ xs) ys (suc k) x e = get_left xs ys k x e

pub get_last : {X : Type 0} (xs : List X) (x : X) → slice_get (xs ++ x ∷ []) (length xs) ≡ Some x
get_last [] x = refl
get_last (y ∷ xs) x = get_last xs x

get_push : {X : Type 0} (xs : List X) (x : X) (k : ℕ) (y : X) → slice_get (xs ++ x ∷ []) k ≡ Some y → (slice_get xs k ≡ Some y) ⊎ ((length xs ≡ k) × (x ≡ y))
get_push [] x zero y e = inr (refl, cc)
get_push [] x (suc k) y e = absurd (cc)
get_push (z ∷ xs) x zero y e = inl e
get_push (z ∷ xs) x (suc k) y e = elim (get_push xs x k y e) [
  | inl h ↦ inl h
  | inr h ↦ inr (let same = h.0 in omega arith, h.1)
]

module _ {N : Type 0} (f : N → Seen N) where
  pub stands_more : (ls ms : List (Line N)) (p : ℕ) (s : Seen N) → BeginsWith ms ls → StandsAt f ls p s → StandsAt f ms p s
  stands_more ls ms p s b h = (h.0, subst (λ l. slice_get l p ≡ Some h.0) (sym b.1) (get_left ls b.0 p h.0 h.1), h.2)

  pub stand_more : (ls ms : List (Line N)) → BeginsWith ms ls → (ps : List ℕ) (ns : List N) → StandAt f ls ps ns → StandAt f ms ps ns
  stand_more ls ms b [] [] h = tt
  stand_more ls ms b [] (n ∷ ns) h = absurd h
  stand_more ls ms b (p ∷ ps) [] h = absurd h
  stand_more ls ms b (p ∷ ps) (n ∷ ns) h = (stands_more ls ms p (f n) b h.0, stand_more ls ms b ps ns h.1)

  stand_push : (ls : List (Line N)) (p : ℕ) (n : N) (ps : List ℕ) (ns : List N) → StandsAt f ls p (f n) → StandAt f ls ps ns → StandAt f ls (ps ++ p ∷ []) (ns ++ n ∷ [])
  stand_push ls p n [] [] at h = (at, tt)
  stand_push ls p n [] (m ∷ ns) at h = absurd h
  stand_push ls p n (q ∷ ps) [] at h = absurd h
  stand_push ls p n (q ∷ ps) (m ∷ ns) at h = (h.0, stand_push ls p n ps ns at h.1)

  -- the places of the first i nodes and the next one
  pub stand_next : (ls ms : List (Line N)) (ps qs : List ℕ) (ns : List N) (i p : ℕ) (n : N) → i < length ns → n ≡ get_or ns i n → BeginsWith ms ls →
      StandAt f ls ps (take i ns) → StandsAt f ms p (f n) → qs ≡ ps ++ p ∷ [] → StandAt f ms qs (take (i + 1) ns)
  stand_next ls ms ps qs ns i p n lt is b before at more =
      let pushed = stand_push ms p n ps (take i ns) at (stand_more ls ms b ps (take i ns) before) in
      subst (λ l. StandAt f ms l (take (i + 1) ns)) (sym more)
      (subst (λ l. StandAt f ms (ps ++ p ∷ []) l) (ap (λ m. take i ns ++ m ∷ []) is ∙ sym (take_more ns i n lt)) pushed)

  pub lines_push : (ls ms : List (Line N)) (line : Line N) → AreLines f ls → IsLine f ls line → ms ≡ ls ++ line ∷ [] → AreLines f ms
  lines_push ls ms line all is e = subst (AreLines f) (sym e) pushed
    where
      pushed : AreLines f (ls ++ line ∷ [])
      pushed = λ k x at. elim (get_push ls line k x at) [
        | inl h ↦ let within = slice_get_within ls k x h in
            subst (λ before. IsLine f before x) (sym (take-append-le k ls (line ∷ []) (omega arith))) (all k x h)
        | inr h ↦ subst (λ before. IsLine f before x) (sym (take_at ls (line ∷ []) k h.0)) (subst (IsLine f ls) h.1 is)
      ]

  pub placed_more : (ls ms : List (Line N)) (places : ℕ → Option ℕ) → BeginsWith ms ls → ArePlaced f ls places → ArePlaced f ms places
  placed_more ls ms places b all = λ i p e. let h = all i p e in (h.0, h.1, h.2, stands_more ls ms p (f h.0) b h.3)

  pub stands_last : (ls ms : List (Line N)) (line : Line N) (s : Seen N) (p : ℕ) → p ≡ length ls → f line.node ≡ s → ms ≡ ls ++ line ∷ [] → StandsAt f ms p s
  stands_last ls ms line s p at same e = (line, ap (λ l. slice_get l p) e ∙ ap (λ k. slice_get (ls ++ line ∷ []) k) at ∙ get_last ls line, same)

  -- what is kept under the number of a node is its place
  pub placed_at : ((m n : N) (i : ℕ) → IsTrue (f m).valid → IsTrue (f n).valid → (f m).id ≡ Some i → (f n).id ≡ Some i → f m ≡ f n) →
      (ls : List (Line N)) (places : ℕ → Option ℕ) → ArePlaced f ls places → (n : N) (i p : ℕ) → IsTrue (f n).valid → (f n).id ≡ Some i → places i ≡ Some p → StandsAt f ls p (f n)
  placed_at one ls places all n i p ok number e =
      let h = all i p e in
      (h.3.0, h.3.1, h.3.2 ∙ one h.0 n i h.1 ok h.2 number)

  -- as many places stand as nodes
  pub stand_length : (ls : List (Line N)) (ps : List ℕ) (ns : List N) → StandAt f ls ps ns → length ps ≡ length ns
  stand_length ls [] [] h = refl
  stand_length ls [] (n ∷ ns) h = absurd h
  stand_length ls (p ∷ ps) [] h = absurd h
  stand_length ls (p ∷ ps) (n ∷ ns) h = let rest = stand_length ls ps ns h.1 in omega arith

  -- at the places of nodes stand those that look as they do
  pub stand_alike : (ls : List (Line N)) (ps : List ℕ) (ns ms : List N) → map f ns ≡ map f ms → StandAt f ls ps ns → StandAt f ls ps ms
  stand_alike ls [] [] [] e h = tt
  stand_alike ls [] [] (m ∷ ms) e h = absurd (cc)
  stand_alike ls [] (n ∷ ns) ms e h = absurd h
  stand_alike ls (p ∷ ps) [] ms e h = absurd h
  stand_alike ls (p ∷ ps) (n ∷ ns) [] e h = absurd (cc)
  stand_alike ls (p ∷ ps) (n ∷ ns) (m ∷ ms) e h =
      let here : f n ≡ f m = cc in
      let rest : map f ns ≡ map f ms = cc in
      (subst (StandsAt f ls p) here h.0, stand_alike ls ps ns ms rest h.1)

  -- what is made of nodes at places is made of those that stand there
  pub made_at : (ls : List (Line N)) (s : Seen N) (made : Made) (places : List ℕ) → IsMadeOf s.shown places made → StandAt f ls places (shown_args s.shown) → IsMade f ls s made
  made_at ls s made.Leaf places m at = m
  made_at ls s (made.Apply op ps) places m at =
      (m.0, m.1, subst (λ qs. StandAt f ls qs m.0) (sym m.2) (subst (λ shown. StandAt f ls places (shown_args shown)) m.1 at))

  -- one more line, of a node under whose number no place was kept
  module _ (ls ms : List (Line N)) (places after : ℕ → Option ℕ) (line : Line N) (s : Seen N) (p : ℕ) (is : IsListing f ls places) (same : f line.node ≡ s) (ok : IsTrue s.valid) (new : IsNew s places) (e : ms ≡ ls ++ line ∷ []) (at : p ≡ length ls) (kept : (i : ℕ) → s.id ≡ Some i → after i ≡ Some p) (others : (i : ℕ) → (s.id ≡ Some i → ⊥) → after i ≡ places i) where
    placed_grown : (i q : ℕ) → after i ≡ Some q → (s.id ≡ Some i) ⊎ (s.id ≡ Some i → ⊥) → (n : N) × IsTrue (f n).valid × ((f n).id ≡ Some i) × StandsAt f ms q (f n)
    placed_grown i q h (inl own) =
        let place : p ≡ q = same_Some p q (sym (kept i own) ∙ h) in
        let stands : StandsAt f ms p (f line.node) = stands_last ls ms line (f line.node) p at refl e in
        (line.node, subst (λ t. IsTrue t.valid) (sym same) ok, ap (λ t. t.id) same ∙ own, subst (λ k. StandsAt f ms k (f line.node)) place stands)
    placed_grown i q h (inr other) =
        let old = is.placed i q (sym (others i other) ∙ h) in
        (old.0, old.1, old.2, stands_more ls ms q (f old.0) (begins-push ls ms line e) old.3)

    remembered_grown : (k i : ℕ) (x : Line N) → (f x.node).id ≡ Some i → (slice_get ls k ≡ Some x) ⊎ ((length ls ≡ k) × (line ≡ x)) → after i ≡ Some k
    remembered_grown k i x id (inl there) =
        let old : places i ≡ Some k = is.remembered k i x there id in
        others i (λ own. let none : places i ≡ None = new i own in cc) ∙ old
    remembered_grown k i x id (inr last) =
        kept i (ap (λ t. t.id) (sym same) ∙ ap (λ (l : Line N). (f l.node).id) last.1 ∙ id) ∙ ap Some (at ∙ last.0)

    pub listing_grown : IsMade f ls s line.made → IsListing f ms after
    listing_grown made = record {
      ordered = lines_push ls ms line is.ordered (record { valid = subst (λ t. IsTrue t.valid) (sym same) ok; made = subst (λ t. IsMade f ls t line.made) (sym same) made }) e;
      placed = λ i q h. placed_grown i q h (own_id s.id i);
      remembered = λ k i x there id. remembered_grown k i x id (get_push ls line k x (ap (λ l. slice_get l k) (sym e) ∙ there));
    }

  -- lines whose places are kept are of different nodes
  pub once_remembered : (ls : List (Line N)) (places : ℕ → Option ℕ) → AreRemembered f ls places → AreOnce f ls
  once_remembered ls places all = λ j k i a b here there first second. same_Some j k (sym (all j i a here first) ∙ all k i b there second)

-- lines stay lines in a domain that grows
module _ {N : Type 0} (f g : N → Seen N) (x : Extends f g) where
  pub stands_kept : (ls : List (Line N)) → ((k : ℕ) (line : Line N) → slice_get ls k ≡ Some line → IsTrue (f line.node).valid) → (p : ℕ) (s : Seen N) → StandsAt f ls p s → StandsAt g ls p s
  stands_kept ls valid p s h = (h.0, h.1, x.keeps h.0.node (valid p h.0 h.1) ∙ h.2)

  stand_kept : (ls : List (Line N)) → ((k : ℕ) (line : Line N) → slice_get ls k ≡ Some line → IsTrue (f line.node).valid) → (ps : List ℕ) (ns : List N) → StandAt f ls ps ns → StandAt g ls ps ns
  stand_kept ls valid [] [] h = tt
  stand_kept ls valid [] (n ∷ ns) h = absurd h
  stand_kept ls valid (p ∷ ps) [] h = absurd h
  stand_kept ls valid (p ∷ ps) (n ∷ ns) h =
      let at = h.0 in
      let ok : IsTrue (f n).valid = subst (λ s. IsTrue s.valid) at.2 (valid p at.0 at.1) in
      (subst (StandsAt g ls p) (sym (x.keeps n ok)) (stands_kept ls valid p (f n) at), stand_kept ls valid ps ns h.1)

  made_kept : (ls : List (Line N)) → ((k : ℕ) (line : Line N) → slice_get ls k ≡ Some line → IsTrue (f line.node).valid) → (s : Seen N) (made : Made) → IsMade f ls s made → IsMade g ls s made
  made_kept ls valid s made.Leaf h = h
  made_kept ls valid s (made.Apply op ps) h = (h.0, h.1, stand_kept ls valid ps h.0 h.2)

  get_take : {X : Type 0} (xs : List X) (k j : ℕ) (y : X) → slice_get (take k xs) j ≡ Some y → slice_get xs j ≡ Some y
  get_take [] zero j y e = e
  get_take [] (suc k) j y e = e
  get_take (z ∷ xs) zero j y e = absurd (cc)
  get_take (z ∷ xs) (suc k) zero y e = e
  get_take (z ∷ xs) (suc k) (suc j) y e = get_take xs k j y e

  pub lines_kept : (ls : List (Line N)) → AreLines f ls → AreLines g ls
  lines_kept ls all = λ k line at.
      let is = all k line at in
      let kept = x.keeps line.node is.valid in
      record {
        valid = subst (λ s. IsTrue s.valid) (sym kept) is.valid;
        made = subst (λ s. IsMade g (take k ls) s line.made) (sym kept)
            (made_kept (take k ls) (λ j other e. (all j other (get_take ls k j other e)).valid) (f line.node) line.made is.made);
      }

  -- a line's node has the number that it had
  number_kept : (ls : List (Line N)) → AreLines f ls → (k i : ℕ) (line : Line N) → slice_get ls k ≡ Some line → (g line.node).id ≡ Some i → (f line.node).id ≡ Some i
  number_kept ls all k i line at h = ap (λ s. s.id) (sym (x.keeps line.node (all k line at).valid)) ∙ h

  pub listed_kept : (s : Seen N) (ls : List (Line N)) → IsListed f s ls → IsListed g s ls
  listed_kept s ls is = record {
    ordered = lines_kept ls is.ordered;
    once = λ j k i a b here there first second. is.once j k i a b here there (number_kept ls is.ordered j i a here first) (number_kept ls is.ordered k i b there second);
    last = (is.last.0, is.last.1, stands_kept ls (λ k line at. (is.ordered k line at).valid) is.last.0 s is.last.2);
  }
