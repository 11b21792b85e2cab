-- Nodes that are built for lines, one by one.
use Rattle.std.proofs.Common.{arith, ◌≡◌, ℕ, zero, suc, ◌+◌, ◌<◌, IsTrue, List, [], ◌∷◌, ◌++◌, length, take, get_or, slice_get, Some, refl, sym, ap, ◌∙◌, subst}
use Rattle.std.proofs.lemmas.List.{take_more}
use Rattle.std.proofs.lemmas.Option.{slice_get-get_or}
use Rattle.data_value.specs.declared.DataSort.{DataSort}
use Rattle.data_value.specs.declared.Op.{Op}
use Rattle.data_value.specs.Nodes.{Seen, Apply, Extends}
use Rattle.node_list.specs.declared.line.Line.{Line}
use Rattle.node_list.specs.declared.line.Made.{Made}
use Rattle.node_list.specs.declared.line.Made.TheVariants as made
use Rattle.node_list.specs.Listed.{StandsAt, StandAt, IsMade, AreLines}
use Rattle.node_list.proofs.Lines.{get_last, lines_kept}
use Rattle.simplify.specs.Pairs.{Equated}
use Rattle.simplify.specs.Simpler.{IsSimplerUnder, AreSimpler}
use Rattle.simplify.specs.Built.{AreThere, AreCopied, IsSimplerAt, AreSimplerAt, IsReadyMade, IsReady, IsBuilt, AreBuilt}

-- the place at an index of a list of places
place_there : {N : Type 0} (f : N → Seen N) (nodes : List N) (ps : List ℕ) (i p : ℕ) → i < length ps → p ≡ get_or ps i p → AreThere f nodes ps → (n : N) × (slice_get nodes p ≡ Some n) × IsTrue (f n).valid
place_there f nodes [] i p lt is h = absurd (omega arith)
place_there f nodes (q ∷ ps) zero p lt is h = (h.0.0, ap (slice_get nodes) is ∙ h.0.1, h.0.2)
place_there f nodes (q ∷ ps) (suc i) p lt is h = place_there f nodes ps i p (omega arith) is h.1

module _ {N : Type 0} (f : N → Seen N) where
  pub there_within : (nodes : List N) (ps : List ℕ) (i p : ℕ) → i < length ps → p ≡ get_or ps i p → AreThere f nodes ps → p < length nodes
  there_within nodes ps i p lt is h = let at = place_there f nodes ps i p lt is h in within nodes p at.0 at.1
    where
      within : (xs : List N) (k : ℕ) (x : N) → slice_get xs k ≡ Some x → k < length xs
      within [] k x e = absurd (cc)
      within (y ∷ xs) zero x e = omega arith
      within (y ∷ xs) (suc k) x e = let h = within xs k x e in omega arith

  pub there_valid : (nodes : List N) (ps : List ℕ) (i p : ℕ) (m : N) → i < length ps → p ≡ get_or ps i p → AreThere f nodes ps → p < length nodes → m ≡ get_or nodes p m → IsTrue (f m).valid
  there_valid nodes ps i p m lt is h within at =
      let there = place_there f nodes ps i p lt is h in
      let same : Some there.0 ≡ Some m = sym there.1 ∙ slice_get-get_or nodes p m within ∙ ap Some (sym at) in
      let n : there.0 ≡ m = cc in
      subst (λ k. IsTrue (f k).valid) n there.2

  copied_push : (nodes : List N) (ps : List ℕ) (ms : List N) (p : ℕ) (n m : N) → slice_get nodes p ≡ Some n → f m ≡ f n → AreCopied f nodes ps ms → AreCopied f nodes (ps ++ p ∷ []) (ms ++ m ∷ [])
  copied_push nodes [] [] p n m at same h = ((n, at, same), tt)
  copied_push nodes [] (l ∷ ms) p n m at same h = absurd h
  copied_push nodes (q ∷ ps) [] p n m at same h = absurd h
  copied_push nodes (q ∷ ps) (l ∷ ms) p n m at same h = (h.0, copied_push nodes ps ms p n m at same h.1)

  pub copied_more : (nodes : List N) (ps : List ℕ) (ms ls : List N) (i p : ℕ) (n m : N) → i < length ps → p ≡ get_or ps i p → p < length nodes → n ≡ get_or nodes p n → f m ≡ f n → AreCopied f nodes (take i ps) ms → ls ≡ ms ++ m ∷ [] →
      AreCopied f nodes (take (i + 1) ps) ls
  copied_more nodes ps ms ls i p n m lt is within at same h more =
      let there : slice_get nodes p ≡ Some n = slice_get-get_or nodes p n within ∙ ap Some (sym at) in
      subst (AreCopied f nodes (take (i + 1) ps)) (sym more)
      (subst (λ qs. AreCopied f nodes qs (ms ++ m ∷ [])) (ap (λ q. take i ps ++ q ∷ []) is ∙ sym (take_more ps i p lt)) (copied_push nodes (take i ps) ms p n m there same h))

  module _ (vars : List DataSort) (pairs : List (Equated N)) where
    simpler_there : (nodes : List N) (ps : List ℕ) (args : List N) → AreSimplerAt vars pairs f nodes ps args → AreThere f nodes ps
    simpler_there nodes [] [] h = tt
    simpler_there nodes [] (a ∷ args) h = absurd h
    simpler_there nodes (p ∷ ps) [] h = absurd h
    simpler_there nodes (p ∷ ps) (a ∷ args) h = ((h.0.0, h.0.1, h.0.2.valid), simpler_there nodes ps args h.1)

    copied_simpler : (nodes : List N) (ps : List ℕ) (args ms : List N) → AreSimplerAt vars pairs f nodes ps args → AreCopied f nodes ps ms → AreSimpler vars pairs f args ms
    copied_simpler nodes [] [] [] h c = tt
    copied_simpler nodes [] [] (m ∷ ms) h c = absurd c
    copied_simpler nodes [] (a ∷ args) ms h c = absurd h
    copied_simpler nodes (p ∷ ps) [] ms h c = absurd h
    copied_simpler nodes (p ∷ ps) (a ∷ args) [] h c = absurd c
    copied_simpler nodes (p ∷ ps) (a ∷ args) (m ∷ ms) h c =
        let there = h.0 in
        let copy = c.0 in
        let same : Some there.0 ≡ Some copy.0 = sym there.1 ∙ copy.1 in
        let n : there.0 ≡ copy.0 = cc in
        (subst (IsSimplerUnder vars pairs (f a)) (ap f n ∙ sym copy.2) there.2, copied_simpler nodes ps args ms h.1 c.1)

    -- what a line that is ready is made of
    pub ready_there : (nodes : List N) (s : Seen N) (form : Made) (op : Op) (ps : List ℕ) → form ≡ made.Apply op ps → IsReadyMade vars pairs f nodes s form → AreThere f nodes ps
    ready_there nodes s form op ps e h = let r = subst (IsReadyMade vars pairs f nodes s) e h in simpler_there nodes ps r.0 r.2

    pub ready_args : (nodes : List N) (s : Seen N) (form : Made) (op : Op) (ps : List ℕ) (ms : List N) → form ≡ made.Apply op ps → IsReadyMade vars pairs f nodes s form → AreCopied f nodes ps ms → (args : List N) × (s.shown ≡ Apply op args) × AreSimpler vars pairs f args ms
    ready_args nodes s form op ps ms e h c = let r = subst (IsReadyMade vars pairs f nodes s) e h in (r.0, r.1, copied_simpler nodes ps r.0 ms r.2 c)

    built_at : (ls : List (Line N)) (ns : List N) (p : ℕ) (line : Line N) → AreBuilt vars pairs f ls ns → slice_get ls p ≡ Some line → IsSimplerAt vars pairs f ns p (f line.node)
    built_at [] ns p line b e = absurd (cc)
    built_at (l ∷ ls) [] p line b e = absurd b
    built_at (l ∷ ls) (n ∷ ns) zero line b e = let same : l ≡ line = cc in (n, refl, subst (λ k. IsSimplerUnder vars pairs (f k.node) (f n)) same b.0.simpler)
    built_at (l ∷ ls) (n ∷ ns) (suc p) line b e = built_at ls ns p line b.1 e

    pub built_stands : (ls : List (Line N)) (ns : List N) (p : ℕ) (s : Seen N) → AreBuilt vars pairs f ls ns → StandsAt f ls p s → IsSimplerAt vars pairs f ns p s
    built_stands ls ns p s b h = subst (IsSimplerAt vars pairs f ns p) h.2 (built_at ls ns p h.0 b h.1)

    built_stand : (ls : List (Line N)) (ns : List N) (ps : List ℕ) (args : List N) → AreBuilt vars pairs f ls ns → StandAt f ls ps args → AreSimplerAt vars pairs f ns ps args
    built_stand ls ns [] [] b h = tt
    built_stand ls ns [] (a ∷ args) b h = absurd h
    built_stand ls ns (p ∷ ps) [] b h = absurd h
    built_stand ls ns (p ∷ ps) (a ∷ args) b h = (built_stands ls ns p (f a) b h.0, built_stand ls ns ps args b h.1)

    ready_made : (ls : List (Line N)) (ns : List N) (s : Seen N) (form : Made) → AreBuilt vars pairs f ls ns → IsMade f ls s form → IsReadyMade vars pairs f ns s form
    ready_made ls ns s made.Leaf b h = tt
    ready_made ls ns s (made.Apply op ps) b h = (h.0, h.1, built_stand ls ns ps h.0 b h.2)

    pub built_length : (ls : List (Line N)) (ns : List N) → AreBuilt vars pairs f ls ns → length ns ≡ length ls
    built_length [] [] b = refl
    built_length [] (n ∷ ns) b = absurd b
    built_length (l ∷ ls) [] b = absurd b
    built_length (l ∷ ls) (n ∷ ns) b = let h = built_length ls ns b.1 in omega arith

    take_length : (ls : List (Line N)) (i : ℕ) → i < length ls → length (take i ls) ≡ i
    take_length [] i lt = absurd (omega arith)
    take_length (l ∷ ls) zero lt = refl
    take_length (l ∷ ls) (suc i) lt = let h = take_length ls i (omega arith) in omega arith

    -- as many nodes were built as there are lines before this one
    pub built_count : (ls : List (Line N)) (ns : List N) (i : ℕ) → i < length ls → AreBuilt vars pairs f (take i ls) ns → length ns ≡ i
    built_count ls ns i lt b = built_length (take i ls) ns b ∙ take_length ls i lt

    built_push : (ls : List (Line N)) (ns : List N) (l : Line N) (n : N) → IsBuilt vars pairs f l n → AreBuilt vars pairs f ls ns → AreBuilt vars pairs f (ls ++ l ∷ []) (ns ++ n ∷ [])
    built_push [] [] l n is b = (is, tt)
    built_push [] (m ∷ ns) l n is b = absurd b
    built_push (k ∷ ls) [] l n is b = absurd b
    built_push (k ∷ ls) (m ∷ ns) l n is b = (b.0, built_push ls ns l n is b.1)

    -- the last node that was built
    pub built_last : (ls : List (Line N)) (ns ms : List N) (n : N) (p : ℕ) (s : Seen N) → AreBuilt vars pairs f ls ns → length ls ≡ p + 1 → StandsAt f ls p s → ns ≡ ms ++ n ∷ [] → IsSimplerUnder vars pairs s (f n)
    built_last ls ns ms n p s b long h e =
        let at = built_stands ls ns p s b h in
        let count = built_length ls ns b in
        let more = length_more ms n in
        let total = ap length e in
        let place : p ≡ length ms = omega arith in
        let same : Some at.0 ≡ Some n = sym at.1 ∙ ap (λ l. slice_get l p) e ∙ ap (slice_get (ms ++ n ∷ [])) place ∙ get_last ms n in
        let is : at.0 ≡ n = cc in
        subst (λ k. IsSimplerUnder vars pairs s (f k)) is at.2
      where
        length_more : (xs : List N) (x : N) → length (xs ++ x ∷ []) ≡ length xs + 1
        length_more [] x = refl
        length_more (y ∷ xs) x = let h = length_more xs x in omega arith

module _ {N : Type 0} (vars : List DataSort) (pairs : List (Equated N)) (f g : N → Seen N) (x : Extends f g) where
  pub simpler_kept : (s : Seen N) (n : N) → IsSimplerUnder vars pairs s (f n) → IsSimplerUnder vars pairs s (g n)
  simpler_kept s n is = subst (IsSimplerUnder vars pairs s) (sym (x.keeps n is.valid)) is

  is_built_kept : (l : Line N) (n : N) → IsBuilt vars pairs f l n → IsBuilt vars pairs g l n
  is_built_kept l n is =
      let same = sym (x.keeps l.node is.valid) in
      record { valid = subst (λ s. IsTrue s.valid) same is.valid; simpler = subst (λ s. IsSimplerUnder vars pairs s (g n)) same (simpler_kept (f l.node) n is.simpler) }

  pub built_kept : (ls : List (Line N)) (ns : List N) → AreBuilt vars pairs f ls ns → AreBuilt vars pairs g ls ns
  built_kept [] [] b = tt
  built_kept [] (n ∷ ns) b = absurd b
  built_kept (l ∷ ls) [] b = absurd b
  built_kept (l ∷ ls) (n ∷ ns) b = (is_built_kept l n b.0, built_kept ls ns b.1)

  -- a line whose earlier lines were built is ready
  pub line_ready : (ls : List (Line N)) (ns : List N) (i : ℕ) (l : Line N) → AreLines f ls → i < length ls → l ≡ get_or ls i l → AreBuilt vars pairs g (take i ls) ns → IsReady vars pairs g ns l
  line_ready ls ns i l all lt is b =
      let at : slice_get ls i ≡ Some l = slice_get-get_or ls i l lt ∙ ap Some (sym is) in
      let line = lines_kept f g x ls all i l at in
      record { valid = line.valid; made = ready_made g vars pairs (take i ls) ns (g l.node) l.made b line.made }

-- one more line was built, in a domain that grew
pub built_more : {N : Type 0} (vars : List DataSort) (pairs : List (Equated N)) (f g h : N → Seen N) → Extends f g → Extends g h → (ls : List (Line N)) (ns ms : List N) (i : ℕ) (l : Line N) (n : N) → AreLines f ls → i < length ls → l ≡ get_or ls i l →
    AreBuilt vars pairs g (take i ls) ns → IsSimplerUnder vars pairs (g l.node) (h n) → ms ≡ ns ++ n ∷ [] → AreBuilt vars pairs h (take (i + 1) ls) ms
built_more vars pairs f g h x y ls ns ms i l n all lt is b simpler more =
    let ready = line_ready vars pairs f g x ls ns i l all lt is b in
    let same = sym (y.keeps l.node ready.valid) in
    let built : IsBuilt vars pairs h l n = record { valid = subst (λ s. IsTrue s.valid) same ready.valid; simpler = subst (λ s. IsSimplerUnder vars pairs s (h n)) same simpler } in
    subst (AreBuilt vars pairs h (take (i + 1) ls)) (sym more)
    (subst (λ k. AreBuilt vars pairs h k (ns ++ n ∷ [])) (ap (λ k. take i ls ++ k ∷ []) is ∙ sym (take_more ls i l lt)) (built_push h vars pairs (take i ls) ns l n built (built_kept vars pairs g h y (take i ls) ns b)))
