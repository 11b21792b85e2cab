-- The set of literals that an analysis has gathered.
use Rattle.std.proofs.Common.{ℕ, ◌≡◌, ◌<◌, Bool, true, false, not, ◌&&◌, ◌||◌, Option, Some, List, [], ◌∷◌, ◌++◌, length, refl, sym, ap, ◌∙◌, subst, inl, inr}
use Rattle.std.proofs.lemmas.Bool.{and_parts, or_cases}
use Rattle.refute_check.specs.declared.lit.Lit.{Lit}
use Rattle.refute_check.specs.declared.step.Link.{Link}
use Rattle.refute_check.specs.Truth.{flipped}
use Rattle.refute_check.specs.Literals.{same_lit, has_lit, resolvent}
use Rattle.refute_check.specs.Derived.{chained, clause_at}
use Rattle.refute_check.proofs.LitLemmas.{same_lit_eq}
use Rattle.clause_search.specs.declared.trail.Entry.{Entry}
use Rattle.clause_search.specs.declared.trail.Trail.{Trail}
use Rattle.clause_search.specs.Partial.{lit_value, is_false, falsifies, with_lit}
use Rattle.clause_search.specs.Trail.{IsReason, IsConflict}
use Rattle.clause_search.specs.Analysis.{marked, gathered, covers, IsCovered, IsSeen, AreSeen, AreSeenBut, MarksMore, MarksClause}
use Rattle.clause_search.proofs.PartialLemmas.{flipped_twice, false_after}
use Rattle.clause_search.proofs.ClauseLemmas.{false_but_at}
use Rattle.clause_search.proofs.TrailLemmas.{Popped}

-- ---- the set of literals

-- the set of a chain without a link, and with one more
pub gathered_none : (cs : List (List Lit)) (k : ℕ) (x : Lit) → gathered cs k [] x ≡ has_lit (clause_at cs k) x
unfolding chained
gathered_none cs k x = refl

chained_push : (cs : List (List Lit)) (ks : List Link) (l : Link) (a : Lit → Bool) (x : Lit) → chained cs (ks ++ l ∷ []) a x ≡ resolvent (chained cs ks a) (has_lit (clause_at cs l.clause)) l.lit x
unfolding chained
chained_push cs [] l a x = refl
chained_push cs (k ∷ ks) l a x = chained_push cs ks l (resolvent a (has_lit (clause_at cs k.clause)) k.lit) x

pub gathered_push : (cs : List (List Lit)) (k : ℕ) (ks new : List Link) (l : Link) (x : Lit) → new ≡ ks ++ l ∷ [] → gathered cs k new x ≡ resolvent (gathered cs k ks) (has_lit (clause_at cs l.clause)) l.lit x
gathered_push cs k ks new l x e = ap (λ (js : List Link). gathered cs k js x) e ∙ chained_push cs ks l (has_lit (clause_at cs k)) x

-- a literal of a false clause
false_at : (p : List (Option Bool)) (c : List Lit) (x : Lit) → falsifies p c ≡ true → has_lit c x ≡ true → is_false (lit_value p x) ≡ true
unfolding falsifies has_lit
false_at p [] x f h = cc
false_at p (k ∷ ks) x f h =
    let q = and_parts (is_false (lit_value p k)) _ f in
    elim (or_cases (same_lit k x) (has_lit ks x) h) [
      | inl e ↦ subst (λ (y : Lit). is_false (lit_value p y) ≡ true) (same_lit_eq k x e) q.0
      | inr e ↦ false_at p ks x q.1 e
    ]

-- at the beginning
pub seen_first : (cs : List (List Lit)) (t : Trail) (m : List Bool) (k : ℕ) (c : List Lit) (ks : List Link) → ks ≡ [] → IsConflict cs t k → c ≡ clause_at cs k → MarksClause m c → AreSeen t.values m (gathered cs k ks)
seen_first cs t m k c ks n f e w = record {
  at = λ x h.
      let g : has_lit (clause_at cs k) x ≡ true = sym (gathered_none cs k x) ∙ sym (ap (λ (js : List Link). gathered cs k js x) n) ∙ h in
      record {
        falsified = false_at t.values (clause_at cs k) x f.falsified g;
        marked = w.at x (ap (λ (d : List Lit). has_lit d x) e ∙ g);
      };
}

without_not : (b : Bool) → not b ≡ true → b ≡ false
without_not true h = cc
without_not false h = refl

-- what was false with the entry's literal true is false without, or is its opposite
false_before : (p q : List (Option Bool)) (l x : Lit) → l.var < length p → with_lit p l ≡ q → is_false (lit_value q x) ≡ true → same_lit (flipped l) x ≡ false → is_false (lit_value p x) ≡ true
false_before p q l x v w h n =
    let f : is_false (lit_value (with_lit p l) x) ≡ true = ap (λ (r : List (Option Bool)). is_false (lit_value r x)) w ∙ h in
    elim (or_cases (same_lit (flipped l) x) (is_false (lit_value p x)) (false_after p l x v f)) [
      | inl e ↦ cc
      | inr e ↦ e
    ]

-- the set without the opposite of the last entry's literal
pub seen_others : (cs : List (List Lit)) (old new : Trail) (m : List Bool) (e : Entry) (u : Lit) (s : Lit → Bool) → Popped cs old new e → u ≡ flipped e.lit → AreSeen old.values m s → AreSeenBut new.values m u s
seen_others cs old new m e u s w q h = record {
  at = λ x f g.
      record { falsified = false_before new.values old.values e.lit x w.entry.var w.values (h.at x f).falsified (subst (λ (y : Lit). same_lit y x ≡ false) q g); marked = (h.at x f).marked };
}

-- the resolvent with the clause that forced it
pub seen_resolved : (cs : List (List Lit)) (old new : Trail) (m n : List Bool) (e : Entry) (u : Lit) (r : ℕ) (c : List Lit) (k : ℕ) (ks js : List Link) → Popped cs old new e → u ≡ flipped e.lit → e.reason ≡ Some r → c ≡ clause_at cs r → js ≡ ks ++ (record { lit = u; clause = r }) ∷ [] → MarksMore m n → MarksClause n c → AreSeen old.values m (gathered cs k ks) → AreSeen new.values n (gathered cs k js)
seen_resolved cs old new m n e u r c k ks js w q f b z mm mc h = record {
  at = λ x g.
      let link : Link = record { lit = u; clause = r } in
      let t : resolvent (gathered cs k ks) (has_lit (clause_at cs r)) u x ≡ true = sym (gathered_push cs k ks js link x z) ∙ g in
      let reason = subst (λ (o : Option ℕ). IsReason cs new.values e.lit o) f w.entry.reason in
      elim (or_cases (gathered cs k ks x && not (same_lit u x)) _ t) [
        | inl a ↦
            let y = and_parts (gathered cs k ks x) _ a in
            let s = h.at x y.0 in
            let d : same_lit (flipped e.lit) x ≡ false = subst (λ (v : Lit). same_lit v x ≡ false) q (without_not (same_lit u x) y.1) in
            record { falsified = false_before new.values old.values e.lit x w.entry.var w.values s.falsified d; marked = mm.at x.var s.marked }
        | inr a ↦
            let y = and_parts (has_lit (clause_at cs r) x) _ a in
            let d : same_lit e.lit x ≡ false = subst (λ (v : Lit). same_lit v x ≡ false) (ap flipped q ∙ flipped_twice e.lit) (without_not (same_lit (flipped u) x) y.1) in
            record {
              falsified = elim (false_but_at new.values e.lit (clause_at cs r) x reason.1 y.0) [
                | inl o ↦ cc
                | inr o ↦ o
              ];
              marked = mc.at x (ap (λ (v : List Lit). has_lit v x) b ∙ y.0);
            }
      ];
}

-- ---- shorter clauses

-- a literal of a covered clause
covered_at : (p : List (Option Bool)) (m : List Bool) (l : Lit) (c : List Lit) (x : Lit) → covers p m l c ≡ true → has_lit c x ≡ true → same_lit l x ≡ false → IsSeen p m x
unfolding covers has_lit
covered_at p m l [] x f h n = cc
covered_at p m l (k ∷ ks) x f h n =
    let q = and_parts (same_lit l k || (is_false (lit_value p k) && marked m k.var)) _ f in
    elim (or_cases (same_lit k x) (has_lit ks x) h) [
      | inl e ↦
          let g : (same_lit l x || (is_false (lit_value p x) && marked m x.var)) ≡ true = subst (λ (y : Lit). (same_lit l y || (is_false (lit_value p y) && marked m y.var)) ≡ true) (same_lit_eq k x e) q.0 in
          elim (or_cases (same_lit l x) _ g) [
            | inl o ↦ cc
            | inr o ↦ (let r = and_parts (is_false (lit_value p x)) _ o in record { falsified = r.0; marked = r.1 })
          ]
      | inr e ↦ covered_at p m l ks x q.1 e n
    ]

-- the resolvent with a clause that only takes a literal out
pub seen_covered : (cs : List (List Lit)) (p : List (Option Bool)) (m : List Bool) (u v l : Lit) (k r : ℕ) (ks js : List Link) → js ≡ ks ++ (record { lit = v; clause = r }) ∷ [] → v ≡ flipped l → IsCovered cs p m l r → AreSeenBut p m u (gathered cs k ks) → AreSeenBut p m u (gathered cs k js)
seen_covered cs p m u v l k r ks js z q w h = record {
  at = λ x g n.
      let link : Link = record { lit = v; clause = r } in
      let t : resolvent (gathered cs k ks) (has_lit (clause_at cs r)) v x ≡ true = sym (gathered_push cs k ks js link x z) ∙ g in
      elim (or_cases (gathered cs k ks x && not (same_lit v x)) _ t) [
        | inl a ↦ h.at x (and_parts (gathered cs k ks x) _ a).0 n
        | inr a ↦
            let y = and_parts (has_lit (clause_at cs r) x) _ a in
            let d : same_lit l x ≡ false = subst (λ (o : Lit). same_lit o x ≡ false) (ap flipped q ∙ flipped_twice l) (without_not (same_lit (flipped v) x) y.1) in
            covered_at p m l (clause_at cs r) x w.covers y.0 d
      ];
}
