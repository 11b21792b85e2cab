-- Marks on variables, values that are taken back, and places without marks.
use Rattle.std.proofs.Common.{ℕ, ◌≡◌, ◌<◌, ◌≤◌, ◌+◌, Bool, true, false, not, if◌then◌else◌, Option, None, List, [], ◌∷◌, ◌++◌, length, get_or, set, take, drop, refl, sym, ap, ◌∙◌, subst, inl, inr, zero, suc, arith, append_assoc, get_or-set_other}
use Rattle.std.specs.Option.{option_map}
use Rattle.std.proofs.lemmas.Bool.{or_cases, cases_eq}
use Rattle.std.proofs.lemmas.List.Folds.{list_any_more}
use Rattle.std.proofs.Math.Seq.{get_or-append_seam}
use Rattle.refute_check.specs.declared.lit.Lit.{Lit}
use Rattle.refute_check.specs.Literals.{same_lit, has_lit}
use Rattle.refute_check.proofs.LitLemmas.{same_lit_eq}
use Rattle.clause_search.specs.declared.trail.Entry.{Entry}
use Rattle.clause_search.specs.Partial.{lit_value, is_false}
use Rattle.clause_search.specs.Analysis.{marked, IsSeen, AreSeen, AreSeenBut, AreUnmarked, IsBeforeDecision, MarksMore, MarksClause}

-- ---- marks

-- no literal, and one more
pub marks_none : (m : List Bool) → MarksClause m []
unfolding has_lit
marks_none m = record { at = λ x h. cc }

pub marks_more : (m n : List Bool) (ls : List Lit) (i : ℕ) (d l : Lit) → i < length ls → l ≡ get_or ls i d → MarksClause m (take i ls) → MarksMore m n → marked n l.var ≡ true → MarksClause n (take (i + 1) ls)
unfolding has_lit
marks_more m n ls i d l h e c w k = record {
  at = λ x f.
      let q = sym (list_any_more (λ (j : Lit). same_lit j x) ls i d h) ∙ f in
      elim (or_cases (has_lit (take i ls) x) (same_lit (get_or ls i d) x) q) [
        | inl g ↦ w.at x.var (c.at x g)
        | inr g ↦ subst (λ (y : Lit). marked n y.var ≡ true) (e ∙ same_lit_eq (get_or ls i d) x g) k
      ];
}

-- ---- values that are taken back

unset_other : (p : List (Option Bool)) (v : ℕ) (x : Lit) → (x.var ≡ v → ⊥) → lit_value (set p v None) x ≡ lit_value p x
unset_other p v x n = ap (option_map (λ (b : Bool). if x.positive then b else not b)) (get_or-set_other p v x.var None None n)

set_none : (p : List (Option Bool)) (i : ℕ) → get_or (set p i None) i None ≡ None
set_none [] i = refl
set_none (x ∷ p) zero = refl
set_none (x ∷ p) (suc i) = set_none p i

-- an open literal stays open
pub unset_open : (p q : List (Option Bool)) (v : ℕ) (x : Lit) → q ≡ set p v None → lit_value p x ≡ None → lit_value q x ≡ None
unset_open p q v x e h = ap (λ (r : List (Option Bool)). lit_value r x) e ∙ elim (cases_eq x.var v) [
  | inl f ↦ ap (option_map (λ (b : Bool). if x.positive then b else not b)) (ap (λ (i : ℕ). get_or (set p v None) i None) f ∙ set_none p v)
  | inr n ↦ unset_other p v x n ∙ h
]

-- a seen literal stays so where the variable has no mark
seen_stays : (p q : List (Option Bool)) (m : List Bool) (v : ℕ) (x : Lit) → q ≡ set p v None → marked m v ≡ false → IsSeen p m x → IsSeen q m x
seen_stays p q m v x e n h =
    let other : x.var ≡ v → ⊥ = λ f. (let g : marked m x.var ≡ false = ap (marked m) f ∙ n in let k = h.marked in cc) in
    record { falsified = ap (λ (r : List (Option Bool)). is_false (lit_value r x)) e ∙ ap is_false (unset_other p v x other) ∙ h.falsified; marked = h.marked }

pub all_seen_stay : (p q : List (Option Bool)) (m : List Bool) (v : ℕ) (s : Lit → Bool) → q ≡ set p v None → marked m v ≡ false → AreSeen p m s → AreSeen q m s
all_seen_stay p q m v s e n h = record { at = λ x f. seen_stays p q m v x e n (h.at x f) }

pub others_stay : (p q : List (Option Bool)) (m : List Bool) (v : ℕ) (u : Lit) (s : Lit → Bool) → q ≡ set p v None → marked m v ≡ false → AreSeenBut p m u s → AreSeenBut q m u s
others_stay p q m v u s e n h = record { at = λ x f g. seen_stays p q m v x e n (h.at x f g) }

-- ---- places without marks

-- one place before, where the entry there is not marked
pub unmarked_more : (m : List Bool) (es : List Entry) (i j : ℕ) (d : Entry) → j ≡ i + 1 → marked m (get_or es i d).lit.var ≡ false → AreUnmarked m es j → AreUnmarked m es i
unmarked_more m es i j d e n h = record {
  at = λ front back f q k.
      elim (cases_eq i (length front)) [
        | inl g ↦
            let here : get_or es i d ≡ f = ap (λ (n : ℕ). get_or es n d) g ∙ ap (λ (l : List Entry). get_or l (length front) d) q ∙ get_or-append_seam front f back d in
            subst (λ (x : Entry). marked m x.lit.var ≡ false) here n
        | inr g ↦ h.at front back f q (omega arith)
      ];
}

-- a list at one of its places
split_at : (es : List Entry) (i : ℕ) (d : Entry) → i < length es → es ≡ take i es ++ get_or es i d ∷ drop (suc i) es
split_at [] i d h = absurd (omega arith)
split_at (x ∷ es) zero d h = refl
split_at (x ∷ es) (suc i) d h = ap (λ (l : List Entry). x ∷ l) (split_at es i d (omega arith))

-- a decision stands at a place
pub before_decision : (es : List Entry) (i : ℕ) (d : Entry) → i < length es → (get_or es i d).reason ≡ None → IsBeforeDecision es i
before_decision es i d h n = record { decision = get_or es i d; after = drop (suc i) es; splits = split_at es i d h; free = n }

-- without the last entry
pub unmarked_front : (m : List Bool) (whole front : List Entry) (e : Entry) (k : ℕ) → whole ≡ front ++ e ∷ [] → AreUnmarked m whole k → AreUnmarked m front k
unmarked_front m whole front e k h u = record { at = λ a b f q n. u.at a (b ++ e ∷ []) f (h ∙ ap (λ (l : List Entry). l ++ e ∷ []) q ∙ append_assoc a (f ∷ b) (e ∷ [])) n }

-- the last entry
pub unmarked_last : (m : List Bool) (whole front : List Entry) (e : Entry) (k : ℕ) → whole ≡ front ++ e ∷ [] → k ≤ length front → AreUnmarked m whole k → marked m e.lit.var ≡ false
unmarked_last m whole front e k h l u = u.at front [] e h l
