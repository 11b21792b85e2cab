-- Words of new variables may spell any number.
use Rattle.std.proofs.Common.{ℕ, ◌≡◌, ◌<◌, ◌≤◌, ◌+◌, ◌^◌, Bool, true, List, [], ◌∷◌, ◌++◌, length, take, map, get_or, All, refl, ap, ◌∙◌, sym, arith, length-append}
use Rattle.std.proofs.lemmas.List.{length-map, map_push, take_more, take_all, length-take-le, get_or-take, get_or_append_left, get_or_push, nil_from_length}
use Rattle.std.proofs.lemmas.List.Elements.{All-head, All-tail, All-nil, All-cons, All-push, All-weaker, All-same}
use Rattle.std.proofs.lemmas.Bool.{and_parts, and_from, ltb-true, lt-ltb}
use Rattle.refute_check.specs.Truth.{lit_true, clause_below}
use Rattle.data_value.specs.Sorts.{IsWidth}
use Rattle.data_value.specs.Flat.{AreWords}
use Rattle.bit_gates.specs.declared.builder.Builder.{Builder}
use Rattle.bit_gates.specs.Free.{IsFree}
use Rattle.bit_gates.proofs.FreeLemmas.{number_same, free_none as lits_none, free_more as lits_more}
use Rattle.bv_blast.specs.Inputs.{IsBits, positive, spelled, words_of, widths_of}
use Rattle.bv_blast.specs.Free.{AreFree}

-- ---- variables under assignments
pub positive_true : (a : ℕ → Bool) (v : ℕ) → lit_true a (positive v) ≡ a v
unfolding lit_true
positive_true a v = refl

-- variables whose literals are in range
pub below_all : (n : ℕ) (vs : List ℕ) → clause_below n (map positive vs) ≡ true → All (λ v. v < n) vs
unfolding clause_below
below_all n [] h = All-nil (λ v. v < n)
below_all n (v ∷ vs) h =
    let p = and_parts _ _ h in
    All-cons (λ x. x < n) v vs (ltb-true v n p.0) (below_all n vs p.1)

pub below_positive : (n : ℕ) (vs : List ℕ) → All (λ v. v < n) vs → clause_below n (map positive vs) ≡ true
unfolding clause_below
below_positive n [] h = refl
below_positive n (v ∷ vs) h = and_from _ _ (lt-ltb v n (All-head (λ x. x < n) v vs h)) (below_positive n vs (All-tail (λ x. x < n) v vs h))

-- assignments that agree below n spell the same with variables below n
spelled_same : (n : ℕ) (a b : ℕ → Bool) (vs : List ℕ) → ((x : ℕ) → x < n → b x ≡ a x) → All (λ v. v < n) vs → spelled b vs ≡ spelled a vs
spelled_same n a b vs s h = number_same n a b (map positive vs) s (below_positive n vs h)

pub words_same : (n : ℕ) (a b : ℕ → Bool) (inputs : List (List ℕ)) → ((x : ℕ) → x < n → b x ≡ a x) → All (IsBits n) inputs → words_of b inputs ≡ words_of a inputs
words_same n a b [] s h = refl
words_same n a b (vs ∷ inputs) s h =
    ap (λ (m : ℕ). m ∷ words_of b inputs) (spelled_same n a b vs s (All-head (IsBits n) vs inputs h).in_range)
    ∙ ap (λ (ms : List ℕ). spelled a vs ∷ ms) (words_same n a b inputs s (All-tail (IsBits n) vs inputs h))

pub bits_more : (n m : ℕ) → n ≤ m → (vs : List ℕ) → IsBits n vs → IsBits m vs
bits_more n m l vs h = record { width = h.width; in_range = All-weaker (λ v. v < n) (λ v. v < m) (λ v q. omega arith) vs h.in_range }

-- ---- the bits of one word
pub free_none : (b : Builder) (vs : List ℕ) → vs ≡ [] → IsFree b b (map positive vs) 0
free_none b vs e = lits_none b (map positive vs) (ap (map positive) e)

pub free_more : (b c d : Builder) (vs us : List ℕ) (w v : ℕ) → IsFree b c (map positive vs) w → v ≡ c.clauses.vars → d.clauses.vars ≡ c.clauses.vars + 1 → d.clauses.list ≡ c.clauses.list → us ≡ vs ++ v ∷ []
    → IsFree b d (map positive us) (w + 1)
free_more b c d vs us w v h e ev ec eu = lits_more b c d (map positive vs) (map positive us) w (positive v) h (ap positive e) ev ec (ap (map positive) eu ∙ map_push positive vs v)

-- ---- the bits of all inputs
pub frees_none : (b : Builder) (inputs : List (List ℕ)) (ws : List ℕ) → inputs ≡ [] → AreFree b b inputs (take 0 ws)
frees_none b inputs ws e = record {
  clauses = refl;
  grows = omega arith;
  sizes = ap widths_of e;
  in_range = All-same (IsBits b.clauses.vars) inputs [] e (All-nil (IsBits b.clauses.vars));
  picks = λ a words h. record { bits = a; same = λ x l. refl; spells = ap (words_of a) e ∙ sym (nil_from_length words h.count) };
}

-- words for widths and one more width
split_words : (ws words : List ℕ) (w : ℕ) → AreWords (ws ++ w ∷ []) words
    → AreWords ws (take (length ws) words) × (get_or words (length ws) 0 < 2 ^ w) × (words ≡ take (length ws) words ++ get_or words (length ws) 0 ∷ [])
split_words ws words w h =
    let n : ℕ = length ws in
    let many : length (ws ++ w ∷ []) ≡ n + 1 = length-append ws (w ∷ []) in
    let all : length words ≡ n + 1 = h.count ∙ many in (
      record {
        count = length-take-le n words (omega arith);
        fit = λ k l.
            let x : get_or (take n words) k 0 ≡ get_or words k 0 = get_or-take n words k 0 l in
            let y : get_or (ws ++ w ∷ []) k 0 ≡ get_or ws k 0 = get_or_append_left ws (w ∷ []) 0 k l in
            rw (x, ← y) (h.fit k (omega arith));
      },
      rw (get_or_push ws w 0 n refl) at (h.fit n (omega arith)),
      sym (take_all (n + 1) words (omega arith)) ∙ take_more words n 0 (omega arith),
    )

pub frees_push : (b c d : Builder) (inputs vss : List (List ℕ)) (ws vs : List ℕ) (w : ℕ) → AreFree b c inputs ws → IsFree c d (map positive vs) w → IsWidth w → vss ≡ inputs ++ vs ∷ [] → AreFree b d vss (ws ++ w ∷ [])
frees_push b c d inputs vss ws vs w h f i e =
    let n : ℕ = c.clauses.vars in
    let g1 = h.grows in
    let g2 = f.grows in
    let size : length vs ≡ w = sym (length-map vs positive) ∙ f.width in
    let bits : IsBits d.clauses.vars vs = record { width = rw size i; in_range = below_all d.clauses.vars vs f.in_range } in
    record {
      clauses = f.clauses ∙ h.clauses;
      grows = omega arith;
      sizes = ap widths_of e ∙ map_push (λ (l : List ℕ). length l) inputs vs ∙ ap (λ (l : List ℕ). l ++ length vs ∷ []) h.sizes ∙ ap (λ (m : ℕ). ws ++ m ∷ []) size;
      in_range = All-same (IsBits d.clauses.vars) vss (inputs ++ vs ∷ []) e (All-push (IsBits d.clauses.vars) inputs vs (All-weaker (IsBits n) (IsBits d.clauses.vars) (bits_more n d.clauses.vars g2) inputs h.in_range) bits);
      picks = λ a words fit.
          let s = split_words ws words w fit in
          let r = h.picks a (take (length ws) words) s.0 in
          let p = f.picks r.bits (get_or words (length ws) 0) s.1 in
          record {
            bits = p.bits;
            same = λ x l. let l1 : x < n = omega arith in p.same x l1 ∙ r.same x l;
            spells = ap (words_of p.bits) e ∙ map_push (spelled p.bits) inputs vs
                ∙ ap (λ (l : List ℕ). l ++ spelled p.bits vs ∷ []) (words_same n r.bits p.bits inputs p.same h.in_range ∙ r.spells)
                ∙ ap (λ (m : ℕ). take (length ws) words ++ m ∷ []) p.spells ∙ sym s.2;
          };
    }

pub frees_more : (b c d : Builder) (inputs vss : List (List ℕ)) (ws vs : List ℕ) (i : ℕ) → All IsWidth ws → i < length ws → AreFree b c inputs (take i ws) → IsFree c d (map positive vs) (get_or ws i 0) → vss ≡ inputs ++ vs ∷ []
    → AreFree b d vss (take (i + 1) ws)
frees_more b c d inputs vss ws vs i a l h f e =
    rw (take_more ws i 0 l) (frees_push b c d inputs vss (take i ws) vs (get_or ws i 0) h f (a i 0 l) e)
