-- Clauses that extend others.
use Rattle.std.proofs.Common.{ℕ, ◌≡◌, ◌<◌, ◌+◌, Bool, true, if◌then◌else◌, eqb, List, [], ◌∷◌, ◌++◌, refl, ap, ◌∙◌, sym, arith}
use Rattle.std.proofs.lemmas.Bool.{ne_eqb, eq-eqb}
use Rattle.refute_check.specs.declared.lit.Lit.{Lit}
use Rattle.refute_check.specs.Truth.{all_true, list_below}
use Rattle.bit_gates.specs.Grows.{IsConservative}
use Rattle.bit_gates.proofs.RangeLemmas.{all_same, all_true_both, all_true_parts}

pub extends_refl : (n : ℕ) (cs : List (List Lit)) → IsConservative n cs n cs
extends_refl n cs = record {
  grows = omega arith;
  keeps = λ a h. h;
  reaches = λ a h. record { bits = a; holds = h; same = λ x l. refl };
}

pub extends_trans : {n m k : ℕ} {cs ds es : List (List Lit)} → IsConservative n cs m ds → IsConservative m ds k es → IsConservative n cs k es
extends_trans {n} {m} {k} {cs} {ds} {es} p q = record {
  grows = let u = p.grows in let v = q.grows in omega arith;
  keeps = λ a h. p.keeps a (q.keeps a h);
  reaches = λ a h.
      let r = p.reaches a h in
      let s = q.reaches r.bits r.holds in
      record { bits = s.bits; holds = s.holds; same = λ x l. let u = p.grows in let v : x < m = omega arith in s.same x v ∙ r.same x l };
}

-- an assignment with another truth value for one variable
abbrev pub updated : (ℕ → Bool) → ℕ → Bool → ℕ → Bool
updated a n v x = if eqb x n then v else a x

pub updated_same : (a : ℕ → Bool) (n : ℕ) (v : Bool) → updated a n v n ≡ v
updated_same a n v = ap (λ (t : Bool). if t then v else a n) (eq-eqb n n refl)

pub updated_other : (a : ℕ → Bool) (n : ℕ) (v : Bool) (x : ℕ) → x < n → updated a n v x ≡ a x
updated_other a n v x l = ap (λ (t : Bool). if t then v else a x) (ne_eqb x n (λ e. omega arith))

-- one more variable, with clauses that some value of it always makes true
pub defines : (n : ℕ) (cs ds es : List (List Lit)) (f : (ℕ → Bool) → Bool) → list_below n cs ≡ true → es ≡ cs ++ ds → ((a : ℕ → Bool) → all_true (updated a n (f a)) ds ≡ true) → IsConservative n cs (n + 1) es
defines n cs ds es f h e k = record {
  grows = omega arith;
  keeps = λ a t. (all_true_parts a cs ds (ap (all_true a) (sym e) ∙ t)).0;
  reaches = λ a t. record {
    bits = updated a n (f a);
    holds = ap (all_true (updated a n (f a))) e ∙ all_true_both (updated a n (f a)) cs ds (all_same n a (updated a n (f a)) cs (λ x l. updated_other a n (f a) x l) h ∙ t) (k a);
    same = λ x l. updated_other a n (f a) x l;
  };
}

pub starts : (cs ds es : List (List Lit)) (c : List Lit) → ds ≡ cs → es ≡ ds ++ c ∷ [] → es ≡ cs ++ c ∷ []
starts cs ds es c h k = rw h at k
