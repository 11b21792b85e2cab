-- Words of which nothing is said.
use Rattle.std.proofs.Common.{ℕ, suc, ◌≡◌, ◌<◌, ◌+◌, ◌*◌, ◌^◌, ◌%◌, ◌/◌, Bool, true, nat_eq, List, [], ◌∷◌, ◌++◌, length, refl, ap, ◌∙◌, sym, arith, length-append}
use Rattle.std.proofs.lemmas.Nat.{pow_pos, mod_below, div_below}
use Rattle.std.proofs.lemmas.Bool.{and_parts, ltb-true}
use Rattle.std.proofs.Math.Nat.{div-add-mod}
use Rattle.refute_check.specs.declared.lit.Lit.{Lit}
use Rattle.refute_check.specs.Truth.{lit_true, clause_below}
use Rattle.bit_gates.specs.declared.builder.Builder.{Builder}
use Rattle.bit_gates.specs.Bits.{bit, number}
use Rattle.bit_gates.specs.Free.{IsFree}
use Rattle.bit_gates.proofs.RangeLemmas.{clause_below_more, clause_below_append, one_below, lit_same}
use Rattle.bit_gates.proofs.ExtendLemmas.{updated, updated_other}
use Rattle.bit_gates.proofs.NumberLemmas.{number_nil, number_cons, number_append, doubled}
use Rattle.bit_gates.proofs.GateLemmas.{at, at_updated}
use Rattle.bit_gates.proofs.LayoutLemmas.{digit_of}

-- assignments that agree on the variables of a word spell the same number
pub number_same : (n : ℕ) (a b : ℕ → Bool) (xs : List Lit) → ((x : ℕ) → x < n → b x ≡ a x) → clause_below n xs ≡ true → number b xs ≡ number a xs
unfolding clause_below
number_same n a b [] s h = number_nil b ∙ sym (number_nil a)
number_same n a b (x ∷ xs) s h =
    let p = and_parts _ _ h in
    number_cons b x xs ∙ ap (λ (z : Bool). bit z + 2 * number b xs) (lit_same n a b x s (ltb-true x.var n p.0)) ∙ ap (λ (z : ℕ). bit (lit_true a x) + 2 * z) (number_same n a b xs s p.1) ∙ sym (number_cons a x xs)

pub free_none : (b : Builder) (zs : List Lit) → zs ≡ [] → IsFree b b zs 0
unfolding clause_below
free_none b zs e = record {
  clauses = refl;
  grows = omega arith;
  in_range = ap (clause_below b.clauses.vars) e;
  width = ap (λ (l : List Lit). length l) e;
  picks = λ a v h. record { bits = a; same = λ x l. refl; spells = ap (number a) e ∙ number_nil a ∙ (omega arith) };
}

pub free_more : (b c d : Builder) (zs ys : List Lit) (w : ℕ) (l : Lit) → IsFree b c zs w → l ≡ at c.clauses.vars → d.clauses.vars ≡ c.clauses.vars + 1 → d.clauses.list ≡ c.clauses.list → ys ≡ zs ++ l ∷ [] → IsFree b d ys (w + 1)
free_more b c d zs ys w l h e ev ec ey = record {
  clauses = ec ∙ h.clauses;
  grows = let g = h.grows in omega arith;
  in_range = let r : l.var < d.clauses.vars = rw (e, ev) (omega arith) in
      rw ey (clause_below_append d.clauses.vars zs (l ∷ []) (clause_below_more c.clauses.vars d.clauses.vars zs (omega arith) h.in_range) (one_below d.clauses.vars l r));
  width = rw ey (length-append zs (l ∷ []) ∙ ap (λ (n : ℕ). n + 1) h.width);
  picks = λ a v k.
      let s : w + 1 ≡ suc w = omega arith in
      let p : 2 ^ (w + 1) ≡ 2 * 2 ^ w = ap (λ (n : ℕ). 2 ^ n) s ∙ doubled w (2 ^ w) refl in
      let o : v % 2 ^ w < 2 ^ w = mod_below v (2 ^ w) (pow_pos w) in
      let m : 2 ^ w * (v / 2 ^ w) + v % 2 ^ w ≡ v = div-add-mod v (2 ^ w) in
      let t : v / 2 ^ w < 2 = div_below v (2 ^ w) 2 (pow_pos w) (let z : v < 2 * 2 ^ w = omega arith in z) in
      let r = h.picks a (v % 2 ^ w) o in
      let n : Bool = nat_eq (v / 2 ^ w) 1 in
      let u : ℕ → Bool = updated r.bits c.clauses.vars n in
      let f : lit_true u l ≡ n = ap (lit_true u) e ∙ at_updated r.bits c.clauses.vars n in
      let g : number u zs ≡ v % 2 ^ w = number_same c.clauses.vars r.bits u zs (λ x q. updated_other r.bits c.clauses.vars n x q) h.in_range ∙ r.spells in
      let i : number u ys ≡ number u zs + 2 ^ length zs * bit (lit_true u l) = ap (number u) ey ∙ number_append u zs l in
      let j : 2 ^ length zs ≡ 2 ^ w = ap (λ (n : ℕ). 2 ^ n) h.width in
      let x : bit (lit_true u l) ≡ v / 2 ^ w = ap bit f ∙ digit_of (v / 2 ^ w) t in
      record {
        bits = u;
        same = λ y q. let g0 = h.grows in let q1 : y < c.clauses.vars = omega arith in updated_other r.bits c.clauses.vars n y q1 ∙ r.same y q;
        spells = i ∙ (rw (j, x, g) (omega arith));
      };
}
