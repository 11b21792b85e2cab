-- The operator `==` at scalars.
use Rattle.std.proofs.Common.{◌≡◌, Bool, true, false, Decides, rules, refl, sym}
use Rattle.data_value.specs.declared.Scalar.{Scalar}
use Rattle.data_value.specs.contracts.ScalarPartialEq.TheImpl as scalar_eq
use Rattle.data_value.specs.Values.{same_scalar}
use Rattle.data_value.proofs.TestLemmas.{decides_scalar}

decides_eq : (a b : Scalar) → Decides ((scalar_eq.ghosts).eq a b) (a ≡ b)
decides_eq a b = search rules

same_test : (a b : Bool) (P : Type 0) → Decides a P → Decides b P → a ≡ b
same_test true b P p q = sym (q.1 (p.0 refl))
same_test false true P p q = p.1 (q.0 refl)
same_test false false P p q = refl

pub eq_is_same : (a b : Scalar) → (scalar_eq.ghosts).eq a b ≡ same_scalar a b
eq_is_same a b = same_test ((scalar_eq.ghosts).eq a b) (same_scalar a b) (a ≡ b) (decides_eq a b) (decides_scalar a b)
