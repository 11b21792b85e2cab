-- Equations of nodes: true exactly where the nodes mean one value.
use Rattle.std.proofs.Common.{◌≡◌, ◌↔◌, Bool, true, false, IsTrue, IsFalse, List, [], ◌∷◌, map, All, Some, None, refl, sym, ap, ◌∙◌, subst}
use Rattle.std.proofs.lemmas.List.Elements.{All-nil, All-cons, All-head, All-tail}
use Rattle.data_value.specs.declared.DataSort.{DataSort}
use Rattle.data_value.specs.declared.Scalar.{Scalar}
use Rattle.data_value.specs.declared.Scalar.TheVariants.{Flag}
use Rattle.data_value.specs.declared.Value.{Value}
use Rattle.data_value.specs.declared.Value.TheVariants.{One}
use Rattle.data_value.specs.Sorts.{is_scalar_sort}
use Rattle.data_value.specs.Values.{scalar_sort, flag_of, scalar_of, same_scalar, IsValueOf}
use Rattle.data_value.specs.Nodes.{Seen, Extends, AllValid, IsValuation, IsLawful}
use Rattle.data_value.proofs.Grown.{nodes-kept}
use Rattle.data_value.proofs.OpLemmas.{scalar_values}
use Rattle.data_value.proofs.TestLemmas.{decides_scalar}
use Rattle.data_value.specs.Truth.{IsCondition, IsTruth, AreTrue, mean_same}
use Rattle.data_value.proofs.TruthLemmas.{decides_truth}
use Rattle.unify.specs.Meets.{AddsEquation, IsOtherScalar}
use Rattle.unify.specs.Equations.{with_equation}
use Rattle.unify.proofs.KnownEquations.{TellsTrue, with_true, with_all}

-- conditions are valid nodes
pub conditions_valid : {N : Type 0} (f : N → Seen N) (es : List N) → All IsCondition (map f es) → AllValid f es
conditions_valid f [] a = All-nil (λ n. IsTrue (f n).valid)
conditions_valid f (n ∷ es) a =
    All-cons (λ m. IsTrue (f m).valid) n es (All-head IsCondition (f n) (map f es) a).valid (conditions_valid f es (All-tail IsCondition (f n) (map f es) a))

-- and stay as they are where the domain grows
pub conditions_kept : {N : Type 0} (f g : N → Seen N) → Extends f g → (es : List N) → All IsCondition (map f es) → map g es ≡ map f es
conditions_kept f g x es a = nodes-kept f g x es (conditions_valid f es a)

pub conditions_stay : {N : Type 0} (f g : N → Seen N) → Extends f g → (es : List N) → All IsCondition (map f es) → All IsCondition (map g es)
conditions_stay f g x es a = subst (All IsCondition) (sym (conditions_kept f g x es a)) a

-- one more condition, which is left out where it is known to be true
module _ {N : Type 0} (f g : N → Seen N) (x : Extends f g) (variables : List DataSort) (es ds : List N) (q : N) (lawful : All IsCondition (map f es)) (added : map g ds ≡ with_equation (map g es) (g q)) where
  all_now : map g ds ≡ with_equation (map f es) (g q)
  all_now = added ∙ ap (λ ss. with_equation ss (g q)) (conditions_kept f g x es lawful)

  pub condition_added : IsCondition (g q) → TellsTrue (g q) → (P : List Value → Type 0) → ((v : List Value) → IsValuation variables v → ((g q).meaning v ≡ One (Flag true)) ↔ P v) → AddsEquation variables (map f es) (map g ds) P
  condition_added ok tells P exact = record {
    lawful = subst (All IsCondition) (sym all_now) (with_all (map f es) (g q) IsCondition lawful ok);
    exact = λ v fits.
        let same = with_true (map f es) (g q) v tells in (
          λ h. let r = same.0 (subst (AreTrue v) all_now h) in (r.0, (exact v fits).0 r.1),
          λ h. subst (AreTrue v) (sym all_now) (same.1 (h.0, (exact v fits).1 h.1)),
        );
  }

-- no condition more, where P holds anyway
pub none_added : {N : Type 0} (variables : List DataSort) (es : List (Seen N)) (P : List Value → Type 0) → All IsCondition es → ((v : List Value) → P v) → AddsEquation variables es es P
none_added variables es P lawful always = record { lawful = lawful; exact = λ v fits. (λ h. (h, always v), λ h. h.0) }

pub added_same : {N : Type 0} (variables sorts : List DataSort) (old before new : List (Seen N)) (P Q : List Value → Type 0) → sorts ≡ variables → before ≡ old → ((v : List Value) → P v ↔ Q v) → AddsEquation sorts before new P → AddsEquation variables old new Q
added_same {N} variables sorts old before new P Q e d same a =
    let b : AddsEquation variables old new P = subst (λ ss. AddsEquation ss old new P) e (subst (λ es. AddsEquation sorts es new P) d a) in
    record {
      lawful = b.lawful;
      exact = λ v fits. (
        λ h. let r = (b.exact v fits).0 h in (r.0, (same v).0 r.1),
        λ h. (b.exact v fits).1 (h.0, (same v).1 h.1),
      );
    }

-- two values of one scalar sort are equal exactly where their scalars pass the test
equal_values : (s : DataSort) (a b : Value) → IsTrue (is_scalar_sort s) → IsValueOf s a → IsValueOf s b → (One (Flag (same_scalar (scalar_of a) (scalar_of b))) ≡ One (Flag true)) ↔ (a ≡ b)
equal_values s a b scalar ia ib = (to, from)
  where
    first : One (scalar_of a) ≡ a
    first = scalar_values a (ap is_scalar_sort ia.sort ∙ scalar)

    second : One (scalar_of b) ≡ b
    second = scalar_values b (ap is_scalar_sort ib.sort ∙ scalar)

    to : One (Flag (same_scalar (scalar_of a) (scalar_of b))) ≡ One (Flag true) → a ≡ b
    to h =
        let yes : same_scalar (scalar_of a) (scalar_of b) ≡ true = cc in
        sym first ∙ ap One ((decides_scalar (scalar_of a) (scalar_of b)).0 yes) ∙ second

    from : a ≡ b → One (Flag (same_scalar (scalar_of a) (scalar_of b))) ≡ One (Flag true)
    from e = ap (λ x. One (Flag x)) ((decides_scalar (scalar_of a) (scalar_of b)).1 (ap scalar_of e))

-- the equation of a node and another of its sort
pub equation_exact : {N : Type 0} (f : N → Seen N) (variables : List DataSort) → IsLawful f variables → (n u : N) → IsTrue (f n).valid → IsTrue (f u).valid → (f u).sort ≡ (f n).sort → IsTrue (is_scalar_sort (f n).sort)
    → (s : Seen N) → IsTruth s (mean_same (f n) (f u)) → (v : List Value) → IsValuation variables v → (s.meaning v ≡ One (Flag true)) ↔ ((f n).meaning v ≡ (f u).meaning v)
equation_exact f variables laws n u ok ok' sorts scalar s is v fit =
    let e = equal_values (f n).sort ((f n).meaning v) ((f u).meaning v) scalar (laws.sorted n ok v fit) (subst (λ d. IsValueOf d ((f u).meaning v)) sorts (laws.sorted u ok' v fit)) in (
      λ h. e.0 (ap (λ b. One (Flag b)) (sym (is.means v) ∙ (decides_truth v s).1 h)),
      λ h. (decides_truth v s).0 (is.means v ∙ ap (λ x. flag_of (scalar_of x)) (e.1 h)),
    )

pub scalar_sorted : (x : Scalar) → IsTrue (is_scalar_sort (scalar_sort x))
scalar_sorted (Flag b) = refl
scalar_sorted _ = refl

-- a literal against a node that is known
pub known_other : {N : Type 0} (s : Seen N) (x y : Scalar) (ok : Bool) → Some y ≡ s.known → (IsTrue ok ↔ (y ≡ x)) → IsFalse ok ↔ IsOtherScalar x s
known_other s x y true e d = (λ h. absurd (cc), λ o. let q : Some y ≡ Some o.scalar = e ∙ o.known in let r : y ≡ o.scalar = cc in absurd (o.other (sym (d.0 refl) ∙ r)))
known_other s x y false e d = (λ h. record { scalar = y; known = sym e; other = λ q. let r : false ≡ true = d.1 (sym q) in cc }, λ o. refl)

pub unknown_other : {N : Type 0} (s : Seen N) (x : Scalar) → None ≡ s.known → IsFalse true ↔ IsOtherScalar x s
unknown_other s x e = (λ h. absurd (cc), λ o. let q : None ≡ Some o.scalar = e ∙ o.known in absurd (cc))
