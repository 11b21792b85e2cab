-- Equations that are known to be true are left out, and where one is known to be false none are all true.
use Rattle.std.proofs.Common.{◌≡◌, ◌↔◌, Bool, true, false, List, [], ◌∷◌, ◌++◌, map, All, Option, Some, None, refl, sym, ap, ◌∙◌, inl, inr}
use Rattle.std.specs.Prelude.{MatchOption, if◌then◌else◌}
use Rattle.std.specs.List.{list_any}
use Rattle.std.specs.Option.{option_eq}
use Rattle.std.proofs.lemmas.Bool.{or_cases}
use Rattle.std.proofs.lemmas.List.Elements.{All-head, All-tail, All-push}
use mathlib.Core.Bool.{beq}
use Rattle.data_value.specs.declared.DataSort.{DataSort}
use Rattle.data_value.specs.declared.Scalar.{Scalar}
use Rattle.data_value.specs.declared.Scalar.TheVariants.{Flag}
use Rattle.data_value.specs.declared.Value.{Value}
use Rattle.data_value.specs.declared.Value.TheVariants.{One}
use Rattle.data_value.specs.Nodes.{Seen, IsLawful}
use Rattle.data_value.specs.Truth.{IsCondition, IsKnownAs, AreTrue}
use Rattle.data_value.proofs.TestLemmas.{decides_scalar}
use Rattle.unify.specs.Equations.{is_flag, known_as, with_equation}
use Rattle.unify.proofs.Lists.{all_front}

is_flag_is : (b : Bool) (o : Option Scalar) → is_flag b o ≡ true → o ≡ Some (Flag b)
is_flag_is b None h = cc
is_flag_is b (Some x) h = ap Some ((decides_scalar x (Flag b)).0 h)

-- a node that passes the test is known
pub known_is : {N : Type 0} (b : Bool) (s : Seen N) → known_as b s ≡ true → IsKnownAs b s
known_is b s h = is_flag_is b s.known h

pub known_from : {N : Type 0} (b : Bool) (s : Seen N) → IsKnownAs b s → known_as b s ≡ true
known_from b s h = ap (is_flag b) h ∙ (decides_scalar (Flag b) (Flag b)).1 refl

pub not_known : {N : Type 0} (b : Bool) (s : Seen N) → known_as b s ≡ false → ¬ IsKnownAs b s
not_known b s h e = absurd (let q = sym h ∙ known_from b s e in cc)

flags_same : (c b : Bool) → option_eq beq (Some c) (Some b) ≡ is_flag b (Some (Flag c))
flags_same true true = refl
flags_same true false = refl
flags_same false true = refl
flags_same false false = refl

-- what the test of a condition answers
pub known_told : {N : Type 0} (s : Seen N) (o : Option Bool) (b : Bool) → MatchOption o (s.known ≡ None) (λ c. IsKnownAs c s) → option_eq beq o (Some b) ≡ known_as b s
known_told s None b h = sym (ap (is_flag b) h)
known_told s (Some c) b h = flags_same c b ∙ sym (ap (is_flag b) h)

-- what is known to be true is
abbrev pub TellsTrue : {N : Type 0} → Seen N → Type 0
TellsTrue s = known_as true s ≡ true → (v : List Value) → s.meaning v ≡ One (Flag true)

pub tells_true : {N : Type 0} (f : N → Seen N) (sorts : List DataSort) → IsLawful f sorts → (n : N) → IsCondition (f n) → TellsTrue (f n)
tells_true f sorts laws n ok h v = laws.known n (Flag true) ok.valid (known_is true (f n) h) v

module _ {N : Type 0} (es : List (Seen N)) (s : Seen N) where
  pub with_all : (P : Seen N → Type 0) → All P es → P s → All P (with_equation es s)
  with_all P all p = elim (known_as true s) as (λ b. All P (if b then es else es ++ s ∷ [])) [ true ↦ all | false ↦ All-push P es s all p ]

  -- all are true exactly where the others are and the one more is
  pub with_true : (v : List Value) → TellsTrue s → AreTrue v (with_equation es s) ↔ (AreTrue v es × (s.meaning v ≡ One (Flag true)))
  with_true v tells = go (known_as true s) refl
    where
      go : (b : Bool) → known_as true s ≡ b → AreTrue v (if b then es else es ++ s ∷ []) ↔ (AreTrue v es × (s.meaning v ≡ One (Flag true)))
      go true e = (λ a. (a, tells e v), λ p. p.0)
      go false e = (all_front (λ t. t.meaning v ≡ One (Flag true)) es s, λ p. All-push (λ t. t.meaning v ≡ One (Flag true)) es s p.0 p.1)

-- where one is known to be false, no valuation makes all true
pub dead_untrue : {N : Type 0} (f : N → Seen N) (sorts : List DataSort) → IsLawful f sorts → (es : List N) → All IsCondition (map f es) → list_any (known_as false) (map f es) ≡ true → (v : List Value) → AreTrue v (map f es) → ⊥
dead_untrue f sorts laws [] conditions dead v all = cc
dead_untrue f sorts laws (e ∷ es) conditions dead v all =
    elim (or_cases (known_as false (f e)) (list_any (known_as false) (map f es)) dead) [
      | inl here ↦
          let untrue : (f e).meaning v ≡ One (Flag false) = laws.known e (Flag false) (All-head IsCondition (f e) (map f es) conditions).valid (known_is false (f e) here) v in
          let holds : (f e).meaning v ≡ One (Flag true) = All-head (λ t. t.meaning v ≡ One (Flag true)) (f e) (map f es) all in
          cc
      | inr rest ↦ dead_untrue f sorts laws es (All-tail IsCondition (f e) (map f es) conditions) rest v (All-tail (λ t. t.meaning v ≡ One (Flag true)) (f e) (map f es) all)
    ]
