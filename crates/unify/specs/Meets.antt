-- What makes a pattern equal to a term over nodes.
use Rattle.std.specs.Prelude.{◌≡◌, ◌≢◌, ◌↔◌, ◌⊎◌, ℕ, ◌+◌, ◌<◌, Bool, true, false, IsTrue, List, [], ◌∷◌, map, slice_get, Option, Some, None, All}
use Rattle.data_value.specs.declared.DataSort.{DataSort}
use Rattle.data_value.specs.declared.Scalar.{Scalar}
use Rattle.data_value.specs.declared.Value.{Value}
use Rattle.data_value.specs.Nodes.{Seen, IsValuation}
use Rattle.data_value.specs.Truth.{IsCondition, AreTrue}
use Rattle.sort_term.specs.declared.term.Term.{Term}
use Rattle.sort_term.specs.declared.semantics.Con.{Con}
use Rattle.sort_term.specs.declared.rule.Var.{Var}
use Rattle.sort_term.specs.declared.rule.Pattern.{Pattern}
use Rattle.sort_term.specs.Tree.{Trees, pattern_value}
use Rattle.sort_term.specs.Signature.{is_scalar_own}
use Rattle.sort_term.specs.Stands.{times, times_in}
use Rattle.sort_term.specs.NodeTerms.{tree_of}
use Rattle.unify.specs.declared.matching.Matching.{Matching}
use Rattle.unify.specs.declared.meet.Meet.{Meet}
use Rattle.unify.specs.declared.meet.Meet.TheVariants.{Apart, Meets}
use Rattle.unify.specs.Binds.{Bound, seen_binds, bound_at, IsBound, AreBinds, Agrees}
use Rattle.unify.specs.Places.{ClashSomewhere}
use Rattle.unify.specs.Scopes.{Scope, Change}

-- bound variables and equations, with each node seen as all that it is
pub record SeenMatching (N : Type 0) : Type 0 where
  pub binds : Bound N
  pub equations : List (Seen N)

abbrev pub seen_matching : {N : Type 0} → (N → Seen N) → Matching N → SeenMatching N
seen_matching look m = record { binds = seen_binds look m.binds; equations = map look m.equations }

-- the bound variables have terms of their sorts, and the equations are conditions
pub record IsMatching {N : Type 0} (cons : List Con) (vars : List Var) (m : SeenMatching N) : Type 0 where
  pub binds : AreBinds cons vars m.binds
  pub equations : All IsCondition m.equations

-- where the domain's variables have the values v, the valuation w gives the bound variables what their terms mean, and the equations are true
pub record Fulfils {N : Type 0} (v : List Value) (w : Trees) (m : SeenMatching N) : Type 0 where
  pub agrees : Agrees v m.binds w
  pub equal : AreTrue v m.equations

-- of the valuations that fulfil the old matching, those with P are the ones that fulfil the new one
pub record Narrows {N : Type 0} (variables : List DataSort) (old new : SeenMatching N) (P : List Value → Trees → Type 0) : Type 0 where
  pub exact : (v : List Value) → IsValuation variables v → (w : Trees) → Fulfils v w new ↔ (Fulfils v w old × P v w)

-- the pattern's value is what the term means
abbrev pub Equals : {N : Type 0} → Pattern → Term (Seen N) → List Value → Trees → Type 0
Equals p t v w = pattern_value w p ≡ tree_of v t

-- the same of several patterns and terms, place by place
abbrev pub AllEqual : {N : Type 0} → List Pattern → List (Term (Seen N)) → List Value → Trees → Type 0
AllEqual ps ts v w = map (pattern_value w) ps ≡ map (tree_of v) ts

-- how often a variable is bound: once or not at all
abbrev pub times_bound : {X : Type 0} → Option X → ℕ
times_bound None = 0
times_bound (Some x) = 1

-- where a variable that stands so often is bound already, or stands more than once, it is a truth value or a bit vector
pub record RebindsOnlyScalars {N : Type 0} (vars : List Var) (binds : Bound N) (count : ℕ → ℕ) : Type 0 where
  pub each : (i : ℕ) (x : Var) → slice_get vars i ≡ Some x → 1 < times_bound (bound_at binds i) + count i → IsTrue (is_scalar_own x.sort)

-- the variables that are bound now are those that were and those that stand so often
pub record BindsAlso {N : Type 0} (old new : Bound N) (count : ℕ → ℕ) : Type 0 where
  pub bound : (i : ℕ) → IsBound new i ↔ (IsBound old i ⊎ (0 < count i))

-- they clash somewhere, so no valuation makes them equal
pub record AreApart {N : Type 0} (p : Pattern) (t : Term (Seen N)) : Type 0 where
  pub clash : ClashSomewhere p t
  pub never : (v : List Value) (w : Trees) → ¬ Equals p t v w

-- they clash nowhere, and the matching was narrowed to the valuations that make them equal
pub record AreJoined {N : Type 0} (at : Scope) (p : Pattern) (t : Term (Seen N)) (matching : Change (SeenMatching N)) : Type 0 where
  pub clear : ¬ ClashSomewhere p t
  pub lawful : IsMatching at.cons at.vars matching.new
  pub binds : BindsAlso matching.old.binds matching.new.binds (λ i. times i p)
  pub narrows : Narrows at.variables matching.old matching.new (Equals p t)

-- the same of several patterns and terms, place by place
pub record AreApartAnywhere {N : Type 0} (ps : List Pattern) (ts : List (Term (Seen N))) : Type 0 where
  pub place : ℕ
  pub pattern : Pattern
  pub term : Term (Seen N)
  pub stands : slice_get ps place ≡ Some pattern
  pub stands_against : slice_get ts place ≡ Some term
  pub apart : AreApart pattern term

abbrev pub AllClear : {N : Type 0} → List Pattern → List (Term (Seen N)) → Type 0
AllClear [] ts = Unit {0}
AllClear (p ∷ ps) [] = Unit {0}
AllClear (p ∷ ps) (t ∷ ts) = ¬ ClashSomewhere p t × AllClear ps ts

pub record AreAllJoined {N : Type 0} (at : Scope) (ps : List Pattern) (ts : List (Term (Seen N))) (matching : Change (SeenMatching N)) : Type 0 where
  pub clear : AllClear ps ts
  pub lawful : IsMatching at.cons at.vars matching.new
  pub binds : BindsAlso matching.old.binds matching.new.binds (λ i. times_in i ps)
  pub narrows : Narrows at.variables matching.old matching.new (AllEqual ps ts)

-- whether they were all joined or are apart somewhere
abbrev pub AnswersAll : {N : Type 0} → Scope → List Pattern → List (Term (Seen N)) → Change (SeenMatching N) → Bool → Type 0
AnswersAll at ps ts matching true = AreAllJoined at ps ts matching
AnswersAll at ps ts matching false = AreApartAnywhere ps ts

-- the node is known as another scalar
pub record IsOtherScalar {N : Type 0} (x : Scalar) (s : Seen N) : Type 0 where
  pub scalar : Scalar
  pub known : s.known ≡ Some scalar
  pub other : x ≢ scalar

-- equations were added that are true exactly where P holds
pub record AddsEquation {N : Type 0} (variables : List DataSort) (old new : List (Seen N)) (P : List Value → Type 0) : Type 0 where
  pub lawful : All IsCondition new
  pub exact : (v : List Value) → IsValuation variables v → AreTrue v new ↔ (AreTrue v old × P v)

-- whether they were joined or are apart
abbrev pub Answers : {N : Type 0} → Scope → Pattern → Term (Seen N) → Change (SeenMatching N) → Bool → Type 0
Answers at p t matching true = AreJoined at p t matching
Answers at p t matching false = AreApart p t

-- what makes the pattern equal to the term: the values of its variables are those of the binds, and all equations are true
pub record AreUnified {N : Type 0} (at : Scope) (p : Pattern) (t : Term (Seen N)) (binds : Bound N) (equations : List (Seen N)) : Type 0 where
  -- they clash nowhere
  pub clear : ¬ ClashSomewhere p t
  -- exactly the pattern's variables are bound, each to a term of its sort
  pub lawful : AreBinds at.cons at.vars binds
  pub bound : (i : ℕ) → IsBound binds i ↔ (0 < times i p)
  pub conditions : All IsCondition equations
  pub exact : (v : List Value) → IsValuation at.variables v → (w : Trees) → (pattern_value w p ≡ tree_of v t) ↔ (Agrees v binds w × AreTrue v equations)

-- what an answer of `unify` says
abbrev pub IsMeet : {N : Type 0} → Scope → (N → Seen N) → Pattern → Term (Seen N) → Meet N → Type 0
IsMeet at look p t Apart = AreApart p t
IsMeet at look p t (Meets binds equations) = AreUnified at p t (seen_binds look binds) (map look equations)
