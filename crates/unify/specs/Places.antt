-- Places of a pattern at which no valuation makes it equal to a term.
use Rattle.std.specs.Prelude.{◌≡◌, ◌≢◌, ℕ, List, [], ◌∷◌, slice_get, Option, Some, option_and_then}
use Rattle.data_value.specs.declared.Scalar.{Scalar}
use Rattle.data_value.specs.Nodes.{Seen}
use Rattle.sort_term.specs.declared.term.Term.{Term}
use Rattle.sort_term.specs.declared.term.Term.TheOpen.{Term-F}
use Rattle.sort_term.specs.declared.term.Term.TheViews.{out-Term}
use Rattle.sort_term.specs.declared.rule.Pattern.{Pattern}
use Rattle.sort_term.specs.declared.rule.Pattern.TheOpen.{Pattern-F}
use Rattle.sort_term.specs.declared.rule.Pattern.TheViews.{out-Pattern}

-- the arguments of the constructor that a pattern is, and that a term is
abbrev pub pattern_args_in : Pattern-F Pattern → List Pattern
pattern_args_in (Pattern-F.Bind i) = []
pattern_args_in (Pattern-F.Exact x) = []
pattern_args_in (Pattern-F.Con c ps) = ps

abbrev pub pattern_args : Pattern → List Pattern
pattern_args p = pattern_args_in (out-Pattern p)

abbrev pub term_args_in : {N : Type 0} → Term-F N (Term N) → List (Term N)
term_args_in (Term-F.Con c ts) = ts
term_args_in (Term-F.Plain n) = []

abbrev pub term_args : {N : Type 0} → Term N → List (Term N)
term_args {N} t = term_args_in (out-Term N t)

-- what stands at a place, which is told by the numbers of the arguments that lead there
abbrev pub pattern_at : List ℕ → Pattern → Option Pattern
pattern_at [] p = Some p
pattern_at (i ∷ place) p = option_and_then (pattern_at place) (slice_get (pattern_args p) i)

abbrev pub term_at : {N : Type 0} → List ℕ → Term N → Option (Term N)
term_at [] t = Some t
term_at (i ∷ place) t = option_and_then (term_at place) (slice_get (term_args t) i)

-- a constructor stands against another constructor, or a literal against a known other scalar
abbrev pub ClashIn : {N : Type 0} → Pattern-F Pattern → Term-F (Seen N) (Term (Seen N)) → Type 0
ClashIn (Pattern-F.Con c ps) (Term-F.Con d ts) = c ≢ d
ClashIn (Pattern-F.Exact x) (Term-F.Plain s) = (y : Scalar) × (s.known ≡ Some y) × (x ≢ y)
ClashIn _ _ = ⊥

abbrev pub Clash : {N : Type 0} → Pattern → Term (Seen N) → Type 0
Clash {N} p t = ClashIn (out-Pattern p) (out-Term (Seen N) t)

-- they clash at some place
pub record ClashSomewhere {N : Type 0} (p : Pattern) (t : Term (Seen N)) : Type 0 where
  pub place : List ℕ
  pub part : Pattern
  pub against : Term (Seen N)
  pub stands : pattern_at place p ≡ Some part
  pub stands_against : term_at place t ≡ Some against
  pub clash : Clash part against
