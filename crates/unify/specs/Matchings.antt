-- Lists of matchings, and what they come to together.
use Rattle.std.specs.Prelude.{◌≡◌, ◌↔◌, ◌⊎◌, ℕ, ◌+◌, ◌<◌, ◌^◌, false, IsTrue, IsSome, List, [], ◌∷◌, length, map, take, slice_get, Option, Some, None, All, Any}
use Rattle.data_value.specs.declared.DataSort.{DataSort}
use Rattle.data_value.specs.declared.Scalar.TheVariants.{Flag}
use Rattle.data_value.specs.declared.Value.{Value}
use Rattle.data_value.specs.Nodes.{Seen, IsValuation}
use Rattle.sort_term.specs.declared.term.Term.{Term}
use Rattle.data_value.specs.Values.{word_of, scalar_of}
use Rattle.sort_term.specs.declared.program.Row.{Row}
use Rattle.sort_term.specs.declared.rule.Demand.{Demand}
use Rattle.sort_term.specs.declared.rule.Pattern.{Pattern}
use Rattle.sort_term.specs.declared.rule.Rule.{Rule}
use Rattle.sort_term.specs.declared.rule.RuleExpr.{RuleExpr}
use Rattle.sort_term.specs.declared.rule.Var.{Var}
use Rattle.sort_term.specs.declared.semantics.Con.{Con}
use Rattle.sort_term.specs.declared.semantics.Table.{Table}
use Rattle.sort_term.specs.System.{System}
use Rattle.sort_term.specs.Tree.{Tree, Trees, pattern_value, value}
use Rattle.sort_term.specs.declared.term.Sort.{Sort}
use Rattle.sort_term.specs.Sorted.{tree_sort}
use Rattle.sort_term.specs.Rules.{demand_sort}
use Rattle.sort_term.specs.Stands.{StandsIn, times, times_in, demand_reads, let_patterns}
use Rattle.sort_term.specs.Step.{Tables, Demanded}
use Rattle.unify.specs.declared.matching.Matching.{Matching}
use Rattle.unify.specs.Binds.{AreValid, IsBound}
use Rattle.unify.specs.Meets.{SeenMatching, seen_matching, IsMatching, Fulfils, RebindsOnlyScalars, Equals}
use Rattle.unify.specs.Equations.{with_equation}
use Rattle.unify.specs.Scopes.{Scope, RuleScope}
use Rattle.unify.specs.Branches.{SeenBranch, IsBranch, LeadsTo}

-- matchings, with each node seen as all that it is
abbrev pub seen_matchings : {N : Type 0} → (N → Seen N) → List (Matching N) → List (SeenMatching N)
seen_matchings look ms = map (seen_matching look) ms

-- all nodes of a matching are valid
pub record IsOfNodes {N : Type 0} (m : SeenMatching N) : Type 0 where
  pub binds : AreValid m.binds
  pub equations : All (λ s. IsTrue s.valid) m.equations

-- a matching in which exactly the variables with B are bound
pub record Binds {N : Type 0} (cons : List Con) (vars : List Var) (B : ℕ → Type 0) (m : SeenMatching N) : Type 0 where
  pub lawful : IsMatching cons vars m
  pub bound : (i : ℕ) → IsBound m.binds i ↔ B i

-- under every valuation of the domain's variables, the valuations of the rule's variables with P are those that fulfil one of the matchings
pub record Together {N : Type 0} (variables : List DataSort) (ms : List (SeenMatching N)) (P : List Value → Trees → Type 0) : Type 0 where
  pub exact : (v : List Value) → IsValuation variables v → (w : Trees) → P v w ↔ Any (Fulfils v w) ms

-- matchings that go on from m: the variables that are bound are those of m and those that stand so often, and together they are fulfilled by the valuations that fulfil m and have P
pub record GoOn {N : Type 0} (at : Scope) (m : SeenMatching N) (count : ℕ → ℕ) (P : List Value → Trees → Type 0) (ms : List (SeenMatching N)) : Type 0 where
  pub each : All (Binds at.cons at.vars (λ i. IsBound m.binds i ⊎ (0 < count i))) ms
  pub together : Together at.variables ms (λ v w. Fulfils v w m × P v w)

-- how often the variable i stands in the pattern of a demand
abbrev pub demand_times : Demand → ℕ → ℕ
demand_times d i = times_in i (let_patterns (d ∷ []))

-- matchings that go on from m: in them moreover the pattern is equal to the term
abbrev pub JoinsPattern : {N : Type 0} → Scope → Pattern → Term (Seen N) → SeenMatching N → List (SeenMatching N) → Type 0
JoinsPattern at p t m ms = GoOn at m (λ i. times i p) (Equals p t) ms

-- matchings that go on from m: in them moreover the demand is met where the tables have these rows
abbrev pub MeetsDemand : {N : Type 0} → Scope → Tables → Demand → SeenMatching N → List (SeenMatching N) → Type 0
MeetsDemand at tables d m ms = GoOn at m (demand_times d) (λ v w. Demanded tables w d) ms

-- a demand is well sorted, and what it reads is bound; a variable of its pattern that is bound already, or stands there more than once, is a truth value or a bit vector
pub record IsReady {N : Type 0} (cons : List Con) (tables : List Table) (vars : List Var) (m : SeenMatching N) (d : Demand) : Type 0 where
  pub sorted : IsSome (demand_sort cons tables vars d)
  pub reads : (i : ℕ) → IsTrue (demand_reads i d) → IsBound m.binds i
  pub repeats : RebindsOnlyScalars vars m.binds (demand_times d)

-- the variables of a rule that the head and the first k demands bind
abbrev pub BoundBy : Rule → ℕ → ℕ → Type 0
BoundBy r k i = StandsIn i (r.head ∷ let_patterns (take k r.demands))

-- matchings after the first k demands of a rule
abbrev pub AreAfter : {N : Type 0} → System → Rule → ℕ → List (SeenMatching N) → Type 0
AreAfter sys r k ms = All (Binds sys.cons r.vars (BoundBy r k)) ms

-- where the domain's variables have the values v, some valuation of as many variables that fulfils the matching gives the expression the value t
pub record Reaches {N : Type 0} (v : List Value) (e : RuleExpr) (t : Tree) (m : SeenMatching N) : Type 0 where
  pub valuation : Trees
  pub long : length valuation ≡ length m.binds
  pub fulfils : Fulfils v valuation m
  pub result : value valuation e ≡ t

-- the matching in which moreover the node is true; none where the node is known to be false, and the same one where it is known to be true
abbrev pub Supposes : {N : Type 0} → (N → Seen N) → Seen N → SeenMatching N → Option (Matching N) → Type 0
Supposes look s m None = s.known ≡ Some (Flag false)
Supposes look s m (Some more) = seen_matching look more ≡ record { binds = m.binds; equations = with_equation m.equations s }

-- a row whose key has this width and whose term is of this sort
pub record IsRowFor (cons : List Con) (width : ℕ) (a : Option Sort) (r : Row) : Type 0 where
  pub key : r.key < 2 ^ width
  pub term : tree_sort cons r.term ≡ a

-- the row's key is the word that the node means, and its term is the pattern's value
pub record ReadsRow {N : Type 0} (key : Seen N) (p : Pattern) (v : List Value) (w : Trees) (r : Row) : Type 0 where
  pub key_is : r.key ≡ word_of (scalar_of (key.meaning v))
  pub term_is : r.term ≡ pattern_value w p

-- matchings of a rule that together are fulfilled exactly by the valuations that make its head equal to a term
pub record Started {N : Type 0} (sys : System) (variables : List DataSort) (r : Rule) (s : Term (Seen N)) (ms : List (SeenMatching N)) : Type 0 where
  pub each : AreAfter sys r 0 ms
  pub together : Together variables ms (Equals r.head s)

-- matchings that go on from others: in them moreover the demand at place k is met
pub record Next {N : Type 0} (at : RuleScope) (k : ℕ) (old new : List (SeenMatching N)) : Type 0 where
  pub each : AreAfter at.sys at.rule (k + 1) new
  pub together : Together at.variables new (λ v w. Any (Fulfils v w) old × ((d : Demand) → slice_get at.rule.demands k ≡ Some d → Demanded at.tables w d))

-- matchings that go on from others: in them moreover the first k demands are met
pub record AllMet {N : Type 0} (at : RuleScope) (k : ℕ) (old new : List (SeenMatching N)) : Type 0 where
  pub each : AreAfter at.sys at.rule k new
  pub together : Together at.variables new (λ v w. Any (Fulfils v w) old × All (Demanded at.tables w) (take k at.rule.demands))

-- the branches of matchings: they lead exactly to what the rule's result is under the valuations that fulfil one of these
pub record BranchesOf {N : Type 0} (sys : System) (r : Rule) (ms : List (SeenMatching N)) (bs : List (SeenBranch N)) : Type 0 where
  pub each : All (IsBranch sys) bs
  pub exact : (v : List Value) (t : Tree) → Any (LeadsTo v t) bs ↔ Any (Reaches v r.result t) ms
