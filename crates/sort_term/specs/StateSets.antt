-- What can be wrong with a set of states, of any system of steps with any cut, and when nothing is.
--
-- `Steps n s t` says that the rule with the number n takes s to t, `In s` that s is in the cut, and `Of s` that s is in the set.
use Rattle.std.specs.Prelude.{ℕ, List}
use Rattle.sort_term.specs.Runs.{IsLong, IsHalted}
use Rattle.sort_term.specs.Meeting.{AlwaysMeets}

-- void: the set is empty
abbrev pub IsVoid : {S : Type 0} → (S → Type 0) → Type 0
IsVoid {S} Of = (s : S) → ¬ Of s

-- outside: some state of the set isn't in the cut
abbrev pub IsOutside : {S : Type 0} → (S → Type 0) → (S → Type 0) → Type 0
IsOutside {S} In Of = (s : S) × Of s × ¬ In s

-- long: from some state of the set there is a run of n steps whose later states all lie outside the cut
abbrev pub RunsLong : {S : Type 0} → (ℕ → S → S → Type 0) → (S → Type 0) → ℕ → (S → Type 0) → Type 0
RunsLong {S} Steps In n Of = (s : S) × Of s × ((run : List (ℕ × S)) × IsLong Steps In n s run)

-- halted: from some state of the set a run of at least one step ends in a state without a step, and its later states all lie outside the cut
abbrev pub Halts : {S : Type 0} → (ℕ → S → S → Type 0) → (S → Type 0) → (S → Type 0) → Type 0
Halts {S} Steps In Of = (s : S) × Of s × ((run : List (ℕ × S)) × IsHalted Steps In s run)

-- well grounded for n, said positively: each state of the set is in the cut, and each run from there that makes a step meets the cut within n steps
pub record KeepsMeeting {S : Type 0} (Steps : ℕ → S → S → Type 0) (In : S → Type 0) (n : ℕ) (Of : S → Type 0) : Type 0 where
  pub inside : (s : S) → Of s → In s
  pub meets : (s : S) → Of s → AlwaysMeets Steps In n s
