-- What a shelf holds and a sink takes, and how counts rise.
use Rattle.std.specs.Prelude.{◌≡◌, ◌≢◌, ◌+◌, ◌-◌, ◌^◌, ◌<◌, ◌≤◌, min, ℕ, List, ◌++◌, take, Bool, IsTrue, Option, None, Some, IsSome, IfSome, Result, Ok, Err}
use Rattle.std.specs.Ordering.{nat_cmp}
use Rattle.std.specs.Cmp.Lexicographic.{slice_cmp}
use Rattle.std.specs.FinMap.{FinMap, get}
use Rattle.std.specs.Option.{option_map}
use Rattle.keq_cli.specs.declared.outside.Fetch.{Fetch}
use Rattle.keq_cli.specs.declared.outside.Fetch.TheVariants.{Failed, NoMemory}

-- the bytes of each name
abbrev pub FileMap : Type 0
FileMap = FinMap (slice_cmp nat_cmp) (List ℕ)

-- something is held under the name
abbrev pub IsHeld : FileMap → List ℕ → Type 0
IsHeld files name = IsSome (get files name)

-- nothing is held under the name
abbrev pub IsMissing : FileMap → List ℕ → Type 0
IsMissing files name = get files name ≡ None

-- nothing is held under the name by a steady shelf, where it tells what it holds
abbrev pub IsMissingIfSteady : Bool → Option FileMap → List ℕ → Type 0
IsMissingIfSteady steady held name = IsTrue steady → IfSome held (λ files. IsMissing files name)

-- the name is held, and these bytes are the first of what it holds: so many, or all where there are fewer
pub record IsFetched (files : FileMap) (name : List ℕ) (most : ℕ) (bytes : List ℕ) : Type 0 where
  pub all : List ℕ
  pub held : get files name ≡ Some all
  pub front : bytes ≡ take most all

-- a count after so many more, up to the last value of a counter
abbrev pub count_after : ℕ → ℕ → ℕ
count_after more before = before + min more (2 ^ 64 - 1 - before)

-- a count rose: it is greater than before, unless it stood at the last value of a counter
abbrev pub Rose : ℕ → ℕ → Type 0
Rose before now = before ≢ 2 ^ 64 - 1 → before < now

-- a fetch failed only where the count of faults rose; otherwise the count is as before
abbrev pub HasFetchCause : {T : Type 0} → ℕ → ℕ → Result T Fetch → Type 0
HasFetchCause before now (Ok bytes) = now ≡ before
HasFetchCause before now (Err Failed) = (before ≤ now) × Rose before now
HasFetchCause before now (Err NoMemory) = now ≡ before

-- a put failed only where the count of faults rose; otherwise the count is as before
abbrev pub HasPutCause : {T E : Type 0} → ℕ → ℕ → Result T E → Type 0
HasPutCause before now (Ok done) = now ≡ before
HasPutCause before now (Err failed) = (before ≤ now) × Rose before now

-- where the bytes taken are told, these were appended
abbrev pub IsTaken : Option (List ℕ) → List ℕ → Option (List ℕ) → Type 0
IsTaken before piece now = now ≡ option_map (λ bytes. bytes ++ piece) before

-- where the bytes taken are told, a front of these was appended
abbrev pub IsFrontTaken : Option (List ℕ) → List ℕ → Option (List ℕ) → Type 0
IsFrontTaken before piece now = (count : ℕ) × IsTaken before (take count piece) now
