-- What the checks of a text make sure of: sorts, variables, constructors and tables.
use Rattle.std.specs.Prelude.{◌≡◌, ℕ, ◌<◌, ◌≤◌, Bool, false, ◌==◌, nat_lt, IsTrue, List, length, take, slice_get, Some, All}
use Rattle.std.specs.List.{list_any}
use Rattle.data_value.specs.Sorts.{IsWidth, is_sort, is_scalar_sort}
use Rattle.sort_term.specs.declared.ids.SortId.{SortId}
use Rattle.sort_term.specs.declared.term.Sort.{Sort}
use Rattle.sort_term.specs.declared.term.Sort.TheVariants.{Own, Plain}
use Rattle.sort_term.specs.declared.semantics.Con.{Con}
use Rattle.sort_term.specs.declared.semantics.Table.{Table}
use Rattle.sort_term.specs.declared.rule.Var.{Var}
use Rattle.sort_term.specs.Names.{IsFree, AreDistinct}

-- whether one of the constructors makes trees of a declared sort
abbrev pub has_con : List Con → SortId → Bool
has_con cons a = list_any (λ c. c.sort.0 == a.0) cons

-- whether a sort may be used where these constructors are declared: a declared sort that one of them makes, or a sort of data
abbrev pub is_usable : List Con → Sort → Bool
is_usable cons (Own a) = has_con cons a
is_usable cons (Plain a) = is_sort a

-- whether a sort is one of the declared sorts or a sort of data
abbrev pub is_known : List (List ℕ) → Sort → Bool
is_known sorts (Own a) = nat_lt a.0 (length sorts)
is_known sorts (Plain a) = is_sort a

-- whether a sort is a sort of data
abbrev pub is_plain : Sort → Bool
is_plain (Own a) = false
is_plain (Plain a) = is_sort a

-- whether a sort is that of truth values or of bit vectors
abbrev pub is_scalar_own : Sort → Bool
is_scalar_own (Own a) = false
is_scalar_own (Plain a) = is_scalar_sort a

-- the variables of a rule, cut or point, where `ok` tells which sorts they may have
pub record AreVars (ok : Sort → Bool) (vars : List Var) : Type 0 where
  -- at most 64
  pub few : length vars ≤ 64
  -- no two of one name
  pub distinct : AreDistinct (λ x. x.name) vars
  -- no reserved words
  pub free : All (λ x. IsFree x.name) vars
  -- sorts that they may have
  pub sorts : All (λ x. IsTrue (ok x.sort)) vars

-- a constructor, where these sorts and constructors are declared before it
pub record IsCon (sorts : List (List ℕ)) (before : List Con) (c : Con) : Type 0 where
  -- no reserved word
  pub free : IsFree c.name
  -- it makes trees of a declared sort
  pub known : c.sort.0 < length sorts
  -- at most 16 arguments
  pub few : length c.args ≤ 16
  -- arguments of sorts that may be used
  pub usable : All (λ a. IsTrue (is_usable before a)) c.args

-- a table, where these constructors are declared
pub record IsTable (cons : List Con) (t : Table) : Type 0 where
  -- no reserved word
  pub free : IsFree t.name
  -- keys of 1 to 64 bits
  pub width : IsWidth t.key
  -- terms of a sort that may be used
  pub usable : IsTrue (is_usable cons t.sort)

-- the declared sorts: at most 64, no two of one name, no reserved words
pub record AreSorts (sorts : List (List ℕ)) : Type 0 where
  pub few : length sorts ≤ 64
  pub distinct : AreDistinct (λ name. name) sorts
  pub free : All IsFree sorts

-- each constructor passes its checks where the ones before it are declared
pub record AreDeclared (sorts : List (List ℕ)) (cons : List Con) : Type 0 where
  pub each : (k : ℕ) (c : Con) → slice_get cons k ≡ Some c → IsCon sorts (take k cons) c

-- the constructors: at most 256, no two of one name
pub record AreCons (sorts : List (List ℕ)) (cons : List Con) : Type 0 where
  pub few : length cons ≤ 256
  pub distinct : AreDistinct (λ c. c.name) cons
  pub declared : AreDeclared sorts cons

-- the tables: at most 16, no two of one name
pub record AreTables (cons : List Con) (tables : List Table) : Type 0 where
  pub few : length tables ≤ 16
  pub distinct : AreDistinct (λ t. t.name) tables
  pub each : All (IsTable cons) tables
