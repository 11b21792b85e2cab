-- The texts that are held under names, and what is fetched of them.
use Rattle.std.proofs.Common.{◌≡◌, ℕ, List, [], ◌∷◌, map, take, length, All, Option, None, Some, IsSome, IfSome, option_map, refl, sym, ap, ap₂, ◌∙◌}
use Rattle.std.specs.Prelude.{String}
use Rattle.std.specs.declared.alloc.Global.{Global}
use Rattle.std.specs.FinMap.{get}
use Rattle.std.specs.String.{string_bytes}
use Rattle.std.proofs.lemmas.List.{length-map}
use Rattle.std.proofs.lemmas.List.Elements.{All-nil, All-cons}
use Rattle.std.proofs.lemmas.Option.{same_Some}
use Rattle.keq_cli.specs.Outside.{FileMap, IsHeld}
use Rattle.keq_cli.specs.Words.{Ask, text_ask, Task, Command}
use Rattle.keq_cli.specs.Asked.{asks_of}
use Rattle.keq_cli.specs.Plan.{Texts, Ends}
use Rattle.keq_cli.specs.Tasks.{plan_of}
use Rattle.keq_cli.specs.Texts.{AreHeld, AreFetched, HoldsNamed}
use Rattle.keq_cli.specs.Outcome.{Outcome, planned}
use Rattle.keq_cli.specs.declared.status.Status.{Status}
use Rattle.keq_cli.proofs.Whole.{whole_ends}

-- a front is that of a text that is held
record HasWhole (held : Option (List ℕ)) (front : List ℕ) : Type 0 where
  all : List ℕ
  is_held : held ≡ Some all
  is_front : front ≡ take 1048577 all

has_whole : (held : Option (List ℕ)) (front : List ℕ) → option_map (take 1048577) held ≡ Some front → HasWhole held front
has_whole None front e = absurd cc
has_whole (Some all) front e = record { all = all; is_held = refl; is_front = same_Some front (take 1048577 all) (sym e) }

-- fronts are those of texts that are held
record HaveWholes (files : FileMap) (names : List (List ℕ)) (fronts : Texts) : Type 0 where
  texts : Texts
  are_held : AreHeld files (map text_ask names) texts
  are_fronts : fronts ≡ map (take 1048577) texts

have_wholes : (files : FileMap) (names : List (List ℕ)) (fronts : Texts) → AreFetched files (map text_ask names) fronts → HaveWholes files names fronts
have_wholes files [] [] e = record { texts = []; are_held = refl; are_fronts = refl }
have_wholes files [] (front ∷ fronts) e = absurd cc
have_wholes files (name ∷ names) [] e = absurd cc
have_wholes files (name ∷ names) (front ∷ fronts) e =
    let one = has_whole (get files name) front cc in
    let rest = have_wholes files names fronts cc in
    record {
      texts = one.all ∷ rest.texts;
      are_held = ap₂ (λ (x : Option (List ℕ)) (xs : List (Option (List ℕ))). x ∷ xs) one.is_held rest.are_held;
      are_fronts = ap₂ (λ (x : List ℕ) (xs : Texts). x ∷ xs) one.is_front rest.are_fronts;
    }

-- as many are asked for as there are names
pub asks_are_names : (names : List (String Global)) → length (asks_of names) ≡ length names
asks_are_names names = length-map (map string_bytes names) text_ask ∙ length-map names string_bytes

-- the end of a task on the fetched fronts is an outcome
pub fetched_outcome : (held : Option FileMap) (names : List (String Global)) (task : Task) (fronts : Texts) → length fronts ≡ length names → IfSome held (λ files. AreFetched files (asks_of names) fronts) → (status : Status) (report : List ℕ) → Ends (plan_of task) fronts status report → Outcome held (Some (record { asks = asks_of names; task = task })) status report
fetched_outcome None names task fronts as_many fetched status report e =
    planned (record { asks = asks_of names; task = task }) fronts status report (record { as_many = as_many ∙ sym (asks_are_names names); told = tt }) e
fetched_outcome (Some files) names task fronts as_many fetched status report e =
    let wholes = have_wholes files (map string_bytes names) fronts fetched in
    let many : length wholes.texts ≡ length (asks_of names) = sym (length-map wholes.texts Some) ∙ sym (ap length wholes.are_held) ∙ length-map (asks_of names) (λ (ask : Ask). get files ask.name) in
    planned (record { asks = asks_of names; task = task }) wholes.texts status report (record { as_many = many; told = wholes.are_held }) (whole_ends fronts wholes.texts wholes.are_fronts task status report e)

-- something is held under each name whose front is fetched
some_held : (held : Option (List ℕ)) (most : ℕ) (front : List ℕ) → option_map (take most) held ≡ Some front → IsSome held
some_held None most front e = absurd cc
some_held (Some all) most front e = refl

all_held : (files : FileMap) (asks : List Ask) (fronts : Texts) → AreFetched files asks fronts → All (λ ask. IsHeld files ask.name) asks
all_held files [] fronts e = All-nil (λ (ask : Ask). IsHeld files ask.name)
all_held files (ask ∷ asks) [] e = absurd cc
all_held files (ask ∷ asks) (front ∷ fronts) e = All-cons (λ (a : Ask). IsHeld files a.name) ask asks (some_held (get files ask.name) ask.most front cc) (all_held files asks fronts cc)

pub fetched_held : (held : Option FileMap) (command : Command) (fronts : Texts) → IfSome held (λ files. AreFetched files command.asks fronts) → IfSome held (λ files. HoldsNamed files (Some command))
fetched_held None command fronts fetched = tt
fetched_held (Some files) command fronts fetched = all_held files command.asks fronts fetched
