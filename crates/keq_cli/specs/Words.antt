-- The words of a command line, and what they ask for.
use Rattle.std.specs.Prelude.{ℕ, List, [], ◌∷◌, Option, Some, None, Bool, ◌&&◌, nat_le, length, map, codes, String, if◌then◌else◌}
use Rattle.std.specs.declared.alloc.Global.{Global}
use Rattle.std.specs.Option.{option_map}
use Rattle.std.specs.Str.{bytes_eq, all_ascii_digits}
use Rattle.std.specs.Str.Parse.{digits_value}
use Rattle.std.specs.String.{string_bytes}

-- a file that is named, and how many of its bytes are asked for
pub record Ask : Type 0 where
  pub name : List ℕ
  pub most : ℕ

-- what is to be done with the texts under the names, for a number of steps
pub data Task : Type 0 where
  check : ℕ → Task
  run : ℕ → Task

-- what a command line asks for: files, in the order in which they are fetched, and what is to be done with their texts
pub record Command : Type 0 where
  pub asks : List Ask
  pub task : Task

-- a file whose first 1,048,577 bytes are asked for: they show whether it has more than a text may have
abbrev pub text_ask : List ℕ → Ask
text_ask name = record { name = name; most = 1048577 }

-- a command on texts with these names
abbrev pub on_texts : List (List ℕ) → Task → Command
on_texts names task = record { asks = map text_ask names; task = task }

-- at most five decimal digits that write a number from 1 to 10,000
abbrev pub is_steps : List ℕ → Bool
is_steps word = nat_le (length word) 5 && all_ascii_digits word && nat_le 1 (digits_value 10 word) && nat_le (digits_value 10 word) 10000

-- the number of steps that a word gives
abbrev pub step_count_of : List ℕ → Option ℕ
step_count_of word = if is_steps word then Some (digits_value 10 word) else None

-- the number of steps of a check where none is given
abbrev pub usual_steps : ℕ
usual_steps = 1000

-- what is asked for, where the first word is this verb
abbrev pub where_verb : List ℕ → List ℕ → Option Command → Option Command
where_verb word verb asked = if bytes_eq word verb then asked else None

-- what the words ask for; None where they have none of the forms
abbrev pub command_of : List (List ℕ) → Option Command
command_of (verb ∷ sem ∷ prog ∷ start ∷ steps ∷ []) = where_verb verb (codes "run") (option_map (λ n. on_texts (sem ∷ prog ∷ start ∷ []) (run n)) (step_count_of steps))
command_of (verb ∷ ls ∷ rs ∷ lp ∷ rp ∷ pts ∷ []) = where_verb verb (codes "check") (Some (on_texts (ls ∷ rs ∷ lp ∷ rp ∷ pts ∷ []) (check usual_steps)))
command_of (verb ∷ ls ∷ rs ∷ lp ∷ rp ∷ pts ∷ steps ∷ []) = where_verb verb (codes "check") (option_map (λ n. on_texts (ls ∷ rs ∷ lp ∷ rp ∷ pts ∷ []) (check n)) (step_count_of steps))
command_of _ = None

-- the files that are asked for
abbrev pub files_asked : Option Command → List Ask
files_asked None = []
files_asked (Some command) = command.asks

-- how many files are asked for
abbrev pub file_count : Option Command → ℕ
file_count command = length (files_asked command)

-- what the words of a call ask for
abbrev pub asked : List (String Global) → Option Command
asked words = command_of (map string_bytes words)
