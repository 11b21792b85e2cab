-- How the operators are written.
use Rattle.std.specs.Prelude.{ℕ, List, bytes_eq, Bool, ◌&&◌, ◌==◌}
use Rattle.std.specs.List.{list_any}
use Rattle.rule_text.specs.declared.operators.TheConstants.{OPERATORS}

-- whether an operator has this name, and takes so many numbers and so many arguments
unfoldable pub is_operator : List ℕ → ℕ → ℕ → Bool
is_operator name numbers arguments = list_any (λ op. bytes_eq op.0.now name && (op.1 == numbers && op.2 == arguments)) OPERATORS
