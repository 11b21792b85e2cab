-- The classes of bytes outside comments.
use Rattle.std.specs.Prelude.{ℕ, Bool, ◌||◌, ◌==◌, codes}
use Rattle.std.specs.List.{list_any}
use Rattle.std.specs.Char.{is_ascii_alphanumeric}

-- a space, a tab, a line feed or a carriage return
abbrev pub is_blank : ℕ → Bool
is_blank byte = list_any (λ c. c == byte) (codes " \t\n\r")

-- a letter, a digit or one of `-_./+*<>=!?%@$`
abbrev pub is_atom_byte : ℕ → Bool
is_atom_byte byte = is_ascii_alphanumeric byte || list_any (λ c. c == byte) (codes "-_./+*<>=!?%@$")

-- a byte of a class: a blank, an atom byte, `(`, 40, `)`, 41, or `;`, 59
abbrev pub is_known : ℕ → Bool
is_known byte = is_blank byte || (is_atom_byte byte || (byte == 40 || (byte == 41 || byte == 59)))
