-- What a call reports.
use Rattle.std.specs.Prelude.{ℕ, List, ◌++◌, codes}
use Rattle.sort_term.specs.Simulation.{Test, void, outside, long, halted}
use Rattle.report_text.specs.Lines.{line_of, point_text}

-- the line that names a point
abbrev pub point_line : List ℕ → List ℕ
point_line name = line_of (point_text name)

-- the word for a test
abbrev pub test_word : Test → List ℕ
test_word void = codes "void"
test_word (outside side) = codes "outside"
test_word (long side) = codes "long"
test_word (halted side) = codes "halted"

-- the report of points that denote a grounded cut-bisimulation
abbrev pub equivalent_line : List ℕ
equivalent_line = codes "equivalent\n"

-- of points whose verdict is refines, unmatched, or not grounded by a test, at the point with this name
abbrev pub refines_lines : List ℕ → List ℕ
refines_lines name = codes "refines\n" ++ point_line name

abbrev pub unmatched_lines : List ℕ → List ℕ
unmatched_lines name = codes "unmatched\n" ++ point_line name

abbrev pub not_grounded_line : Test → List ℕ
not_grounded_line test = codes "not grounded: " ++ test_word test ++ codes "\n"

abbrev pub not_grounded_lines : Test → List ℕ → List ℕ
not_grounded_lines test name = not_grounded_line test ++ point_line name

-- of points of which the one with this name has variables or conditions
abbrev pub variables_line : List ℕ → List ℕ
variables_line name = codes "refused points variables in " ++ point_line name

-- the report of words that have no form
abbrev pub bad_words_line : List ℕ
bad_words_line = codes "bad command line\n"
