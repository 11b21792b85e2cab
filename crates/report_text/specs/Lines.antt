-- Lines of a report.
use Rattle.std.specs.Prelude.{ℕ, List, [], ◌∷◌, ◌++◌, map, codes}
use Rattle.std.specs.List.{concat}

-- a text and its line feed, 10
abbrev pub line_of : List ℕ → List ℕ
line_of text = text ++ 10 ∷ []

-- texts, each with its line feed
abbrev pub lines_of : List (List ℕ) → List ℕ
lines_of texts = concat (map line_of texts)

-- `point NAME`
abbrev pub point_text : List ℕ → List ℕ
point_text name = codes "point " ++ name

-- `rule NAME`
abbrev pub rule_text : List ℕ → List ℕ
rule_text name = codes "rule " ++ name
