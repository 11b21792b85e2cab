-- Texts of lines, written part by part.
use Rattle.std.proofs.Common.{◌≡◌, ℕ, List, [], ◌∷◌, ◌++◌, sym, ◌∙◌, ap, append_assoc}
use Rattle.std.proofs.lemmas.List.{append-nil}
use Rattle.report_text.specs.Lines.{line_of, lines_of}
use Rattle.report_text.proofs.Written.{lines_of-append}

regrouped : (s a b c d e f g : List ℕ) → s ++ a ++ b ++ c ++ d ++ e ++ f ++ g ≡ s ++ ((a ++ (b ++ c)) ++ (d ++ (e ++ f)) ++ g)
regrouped s a b c d e f g = simp append_assoc

module _ (point side : List ℕ) (values : List (List ℕ)) (left right : List ℕ) (rules : List (List ℕ)) (reached : List ℕ) where
  parts : lines_of (point ∷ side ∷ values ++ left ∷ right ∷ rules ++ reached ∷ []) ≡ (line_of point ++ (line_of side ++ lines_of values)) ++ (line_of left ++ (line_of right ++ lines_of rules)) ++ line_of reached
  parts =
      lines_of-append (point ∷ side ∷ values ++ left ∷ right ∷ rules) (reached ∷ [])
      ∙ ap (λ zs. zs ++ lines_of (reached ∷ [])) (lines_of-append (point ∷ side ∷ values) (left ∷ right ∷ rules))
      ∙ ap (λ zs. lines_of (point ∷ side ∷ values) ++ lines_of (left ∷ right ∷ rules) ++ zs) (append-nil (line_of reached))

  -- the lines of a failure, each part behind those before it
  pub failure_written : (start with_point with_side with_values with_left with_right with_rules whole : List ℕ) → with_point ≡ start ++ line_of point → with_side ≡ with_point ++ line_of side → with_values ≡ with_side ++ lines_of values → with_left ≡ with_values ++ line_of left → with_right ≡ with_left ++ line_of right → with_rules ≡ with_right ++ lines_of rules → whole ≡ with_rules ++ line_of reached → whole ≡ start ++ lines_of (point ∷ side ∷ values ++ left ∷ right ∷ rules ++ reached ∷ [])
  failure_written start with_point with_side with_values with_left with_right with_rules whole a b c d e f g =
      g
      ∙ ap (λ zs. zs ++ line_of reached)
      (f ∙ ap (λ zs. zs ++ lines_of rules)
      (e ∙ ap (λ zs. zs ++ line_of right)
      (d ∙ ap (λ zs. zs ++ line_of left)
      (c ∙ ap (λ zs. zs ++ lines_of values)
      (b ∙ ap (λ zs. zs ++ line_of side) a)))))
      ∙ regrouped start (line_of point) (line_of side) (lines_of values) (line_of left) (line_of right) (lines_of rules) (line_of reached)
      ∙ ap (λ zs. start ++ zs) (sym parts)

-- the lines of a run, its state and its end
pub run_written : (rules : List (List ℕ)) (state end : List ℕ) (with_rules with_state whole : List ℕ) → with_rules ≡ lines_of rules → with_state ≡ with_rules ++ line_of state → whole ≡ with_state ++ line_of end → whole ≡ lines_of (rules ++ state ∷ end ∷ [])
run_written rules state end with_rules with_state whole a b c =
    c
    ∙ ap (λ zs. zs ++ line_of end) (b ∙ ap (λ zs. zs ++ line_of state) a)
    ∙ append_assoc (lines_of rules) (line_of state) (line_of end)
    ∙ ap (λ zs. lines_of rules ++ (line_of state ++ zs)) (sym (append-nil (line_of end)))
    ∙ sym (lines_of-append rules (state ∷ end ∷ []))
