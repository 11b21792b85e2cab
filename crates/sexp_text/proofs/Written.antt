-- The texts of forms, each behind a space, from one form to the next.
use Rattle.std.proofs.Common.{◌≡◌, ℕ, ◌+◌, ◌<◌, List, [], ◌∷◌, ◌++◌, map, take, get_or, length, refl, sym, ◌∙◌, ap, append_assoc}
use Rattle.std.proofs.lemmas.List.{take_more, map-append, append-nil}
use Rattle.sexp_text.specs.Print.{text_of, behind}
use Rattle.sexp_text.specs.declared.form.Form.{Form}

behind-append : (xs ys : List (List ℕ)) → behind 32 (xs ++ ys) ≡ behind 32 xs ++ behind 32 ys
behind-append [] ys = refl
behind-append (x ∷ xs) ys = ap (λ zs. (32 ∷ x) ++ zs) (behind-append xs ys) ∙ sym (append_assoc (32 ∷ x) (behind 32 xs) (behind 32 ys))

behind_more : (fs : List Form) (i : ℕ) (f : Form) → i < length fs → f ≡ get_or fs i f → behind 32 (map text_of (take (i + 1) fs)) ≡ behind 32 (map text_of (take i fs)) ++ 32 ∷ text_of f
behind_more fs i f within is =
    ap (λ gs. behind 32 (map text_of gs)) (take_more fs i f within)
    ∙ ap (behind 32) (map-append text_of (take i fs) (get_or fs i f ∷ []))
    ∙ behind-append (map text_of (take i fs)) (text_of (get_or fs i f) ∷ [])
    ∙ ap (λ zs. behind 32 (map text_of (take i fs)) ++ zs) (append-nil (32 ∷ text_of (get_or fs i f)))
    ∙ ap (λ (g : Form). behind 32 (map text_of (take i fs)) ++ 32 ∷ text_of g) (sym is)

-- a space and a form's text behind what was written
pub written : (fs : List Form) (i : ℕ) (f : Form) (start before space after : List ℕ) → i < length fs → f ≡ get_or fs i f → before ≡ start ++ behind 32 (map text_of (take i fs)) → space ≡ before ++ 32 ∷ [] → after ≡ space ++ text_of f → after ≡ start ++ behind 32 (map text_of (take (i + 1) fs))
written fs i f start before space after within is a b c =
    c
    ∙ ap (λ xs. xs ++ text_of f) (b ∙ ap (λ xs. xs ++ 32 ∷ []) a)
    ∙ append_assoc (start ++ behind 32 (map text_of (take i fs))) (32 ∷ []) (text_of f)
    ∙ append_assoc start (behind 32 (map text_of (take i fs))) (32 ∷ text_of f)
    ∙ ap (λ xs. start ++ xs) (sym (behind_more fs i f within is))
