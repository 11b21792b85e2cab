-- What the classes of bytes say of each other.
use Rattle.std.proofs.Common.{◌≡◌, ◌≤◌, ◌<◌, ℕ, List, [], ◌∷◌, true, false, not, ◌&&◌, ◌||◌, ◌==◌, nat_le, codes, refl, sym, ap, subst, inl, inr, arith}
use Rattle.std.specs.Char.{is_ascii_alphanumeric, is_ascii_digit}
use Rattle.std.specs.Int.{is_in_range}
use Rattle.std.specs.List.{list_all, list_any}
use Rattle.sexp_text.specs.Bytes.{is_blank, is_atom_byte, is_known}
use Rattle.sexp_text.proofs.Truth.{and_left, and_right, not_true, or_cases, or_true, same_of, le_of}

pub blank_not_atom : (b : ℕ) → is_blank b ≡ true → is_atom_byte b ≡ false
blank_not_atom b h =
    elim (or_cases (32 == b) _ h) [
      | inl e ↦ ap is_atom_byte (sym (same_of 32 b e))
      | inr h ↦ elim (or_cases (9 == b) _ h) [
        | inl e ↦ ap is_atom_byte (sym (same_of 9 b e))
        | inr h ↦ elim (or_cases (10 == b) _ h) [
          | inl e ↦ ap is_atom_byte (sym (same_of 10 b e))
          | inr h ↦ elim (or_cases (13 == b) _ h) [
            | inl e ↦ ap is_atom_byte (sym (same_of 13 b e))
            | inr e ↦ cc
          ]
        ]
      ]
    ]

any_below : (top b : ℕ) (cs : List ℕ) → list_all (λ c. nat_le c top) cs ≡ true → list_any (λ c. c == b) cs ≡ true → b ≤ top
any_below top b [] all any = cc
any_below top b (c ∷ cs) all any =
    elim (or_cases (c == b) _ any) [
      | inl e ↦ subst (λ n. n ≤ top) (same_of c b e) (le_of c top (and_left (nat_le c top) _ all))
      | inr e ↦ any_below top b cs (and_right (nat_le c top) _ all) e
    ]

in_range_below : (low high b : ℕ) → (nat_le low b && nat_le b high) ≡ true → b ≤ high
in_range_below low high b h = le_of b high (and_right (nat_le low b) _ h)

pub atom_ascii : (b : ℕ) → is_atom_byte b ≡ true → b < 128
atom_ascii b h =
    elim (or_cases (is_ascii_alphanumeric b) _ h) [
      | inl a ↦ elim (or_cases (is_in_range 48 57 b || is_in_range 65 90 b) _ a) [
        | inl a ↦ elim (or_cases (is_in_range 48 57 b) _ a) [
          | inl a ↦ omega (arith, in_range_below 48 57 b a)
          | inr a ↦ omega (arith, in_range_below 65 90 b a)
        ]
        | inr a ↦ omega (arith, in_range_below 97 122 b a)
      ]
      | inr a ↦ omega (arith, any_below 127 b (codes "-_./+*<>=!?%@$") refl a)
    ]

pub atom_not_blank : (b : ℕ) → is_atom_byte b ≡ true → is_blank b ≡ false
atom_not_blank b h = not_true _ (elim (is_blank b) as (λ v. is_blank b ≡ v → not v ≡ true) [ true ↦ λ e. (let other = blank_not_atom b e in cc) | false ↦ λ e. refl ] refl)

pub atom_known : (b : ℕ) → is_atom_byte b ≡ true → is_known b ≡ true
atom_known b h = or_true (is_blank b) _ (ap (λ t. t || (b == 40 || (b == 41 || b == 59))) h)

pub digit_is_atom : (b : ℕ) → is_ascii_digit b ≡ true → is_atom_byte b ≡ true
digit_is_atom b h = ap (λ t. ((t || is_in_range 65 90 b) || is_in_range 97 122 b) || list_any (λ d. d == b) (codes "-_./+*<>=!?%@$")) h
