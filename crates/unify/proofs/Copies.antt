-- Copies of matchings.
use Rattle.std.proofs.Common.{arith, ◌≡◌, ℕ, zero, suc, ◌<◌, IsTrue, List, [], ◌∷◌, length, get_or, Option, Some, None, sym, ap}
use Rattle.std.specs.Prelude.{⊤, MatchOption, option_map}
use Rattle.data_value.specs.Nodes.{Seen}
use Rattle.sort_term.specs.declared.term.Term.{Term}
use Rattle.sort_term.specs.NodeTerms.{seen_term, is_valid_term}
use Rattle.unify.specs.Binds.{seen_binds, bound_at, AreValid}

-- the term of a variable, if it has one, is valid
pub bind_valid : {N : Type 0} (f : N → Seen N) (binds : List (Option (Term N))) (i : ℕ) (b : Option (Term N)) → AreValid (seen_binds f binds) → i < length binds → b ≡ get_or binds i b → MatchOption b ⊤ (λ t. IsTrue (is_valid_term (seen_term f t)))
bind_valid {N} f binds i b a l e = go b (at binds i l e)
  where
    at : (bs : List (Option (Term N))) (j : ℕ) → j < length bs → b ≡ get_or bs j b → bound_at (seen_binds f bs) j ≡ option_map (seen_term f) b
    at [] j l e = absurd (omega arith)
    at (x ∷ bs) zero l e = ap (option_map (seen_term f)) (sym e)
    at (x ∷ bs) (suc j) l e = at bs j (omega arith) e

    go : (o : Option (Term N)) → bound_at (seen_binds f binds) i ≡ option_map (seen_term f) o → MatchOption o ⊤ (λ t. IsTrue (is_valid_term (seen_term f t)))
    go None h = tt
    go (Some t) h = a.at i (seen_term f t) h
