-- What lists of matchings come to together.
use Rattle.std.proofs.Common.{◌≡◌, ◌↔◌, ℕ, ◌+◌, ◌<◌, List, [], ◌∷◌, ◌++◌, length, take, get_or, ◌⊎◌, inl, inr}
use Rattle.std.specs.Prelude.{Any}
use Rattle.data_value.specs.declared.DataSort.{DataSort}
use Rattle.data_value.specs.declared.Value.{Value}
use Rattle.data_value.specs.Nodes.{IsValuation}
use Rattle.sort_term.specs.Tree.{Trees}
use Rattle.unify.specs.Meets.{SeenMatching, Fulfils}
use Rattle.unify.specs.Matchings.{Together}
use Rattle.unify.proofs.Anys.{any_none, any_here, any_one, any_left, any_right, any_split, any_more}

module _ {N : Type 0} (d : List DataSort) where
  pub together_same : (os : List (SeenMatching N)) (P Q : List Value → Trees → Type 0) → ((v : List Value) → IsValuation d v → (w : Trees) → P v w ↔ Q v w) → Together d os P → Together d os Q
  together_same os P Q same a = record {
    exact = λ v f w. (λ q. (a.exact v f w).0 ((same v f w).1 q), λ s. (same v f w).0 ((a.exact v f w).1 s));
  }

  pub together_none : (P : List Value → Trees → Type 0) → ((v : List Value) → IsValuation d v → (w : Trees) → P v w → ⊥) → Together {N = N} d [] P
  together_none P none = record {
    exact = λ v f w. (λ p. absurd (none v f w p), λ s. absurd (any_none (Fulfils v w) s));
  }

  pub together_one : (o : SeenMatching N) (P : List Value → Trees → Type 0) → ((v : List Value) → IsValuation d v → (w : Trees) → P v w ↔ Fulfils v w o) → Together d (o ∷ []) P
  together_one o P same = record {
    exact = λ v f w. (λ p. any_here (Fulfils v w) o [] ((same v f w).0 p), λ s. (same v f w).1 (any_one (Fulfils v w) o s));
  }

  pub together_append : (os ps : List (SeenMatching N)) (P Q : List Value → Trees → Type 0) → Together d os P → Together d ps Q → Together d (os ++ ps) (λ v w. P v w ⊎ Q v w)
  together_append os ps P Q a b = record { exact = λ v f w. (to v f w, from v f w) }
    where
      to : (v : List Value) → IsValuation d v → (w : Trees) → P v w ⊎ Q v w → Any (Fulfils v w) (os ++ ps)
      to v f w (inl p) = any_left (Fulfils v w) os ps ((a.exact v f w).0 p)
      to v f w (inr q) = any_right (Fulfils v w) os ps ((b.exact v f w).0 q)

      from : (v : List Value) → IsValuation d v → (w : Trees) → Any (Fulfils v w) (os ++ ps) → P v w ⊎ Q v w
      from v f w s = go (any_split (Fulfils v w) os ps s)
        where
          go : Any (Fulfils v w) os ⊎ Any (Fulfils v w) ps → P v w ⊎ Q v w
          go (inl x) = inl ((a.exact v f w).1 x)
          go (inr x) = inr ((b.exact v f w).1 x)

  -- one matching more
  pub together_more : (os : List (SeenMatching N)) (i : ℕ) (o : SeenMatching N) (out more : List (SeenMatching N)) (P : List Value → Trees → Type 0) → i < length os → o ≡ get_or os i o →
      Together d out (λ v w. Any (Fulfils v w) (take i os) × P v w) → Together d more (λ v w. Fulfils v w o × P v w) → Together d (out ++ more) (λ v w. Any (Fulfils v w) (take (i + 1) os) × P v w)
  together_more os i o out more P l e a b =
      together_same (out ++ more) (λ v w. (Any (Fulfils v w) (take i os) × P v w) ⊎ (Fulfils v w o × P v w)) (λ v w. Any (Fulfils v w) (take (i + 1) os) × P v w) (λ v f w. (to v w, from v w))
      (together_append out more (λ v w. Any (Fulfils v w) (take i os) × P v w) (λ v w. Fulfils v w o × P v w) a b)
    where
      to : (v : List Value) (w : Trees) → (Any (Fulfils v w) (take i os) × P v w) ⊎ (Fulfils v w o × P v w) → Any (Fulfils v w) (take (i + 1) os) × P v w
      to v w (inl x) = ((any_more (Fulfils v w) os i o l e).1 (inl x.0), x.1)
      to v w (inr x) = ((any_more (Fulfils v w) os i o l e).1 (inr x.0), x.1)

      from : (v : List Value) (w : Trees) → Any (Fulfils v w) (take (i + 1) os) × P v w → (Any (Fulfils v w) (take i os) × P v w) ⊎ (Fulfils v w o × P v w)
      from v w x = go ((any_more (Fulfils v w) os i o l e).0 x.0)
        where
          go : Any (Fulfils v w) (take i os) ⊎ Fulfils v w o → (Any (Fulfils v w) (take i os) × P v w) ⊎ (Fulfils v w o × P v w)
          go (inl y) = inl (y, x.1)
          go (inr y) = inr (y, x.1)

  -- one thing after another
  pub together_both : (os out : List (SeenMatching N)) (P Q R : List Value → Trees → Type 0) → Together d os P → Together d out (λ v w. Any (Fulfils v w) os × Q v w) → ((v : List Value) (w : Trees) → R v w ↔ (P v w × Q v w)) → Together d out R
  together_both os out P Q R a b is =
      together_same out (λ v w. Any (Fulfils v w) os × Q v w) R (λ v f w. (λ x. (is v w).1 ((a.exact v f w).1 x.0, x.1), λ r. let both = (is v w).0 r in ((a.exact v f w).0 both.0, both.1))) b

  -- a further alternative
  pub together_or : (out more : List (SeenMatching N)) (P Q R : List Value → Trees → Type 0) → Together d out P → Together d more Q → ((v : List Value) (w : Trees) → (P v w ⊎ Q v w) ↔ R v w) → Together d (out ++ more) R
  together_or out more P Q R a b is = together_same (out ++ more) (λ v w. P v w ⊎ Q v w) R (λ v f w. is v w) (together_append out more P Q a b)
