-- Undefined states, one item of the cut at a time.
use Rattle.std.proofs.Common.{◌≡◌, ◌↔◌, ◌⊎◌, inl, inr, ℕ, ◌+◌, ◌<◌, length, take, get_or, slice_get, Some, Any, sym, ◌∙◌, subst}
use Rattle.std.proofs.lemmas.Option.{same_Some}
use Rattle.sort_term.specs.declared.points.Cut.{Cut}
use Rattle.sort_term.specs.declared.term.Left.{Left}
use Rattle.sort_term.specs.declared.problem.Problem.{Problem}
use Rattle.sort_term.specs.Tree.{Tree}
use Rattle.sort_term.specs.Cuts.{IsCovered}
use Rattle.unify.proofs.Anys.{any_more}

-- the item of the left cut at the place k covers a state
abbrev pub CoversAt : Problem → Tree → ℕ → Type 0
CoversAt q s k = (item : Cut Left) × (slice_get q.points.left_cuts k ≡ Some item) × IsCovered q.left.cons item s

-- one undefined item more
pub covers_more : (q : Problem) (s : Tree) (i k : ℕ) (item : Cut Left) → i < length q.points.undefs → k ≡ get_or q.points.undefs i k → slice_get q.points.left_cuts k ≡ Some item →
    (Any (CoversAt q s) (take i q.points.undefs) ⊎ IsCovered q.left.cons item s) ↔ Any (CoversAt q s) (take (i + 1) q.points.undefs)
covers_more q s i k item l is there = (to, from)
  where
    to : Any (CoversAt q s) (take i q.points.undefs) ⊎ IsCovered q.left.cons item s → Any (CoversAt q s) (take (i + 1) q.points.undefs)
    to (inl a) = (any_more (CoversAt q s) q.points.undefs i k l is).1 (inl a)
    to (inr c) = (any_more (CoversAt q s) q.points.undefs i k l is).1 (inr (item, there, c))

    from : Any (CoversAt q s) (take (i + 1) q.points.undefs) → Any (CoversAt q s) (take i q.points.undefs) ⊎ IsCovered q.left.cons item s
    from a =
        elim ((any_more (CoversAt q s) q.points.undefs i k l is).0 a) [
          | inl b ↦ inl b
          | inr c ↦ inr (subst (λ x. IsCovered q.left.cons x s) (same_Some c.0 item (sym c.1 ∙ there)) c.2)
        ]
