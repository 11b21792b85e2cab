-- The row of a table with a key.
use Rattle.std.proofs.Common.{arith, ◌≡◌, ◌≢◌, ◌↔◌, ℕ, suc, Bool, true, false, ◌==◌, List, [], ◌∷◌, get_or, Some, refl, sym, ap, ◌∙◌, subst, ◌⊎◌, inl, inr}
use Rattle.std.specs.Prelude.{Any, AllPairs, if◌then◌else◌}
use Rattle.std.proofs.lemmas.Bool.Decides.{Decides-eqb}
use Rattle.sort_term.specs.declared.program.Row.{Row}
use Rattle.sort_term.specs.Tree.{Tree}
use Rattle.sort_term.specs.Step.{row_at}
use Rattle.unify.proofs.Anys.{any_none, any_here, any_later, any_cases}

-- the row has this key and this term
abbrev pub IsAt : ℕ → Tree → Row → Type 0
IsAt key x r = (r.key ≡ key) × (r.term ≡ x)

abbrev pub Distinct : List Row → Type 0
Distinct rows = AllPairs (λ a b. a.key ≢ b.key) rows

distinct_tail : (r : Row) (rows : List Row) → Distinct (r ∷ rows) → Distinct rows
distinct_tail r rows h i j d l m = h (suc i) (suc j) d (omega arith) (omega arith)

no_other : (r : Row) (rows : List Row) (x : Tree) → Distinct (r ∷ rows) → Any (IsAt r.key x) rows → ⊥
no_other r rows x h a =
    let l = a.2 in
    let e : get_or rows a.0 a.1 ≡ a.1 = a.3 in
    let k : a.1.key ≡ r.key = a.4.0 in
    h 0 (suc a.0) a.1 (omega arith) (omega arith) (sym k ∙ ap (λ (y : Row). y.key) (sym e))

-- where no two rows have one key, what is read at a key is the term of a row with this key
pub row_found : (rows : List Row) (key : ℕ) (x : Tree) → Distinct rows → (row_at rows key ≡ Some x) ↔ Any (IsAt key x) rows
row_found rows key x h = (to rows h, from rows h)
  where
    to : (rs : List Row) → Distinct rs → row_at rs key ≡ Some x → Any (IsAt key x) rs
    to [] h e = absurd (cc)
    to (r ∷ rs) h e = go (r.key == key) refl e (to rs (distinct_tail r rs h))
      where
        go : (b : Bool) → (r.key == key) ≡ b → (if b then Some r.term else row_at rs key) ≡ Some x → (row_at rs key ≡ Some x → Any (IsAt key x) rs) → Any (IsAt key x) (r ∷ rs)
        go true is e more = any_here (IsAt key x) r rs ((Decides-eqb r.key key).0 is, cc)
        go false is e more = any_later (IsAt key x) r rs (more e)

    from : (rs : List Row) → Distinct rs → Any (IsAt key x) rs → row_at rs key ≡ Some x
    from [] h a = absurd (any_none (IsAt key x) a)
    from (r ∷ rs) h a = go (r.key == key) refl (any_cases (IsAt key x) r rs a) (from rs (distinct_tail r rs h))
      where
        go : (b : Bool) → (r.key == key) ≡ b → IsAt key x r ⊎ Any (IsAt key x) rs → (Any (IsAt key x) rs → row_at rs key ≡ Some x) → (if b then Some r.term else row_at rs key) ≡ Some x
        go true is (inl p) more = ap Some p.1
        go true is (inr a) more = absurd (no_other r rs x h (subst (λ k. Any (IsAt k x) rs) (sym ((Decides-eqb r.key key).0 is)) a))
        go false is (inl p) more = absurd (let q : (r.key == key) ≡ true = (Decides-eqb r.key key).1 p.0 in let z : false ≡ true = sym is ∙ q in cc)
        go false is (inr a) more = more a
