-- What lists of leaves give, where some were dropped.
use Rattle.std.proofs.Common.{◌≡◌, ◌+◌, ℕ, Bool, true, false, List, [], ◌∷◌, ◌++◌, length, All, refl, sym, ap, ◌∙◌, subst, ◌⊎◌, inl, inr}
use Rattle.std.specs.Prelude.{filter}
use Rattle.std.proofs.lemmas.List.{length-append, append_assoc, append-nil}
use Rattle.std.proofs.lemmas.List.Elements.{All-nil, All-cons, All-head, All-tail, All-append, All-weaker, filter-append}
use Rattle.data_value.specs.declared.DataSort.{DataSort}
use Rattle.data_value.specs.declared.Value.{Value}
use Rattle.data_value.specs.Nodes.{IsValuation}
use Rattle.data_value.specs.Truth.{truth}
use Rattle.sort_term.specs.System.{System}
use Rattle.sort_term.specs.Tree.{Tree}
use Rattle.unify.proofs.Anys.{any_none, any_one, any_here, any_left, any_right, any_split}
use Rattle.path_condition.specs.Leaves.{SeenLeaf, IsLeaf, Says, Gives, AreLeaves}
use Rattle.prover.specs.Answers.{IsNeverTrue}
use Rattle.cut_search.specs.Drops.{Giving, NoneHolds, AreAmong, AreLeavesBut, AreAnswered}
use Rattle.cut_search.specs.Found.{Nothing}

-- all of two lists in one are all of each
pub all_parts : {X : Type 0} (P : X → Type 0) (xs ys : List X) → All P (xs ++ ys) → All P xs × All P ys
all_parts P [] ys a = (All-nil P, a)
all_parts P (x ∷ xs) ys a =
    let h = all_parts P xs ys (All-tail P x (xs ++ ys) a) in
    (All-cons P x xs (All-head P x (xs ++ ys) a) h.0, h.1)

-- answers to no question, and to one question more
pub answered_none : (old : List Bool) → AreAnswered old old 0
answered_none old = record { more = []; new_is = sym (append-nil old); count = refl }

pub answered_join : (a b c : List Bool) (m n : ℕ) → AreAnswered a b m → AreAnswered b c n → AreAnswered a c (m + n)
answered_join a b c m n p q = record {
  more = p.more ++ q.more;
  new_is = q.new_is ∙ ap (λ l. l ++ q.more) p.new_is ∙ append_assoc a p.more q.more;
  count =
      let e : length (filter (λ x. x) (p.more ++ q.more)) ≡ length (filter (λ x. x) p.more) + length (filter (λ x. x) q.more) =
      ap length (filter-append (λ x. x) p.more q.more) ∙ length-append (filter (λ x. x) p.more) (filter (λ x. x) q.more) in
      e ∙ ap (λ k. k + length (filter (λ x. x) q.more)) p.count ∙ ap (λ k. m + k) q.count;
}

-- P gives Q, under every valuation of variables of these sorts
abbrev pub Gets : List DataSort → Giving → Giving → Type 0
Gets variables P Q = (v : List Value) → IsValuation variables v → (rules : List ℕ) (t : Tree) → P v rules t → Q v rules t

-- and under those where none of these leaves holds
abbrev pub GetsBut : {N : Type 0} → List DataSort → List (SeenLeaf N) → Giving → Giving → Type 0
GetsBut variables dropped P Q = (v : List Value) → IsValuation variables v → NoneHolds v dropped → (rules : List ℕ) (t : Tree) → P v rules t → Q v rules t

-- the answers before anything was dropped, and those of two parts
pub answered_nil : {X : Type 0} (old : List Bool) (xs : List X) → xs ≡ [] → AreAnswered old old (length xs)
answered_nil old xs e = subst (λ n. AreAnswered old old n) (sym (ap length e)) (answered_none old)

pub answered_joined : {X : Type 0} (a b c : List Bool) (xs ys zs : List X) → zs ≡ xs ++ ys → AreAnswered a b (length xs) → AreAnswered b c (length ys) → AreAnswered a c (length zs)
answered_joined a b c xs ys zs e p q = subst (λ n. AreAnswered a c n) (sym (ap length e ∙ length-append xs ys)) (answered_join a b c (length xs) (length ys) p q)

module _ {N : Type 0} (variables : List DataSort) (sys : System) where
  -- what leaves are among
  pub among_none : (P : Giving) → AreAmong {N = N} variables sys P []
  among_none P = record { each = All-nil (IsLeaf {N = N} sys); sound = λ v fits rules t a. absurd (any_none (Says {N = N} v rules t) a) }

  pub among_one : (l : SeenLeaf N) → IsLeaf sys l → AreAmong variables sys (λ v rules t. Says v rules t l) (l ∷ [])
  among_one l is = record { each = All-cons (IsLeaf sys) l [] is (All-nil (IsLeaf sys)); sound = λ v fits rules t a. any_one (Says v rules t) l a }

  pub among_more : (P Q : Giving) (a : List (SeenLeaf N)) → Gets variables P Q → AreAmong variables sys P a → AreAmong variables sys Q a
  among_more P Q a gets p = record { each = p.each; sound = λ v fits rules t x. gets v fits rules t (p.sound v fits rules t x) }

  pub among_both : (P : Giving) (a b : List (SeenLeaf N)) → AreAmong variables sys P a → AreAmong variables sys P b → AreAmong variables sys P (a ++ b)
  among_both P a b p q = record { each = All-append (IsLeaf sys) a b p.each q.each; sound = sound }
    where
      sound : (v : List Value) → IsValuation variables v → (rules : List ℕ) (t : Tree) → Gives v rules t (a ++ b) → P v rules t
      sound v fits rules t x = go (any_split (Says v rules t) a b x)
        where
          go : Gives v rules t a ⊎ Gives v rules t b → P v rules t
          go (inl y) = p.sound v fits rules t y
          go (inr y) = q.sound v fits rules t y

  pub among_join : (P Q R : Giving) (a b : List (SeenLeaf N)) → Gets variables P R → Gets variables Q R → AreAmong variables sys P a → AreAmong variables sys Q b → AreAmong variables sys R (a ++ b)
  among_join P Q R a b f g p q = among_both R a b (among_more P R a f p) (among_more Q R b g q)

  -- leaves but for what was dropped
  abbrev pub But : List (SeenLeaf N) → Giving → List (SeenLeaf N) → Type 0
  But dropped P leaves = AreLeavesBut variables sys dropped P leaves

  pub but_none : (dropped : List (SeenLeaf N)) (P : Giving) → GetsBut variables dropped P Nothing → But dropped P []
  but_none dropped P never = record { among = among_none P; complete = λ v fits none rules t p. absurd (never v fits none rules t p) }

  pub but_one : (l : SeenLeaf N) → IsLeaf sys l → But [] (λ v rules t. Says v rules t l) (l ∷ [])
  but_one l is = record { among = among_one l is; complete = λ v fits none rules t s. any_here (Says v rules t) l [] s }

  -- the leaf itself was dropped
  pub but_gone : (l : SeenLeaf N) → But (l ∷ []) (λ v rules t. Says v rules t l) []
  but_gone l = but_none (l ∷ []) (λ v rules t. Says v rules t l) never
    where
      never : GetsBut variables (l ∷ []) (λ v rules t. Says v rules t l) Nothing
      never v fits none rules t s =
          let off : truth l.condition v ≡ false = All-head (λ k. truth k.condition v ≡ false) l [] none in
          let on : truth l.condition v ≡ true = s.holds in
          let clash : true ≡ false = sym on ∙ off in
          absurd (cc)

  pub but_same : (dropped : List (SeenLeaf N)) (P Q : Giving) (a : List (SeenLeaf N)) → Gets variables P Q → GetsBut variables dropped Q P → But dropped P a → But dropped Q a
  but_same dropped P Q a f g p = record { among = among_more P Q a f p.among; complete = λ v fits none rules t q. p.complete v fits none rules t (g v fits none rules t q) }

  -- more was dropped, before or after
  pub but_before : (d e : List (SeenLeaf N)) (P : Giving) (a : List (SeenLeaf N)) → But e P a → But (d ++ e) P a
  but_before d e P a p = record { among = p.among; complete = λ v fits none rules t x. p.complete v fits ((all_parts (λ l. truth l.condition v ≡ false) d e none).1) rules t x }

  pub but_after : (d e : List (SeenLeaf N)) (P : Giving) (a : List (SeenLeaf N)) → But d P a → But (d ++ e) P a
  but_after d e P a p = record { among = p.among; complete = λ v fits none rules t x. p.complete v fits ((all_parts (λ l. truth l.condition v ≡ false) d e none).0) rules t x }

  -- two lists in one
  pub but_join : (d e : List (SeenLeaf N)) (P Q R : Giving) (a b : List (SeenLeaf N)) → Gets variables P R → Gets variables Q R → GetsBut variables d R (λ v rules t. P v rules t ⊎ Q v rules t) → But d P a → But e Q b → But (d ++ e) R (a ++ b)
  but_join d e P Q R a b f g h p q = record { among = among_join P Q R a b f g p.among q.among; complete = complete }
    where
      complete : (v : List Value) → IsValuation variables v → NoneHolds v (d ++ e) → (rules : List ℕ) (t : Tree) → R v rules t → Gives v rules t (a ++ b)
      complete v fits none rules t r = go (h v fits none_d rules t r)
        where
          none_d : NoneHolds v d
          none_d = (all_parts (λ l. truth l.condition v ≡ false) d e none).0

          none_e : NoneHolds v e
          none_e = (all_parts (λ l. truth l.condition v ≡ false) d e none).1

          go : P v rules t ⊎ Q v rules t → Gives v rules t (a ++ b)
          go (inl x) = any_left (Says v rules t) a b (p.complete v fits none_d rules t x)
          go (inr x) = any_right (Says v rules t) a b (q.complete v fits none_e rules t x)

  -- another list in the place of the first
  pub but_next : (d e : List (SeenLeaf N)) (Q R : Giving) (b : List (SeenLeaf N)) → Gets variables Q R → GetsBut variables d R Q → But e Q b → But (d ++ e) R b
  but_next d e Q R b g h q = but_same (d ++ e) Q R b g (λ v fits none rules t r. h v fits ((all_parts (λ l. truth l.condition v ≡ false) d e none).0) rules t r) (but_before d e Q b q)

  -- where what was dropped is never true, nothing is missing
  pub but_never : (d : List (SeenLeaf N)) (P : Giving) (a : List (SeenLeaf N)) → All (λ l. IsNeverTrue variables l.condition) d → But d P a → AreLeaves variables sys P a
  but_never d P a never p = record {
    each = p.among.each;
    exact = λ v fits rules t. (
      λ x. p.among.sound v fits rules t x,
      λ y. p.complete v fits (All-weaker (λ l. IsNeverTrue variables l.condition) (λ l. truth l.condition v ≡ false) (λ l h. h v fits) d never) rules t y,
    );
  }
