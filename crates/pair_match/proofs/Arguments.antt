-- The arguments of constructors: their sorts, and each of them in turn.
use Rattle.std.proofs.Common.{◌≡◌, ◌==◌, ℕ, ◌+◌, ◌<◌, Bool, true, false, List, [], ◌∷◌, ◌++◌, length, map, take, get_or, slice_get, Option, Some, IsSome, All, refl, sym, ap, ◌∙◌, subst, rules}
use Rattle.std.proofs.lemmas.Bool.Decides.{Decides-eqb}
use Rattle.std.specs.Prelude.{option_map}
use Rattle.std.proofs.lemmas.List.{take_more, map-append}
use Rattle.std.proofs.lemmas.Option.{slice_get-map, slice_get_read}
use Rattle.data_value.specs.Nodes.{Seen}
use Rattle.sort_term.specs.declared.ids.ConId.{ConId}
use Rattle.sort_term.specs.declared.term.Sort.{Sort}
use Rattle.sort_term.specs.declared.term.Term.{Term}
use Rattle.sort_term.specs.declared.term.Term.TheVariants as term
use Rattle.sort_term.specs.declared.semantics.Con.{Con}
use Rattle.sort_term.specs.declared.rule.RuleExpr.{RuleExpr}
use Rattle.sort_term.specs.declared.rule.RuleExpr.TheVariants as expr
use Rattle.sort_term.specs.Sorted.{expr_sort_where}
use Rattle.sort_term.specs.NodeTerms.{seen_term, seen_sort}
use Rattle.sort_term.proofs.Equations.{where-Con}
use Rattle.sort_term.proofs.NodeTerming.{seen-Con, seen_sort-Con}
use Rattle.sort_term.proofs.Parts.{ConParts, con_parts, some_of, all_some}
use Rattle.pair_match.specs.Clash.{ClashSomewhere, ClashAnywhere}
use Rattle.pair_match.proofs.Clashes.{equal_at, heads_clash}

-- two constructors with one number are one
pub same_con : (c d : ConId) → c.0 ≡ d.0 → c ≡ d
same_con c d e = search rules

-- constructors that don't clash are one
pub one_con : {N : Type 0} (c d : ConId) (es : List RuleExpr) (ts : List (Term N)) → ¬ ClashSomewhere (expr.Con c es) (term.Con d ts) → c ≡ d
one_con {N} c d es ts clear = go (c.0 == d.0) refl
  where
    go : (b : Bool) → (c.0 == d.0) ≡ b → c ≡ d
    go true e = same_con c d ((Decides-eqb c.0 d.0).0 e)
    go false e = absurd (clear (heads_clash c d es ts (λ q. let r : true ≡ false = sym ((Decides-eqb c.0 d.0).1 (ap (λ k. k.0) q)) ∙ e in cc)))

module _ (cons : List Con) (at : ℕ → Option Sort) where
  abbrev SortAt : RuleExpr → Option Sort
  SortAt = expr_sort_where cons at

  con_of : (c : ConId) (es : List RuleExpr) (s : Sort) → SortAt (expr.Con c es) ≡ Some s → ConParts (slice_get cons c.0) (map SortAt es) s
  con_of c es s h = con_parts (slice_get cons c.0) (map SortAt es) s (sym (where-Con cons at c es) ∙ h)

  -- the arguments of a constructor that has a sort have sorts
  pub args_there : (e : RuleExpr) (c : ConId) (es xs : List RuleExpr) → e ≡ expr.Con c es → xs ≡ es → IsSome (SortAt e) → All (λ x. IsSome (SortAt x)) xs
  args_there e c es xs is same h =
      let s = some_of (SortAt e) h in
      let p = con_of c es s.0 (sym (ap SortAt is) ∙ s.1) in
      subst (All (λ x. IsSome (SortAt x))) (sym same) (all_some SortAt es p.con.args p.sorts)

  -- against a term of the same constructor and sort they have the sorts of its arguments
  pub args_sorted : {N : Type 0} (f : N → Seen N) (e : RuleExpr) (c d : ConId) (es xs : List RuleExpr) (t : Term N) (ts us : List (Term N)) → e ≡ expr.Con c es → xs ≡ es → t ≡ term.Con d ts → us ≡ ts → c ≡ d → IsSome (SortAt e) → seen_sort cons (seen_term f t) ≡ SortAt e → map (seen_sort cons) (map (seen_term f) us) ≡ map SortAt xs
  args_sorted f e c d es xs t ts us is same term_is terms one h sorts =
      let s = some_of (SortAt e) h in
      let k = con_of c es s.0 (sym (ap SortAt is) ∙ s.1) in
      let seen = ap (seen_term f) term_is ∙ seen-Con f d ts in
      let l = con_parts (slice_get cons d.0) (map (seen_sort cons) (map (seen_term f) ts)) s.0 (sym (ap (seen_sort cons) seen ∙ seen_sort-Con cons d (map (seen_term f) ts)) ∙ sorts ∙ s.1) in
      let q : Some l.con ≡ Some k.con = sym l.is_con ∙ ap (λ (j : ConId). slice_get cons j.0) (sym one) ∙ k.is_con in
      let r : l.con ≡ k.con = cc in
      ap (λ ys. map (seen_sort cons) (map (seen_term f) ys)) terms ∙ l.sorts ∙ ap (λ y. map Some y.args) r ∙ sym k.sorts ∙ ap (map SortAt) (sym same)

-- what stands at a place, by the item that was read there
there : {X : Type 0} (xs : List X) (i : ℕ) (x : X) → i < length xs → x ≡ get_or xs i x → slice_get xs i ≡ Some x
there xs i x l is = slice_get_read xs (length xs) i x refl l is

image_there : {X Y : Type 0} (f : X → Y) (xs : List X) (i : ℕ) (x : X) → i < length xs → x ≡ get_or xs i x → slice_get (map f xs) i ≡ Some (f x)
image_there f xs i x l is = slice_get-map f xs i ∙ ap (option_map f) (there xs i x l is)

-- what holds of all items holds of the one that was read
pub item_has : {X : Type 0} (P : X → Type 0) (xs : List X) (i : ℕ) (x : X) → i < length xs → x ≡ get_or xs i x → All P xs → P x
item_has P xs i x l is a = subst P (sym is) (a i x l)

-- one more item, and its image
pub items_more : {X : Type 0} (xs : List X) (i : ℕ) (x : X) → i < length xs → x ≡ get_or xs i x → take (i + 1) xs ≡ take i xs ++ x ∷ []
items_more xs i x l is = take_more xs i x l ∙ ap (λ y. take i xs ++ y ∷ []) (sym is)

pub images_more : {X Y : Type 0} (f : X → Y) (xs : List X) (i : ℕ) (x : X) → i < length xs → x ≡ get_or xs i x → map f (take (i + 1) xs) ≡ map f (take i xs) ++ f x ∷ []
images_more f xs i x l is = ap (map f) (items_more xs i x l is) ∙ map-append f (take i xs) (x ∷ [])

-- sorts of lists agree place by place
pub sorted_at : {X A B C : Type 0} (f : A → C) (g : B → C) (h : X → A) (xs : List X) (ys : List B) (i : ℕ) (x : X) (y : B) → map f (map h xs) ≡ map g ys → i < length xs → x ≡ get_or xs i x → i < length ys → y ≡ get_or ys i y → f (h x) ≡ g y
sorted_at f g h xs ys i x y e l is m it = equal_at f g (map h xs) ys i (h x) y e (image_there h xs i x l is) (there ys i y m it)

-- a clash at one place is one anywhere
pub clash_here : {M N : Type 0} (h : M → Term N) (es : List RuleExpr) (ts : List M) (i : ℕ) (e : RuleExpr) (t : M) → i < length es → e ≡ get_or es i e → i < length ts → t ≡ get_or ts i t → ClashSomewhere e (h t) → ClashAnywhere es (map h ts)
clash_here h es ts i e t l is m it c = record { at = i; part = e; against = h t; stands = there es i e l is; stands_against = image_there h ts i t m it; clash = c }
