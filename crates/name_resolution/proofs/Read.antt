-- What is known of variables, sorts and literals that are read.
use Rattle.std.proofs.Common.{arith, ◌≡◌, ℕ, ◌<◌, Bool, true, false, ◌&&◌, IsTrue, if◌then◌else◌, List, [], ◌∷◌, All, map, length, get_or, Option, None, Some, refl, sym, ap, ap₂, ◌∙◌, subst}
use Rattle.std.specs.Prelude.{option_map}
use Rattle.std.proofs.lemmas.List.{get_or-map, length-map}
use Rattle.std.proofs.lemmas.Option.{same_Some}
use Rattle.data_value.specs.Sorts.{is_width, is_sort}
use Rattle.data_value.specs.Values.{is_scalar}
use Rattle.data_value.specs.declared.DataSort.{DataSort}
use Rattle.data_value.specs.declared.DataSort.TheVariants.{Bool as BoolSort, Bits as BitsSort, Map as MapSort}
use Rattle.data_value.specs.declared.Scalar.{Scalar}
use Rattle.data_value.specs.declared.Scalar.TheVariants.{Bits as Word}
use Rattle.rule_text.specs.declared.item.RawSort.{RawSort}
use Rattle.rule_text.specs.declared.item.RawSort.TheVariants as raw_sort
use Rattle.rule_text.specs.declared.item.RawVar.{RawVar}
use Rattle.rule_text.specs.declared.item.RawTree.{RawTree}
use Rattle.sort_term.specs.Names.{IsFree, AreDistinct}
use Rattle.sort_term.specs.Sorted.{in_front, all_there}
use Rattle.sort_term.specs.declared.ids.SortId.{SortId}
use Rattle.sort_term.specs.declared.rule.RuleExpr.{RuleExpr}
use Rattle.sort_term.specs.declared.rule.Var.{Var}
use Rattle.sort_term.specs.declared.term.Sort.{Sort}
use Rattle.sort_term.specs.declared.term.Sort.TheVariants.{Own, Plain}
use Rattle.name_resolution.specs.Names.{place_of}
use Rattle.name_resolution.proofs.Places.{place_within}
use Rattle.name_resolution.specs.Known.{Vocabulary, declared_sort, sort_of, literal_of}
use Rattle.name_resolution.specs.Named.{AreVarNames}
use Rattle.name_resolution.specs.Reads.{variable_of, variables_of, expression_of, expressions_of}

module _ {R X K : Type 0} (f : R → Option X) (new : X → K) (old : R → K) (stays : (r : R) (x : X) → f r ≡ Some x → new x ≡ old r) where
  in_turn : (r : R) (rest : List R) (o : Option X) (more : Option (List X)) (xs : List X) → f r ≡ o → ((ys : List X) → more ≡ Some ys → map new ys ≡ map old rest) → in_front o more ≡ Some xs → map new xs ≡ old r ∷ map old rest
  in_turn r rest None None xs here later e = absurd cc
  in_turn r rest None (Some ys) xs here later e = absurd cc
  in_turn r rest (Some x) None xs here later e = absurd cc
  in_turn r rest (Some x) (Some ys) xs here later e = ap (map new) (sym (same_Some (x ∷ ys) xs e)) ∙ ap₂ ◌∷◌ (stays r x here) (later ys refl)

  -- what stays of each stays of all
  pub all_stay : (rs : List R) (xs : List X) → all_there (map f rs) ≡ Some xs → map new xs ≡ map old rs
  all_stay [] xs e = ap (map new) (sym (same_Some [] xs e))
  all_stay (r ∷ rs) xs e = in_turn r rs (f r) (all_there (map f rs)) xs refl (all_stay rs) e

-- as many values as things
pub there_length : {R X : Type 0} (f : R → Option X) (rs : List R) (xs : List X) → all_there (map f rs) ≡ Some xs → length xs ≡ length rs
there_length f rs xs e =
    sym (length-map xs (λ _. tt {0})) ∙ ap length (all_stay f (λ _. tt {0}) (λ _. tt {0}) (λ r x is. refl) rs xs e) ∙ length-map rs (λ _. tt {0})

module _ (known : Vocabulary) where
  name_stays : (raw : RawVar) (x : Var) → variable_of known raw ≡ Some x → x.name ≡ raw.name
  name_stays raw x e = by (sort_of known raw.sort) e
    where
      by : (o : Option Sort) → option_map (λ (a : Sort). record { name = raw.name; sort = a }) o ≡ Some x → x.name ≡ raw.name
      by None h = absurd cc
      by (Some a) h = ap (λ (y : Var). y.name) (sym (same_Some (record { name = raw.name; sort = a }) x h))

  -- the variables have the written names
  pub names_stay : (raws : List RawVar) (vars : List Var) → variables_of known raws ≡ Some vars → map (λ x. x.name) vars ≡ map (λ x. x.name) raws
  names_stay = all_stay (variable_of known) (λ x. x.name) (λ x. x.name) name_stays

  -- there are as many as are written
  pub lengths_stay : (raws : List RawVar) (vars : List Var) → variables_of known raws ≡ Some vars → length vars ≡ length raws
  lengths_stay = there_length (variable_of known)

  -- there are as many expressions as are written
  pub expressions_stay : (names : List (List ℕ)) (raws : List RawTree) (exprs : List RuleExpr) → expressions_of known names raws ≡ Some exprs → length exprs ≡ length raws
  expressions_stay names = there_length (expression_of known names)

first_of : {Y : Type 0} (ys : List Y) (i : ℕ) → i < length ys → Y
first_of [] i within = absurd (omega arith)
first_of (y ∷ ys) i within = y

module _ {X Y : Type 0} (f : X → List ℕ) (g : Y → List ℕ) (xs : List X) (ys : List Y) (same : map f xs ≡ map g ys) where
  there : (i : ℕ) → i < length xs → i < length ys
  there i within = subst (λ n. i < n) (sym (length-map xs f) ∙ ap length same ∙ length-map ys g) within

  name_at : (i : ℕ) (d : X) (e : Y) → i < length xs → f (get_or xs i d) ≡ g (get_or ys i e)
  name_at i d e within =
      sym (get_or-map f xs i d [] within) ∙ ap (λ ns. get_or ns i []) same ∙ get_or-map g ys i e [] (there i within)

  -- names that may stand still may
  pub free_names_stay : All (λ y. IsFree (g y)) ys → All (λ x. IsFree (f x)) xs
  free_names_stay free = λ i d within.
      let e = first_of ys i (there i within) in
      subst IsFree (sym (name_at i d e within)) (free i e (there i within))

  -- names of which no two are the same still are such
  pub distinct_names_stay : AreDistinct g ys → AreDistinct f xs
  distinct_names_stay distinct = λ i j d before within clash.
      let e = first_of ys j (there j within) in
      let l : i < length xs = omega arith in
      distinct i j e before (there j within) (sym (name_at i d e l) ∙ clash ∙ name_at j d e within)

-- variables with lawful names are read as such
pub names_pass : (known : Vocabulary) (raws : List RawVar) (vars : List Var) → AreVarNames raws → variables_of known raws ≡ Some vars → AreDistinct (λ x. x.name) vars × All (λ x. IsFree x.name) vars
names_pass known raws vars lawful e =
    let same = names_stay known raws vars e in
    (distinct_names_stay (λ (x : Var). x.name) (λ (x : RawVar). x.name) vars raws same lawful.distinct, free_names_stay (λ (x : Var). x.name) (λ (x : RawVar). x.name) vars raws same lawful.free)

-- a literal is a lawful scalar
pub literals_are_scalars : (width n : ℕ) (x : Scalar) → literal_of width n ≡ Some x → IsTrue (is_scalar x)
literals_are_scalars width n x e = by (is_scalar (Word width n)) refl e
  where
    by : (b : Bool) → is_scalar (Word width n) ≡ b → (if b then Some (Word width n) else None) ≡ Some x → IsTrue (is_scalar x)
    by true lawful h = ap is_scalar (sym (same_Some (Word width n) x h)) ∙ lawful
    by false lawful h = absurd cc

if_some : {X : Type 0} (b : Bool) (x y : X) → (if b then Some x else None) ≡ Some y → (b ≡ true) × (x ≡ y)
if_some true x y h = (refl, same_Some x y h)
if_some false x y h = absurd cc

plain_is : (a b : DataSort) → Plain a ≡ Plain b → a ≡ b
plain_is a b e = cc

own_is : (a b : SortId) → Own a ≡ Own b → a ≡ b
own_is a b e = cc

module _ (known : Vocabulary) where
  -- a sort of data that is written has widths from 1 to 64
  pub data_sorts_are_sorts : (raw : RawSort) (a : DataSort) → sort_of known raw ≡ Some (Plain a) → IsTrue (is_sort a)
  data_sorts_are_sorts raw_sort.Bool a e = ap is_sort (sym (plain_is BoolSort a (same_Some (Plain BoolSort) (Plain a) e)))
  data_sorts_are_sorts (raw_sort.Bits width) a e =
      let p = if_some (is_width width) (Plain (BitsSort width)) (Plain a) e in
      ap is_sort (sym (plain_is (BitsSort width) a p.1)) ∙ p.0
  data_sorts_are_sorts (raw_sort.Map key word) a e =
      let p = if_some (is_width key && is_width word) (Plain (MapSort key word)) (Plain a) e in
      ap is_sort (sym (plain_is (MapSort key word) a p.1)) ∙ p.0
  data_sorts_are_sorts (raw_sort.Named name) a e = by (declared_sort known name) e
    where
      by : (o : Option SortId) → option_map Own o ≡ Some (Plain a) → IsTrue (is_sort a)
      by None h = absurd cc
      by (Some b) h = absurd cc

  -- another sort that is written is a declared one
  pub own_sorts_are_declared : (raw : RawSort) (a : SortId) → sort_of known raw ≡ Some (Own a) → a.0 < length known.sorts
  own_sorts_are_declared raw_sort.Bool a e = absurd cc
  own_sorts_are_declared (raw_sort.Bits width) a e = absurd (let p = if_some (is_width width) (Plain (BitsSort width)) (Own a) e in let q = p.1 in cc)
  own_sorts_are_declared (raw_sort.Map key word) a e = absurd (let p = if_some (is_width key && is_width word) (Plain (MapSort key word)) (Own a) e in let q = p.1 in cc)
  own_sorts_are_declared (raw_sort.Named name) a e = by (place_of name known.sorts) refl e
    where
      by : (o : Option ℕ) → place_of name known.sorts ≡ o → option_map Own (option_map (λ place. record { 0 = place }) o) ≡ Some (Own a) → a.0 < length known.sorts
      by None place h = absurd cc
      by (Some k) place h =
          let same : record { 0 = k } ≡ a = own_is (record { 0 = k }) a (same_Some (Own (record { 0 = k })) (Own a) h) in
          subst (λ (b : SortId). b.0 < length known.sorts) same (place_within name known.sorts k place)
