-- What the sort of a whole says of the sorts of its parts.
use Rattle.std.proofs.Common.{rules, arith, ◌≡◌, zero, suc, Bool, true, false, ◌&&◌, IsTrue, List, [], ◌∷◌, map, Option, Some, None, IsSome, All, refl, sym, ap, ◌∙◌, subst}
use Rattle.std.specs.Prelude.{if◌then◌else◌, option_map}
use Rattle.std.proofs.lemmas.Bool.Decides.{Decides-eqb}
use Rattle.data_value.specs.declared.DataSort.{DataSort}
use Rattle.data_value.specs.declared.Op.{Op}
use Rattle.data_value.specs.Sorts.{op_sort}
use Rattle.data_value.proofs.TestLemmas.{sorts_agree}
use Rattle.sort_term.specs.declared.term.Sort.{Sort}
use Rattle.sort_term.specs.declared.term.Sort.TheVariants.{Own, Plain}
use Rattle.sort_term.specs.declared.semantics.Con.{Con}
use Rattle.sort_term.specs.Sorted.{is_same, has_sort, have_sorts, con_sort, in_front, all_there, data_part, fitted_sort, applied_sort}

pub both : (a b : Bool) → IsTrue (a && b) → IsTrue a × IsTrue b
both true b h = (refl, h)
both false b h = absurd (cc)

pub is_same_is : (a b : Sort) → IsTrue (is_same a b) → a ≡ b
is_same_is (Own a) (Own b) h = let e : a.0 ≡ b.0 = (Decides-eqb a.0 b.0).0 h in search rules
is_same_is (Own a) (Plain b) h = absurd (cc)
is_same_is (Plain a) (Own b) h = absurd (cc)
is_same_is (Plain a) (Plain b) h = ap Plain (sorts_agree a b h)

has_sort_is : (o : Option Sort) (a : Sort) → IsTrue (has_sort o a) → o ≡ Some a
has_sort_is None a h = absurd (cc)
has_sort_is (Some b) a h = ap Some (is_same_is b a h)

-- parts that have sorts are as many, and each has its own
pub have_sorts_are : (os : List (Option Sort)) (args : List Sort) → IsTrue (have_sorts os args) → os ≡ map Some args
have_sorts_are [] [] h = refl
have_sorts_are [] (a ∷ rest) h = absurd (cc)
have_sorts_are (o ∷ os) [] h = absurd (cc)
have_sorts_are (o ∷ os) (a ∷ rest) h =
    let b = both (has_sort o a) (have_sorts os rest) h in
    let e : o ≡ Some a = has_sort_is o a b.0 in
    let f : os ≡ map Some rest = have_sorts_are os rest b.1 in
    cc

if_some : (b : Bool) (x s : Sort) → (if b then Some x else None) ≡ Some s → IsTrue b × (x ≡ s)
if_some true x s h = (refl, cc)
if_some false x s h = absurd (cc)

-- what a constructor's sort says of its arguments
pub record ConParts (c : Option Con) (os : List (Option Sort)) (s : Sort) : Type 0 where
  pub con : Con
  pub is_con : c ≡ Some con
  pub sorts : os ≡ map Some con.args
  pub makes : Own con.sort ≡ s

pub con_parts : (c : Option Con) (os : List (Option Sort)) (s : Sort) → con_sort c os ≡ Some s → ConParts c os s
con_parts None os s h = absurd (cc)
con_parts (Some k) os s h =
    let r = if_some (have_sorts os k.args) (Own k.sort) s h in
    record { con = k; is_con = refl; sorts = have_sorts_are os k.args r.0; makes = r.1 }

pub some_of : {A : Type 0} (o : Option A) → IsSome o → (s : A) × (o ≡ Some s)
some_of None h = absurd (search rules)
some_of (Some s) h = (s, refl)

pub all_some : {A : Type 0} (f : A → Option Sort) (es : List A) (ss : List Sort) → map f es ≡ map Some ss → All (λ e. IsSome (f e)) es
all_some f [] ss h k d l = absurd (omega arith)
all_some f (e ∷ es) [] h k d l = absurd (cc)
all_some f (e ∷ es) (s ∷ ss) h zero d l = let q : f e ≡ Some s = cc in subst IsSome (sym q) (search rules)
all_some f (e ∷ es) (s ∷ ss) h (suc k) d l = let q : map f es ≡ map Some ss = cc in all_some f es ss q k d (omega arith)

-- what an operator's sort says of its arguments: each is of a sort of data
front_some : {A : Type 0} (a : Option A) (o : Option (List A)) (xs : List A) → in_front a o ≡ Some xs → (y : A) × (ys : List A) × (a ≡ Some y) × (o ≡ Some ys) × (xs ≡ y ∷ ys)
front_some None o xs h = absurd (cc)
front_some (Some y) None xs h = absurd (cc)
front_some (Some y) (Some ys) xs h = (y, ys, refl, refl, cc)

data_is : (o : Option Sort) (d : DataSort) → data_part o ≡ Some d → o ≡ Some (Plain d)
data_is None d h = absurd (cc)
data_is (Some (Own a)) d h = absurd (cc)
data_is (Some (Plain a)) d h = let e : a ≡ d = cc in ap (λ x. Some (Plain x)) e

pub data_parts : (os : List (Option Sort)) (ds : List DataSort) → all_there (map data_part os) ≡ Some ds → os ≡ map (λ d. Some (Plain d)) ds
data_parts [] ds h = let e : [] ≡ ds = cc in ap (map (λ d. Some (Plain d))) e
data_parts (o ∷ os) ds h =
    let f = front_some (data_part o) (all_there (map data_part os)) ds h in
    let e : o ≡ Some (Plain f.0) = data_is o f.0 f.2 in
    let g : os ≡ map (λ d. Some (Plain d)) f.1 = data_parts os f.1 f.3 in
    let q : ds ≡ f.0 ∷ f.1 = f.4 in
    ap (λ x. x ∷ os) e ∙ ap (λ xs. Some (Plain f.0) ∷ xs) g ∙ sym (ap (map (λ d. Some (Plain d))) q)

pub record OpParts (op : Op) (os : List (Option Sort)) (s : Sort) : Type 0 where
  pub args : List DataSort
  pub gives : DataSort
  pub sorts : os ≡ map (λ d. Some (Plain d)) args
  pub fits : op_sort op args ≡ Some gives
  pub is : s ≡ Plain gives

mapped_some : (o : Option DataSort) (s : Sort) → option_map Plain o ≡ Some s → (d : DataSort) × (o ≡ Some d) × (s ≡ Plain d)
mapped_some None s h = absurd (cc)
mapped_some (Some d) s h = (d, refl, cc)

fitted_parts : (op : Op) (os : List (Option Sort)) (o : Option (List DataSort)) (s : Sort) → all_there (map data_part os) ≡ o → fitted_sort op o ≡ Some s → OpParts op os s
fitted_parts op os None s e h = absurd (cc)
fitted_parts op os (Some ds) s e h =
    let m = mapped_some (op_sort op ds) s h in
    record { args = ds; gives = m.0; sorts = data_parts os ds e; fits = m.1; is = m.2 }

pub applied_parts : (op : Op) (os : List (Option Sort)) (s : Sort) → applied_sort op os ≡ Some s → OpParts op os s
applied_parts op os s h = fitted_parts op os (all_there (map data_part os)) s refl h

pub all_plain : {A : Type 0} (f : A → Option Sort) (es : List A) (ds : List DataSort) → map f es ≡ map (λ d. Some (Plain d)) ds → All (λ e. IsSome (f e)) es
all_plain f [] ds h k d l = absurd (omega arith)
all_plain f (e ∷ es) [] h k d l = absurd (cc)
all_plain f (e ∷ es) (s ∷ ss) h zero d l = let q : f e ≡ Some (Plain s) = cc in subst IsSome (sym q) (search rules)
all_plain f (e ∷ es) (s ∷ ss) h (suc k) d l = let q : map f es ≡ map (λ x. Some (Plain x)) ss = cc in all_plain f es ss q k d (omega arith)
