-- What the tests of sorts tell.
use Rattle.std.proofs.Common.{◌≡◌, ℕ, zero, suc, Bool, true, false, List, [], ◌∷◌, ◌++◌, slice_get, All, Option, Some, None, refl, ap, ◌∙◌, if◌then◌else◌}
use Rattle.std.specs.List.{list_all}
use Rattle.std.specs.Cmp.{first_so, second_so}
use Rattle.std.proofs.lemmas.Bool.{and_from}
use Rattle.std.proofs.lemmas.List.Elements.{All-nil, All-cons}
use Rattle.std.proofs.lemmas.List.Folds.{list_all-append}
use Rattle.data_value.specs.declared.DataSort.{DataSort}
use Rattle.data_value.specs.Sorts.{IsSort, is_sort, is_sort_of}
use Rattle.data_value.proofs.TestLemmas.{decides_in_range, sorts_agree, decides_sort}

-- a sort that passes the test is there
pub sort_agrees : (o : Option DataSort) (s : DataSort) → is_sort_of o s ≡ true → o ≡ Some s
sort_agrees None s h = cc
sort_agrees (Some r) s h = ap Some (sorts_agree r s h)

pub sort_is_itself : (o : Option DataSort) (s : DataSort) → o ≡ Some s → is_sort_of o s ≡ true
sort_is_itself o s e = ap (λ p. is_sort_of p s) e ∙ (decides_sort s s).1 refl

-- sorts that pass the test are sorts
pub sorts_tell : (ss : List DataSort) → list_all is_sort ss ≡ true → All IsSort ss
sorts_tell [] h = All-nil IsSort
sorts_tell (s ∷ ss) h = All-cons IsSort s ss ((decides_in_range s).0 (first_so (is_sort s) (list_all is_sort ss) h)) (sorts_tell ss (second_so (is_sort s) (list_all is_sort ss) h))

-- the sort at a place is there in a longer list
pub sort_kept : (ss rs : List DataSort) (i : ℕ) (s : DataSort) → slice_get ss i ≡ Some s → slice_get (ss ++ rs) i ≡ Some s
sort_kept [] rs i s h = cc
sort_kept (r ∷ ss) rs zero s h = h
sort_kept (r ∷ ss) rs (suc i) s h = sort_kept ss rs i s h

-- sorts with one more, or as they were
pub sorts_grown : (sorts : List DataSort) (s : DataSort) (ts : List DataSort) (added : Bool) → ts ≡ (if added then sorts ++ s ∷ [] else sorts) → list_all is_sort sorts ≡ true → IsSort s → list_all is_sort ts ≡ true
sorts_grown sorts s ts true e all here = ap (list_all is_sort) e ∙ list_all-append is_sort sorts (s ∷ []) ∙ and_from (list_all is_sort sorts) (list_all is_sort (s ∷ [])) all (and_from (is_sort s) true ((decides_in_range s).1 here) refl)
sorts_grown sorts s ts false e all here = ap (list_all is_sort) e ∙ all
