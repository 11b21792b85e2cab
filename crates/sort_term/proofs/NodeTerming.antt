-- Terms over nodes: they stay as they are where a domain grows, and their trees have their sorts.
use Rattle.std.proofs.Common.{◌≡◌, Bool, true, false, ◌&&◌, IsTrue, List, [], ◌∷◌, length, map, slice_get, Some, None, refl, sym, ap, ◌∙◌}
use Rattle.std.specs.Prelude.{if◌then◌else◌}
use Rattle.std.specs.List.{list_all}
use Rattle.std.proofs.lemmas.Bool.{and_parts, and_from}
use Rattle.data_value.specs.declared.DataSort.{DataSort}
use Rattle.data_value.specs.declared.Value.{Value}
use Rattle.data_value.specs.Nodes.{Seen, Extends, IsLawful, IsValuation}
use Rattle.data_value.specs.Views.{AgreeBelow}
use Rattle.data_value.specs.NodeLaws.{DependsOnVariables}
use Rattle.sort_term.specs.declared.ids.ConId.{ConId}
use Rattle.sort_term.specs.declared.term.Sort.{Sort}
use Rattle.sort_term.specs.declared.term.Sort.TheVariants.{Plain}
use Rattle.sort_term.specs.declared.semantics.Con.{Con}
use Rattle.sort_term.specs.declared.term.Term.{Term}
use Rattle.sort_term.specs.declared.term.Term.TheOpen.{Term-F}
use Rattle.sort_term.specs.declared.term.Term.TheFolds.{fold-roll-Term}
use Rattle.sort_term.specs.declared.term.Term.TheVariants as term
use Rattle.sort_term.specs.Sorted.{con_sort, tree_sort}
use Rattle.sort_term.specs.NodeTerms.{seen_term, valid_step, is_valid_term, node_sort, seen_sort, tree_of}
use Rattle.sort_term.specs.NodeTermLaws.{TermsStay, SortedTermsAreValid, TermsMeanTheirSorts, TermsDependOnVariables}
use Rattle.sort_term.proofs.Each.{Each}
use Rattle.sort_term.proofs.Equations.{term_sort-Plain, term_sort-Con, tree_sort-Plain, tree_sort-Con, map_term-Plain, map_term-Con}
use Rattle.sort_term.proofs.Induction.{term_ind}
use Rattle.sort_term.proofs.Parts.{con_parts}
use Rattle.sort_term.proofs.Sorting.{leaf-of}

pub valid-Plain : {N : Type 0} (s : Seen N) → is_valid_term (term.Plain s) ≡ s.valid
valid-Plain {N} s =
    ap (λ (t : Term (Seen N)). is_valid_term t) (sym (term.rolls-Plain s)) ∙ fold-roll-Term (Seen N) Bool valid_step (Term-F.Plain s)

valid_parts : {N : Type 0} (ts : List (Term (Seen N))) → list_all (λ part. part) (map is_valid_term ts) ≡ list_all is_valid_term ts
valid_parts [] = refl
valid_parts (t ∷ ts) = ap (λ b. is_valid_term t && b) (valid_parts ts)

pub valid-Con : {N : Type 0} (k : ConId) (ts : List (Term (Seen N))) → is_valid_term (term.Con k ts) ≡ list_all is_valid_term ts
valid-Con {N} k ts =
    ap (λ (t : Term (Seen N)). is_valid_term t) (sym (term.rolls-Con k ts)) ∙ fold-roll-Term (Seen N) Bool valid_step (Term-F.Con k ts) ∙ valid_parts ts

pub seen-Plain : {N : Type 0} (f : N → Seen N) (n : N) → seen_term f (term.Plain n) ≡ term.Plain (f n)
seen-Plain f n = map_term-Plain f n

pub seen-Con : {N : Type 0} (f : N → Seen N) (k : ConId) (ts : List (Term N)) → seen_term f (term.Con k ts) ≡ term.Con k (map (seen_term f) ts)
seen-Con f k ts = map_term-Con f k ts

pub tree_of-Plain : {N : Type 0} (v : List Value) (s : Seen N) → tree_of v (term.Plain s) ≡ term.Plain (s.meaning v)
tree_of-Plain v s = map_term-Plain (λ s. s.meaning v) s

pub tree_of-Con : {N : Type 0} (v : List Value) (k : ConId) (ts : List (Term (Seen N))) → tree_of v (term.Con k ts) ≡ term.Con k (map (tree_of v) ts)
tree_of-Con v k ts = map_term-Con (λ s. s.meaning v) k ts

pub seen_sort-Plain : {N : Type 0} (cons : List Con) (s : Seen N) → seen_sort cons (term.Plain s) ≡ node_sort s
seen_sort-Plain cons s = term_sort-Plain cons node_sort s

pub seen_sort-Con : {N : Type 0} (cons : List Con) (k : ConId) (ts : List (Term (Seen N))) → seen_sort cons (term.Con k ts) ≡ con_sort (slice_get cons k.0) (map (seen_sort cons) ts)
seen_sort-Con cons k ts = term_sort-Con cons node_sort k ts

-- a node that has a sort is valid, and of that sort
pub node_is : {N : Type 0} (s : Seen N) (a : Sort) → node_sort s ≡ Some a → IsTrue s.valid × (a ≡ Plain s.sort)
node_is s a h = go s.valid refl h
  where
    go : (b : Bool) → s.valid ≡ b → (if b then Some (Plain s.sort) else None) ≡ Some a → IsTrue s.valid × (a ≡ Plain s.sort)
    go true e m = (e, cc)
    go false e m = absurd (cc)

pub node_of : {N : Type 0} (s : Seen N) (d : DataSort) → IsTrue s.valid → s.sort ≡ d → node_sort s ≡ Some (Plain d)
node_of s d ok e = ap (λ b. if b then Some (Plain s.sort) else None) ok ∙ ap (λ x. Some (Plain x)) e

module _ {N : Type 0} (f g : N → Seen N) (x : Extends f g) where
  abbrev Stays : Term N → Type 0
  Stays t = IsTrue (is_valid_term (seen_term f t)) → seen_term g t ≡ seen_term f t

  stays_all : (ts : List (Term N)) → Each Stays ts → IsTrue (list_all is_valid_term (map (seen_term f) ts)) → map (seen_term g) ts ≡ map (seen_term f) ts
  stays_all [] e h = refl
  stays_all (t ∷ ts) e h =
      let p = and_parts (is_valid_term (seen_term f t)) (list_all is_valid_term (map (seen_term f) ts)) h in
      ap (λ u. u ∷ map (seen_term g) ts) (e.0 p.0) ∙ ap (λ us. seen_term f t ∷ us) (stays_all ts e.1 p.1)

  stays_plain : (n : N) → Stays (term.Plain n)
  stays_plain n h =
      let ok : IsTrue (f n).valid = sym (ap is_valid_term (seen-Plain f n) ∙ valid-Plain (f n)) ∙ h in
      seen-Plain g n ∙ ap term.Plain (x.keeps n ok) ∙ sym (seen-Plain f n)

  stays_con : (k : ConId) (ts : List (Term N)) → Each Stays ts → Stays (term.Con k ts)
  stays_con k ts e h =
      let ok : IsTrue (list_all is_valid_term (map (seen_term f) ts)) = sym (ap is_valid_term (seen-Con f k ts) ∙ valid-Con k (map (seen_term f) ts)) ∙ h in
      seen-Con g k ts ∙ ap (term.Con k) (stays_all ts e ok) ∙ sym (seen-Con f k ts)

  -- a term of valid nodes is seen as the same after the domain has grown
  pub term_stays : (t : Term N) → Stays t
  term_stays = term_ind N Stays stays_plain stays_con

  pub terms_stay : (ts : List (Term N)) → IsTrue (list_all is_valid_term (map (seen_term f) ts)) → map (seen_term g) ts ≡ map (seen_term f) ts
  terms_stay [] h = refl
  terms_stay (t ∷ ts) h =
      let p = and_parts (is_valid_term (seen_term f t)) (list_all is_valid_term (map (seen_term f) ts)) h in
      ap (λ u. u ∷ map (seen_term g) ts) (term_stays t p.0) ∙ ap (λ us. seen_term f t ∷ us) (terms_stay ts p.1)

module _ {N : Type 0} (cons : List Con) where
  abbrev HasValid : Term (Seen N) → Type 0
  HasValid t = (a : Sort) → seen_sort cons t ≡ Some a → IsTrue (is_valid_term t)

  valid_all : (ts : List (Term (Seen N))) (ss : List Sort) → Each HasValid ts → map (seen_sort cons) ts ≡ map Some ss → IsTrue (list_all is_valid_term ts)
  valid_all [] ss e h = refl
  valid_all (t ∷ ts) [] e h = absurd (cc)
  valid_all (t ∷ ts) (s ∷ ss) e h =
      let p : seen_sort cons t ≡ Some s = cc in
      let q : map (seen_sort cons) ts ≡ map Some ss = cc in
      and_from (is_valid_term t) (list_all is_valid_term ts) (e.0 s p) (valid_all ts ss e.1 q)

  valid_plain : (s : Seen N) → HasValid (term.Plain s)
  valid_plain s a h = valid-Plain s ∙ (node_is s a (sym (seen_sort-Plain cons s) ∙ h)).0

  valid_con : (k : ConId) (ts : List (Term (Seen N))) → Each HasValid ts → HasValid (term.Con k ts)
  valid_con k ts e a h =
      let p = con_parts (slice_get cons k.0) (map (seen_sort cons) ts) a (sym (seen_sort-Con cons k ts) ∙ h) in
      valid-Con k ts ∙ valid_all ts p.con.args e p.sorts

  -- the nodes of a term that has a sort are valid
  pub sorted_valid : (t : Term (Seen N)) → HasValid t
  sorted_valid = term_ind (Seen N) HasValid valid_plain valid_con

  pub sorted_valid_all : (ts : List (Term (Seen N))) (ss : List Sort) → map (seen_sort cons) ts ≡ map Some ss → IsTrue (list_all is_valid_term ts)
  sorted_valid_all [] ss h = refl
  sorted_valid_all (t ∷ ts) [] h = absurd (cc)
  sorted_valid_all (t ∷ ts) (s ∷ ss) h =
      let p : seen_sort cons t ≡ Some s = cc in
      let q : map (seen_sort cons) ts ≡ map Some ss = cc in
      and_from (is_valid_term t) (list_all is_valid_term ts) (sorted_valid t s p) (sorted_valid_all ts ss q)

module _ {N : Type 0} (cons : List Con) (look : N → Seen N) (variables : List DataSort) (laws : IsLawful look variables) (v : List Value) (fits : IsValuation variables v) where
  abbrev MeansSort : Term N → Type 0
  MeansSort t = (a : Sort) → seen_sort cons (seen_term look t) ≡ Some a → tree_sort cons (tree_of v (seen_term look t)) ≡ Some a

  means_all : (ts : List (Term N)) (ss : List Sort) → Each MeansSort ts → map (seen_sort cons) (map (seen_term look) ts) ≡ map Some ss → map (tree_sort cons) (map (tree_of v) (map (seen_term look) ts)) ≡ map Some ss
  means_all [] ss e h = h
  means_all (t ∷ ts) [] e h = absurd (cc)
  means_all (t ∷ ts) (s ∷ ss) e h =
      let p : seen_sort cons (seen_term look t) ≡ Some s = cc in
      let q : map (seen_sort cons) (map (seen_term look) ts) ≡ map Some ss = cc in
      let first : tree_sort cons (tree_of v (seen_term look t)) ≡ Some s = e.0 s p in
      let rest : map (tree_sort cons) (map (tree_of v) (map (seen_term look) ts)) ≡ map Some ss = means_all ts ss e.1 q in
      cc

  means_plain : (n : N) → MeansSort (term.Plain n)
  means_plain n a h =
      let is = node_is (look n) a (sym (ap (seen_sort cons) (seen-Plain look n) ∙ seen_sort-Plain cons (look n)) ∙ h) in
      let value = laws.sorted n is.0 v fits in
      ap (λ t. tree_sort cons (tree_of v t)) (seen-Plain look n) ∙ ap (tree_sort cons) (tree_of-Plain v (look n)) ∙ tree_sort-Plain cons ((look n).meaning v) ∙ leaf-of ((look n).meaning v) (look n).sort value ∙ ap Some (sym is.1)

  means_con : (k : ConId) (ts : List (Term N)) → Each MeansSort ts → MeansSort (term.Con k ts)
  means_con k ts e a h =
      let us = map (seen_term look) ts in
      let made : con_sort (slice_get cons k.0) (map (seen_sort cons) us) ≡ Some a = sym (ap (seen_sort cons) (seen-Con look k ts) ∙ seen_sort-Con cons k us) ∙ h in
      let p = con_parts (slice_get cons k.0) (map (seen_sort cons) us) a made in
      ap (λ t. tree_sort cons (tree_of v t)) (seen-Con look k ts) ∙ ap (tree_sort cons) (tree_of-Con v k us) ∙ tree_sort-Con cons k (map (tree_of v) us)
      ∙ ap (con_sort (slice_get cons k.0)) (means_all ts p.con.args e p.sorts ∙ sym p.sorts) ∙ made

  -- under a valuation of the domain's variables a term means a tree of its sort
  pub means_sort : (t : Term N) → MeansSort t
  means_sort = term_ind N MeansSort means_plain means_con

module _ {N : Type 0} (look : N → Seen N) (variables : List DataSort) (depends : (n : N) → DependsOnVariables look variables n) (v w : List Value) (agree : AgreeBelow (length variables) v w) where
  abbrev MeansSame : Term N → Type 0
  MeansSame t = IsTrue (is_valid_term (seen_term look t)) → tree_of v (seen_term look t) ≡ tree_of w (seen_term look t)

  same_all : (ts : List (Term N)) → Each MeansSame ts → IsTrue (list_all is_valid_term (map (seen_term look) ts)) → map (tree_of v) (map (seen_term look) ts) ≡ map (tree_of w) (map (seen_term look) ts)
  same_all [] e h = refl
  same_all (t ∷ ts) e h =
      let p = and_parts (is_valid_term (seen_term look t)) (list_all is_valid_term (map (seen_term look) ts)) h in
      let first = e.0 p.0 in
      let rest = same_all ts e.1 p.1 in
      λ i. first i ∷ rest i

  same_plain : (n : N) → MeansSame (term.Plain n)
  same_plain n h =
      let ok : IsTrue (look n).valid = sym (ap is_valid_term (seen-Plain look n) ∙ valid-Plain (look n)) ∙ h in
      ap (tree_of v) (seen-Plain look n) ∙ tree_of-Plain v (look n) ∙ ap term.Plain (depends n ok v w agree) ∙ sym (tree_of-Plain w (look n)) ∙ sym (ap (tree_of w) (seen-Plain look n))

  same_con : (k : ConId) (ts : List (Term N)) → Each MeansSame ts → MeansSame (term.Con k ts)
  same_con k ts e h =
      let us = map (seen_term look) ts in
      let ok : IsTrue (list_all is_valid_term us) = sym (ap is_valid_term (seen-Con look k ts) ∙ valid-Con k us) ∙ h in
      ap (tree_of v) (seen-Con look k ts) ∙ tree_of-Con v k us ∙ ap (term.Con k) (same_all ts e ok) ∙ sym (tree_of-Con w k us) ∙ sym (ap (tree_of w) (seen-Con look k ts))

  -- a term means one tree under valuations that agree on the domain's variables
  means_same : (t : Term N) → MeansSame t
  means_same = term_ind N MeansSame same_plain same_con

pub depend_law : (N : Type 0) → TermsDependOnVariables N
depend_law N look variables depends t v w ok agree = means_same look variables depends v w agree t ok

pub stay_law : (N : Type 0) → TermsStay N
stay_law N before after t x ok = term_stays before after x t ok

pub valid_law : (N : Type 0) → SortedTermsAreValid N
valid_law N cons a t h = sorted_valid cons t a h.is

pub sort_law : (N : Type 0) → TermsMeanTheirSorts N
sort_law N cons a look variables t v laws h fits = record { is = means_sort cons look variables laws v fits t a h.is }
