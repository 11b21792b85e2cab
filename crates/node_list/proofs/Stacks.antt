-- What holds of the tasks of a walk as they are done.
use Rattle.std.proofs.Common.{arith, ◌≡◌, ℕ, ◌+◌, ◌*◌, ◌<◌, ◌≤◌, IsTrue, List, [], ◌∷◌, ◌++◌, map, reverse, take, drop, slice_get, length, All, Option, Some, None, append_assoc, refl, sym, ap, ◌∙◌, subst}
use Rattle.std.proofs.lemmas.List.{length-map, append-nil}
use Rattle.std.proofs.lemmas.List.Elements.{All-head, All-tail}
use Rattle.std.proofs.lemmas.List.Sums.{sum_by-cons, sum_by-append}
use Rattle.std.proofs.Math.Seq.{take-append_seam, drop-append_seam}
use Rattle.data_value.specs.declared.DataSort.{DataSort}
use Rattle.data_value.specs.Nodes.{Seen, AllValid, sizes_of}
use Rattle.data_value.specs.Views.{BeginsWith, IsShown, shown_args}
use Rattle.data_value.proofs.AlikeLemmas.{sizes_alike}
use Rattle.node_list.specs.declared.line.Line.{Line}
use Rattle.node_list.specs.declared.walk.Task.{Task}
use Rattle.node_list.specs.declared.walk.Task.TheVariants.{Find, Append}
use Rattle.node_list.specs.Listed.{StandsAt, StandAt, IsListing, IsListed}
use Rattle.node_list.specs.Walks.{arity, LeadsTo, AreAbove, IsNew, AreOpen, turns, IsOpened, IsSought, known, opened, IsAppended, IsWalk}
use Rattle.node_list.proofs.Lines.{begins-same, begins-both, stand_more, stand_length, stand_alike, once_remembered}
use Rattle.node_list.proofs.Tops.{reverse_cons}

module _ {N : Type 0} (f : N → Seen N) where
  -- what stands higher than h stands higher than what is lower
  above_less : (h k : ℕ) → k ≤ h → (ts : List (Task N)) → AreAbove f h ts → AreAbove f k ts
  above_less h k le [] a = tt
  above_less h k le (Find n ∷ ts) a = above_less h k le ts a
  above_less h k le (Append n ∷ ts) a = (let low : h < (f n).height = a.0 in omega arith, above_less h k le ts a.1)

  above_finds : (h : ℕ) (ns : List N) (ts : List (Task N)) → AreAbove f h ts → AreAbove f h (map Find ns ++ ts)
  above_finds h [] ts a = a
  above_finds h (n ∷ ns) ts a = above_finds h ns ts a

  -- nodes that stand lower than h
  AreLow : ℕ → List N → Type 0
  AreLow h [] = Unit {0}
  AreLow h (n ∷ ns) = IsTrue (f n).valid × ((f n).height < h) × AreLow h ns

  low_all : (h : ℕ) (ns : List N) → AllValid f ns → All (λ m. (f m).height < h) ns → AreLow h ns
  unfolding AreLow
  low_all h [] v l = tt
  low_all h (n ∷ ns) v l =
      (All-head (λ m. IsTrue (f m).valid) n ns v, All-head (λ m. (f m).height < h) n ns l, low_all h ns (All-tail (λ m. IsTrue (f m).valid) n ns v) (All-tail (λ m. (f m).height < h) n ns l))

  low_alike : (h : ℕ) (ns ms : List N) → map f ns ≡ map f ms → AreLow h ms → AreLow h ns
  unfolding AreLow
  low_alike h [] [] e l = tt
  low_alike h [] (m ∷ ms) e l = absurd (cc)
  low_alike h (n ∷ ns) [] e l = absurd (cc)
  low_alike h (n ∷ ns) (m ∷ ms) e l =
      let here : f n ≡ f m = cc in
      let rest : map f ns ≡ map f ms = cc in
      (subst (λ s. IsTrue s.valid) (sym here) l.0, subst (λ s. s.height < h) (sym here) l.1, low_alike h ns ms rest l.2)

  low_split : (h : ℕ) (ns : List N) (n : N) → AreLow h (ns ++ n ∷ []) → AreLow h ns × AreLow h (n ∷ [])
  unfolding AreLow
  low_split h [] n l = (tt, l)
  low_split h (m ∷ ns) n l = let rest = low_split h ns n l.2 in ((l.0, l.1, rest.0), rest.1)

  low_reverse : (h : ℕ) (ns : List N) → AreLow h (reverse ns) → AreLow h ns
  unfolding AreLow
  low_reverse h [] l = tt
  low_reverse h (n ∷ ns) l = let both = low_split h (reverse ns) n (subst (AreLow h) (reverse_cons n ns) l) in (both.1.0, both.1.1, low_reverse h ns both.0)

  open_finds : (places : ℕ → Option ℕ) (m : N) (rest : List (Task N)) → AreAbove f (f m).height rest → AreOpen f places (Append m ∷ rest) → (ns : List N) → AreLow (f m).height ns → AreOpen f places (map Find ns ++ Append m ∷ rest)
  unfolding AreLow
  open_finds places m rest a o [] l = o
  open_finds places m rest a o (n ∷ ns) l =
      let low : (f n).height < (f m).height = l.1 in
      (l.0, above_finds (f n).height ns (Append m ∷ rest) (low, above_less (f m).height (f n).height (omega arith) rest a), open_finds places m rest a o ns l.2)

  -- how many turns finds take
  turns_finds : (ns : List N) (ts : List (Task N)) → turns f (map Find ns ++ ts) ≡ 2 * sizes_of f ns + turns f ts
  turns_finds [] ts = omega arith
  turns_finds (n ∷ ns) ts =
      let rest = turns_finds ns ts in
      let more = sum_by-cons (λ m. (f m).size) n ns in
      omega arith

  sizes_reverse : (ns : List N) → sizes_of f (reverse ns) ≡ sizes_of f ns
  sizes_reverse [] = refl
  sizes_reverse (n ∷ ns) =
      let split = ap (sizes_of f) (reverse_cons n ns) ∙ sum_by-append (λ m. (f m).size) (reverse ns) (n ∷ []) in
      let rest = sizes_reverse ns in
      let one = sum_by-cons (λ m. (f m).size) n [] in
      let more = sum_by-cons (λ m. (f m).size) n ns in
      omega arith

  -- finds of arguments lead on as the line behind them does
  leads_finds : (root : Seen N) (m : N) (rest : List (Task N)) (found : List ℕ) (ns done : List N) (qs : List ℕ) (lines : List (Line N)) → map f (reverse ns ++ done) ≡ map f (shown_args (f m).shown) → StandAt f lines qs done → ((more : List (Line N)) (p : ℕ) → BeginsWith more lines → length more ≡ p + 1 → StandsAt f more p (f m) → LeadsTo f root rest more (p ∷ found)) → LeadsTo f root (map Find ns ++ Append m ∷ rest) lines (qs ++ found)
  leads_finds root m rest found [] done qs lines same at on =
      let args = shown_args (f m).shown in
      let long : arity (f m) ≡ length qs = sym (stand_length f lines qs done at ∙ sym (length-map done f) ∙ ap (λ (l : List (Seen N)). length l) same ∙ length-map args f) in (
        subst (λ ps. StandAt f lines ps args) (sym (ap (λ k. take k (qs ++ found)) long ∙ take-append_seam qs found)) (stand_alike f lines qs done args same at),
        λ more p b end st. subst (λ fs. LeadsTo f root rest more (p ∷ fs)) (sym (ap (λ k. drop k (qs ++ found)) long ∙ drop-append_seam qs found)) (on more p b end st),
      )
  leads_finds root m rest found (n ∷ ns) done qs lines same at on =
      let moved = ap (λ (l : List N). l ++ done) (reverse_cons n ns) ∙ append_assoc (reverse ns) (n ∷ []) done in
      λ more p b st. leads_finds root m rest found ns (n ∷ done) (p ∷ qs) more (sym (ap (map f) moved) ∙ same) (st, stand_more f lines more b qs done at) (λ l q c. on l q (begins-both lines more l b c))

  module _ (sorts : List DataSort) (n : N) (shown : IsShown f sorts n) (before after : List (Task N)) (o : IsOpened f (f n) before after) where
    last_args : map f (shown_args (f n).shown) ≡ map f (shown_args (f o.last).shown)
    last_args = ap (λ s. map f (shown_args s.shown)) (sym o.same)

    -- an opened node takes fewer turns than to find it
    pub turns_opened : turns f after < 2 * (f n).size + turns f before
    turns_opened =
        let fs = o.args.finds in
        let all = ap (turns f) o.args.is ∙ turns_finds fs (Append o.last ∷ before) in
        let sizes = sym (sizes_reverse fs) ∙ sizes_alike f (reverse fs) (shown_args (f n).shown) o.args.alike in
        let own = shown.size in
        omega arith

    pub open_opened : (places : ℕ → Option ℕ) → IsNew (f n) places → IsTrue (f n).valid → AreAbove f (f n).height before → AreOpen f places before → AreOpen f places after
    open_opened places new ok a rest =
        let above = subst (λ s. AreAbove f s.height before) (sym o.same) a in
        let last : AreOpen f places (Append o.last ∷ before) = (subst (λ s. IsTrue s.valid) (sym o.same) ok, above, subst (λ s. IsNew s places) (sym o.same) new, rest) in
        let low = low_all (f n).height (shown_args (f n).shown) shown.args_valid shown.args_lower in
        let finds = low_reverse (f o.last).height o.args.finds (low_alike (f o.last).height (reverse o.args.finds) (shown_args (f n).shown) o.args.alike (subst (λ s. AreLow s.height (shown_args (f n).shown)) (sym o.same) low)) in
        subst (AreOpen f places) (sym o.args.is) (open_finds places o.last before above last o.args.finds finds)

    pub leads_opened : (root : Seen N) (lines : List (Line N)) (found : List ℕ) → ((more : List (Line N)) (p : ℕ) → BeginsWith more lines → length more ≡ p + 1 → StandsAt f more p (f n) → LeadsTo f root before more (p ∷ found)) → LeadsTo f root after lines found
    leads_opened root lines found on =
        let none = append-nil (reverse o.args.finds) in
        subst (λ ts. LeadsTo f root ts lines found) (sym o.args.is)
        (leads_finds root o.last before found o.args.finds [] [] lines (ap (map f) none ∙ o.args.alike ∙ last_args) tt (λ more p b end st. on more p b end (subst (StandsAt f more p) o.same st)))

  -- those that are open stay so as the place of a lower node is kept
  pub open_put : ((m n : N) (i : ℕ) → IsTrue (f m).valid → IsTrue (f n).valid → (f m).id ≡ Some i → (f n).id ≡ Some i → f m ≡ f n) → (places after : ℕ → Option ℕ) (m : N) → IsTrue (f m).valid → ((i : ℕ) → ((f m).id ≡ Some i → ⊥) → after i ≡ places i) → (ts : List (Task N)) → AreAbove f (f m).height ts → AreOpen f places ts → AreOpen f after ts
  open_put one places after m ok others [] a o = tt
  open_put one places after m ok others (Find n ∷ ts) a o = (o.0, o.1, open_put one places after m ok others ts a o.2)
  open_put one places after m ok others (Append n ∷ ts) a o = (
    o.0,
    o.1,
    λ i e. others i (λ own. let same = ap (λ s. s.height) (one m n i ok o.0 own e) in let low : (f m).height < (f n).height = a.0 in omega arith) ∙ o.2 i e,
    open_put one places after m ok others ts a.1 o.3,
  )

  none_there : (lines : List (Line N)) (k : ℕ) (x : Line N) → lines ≡ [] → slice_get lines k ≡ Some x → ⊥
  none_there [] k x e at = cc
  none_there (l ∷ lines) k x e at = cc

  -- a walk begins with the opened root
  pub walk_begins : (sorts : List DataSort) (n : N) → IsShown f sorts n → IsTrue (f n).valid → (tasks : List (Task N)) (lines : List (Line N)) (places : ℕ → Option ℕ) (found : List ℕ) → lines ≡ [] → ((i : ℕ) → places i ≡ None) → found ≡ [] → IsOpened f (f n) [] tasks → IsWalk f (f n) tasks lines places found
  walk_begins sorts n shown ok tasks lines places found no_lines no_places no_found o = record {
    listing = record {
      ordered = λ k x at. absurd (none_there lines k x no_lines at);
      placed = λ i p e. absurd (let none = no_places i in cc);
      remembered = λ k i x at id. absurd (none_there lines k x no_lines at);
    };
    pending = open_opened sorts n shown [] tasks o places (λ i own. no_places i) ok tt tt;
    leads = leads_opened sorts n shown [] tasks o (f n) lines found (λ more p b end st. (p, ap (λ fs. p ∷ fs) no_found, end, st));
  }

  module _ (sorts : List DataSort) (root : Seen N) (n : N) (shown : IsShown f sorts n) (tasks after : List (Task N)) (lines : List (Line N)) (places : ℕ → Option ℕ) (found more : List ℕ) where
    -- it goes on as a node is sought
    pub walk_sought : IsWalk f root (Find n ∷ tasks) lines places found → IsSought f (f n) lines places tasks after found more → IsWalk f root after lines places more
    walk_sought w (known p st is same) = record {
      listing = w.listing;
      pending = subst (AreOpen f places) (sym same) w.pending.2;
      leads = subst (λ ts. LeadsTo f root ts lines more) (sym same) (subst (LeadsTo f root tasks lines) (sym is) (w.leads lines p (begins-same lines) st));
    }
    walk_sought w (opened new o same) = record {
      listing = w.listing;
      pending = open_opened sorts n shown tasks after o places new w.pending.0 w.pending.1 w.pending.2;
      leads = subst (LeadsTo f root after lines) (sym same) (leads_opened sorts n shown tasks after o root lines found (λ m p b end st. w.leads m p b st));
    }

    pub turns_sought : IsSought f (f n) lines places tasks after found more → turns f after < turns f (Find n ∷ tasks)
    turns_sought (known p st is same) =
        let less = ap (turns f) same in
        let some = shown.size in
        omega arith
    turns_sought (opened new o same) = turns_opened sorts n shown tasks after o

  -- and as a line is appended
  pub walk_appended : ((m n : N) (i : ℕ) → IsTrue (f m).valid → IsTrue (f n).valid → (f m).id ≡ Some i → (f n).id ≡ Some i → f m ≡ f n) → (root : Seen N) (n : N) (tasks : List (Task N)) (lines more : List (Line N)) (places after : ℕ → Option ℕ) (found next : List ℕ) → IsWalk f root (Append n ∷ tasks) lines places found → IsListing f more after → IsAppended f (f n) lines more places after found next → IsWalk f root tasks more after next
  walk_appended one root n tasks lines more places after found next w listing a = record {
    listing = listing;
    pending = open_put one places after n w.pending.0 a.others tasks w.pending.1 w.pending.3;
    leads = subst (LeadsTo f root tasks more) (sym a.is) (w.leads.1 more a.place a.begins a.end a.stands);
  }

  -- at its end the lines are those of the root
  pub walk_ends : (root : Seen N) (tasks : List (Task N)) (lines : List (Line N)) (places : ℕ → Option ℕ) (found : List ℕ) → tasks ≡ [] → IsWalk f root tasks lines places found → IsListed f root lines
  walk_ends root tasks lines places found none w =
      let end = subst (λ ts. LeadsTo f root ts lines found) none w.leads in
      record { ordered = w.listing.ordered; once = once_remembered f lines places w.listing.remembered; last = (end.0, end.2, end.3) }
