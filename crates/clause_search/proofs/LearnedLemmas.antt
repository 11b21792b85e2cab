-- The clause that is learned, and the steps that are left then.
use Rattle.std.proofs.Common.{ℕ, ◌≡◌, ◌<◌, ◌+◌, Bool, true, false, not, if◌then◌else◌, Option, Some, None, List, [], ◌∷◌, ◌++◌, All, length, get_or, take, refl, sym, ap, ◌∙◌, subst, inl, inr, arith, append_assoc, append-nil, length-append}
use Rattle.std.specs.Option.{option_map}
use Rattle.std.proofs.lemmas.List.{take_all, length-take-le}
use Rattle.std.proofs.lemmas.List.Folds.{list_any_at}
use Rattle.std.proofs.lemmas.List.Elements.{All-nil, All-cons, All-append}
use Rattle.std.proofs.Math.Seq.{get_or-append_seam}
use Rattle.refute_check.specs.declared.lit.Lit.{Lit}
use Rattle.refute_check.specs.declared.step.Link.{Link}
use Rattle.refute_check.specs.declared.step.Step.{Step}
use Rattle.refute_check.specs.Truth.{flipped}
use Rattle.refute_check.specs.Literals.{has_lit}
use Rattle.refute_check.specs.Derived.{Derived, Derives, clause_at, is_empty, has_empty}
use Rattle.refute_check.proofs.LitLemmas.{has_lit_first}
use Rattle.clause_search.specs.declared.trail.Entry.{Entry}
use Rattle.clause_search.specs.declared.trail.Trail.{Trail}
use Rattle.clause_search.specs.declared.analysis.Turn.{Turn}
use Rattle.clause_search.specs.Partial.{lit_value, false_but}
use Rattle.clause_search.specs.Trail.{IsTrail, IsEntry, IsReason, IsEmptyAt, Nears, Pushed, room}
use Rattle.clause_search.specs.Analysis.{gathered, IsPlace, IsTurn, Jumped, StaysSeen}
use Rattle.clause_search.proofs.PartialLemmas.{open_var}
use Rattle.clause_search.proofs.ClauseLemmas.{false_but_from}
use Rattle.clause_search.proofs.TrailLemmas.{Popped, trail_pushed, trail_more, trail_count, room_jump}

-- ---- the entries that are left

-- a list begins with another
pub record Begins (whole front : List Entry) : Type 0 where
  pub more : List Entry
  pub is : whole ≡ front ++ more

-- all entries, and all but the last
pub begins_same : (es : List Entry) → Begins es es
begins_same es = record { more = []; is = sym (append-nil es) }

pub begins_front : (whole front shorter : List Entry) (e : Entry) → front ≡ shorter ++ e ∷ [] → Begins whole front → Begins whole shorter
begins_front whole front shorter e h b = record { more = e ∷ b.more; is = b.is ∙ ap (λ (l : List Entry). l ++ b.more) h ∙ append_assoc shorter (e ∷ []) b.more }

-- the steps that are left where a conflict turns the search
pub fewer_left : (cs : List (List Lit)) (start old new : Trail) (m : List Bool) (e f : Entry) (k r : ℕ) → IsTrail cs old → Popped cs old new e → old.entries ≡ new.entries ++ e ∷ [] → length old.values ≡ length start.values → Begins start.entries old.entries → IsPlace m new.entries e.reason k → f.reason ≡ Some r → room (length new.values) (take k new.entries ++ f ∷ []) < room (length start.values) start.entries
fewer_left cs start old new m e f k r t w q v b p s =
    let n : length new.values ≡ length start.values = w.vars ∙ v in
    let count = trail_count cs old t in
    let size : length old.entries ≡ length new.entries + 1 = ap length q ∙ length-append new.entries (e ∷ []) in
    let whole : start.entries ≡ new.entries ++ e ∷ b.more = b.is ∙ ap (λ (l : List Entry). l ++ b.more) q ∙ append_assoc new.entries (e ∷ []) b.more in
    elim p.decision [
      | inl d ↦
          let split : start.entries ≡ take k new.entries ++ d.decision ∷ (d.after ++ e ∷ b.more) = whole ∙ ap (λ (l : List Entry). l ++ e ∷ b.more) d.splits ∙ append_assoc (take k new.entries) (d.decision ∷ d.after) (e ∷ b.more) in
          let short = length-take-le k new.entries p.within in
          let j = room_jump (length start.values) (take k new.entries) (d.after ++ e ∷ b.more) d.decision f r (omega arith) d.free s in
          rw (n, split) j
      | inr d ↦
          let all : take k new.entries ≡ new.entries = take_all k new.entries (omega (arith, d.0)) in
          let j = room_jump (length start.values) new.entries b.more e f r (omega arith) d.1 s in
          rw (n, all, whole) j
    ]

-- an open literal's opposite is open
pub open_flipped : (p : List (Option Bool)) (l u : Lit) → u ≡ flipped l → lit_value p l ≡ None → lit_value p u ≡ None
open_flipped p l u e h = ap (λ (k : Lit). lit_value p k) e ∙ ap (option_map (λ (b : Bool). if not l.positive then b else not b)) (open_var p l h)

-- the number of a reason is that of a clause
pub reason_within : (cs : List (List Lit)) (p : List (Option Bool)) (l : Lit) (o : Option ℕ) (k : ℕ) → o ≡ Some k → IsReason cs p l o → k < length cs
reason_within cs p l o k e h = (subst (IsReason cs p l) e h).0

-- one link more
pub links_push : (n : ℕ) (ks js : List Link) (l : Link) → js ≡ ks ++ l ∷ [] → l.clause < n → All (λ k. k.clause < n) ks → All (λ k. k.clause < n) js
links_push n ks js l e h a = subst (λ (is : List Link). All (λ (k : Link). k.clause < n) is) (sym e) (All-append (λ (k : Link). k.clause < n) ks (l ∷ []) a (All-cons (λ (k : Link). k.clause < n) l [] h (All-nil (λ (k : Link). k.clause < n))))

-- ---- the learned clause

-- a clause that has no literal
none_in : (c : List Lit) → ((x : Lit) → has_lit c x ≡ false) → is_empty c ≡ true
none_in [] h = refl
none_in (l ∷ ls) h = let e = has_lit_first l ls in let f = h l in cc

-- the clause that a step makes, by its number
made_at : (d e : Derived) (s : Step) (n : ℕ) (w : Derives d s e) → n ≡ length d.clauses → clause_at e.clauses n ≡ w.clause
made_at d e s n w h = ap (λ (cs : List (List Lit)). clause_at cs n) w.clauses ∙ ap (λ (i : ℕ). get_or (d.clauses ++ w.clause ∷ []) i []) h ∙ get_or-append_seam d.clauses w.clause [] []

made_within : (d e : Derived) (s : Step) (n : ℕ) → Derives d s e → n ≡ length d.clauses → n < length e.clauses
made_within d e s n w h = let size : length e.clauses ≡ length (d.clauses ++ w.clause ∷ []) = ap length w.clauses in omega (arith, length-append d.clauses (w.clause ∷ []))

made_lits : (d e : Derived) (k n : ℕ) (ks js : List Link) (x : Lit) → n ≡ length d.clauses → js ≡ ks → Derives d (record { start = k; chain = js }) e → has_lit (clause_at e.clauses n) x ≡ gathered d.clauses k ks x
made_lits d e k n ks js x h j w = ap (λ (c : List Lit). has_lit c x) (made_at d e (record { start = k; chain = js }) n w h) ∙ w.made.lits x ∙ ap (λ (is : List Link). gathered d.clauses k is x) j

-- where nothing is left the clause is empty
pub learned_empty : (d e : Derived) (k n : ℕ) (ks js : List Link) → n ≡ length d.clauses → js ≡ ks → Derives d (record { start = k; chain = js }) e → ((x : Lit) → gathered d.clauses k ks x ≡ false) → IsEmptyAt e.clauses n
learned_empty d e k n ks js h j w f = record {
  within = made_within d e (record { start = k; chain = js }) n w h;
  empty = none_in (clause_at e.clauses n) (λ x. made_lits d e k n ks js x h j w ∙ f x);
}

pub has_empty_at : (cs : List (List Lit)) (k : ℕ) → IsEmptyAt cs k → has_empty cs ≡ true
unfolding has_empty
has_empty_at cs k h = list_any_at is_empty cs k [] h.within h.empty

-- elsewhere it forces the literal at which the search turns
pub learned_nears : (d e : Derived) (start old back new : Trail) (m : List Bool) (t : Turn) (k n : ℕ) (ks hs js : List Link) → n ≡ length d.clauses → js ≡ hs → Derives d (record { start = k; chain = js }) e → IsTrail d.clauses old → length old.values ≡ length start.values → IsTurn start old m (gathered d.clauses k ks) t → StaysSeen d.clauses old.values m ks hs → Jumped m t.kept old back → Pushed back (record { lit = t.lit; reason = Some n }) new → Nears e.clauses start new
learned_nears d e start old back new m t k n ks hs js h j w tr v turn shorter jump p =
    let entry : Entry = record { lit = t.lit; reason = Some n } in
    let others = jump.others t.lit (gathered d.clauses k hs) (shorter.at t.lit k turn.others) in
    let forced : false_but back.values t.lit (clause_at e.clauses n) ≡ true = false_but_from back.values t.lit (clause_at e.clauses n) (λ x f g. (others.at x (sym (made_lits d e k n hs js x h j w) ∙ f) g).falsified) in
    let within = made_within d e (record { start = k; chain = js }) n w h in
    let var : t.lit.var < length back.values = subst (λ (i : ℕ). t.lit.var < i) (sym jump.vars) turn.var in
    let is : IsEntry e.clauses back.values entry = record { var = var; undecided = jump.undecided t.lit turn.undecided; reason = (within, forced) } in
    let before : IsTrail e.clauses back = trail_more d.clauses e.clauses (w.clause ∷ []) back w.clauses (jump.trail d.clauses tr) in
    let near = trail_pushed e.clauses back new entry before is p in
    let less = turn.fewer entry n refl in
    let same : room (length new.values) new.entries ≡ room (length old.values) (take t.kept old.entries ++ entry ∷ []) = rw (near.vars, jump.vars, p.entries, jump.entries) refl in
    record { trail = near.trail; vars = near.vars ∙ jump.vars ∙ v; room = omega (arith, same, less) }
