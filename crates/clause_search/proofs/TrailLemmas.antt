-- Trails, one entry more and one less, and the steps that are left.
use Rattle.std.proofs.Common.{ℕ, ◌≡◌, ◌<◌, ◌≤◌, ◌+◌, ◌-◌, ◌*◌, ◌^◌, Bool, Option, Some, None, List, [], ◌∷◌, ◌++◌, length, get_or, set, replicate, refl, sym, ap, ◌∙◌, subst, zero, suc, arith, length-append, length-set}
use Rattle.std.proofs.lemmas.List.{get_or_append_left}
use Rattle.std.proofs.Math.Nat.{pow-succ'}
use Rattle.refute_check.specs.declared.lit.Lit.{Lit}
use Rattle.refute_check.specs.Derived.{clause_at}
use Rattle.clause_search.specs.declared.trail.Entry.{Entry}
use Rattle.clause_search.specs.declared.trail.Trail.{Trail}
use Rattle.clause_search.specs.Partial.{false_but, with_lit}
use Rattle.clause_search.specs.Trail.{IsReason, IsEntry, Leads, IsTrail, Pushed, weight, room, Follows, Nears, TakesNext}
use Rattle.clause_search.proofs.PartialLemmas.{open_count, open_var, open_count_with}

-- one entry more
pub leads_push : (cs : List (List Lit)) (p : List (Option Bool)) (es : List Entry) (q : List (Option Bool)) (e : Entry) → Leads cs p es q → IsEntry cs q e → Leads cs p (es ++ e ∷ []) (with_lit q e.lit)
leads_push cs p [] q e l h = (subst (λ (r : List (Option Bool)). IsEntry cs r e) (sym l) h, ap (λ (r : List (Option Bool)). with_lit r e.lit) l)
leads_push cs p (g ∷ es) q e l h = (l.0, leads_push cs (with_lit p g.lit) es q e l.1 h)

-- the last entry, with the assignment before it
record Last (cs : List (List Lit)) (p : List (Option Bool)) (es : List Entry) (e : Entry) (q : List (Option Bool)) : Type 0 where
  before : List (Option Bool)
  leads : Leads cs p es before
  entry : IsEntry cs before e
  after : with_lit before e.lit ≡ q

leads_pop : (cs : List (List Lit)) (p : List (Option Bool)) (es : List Entry) (e : Entry) (q : List (Option Bool)) → Leads cs p (es ++ e ∷ []) q → Last cs p es e q
leads_pop cs p [] e q l = record { before = p; leads = refl; entry = l.0; after = l.1 }
leads_pop cs p (g ∷ es) e q l =
    let r = leads_pop cs (with_lit p g.lit) es e q l.1 in
    record { before = r.before; leads = (l.0, r.leads); entry = r.entry; after = r.after }

-- a reason stays one
reason_more : (cs more : List (List Lit)) (p : List (Option Bool)) (l : Lit) (r : Option ℕ) → IsReason cs p l r → IsReason (cs ++ more) p l r
reason_more cs more p l None h = tt
reason_more cs more p l (Some k) h =
    let c : clause_at (cs ++ more) k ≡ clause_at cs k = get_or_append_left cs more [] k h.0 in
    (omega (arith, length-append cs more), ap (false_but p l) c ∙ h.1)

-- clauses that are added at the end change nothing
leads_more : (cs more : List (List Lit)) (p : List (Option Bool)) (es : List Entry) (q : List (Option Bool)) → Leads cs p es q → Leads (cs ++ more) p es q
leads_more cs more p [] q l = l
leads_more cs more p (e ∷ es) q l =
    let first : IsEntry (cs ++ more) p e = record { var = l.0.var; undecided = l.0.undecided; reason = reason_more cs more p e.lit e.reason l.0.reason } in
    (first, leads_more cs more (with_lit p e.lit) es q l.1)

pub trail_more : (cs ds more : List (List Lit)) (t : Trail) → ds ≡ cs ++ more → IsTrail cs t → IsTrail ds t
trail_more cs ds more t e h = record { leads = subst (λ (bs : List (List Lit)). Leads bs (replicate (length t.values) None) t.entries t.values) (sym e) (leads_more cs more (replicate (length t.values) None) t.entries t.values h.leads) }

-- each entry takes one variable without a truth value
leads_count : (cs : List (List Lit)) (p : List (Option Bool)) (es : List Entry) (q : List (Option Bool)) → Leads cs p es q → open_count q + length es ≡ open_count p
leads_count cs p [] q l = let e : open_count p ≡ open_count q = ap open_count l in omega arith
leads_count cs p (e ∷ es) q l =
    let r = leads_count cs (with_lit p e.lit) es q l.1 in
    let c = open_count_with p e.lit l.0.var l.0.undecided in
    omega arith

abbrev nothing : Option Bool
nothing = None

-- at first no variable has a truth value
count_open : (n : ℕ) → open_count (replicate n nothing) ≡ n
count_open zero = refl
count_open (suc n) = let r = count_open n in omega arith

pub trail_count : (cs : List (List Lit)) (t : Trail) → IsTrail cs t → open_count t.values + length t.entries ≡ length t.values
trail_count cs t h = leads_count cs (replicate (length t.values) None) t.entries t.values h.leads ∙ count_open (length t.values)

-- powers
four : (n : ℕ) → 4 ^ suc n ≡ 4 * 4 ^ n
four n = pow-succ' 4 n

one_at_least : (n : ℕ) → 0 < 4 ^ n
one_at_least zero = omega arith
one_at_least (suc n) = let r = one_at_least n in let e = four n in omega arith

weight_at_most : (n : ℕ) (r : Option ℕ) → weight n r ≤ 2 * 4 ^ n
weight_at_most n None = omega arith
weight_at_most n (Some k) = omega arith

-- the room of no entry, and of one more in front
room_none : (n : ℕ) → room n [] ≡ 4 ^ n
unfolding room
room_none n = refl

room_cons : (n : ℕ) (e : Entry) (es : List Entry) → room (suc n) (e ∷ es) ≡ room n es + weight n e.reason
unfolding room
room_cons n e es = refl

-- one entry more leaves less
pub room_push : (n : ℕ) (es : List Entry) (e : Entry) → length es < n → room n (es ++ e ∷ []) < room n es
room_push zero es e h = absurd (omega arith)
room_push (suc n) [] e h =
    let a = room_cons n e [] in
    let b = room_none n in
    let c = room_none (suc n) in
    let w = weight_at_most n e.reason in
    let o = one_at_least n in
    let f = four n in
    omega arith
room_push (suc n) (g ∷ es) e h =
    let r : room n (es ++ e ∷ []) < room n es = room_push n es e (omega arith) in
    let a = room_cons n g (es ++ e ∷ []) in
    let b = room_cons n g es in
    omega arith

-- the weight of a decision, and of a forced literal
weight_free : (n : ℕ) (r : Option ℕ) → r ≡ None → weight n r ≡ 2 * 4 ^ n
weight_free n r e = ap (weight n) e

weight_forced : (n k : ℕ) (r : Option ℕ) → r ≡ Some k → weight n r ≡ 0
weight_forced n k r e = ap (weight n) e

-- a forced literal in the place of a decision leaves less, whatever stood after that
pub room_jump : (n : ℕ) (front back : List Entry) (d e : Entry) (k : ℕ) → length front < n → d.reason ≡ None → e.reason ≡ Some k → room n (front ++ e ∷ []) < room n (front ++ d ∷ back)
room_jump zero front back d e k h f r = absurd (omega arith)
room_jump (suc n) [] back d e k h f r =
    let a = room_cons n e [] in
    let b = room_none n in
    let c = room_cons n d back in
    let v = weight_free n d.reason f in
    let w = weight_forced n k e.reason r in
    let o = one_at_least n in
    omega arith
room_jump (suc n) (g ∷ front) back d e k h f r =
    let s : room n (front ++ e ∷ []) < room n (front ++ d ∷ back) = room_jump n front back d e k (omega arith) f r in
    let a = room_cons n g (front ++ e ∷ []) in
    let b = room_cons n g (front ++ d ∷ back) in
    omega arith

-- what a push comes to
pub trail_pushed : (cs : List (List Lit)) (old new : Trail) (e : Entry) → IsTrail cs old → IsEntry cs old.values e → Pushed old e new → Nears cs old new
trail_pushed cs old new e t h w =
    let vars : length new.values ≡ length old.values = ap length w.values ∙ length-set old.values e.lit.var (Some e.lit.positive) in
    let leads = leads_push cs (replicate (length old.values) None) old.entries old.values e t.leads h in
    let moved : Leads cs (replicate (length new.values) None) new.entries new.values = rw (vars, w.entries, w.values) leads in
    let count = trail_count cs old t in
    let one = open_count_with old.values e.lit h.var h.undecided in
    let r = room_push (length old.values) old.entries e (omega arith) in
    let fewer : room (length new.values) new.entries < room (length old.values) old.entries = rw (vars, w.entries) r in
    record { trail = record { leads = moved }; vars = vars; room = fewer }

-- a truth value that is given and taken back
restored : (p : List (Option Bool)) (i : ℕ) (v : Bool) → get_or p i None ≡ None → set (set p i (Some v)) i None ≡ p
restored [] i v h = refl
restored (x ∷ p) zero v h = ap (λ (o : Option Bool). o ∷ p) (sym h)
restored (x ∷ p) (suc i) v h = ap (λ (q : List (Option Bool)). x ∷ q) (restored p i v h)

-- what a pop comes to
pub record Popped (cs : List (List Lit)) (old new : Trail) (e : Entry) : Type 0 where
  pub trail : IsTrail cs new
  pub entry : IsEntry cs new.values e
  pub values : with_lit new.values e.lit ≡ old.values
  pub vars : length new.values ≡ length old.values

pub trail_popped : (cs : List (List Lit)) (old new : Trail) (e : Entry) → IsTrail cs old → old.entries ≡ new.entries ++ e ∷ [] → new.values ≡ set old.values e.lit.var None → Popped cs old new e
trail_popped cs old new e t h v =
    let vars : length new.values ≡ length old.values = ap length v ∙ length-set old.values e.lit.var None in
    let leads : Leads cs (replicate (length old.values) None) (new.entries ++ e ∷ []) old.values = subst (λ (es : List Entry). Leads cs (replicate (length old.values) None) es old.values) h t.leads in
    let r : Last cs (replicate (length old.values) None) new.entries e old.values = leads_pop cs (replicate (length old.values) None) new.entries e old.values leads in
    let same : new.values ≡ r.before = v ∙ ap (λ (q : List (Option Bool)). set q e.lit.var None) (sym r.after) ∙ restored r.before e.lit.var e.lit.positive (open_var r.before e.lit r.entry.undecided) in
    let entry : IsEntry cs new.values e = subst (λ (q : List (Option Bool)). IsEntry cs q e) (sym same) r.entry in
    let values : with_lit new.values e.lit ≡ old.values = ap (λ (q : List (Option Bool)). with_lit q e.lit) same ∙ r.after in
    let moved : Leads cs (replicate (length new.values) None) new.entries new.values = rw (vars, same) r.leads in
    record { trail = record { leads = moved }; entry = entry; values = values; vars = vars }

-- the same, where no more than that is wanted
pub follows_pushed : (cs : List (List Lit)) (old new : Trail) (e : Entry) → IsTrail cs old → IsEntry cs old.values e → Pushed old e new → Follows cs old new
follows_pushed cs old new e t h w = let n = trail_pushed cs old new e t h w in record { trail = n.trail; vars = n.vars; room = omega (arith, n.room) }

-- each time one entry more is propagated
pub propagated_falls : (cs : List (List Lit)) (a b c : Trail) → IsTrail cs a → TakesNext a b → c.propagated ≡ b.propagated → Follows cs b c → length c.values - c.propagated < length a.values - a.propagated
propagated_falls cs a b c t k e f =
    let count = trail_count cs a t in
    let same : length b.values ≡ length a.values = ap length k.values in
    omega (arith, k.within, k.propagated, f.vars)
