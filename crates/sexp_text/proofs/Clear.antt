-- That nothing is wrong before a place, from one place to the next.
use Rattle.std.proofs.Common.{◌≡◌, ◌≢◌, ◌≤◌, ◌<◌, ◌+◌, ◌-◌, ℕ, zero, suc, List, Bool, true, false, cond, not, ◌&&◌, ◌||◌, ◌==◌, length, slice_index, refl, sym, ◌∙◌, ap, subst, inl, inr, arith, add-one}
use Rattle.std.proofs.lemmas.Bool.{cases_lt}
use Rattle.sexp_text.specs.Places.{commented, is_atom_at, IsRun, Stands}
use Rattle.sexp_text.specs.Bytes.{is_blank, is_atom_byte, is_known}
use Rattle.sexp_text.specs.Faults.{HasFault, order_of, count_before, is_open, is_close, nesting, is_atom_before, IsAtom, IsFirstFault, IsFaultless, IsReadError}
use Rattle.sexp_text.specs.Clear.{IsClear, IsValid, IsInvalid}
use Rattle.sexp_text.specs.declared.fault.TextFault.{TextFault}
use Rattle.sexp_text.specs.declared.fault.TextFault.TheVariants.{TooLong, NotAscii, BadChar, Unopened, Deep, BadNumber, LongName, Unclosed}
use Rattle.sexp_text.specs.declared.fault.ReadError.{ReadError}
use Rattle.sexp_text.specs.declared.fault.ReadError.TheVariants.{Text, NoMemory}
use Rattle.sexp_text.proofs.Truth.{and_left, and_false, and_first_false, differs}
use Rattle.sexp_text.proofs.ByteClasses.{blank_not_atom, atom_ascii, atom_known}

pub count-step : (test : ℕ → Bool) (k : ℕ) → count_before test (k + 1) ≡ count_before test k + cond (test k) 1 0
unfolding count_before
count-step test k = rw add-one refl

pub count_zero : (test : ℕ → Bool) → count_before test 0 ≡ 0
unfolding count_before
count_zero test = refl

pub before-step : (bytes : List ℕ) (k : ℕ) → is_atom_before bytes (k + 1) ≡ is_atom_at bytes k
unfolding is_atom_before
before-step bytes k = rw add-one refl

pub before-zero : (bytes : List ℕ) → is_atom_before bytes 0 ≡ false
unfolding is_atom_before
before-zero bytes = refl

-- nothing is wrong at a place
pub record IsFine (bytes : List ℕ) (at : ℕ) : Type 0 where
  pub within : at < length bytes
  pub ascii : slice_index bytes at < 128
  pub known : commented bytes at ≡ false → is_known (slice_index bytes at) ≡ true
  pub closes : Stands bytes at 41 → nesting bytes at ≢ 0
  pub opens : Stands bytes at 40 → nesting bytes at ≢ 64
  pub atom : (e : ℕ) → IsAtom bytes at e → IsValid bytes at e

at_place : (bytes : List ℕ) (at : ℕ) → IsFine bytes at → (fault : TextFault) → order_of fault ≡ at + 1 → HasFault bytes fault → ⊥
at_place bytes at f (TooLong k) e h = omega arith
at_place bytes at f (NotAscii k) e h = let s : k ≡ at = omega arith in let wrong = subst (λ n. HasFault bytes (NotAscii n)) s h in omega (arith, wrong.1, f.ascii)
at_place bytes at f (BadChar k) e h = let s : k ≡ at = omega arith in let wrong = subst (λ n. HasFault bytes (BadChar n)) s h in let fine = f.known wrong.2 in let bad = wrong.3 in cc
at_place bytes at f (Unopened k) e h = let s : k ≡ at = omega arith in let wrong = subst (λ n. HasFault bytes (Unopened n)) s h in f.closes wrong.0 wrong.1
at_place bytes at f (Deep k) e h = let s : k ≡ at = omega arith in let wrong = subst (λ n. HasFault bytes (Deep n)) s h in f.opens wrong.0 wrong.1
at_place bytes at f (BadNumber k) e h = let s : k ≡ at = omega arith in let wrong = subst (λ n. HasFault bytes (BadNumber n)) s h in (f.atom wrong.0 wrong.1).number wrong.2 wrong.3
at_place bytes at f (LongName k) e h = let s : k ≡ at = omega arith in let wrong = subst (λ n. HasFault bytes (LongName n)) s h in let short = (f.atom wrong.0 wrong.1).word wrong.2 in omega (arith, short, wrong.3)
at_place bytes at f (Unclosed k) e h = omega (arith, f.within, h.0)

pub faultless_more : (bytes : List ℕ) (at : ℕ) → ((fault : TextFault) → order_of fault ≤ at → HasFault bytes fault → ⊥) → IsFine bytes at → (fault : TextFault) → order_of fault ≤ at + 1 → HasFault bytes fault → ⊥
faultless_more bytes at before fine fault le has =
    elim (cases_lt at (order_of fault)) [ inl more ↦ at_place bytes at fine fault (omega arith) has | inr less ↦ before fault less has ]

-- a place that is no atom byte outside comments
pub not_atom_byte : (bytes : List ℕ) (k : ℕ) → is_atom_byte (slice_index bytes k) ≡ false → is_atom_at bytes k ≡ false
not_atom_byte bytes k h = ap (λ t. t && not (commented bytes k)) h

pub not_in_comment : (bytes : List ℕ) (k : ℕ) (test : Bool) → commented bytes k ≡ true → (test && not (commented bytes k)) ≡ false
not_in_comment bytes k test h = and_false test _ (ap not h)

no_atom : (bytes : List ℕ) (k : ℕ) → is_atom_at bytes k ≡ false → (e : ℕ) → IsAtom bytes k e → IsValid bytes k e
no_atom bytes k h e a = let is : is_atom_at bytes k ≡ true = a.run.all k (omega arith) a.run.some in cc

pub fine_comment : (bytes : List ℕ) (k : ℕ) → k < length bytes → slice_index bytes k < 128 → commented bytes k ≡ true → IsFine bytes k
fine_comment bytes k within ascii h =
    record {
      within = within;
      ascii = ascii;
      known = λ o. cc;
      closes = λ s n. let o = s.outside in cc;
      opens = λ s n. let o = s.outside in cc;
      atom = no_atom bytes k (not_in_comment bytes k (is_atom_byte (slice_index bytes k)) h);
    }

-- a byte that is no atom byte, at which the lists are in order
pub fine_byte : (bytes : List ℕ) (k : ℕ) → k < length bytes → slice_index bytes k < 128 → is_known (slice_index bytes k) ≡ true → is_atom_byte (slice_index bytes k) ≡ false → (slice_index bytes k ≡ 41 → nesting bytes k ≢ 0) → (slice_index bytes k ≡ 40 → nesting bytes k ≢ 64) → IsFine bytes k
fine_byte bytes k within ascii known plain closes opens =
    record {
      within = within;
      ascii = ascii;
      known = λ o. known;
      closes = λ s. closes s.is;
      opens = λ s. opens s.is;
      atom = no_atom bytes k (not_atom_byte bytes k plain);
    }

pub fine_blank : (bytes : List ℕ) (k : ℕ) → k < length bytes → slice_index bytes k < 128 → is_blank (slice_index bytes k) ≡ true → IsFine bytes k
fine_blank bytes k within ascii h =
    fine_byte bytes k within ascii
    (ap (λ t. t || (is_atom_byte (slice_index bytes k) || (slice_index bytes k == 40 || (slice_index bytes k == 41 || slice_index bytes k == 59)))) h)
    (blank_not_atom (slice_index bytes k) h)
    (λ e n. let other : is_blank (slice_index bytes k) ≡ false = ap is_blank e in cc)
    (λ e n. let other : is_blank (slice_index bytes k) ≡ false = ap is_blank e in cc)

-- a place that is no atom byte: so many lists are open behind it
pub clear_step : (bytes : List ℕ) (depth new k : ℕ) → IsClear bytes depth k → IsFine bytes k → is_atom_at bytes k ≡ false → new + cond (is_close bytes k) 1 0 ≡ depth + cond (is_open bytes k) 1 0 → IsClear bytes new (k + 1)
clear_step bytes depth new k c fine plain lists =
    record {
      faultless = faultless_more bytes k c.faultless fine;
      lists = omega (arith, lists, c.lists, count-step (is_open bytes) k, count-step (is_close bytes) k);
      edge = ap (λ b. b && is_atom_at bytes (k + 1)) (before-step bytes k ∙ plain);
    }

pub run_unique : (bytes : List ℕ) (s e f : ℕ) → IsRun bytes s e → IsRun bytes s f → e ≡ f
run_unique bytes s e f r q =
    elim (cases_lt e f) [
      | inl less ↦ (let here : is_atom_at bytes e ≡ true = q.all e (omega (arith, r.some)) less in let not_here = r.behind in cc)
      | inr more ↦ elim (cases_lt f e) [
        | inl less ↦ (let here : is_atom_at bytes f ≡ true = r.all f (omega (arith, q.some)) less in let not_here = q.behind in cc)
        | inr same ↦ omega arith
      ]
    ]

-- a byte of an atom
fine_atom_byte : (bytes : List ℕ) (k : ℕ) → k < length bytes → is_atom_at bytes k ≡ true → ((e : ℕ) → IsAtom bytes k e → IsValid bytes k e) → IsFine bytes k
fine_atom_byte bytes k within h valid =
    let atom : is_atom_byte (slice_index bytes k) ≡ true = and_left _ _ h in
    record {
      within = within;
      ascii = atom_ascii (slice_index bytes k) atom;
      known = λ o. atom_known (slice_index bytes k) atom;
      closes = λ s n. let other : is_atom_byte (slice_index bytes k) ≡ false = ap is_atom_byte s.is in cc;
      opens = λ s n. let other : is_atom_byte (slice_index bytes k) ≡ false = ap is_atom_byte s.is in cc;
      atom = valid;
    }

count_none : (test : ℕ → Bool) (s n : ℕ) → ((k : ℕ) → s ≤ k → k < s + n → test k ≡ false) → count_before test (s + n) ≡ count_before test s
count_none test s zero h = ap (count_before test) (omega arith)
count_none test s (suc n) h =
    let more : s + suc n ≡ s + n + 1 = omega arith in
    let rest = count_none test s n (λ k low high. h k low (omega arith)) in
    let last : test (s + n) ≡ false = h (s + n) (omega arith) (omega arith) in
    ap (count_before test) more ∙ omega (arith, count-step test (s + n), ap {B = ℕ} (λ b. cond b 1 0) last, rest)

-- an atom byte is no parenthesis
not_paren : (bytes : List ℕ) (c k : ℕ) → is_atom_byte c ≡ false → is_atom_at bytes k ≡ true → ((slice_index bytes k == c) && not (commented bytes k)) ≡ false
not_paren bytes c k f h = ap (λ t. t && not (commented bytes k)) (differs is_atom_byte (slice_index bytes k) c (and_left _ _ h) f)

module _ (bytes : List ℕ) (depth s e : ℕ) (clear : IsClear bytes depth s) (run : IsRun bytes s e) where
  here : is_atom_at bytes s ≡ true
  here = run.all s (omega arith) run.some

  -- at a clear place a run is an atom
  pub is_atom : IsAtom bytes s e
  is_atom = record { fresh = and_first_false _ _ clear.edge here; run = run }

  faultless_first : IsValid bytes s e → (fault : TextFault) → order_of fault ≤ s + 1 → HasFault bytes fault → ⊥
  faultless_first valid =
      faultless_more bytes s clear.faultless (fine_atom_byte bytes s (omega (arith, run.some, run.within)) here (λ f a. subst (λ n. IsValid bytes s n) (run_unique bytes s e f run a.run) valid))

  -- inside a run no atom begins
  not_fresh : (n : ℕ) → s + n < e → (f : ℕ) → IsAtom bytes (s + n + 1) f → IsValid bytes (s + n + 1) f
  not_fresh n low f a = let inside : is_atom_before bytes (s + n + 1) ≡ true = before-step bytes (s + n) ∙ run.all (s + n) (omega arith) low in let fresh = a.fresh in cc

  faultless_inside : IsValid bytes s e → (n : ℕ) → s + n < e → (fault : TextFault) → order_of fault ≤ s + n + 1 → HasFault bytes fault → ⊥
  faultless_inside valid zero low fault le has = faultless_first valid fault (omega arith) has
  faultless_inside valid (suc n) low fault le has =
      faultless_more bytes (s + n + 1) (faultless_inside valid n (omega arith)) (fine_atom_byte bytes (s + n + 1) (omega (arith, run.within)) (run.all (s + n + 1) (omega arith) (omega arith)) (not_fresh n (omega arith))) fault (omega arith) has

  count_same : (c : ℕ) → is_atom_byte c ≡ false → count_before (λ k. (slice_index bytes k == c) && not (commented bytes k)) e ≡ count_before (λ k. (slice_index bytes k == c) && not (commented bytes k)) s
  count_same c f =
      let test = λ (k : ℕ). (slice_index bytes k == c) && not (commented bytes k) in
      let end : e ≡ s + (e - s) = omega (arith, run.some) in
      ap (count_before test) end ∙ count_none test s (e - s) (λ k low high. not_paren bytes c k f (run.all k low (omega (arith, run.some))))

  -- nothing is wrong behind a valid atom
  pub clear_run : IsValid bytes s e → IsClear bytes depth e
  clear_run valid =
      record {
        faultless = λ fault le has. faultless_inside valid (e - s - 1) (omega (arith, run.some)) fault (omega (arith, run.some)) has;
        lists = omega (arith, clear.lists, count_same 40 refl, count_same 41 refl);
        edge = and_false _ _ run.behind;
      }

-- a fault at a place up to which nothing is wrong is the first
pub first_fault : (bytes : List ℕ) (k : ℕ) → ((fault : TextFault) → order_of fault ≤ k → HasFault bytes fault → ⊥) → (fault : TextFault) → order_of fault ≡ k + 1 → HasFault bytes fault → IsFirstFault bytes fault
first_fault bytes k faultless fault order has =
    record {
      has = has;
      first = λ other h. elim (cases_lt k (order_of other)) [ inl more ↦ omega arith | inr less ↦ absurd (faultless other less h) ];
    }

pub too_long : (bytes : List ℕ) → 1048576 < length bytes → IsFirstFault bytes (TooLong 1048576)
too_long bytes h = record { has = (refl, h); first = λ other g. omega arith }

pub invalid : (bytes : List ℕ) (depth s e : ℕ) → IsClear bytes depth s → IsRun bytes s e → (error : ReadError) → IsInvalid bytes s e error → IsReadError bytes error
invalid bytes depth s e c r (Text (TooLong k)) h = absurd h
invalid bytes depth s e c r (Text (NotAscii k)) h = absurd h
invalid bytes depth s e c r (Text (BadChar k)) h = absurd h
invalid bytes depth s e c r (Text (Unopened k)) h = absurd h
invalid bytes depth s e c r (Text (Deep k)) h = absurd h
invalid bytes depth s e c r (Text (BadNumber k)) h = first_fault bytes s c.faultless (BadNumber k) (ap (λ n. n + 1) h.0) (subst (λ n. HasFault bytes (BadNumber n)) (sym h.0) (e, is_atom bytes depth s e c r, h.1, h.2))
invalid bytes depth s e c r (Text (LongName k)) h = first_fault bytes s c.faultless (LongName k) (ap (λ n. n + 1) h.0) (subst (λ n. HasFault bytes (LongName n)) (sym h.0) (e, is_atom bytes depth s e c r, h.1, h.2))
invalid bytes depth s e c r (Text (Unclosed k)) h = absurd h
invalid bytes depth s e c r NoMemory h = h

faultless_zero : (bytes : List ℕ) → length bytes ≤ 1048576 → (fault : TextFault) → order_of fault ≤ 0 → HasFault bytes fault → ⊥
faultless_zero bytes short (TooLong k) le h = omega (arith, h.1)
faultless_zero bytes short (NotAscii k) le h = omega arith
faultless_zero bytes short (BadChar k) le h = omega arith
faultless_zero bytes short (Unopened k) le h = omega arith
faultless_zero bytes short (Deep k) le h = omega arith
faultless_zero bytes short (BadNumber k) le h = omega arith
faultless_zero bytes short (LongName k) le h = omega arith
faultless_zero bytes short (Unclosed k) le h = omega arith

pub clear_zero : (bytes : List ℕ) → length bytes ≤ 1048576 → IsClear bytes 0 0
clear_zero bytes short =
    record {
      faultless = faultless_zero bytes short;
      lists = omega (arith, count_zero (is_open bytes), count_zero (is_close bytes));
      edge = ap (λ b. b && is_atom_at bytes 0) (before-zero bytes);
    }

-- at the end with no open list nothing is wrong
pub faultless_end : (bytes : List ℕ) → IsClear bytes 0 (length bytes) → IsFaultless bytes
faultless_end bytes c (TooLong k) h = c.faultless (TooLong k) (omega arith) h
faultless_end bytes c (NotAscii k) h = c.faultless (NotAscii k) (omega (arith, h.0)) h
faultless_end bytes c (BadChar k) h = c.faultless (BadChar k) (omega (arith, h.0)) h
faultless_end bytes c (Unopened k) h = c.faultless (Unopened k) (omega (arith, h.0.within)) h
faultless_end bytes c (Deep k) h = c.faultless (Deep k) (omega (arith, h.0.within)) h
faultless_end bytes c (BadNumber k) h = c.faultless (BadNumber k) (omega (arith, h.1.run.some, h.1.run.within)) h
faultless_end bytes c (LongName k) h = c.faultless (LongName k) (omega (arith, h.1.run.some, h.1.run.within)) h
faultless_end bytes c (Unclosed k) h = let open_lists = subst (λ n. 0 < nesting bytes n) h.0 h.1 in omega (arith, open_lists, c.lists)

pub nesting_is : (bytes : List ℕ) (depth k : ℕ) → IsClear bytes depth k → nesting bytes k ≡ depth
nesting_is bytes depth k c = omega (arith, c.lists)

pub open_is : (bytes : List ℕ) (k : ℕ) → slice_index bytes k ≡ 40 → commented bytes k ≡ false → is_open bytes k ≡ true
open_is bytes k h f = ap (λ n. (n == 40) && not (commented bytes k)) h ∙ ap not f

pub close_is : (bytes : List ℕ) (k : ℕ) → slice_index bytes k ≡ 41 → commented bytes k ≡ false → is_close bytes k ≡ true
close_is bytes k h f = ap (λ n. (n == 41) && not (commented bytes k)) h ∙ ap not f

-- a place whose byte is another one
pub other_byte : (bytes : List ℕ) (c b k : ℕ) → slice_index bytes k ≡ b → (b == c) ≡ false → ((slice_index bytes k == c) && not (commented bytes k)) ≡ false
other_byte bytes c b k h f = ap (λ n. (n == c) && not (commented bytes k)) h ∙ ap (λ t. t && not (commented bytes k)) f

flat : (depth : ℕ) (close open_ : Bool) → close ≡ false → open_ ≡ false → depth + cond close 1 0 ≡ depth + cond open_ 1 0
flat depth close open_ p q = ap {B = ℕ} (λ t. depth + cond t 1 0) (p ∙ sym q)

up : (depth : ℕ) (close open_ : Bool) → close ≡ false → open_ ≡ true → depth + 1 + cond close 1 0 ≡ depth + cond open_ 1 0
up depth close open_ p q = omega (arith, ap {B = ℕ} (λ t. cond t 1 0) p, ap {B = ℕ} (λ t. cond t 1 0) q)

down : (depth : ℕ) (close open_ : Bool) → close ≡ true → open_ ≡ false → depth + cond close 1 0 ≡ depth + 1 + cond open_ 1 0
down depth close open_ p q = omega (arith, ap {B = ℕ} (λ t. cond t 1 0) p, ap {B = ℕ} (λ t. cond t 1 0) q)

-- ---- what each kind of place leaves

pub clear_comment : (bytes : List ℕ) (depth k : ℕ) → IsClear bytes depth k → k < length bytes → slice_index bytes k < 128 → commented bytes k ≡ true → IsClear bytes depth (k + 1)
clear_comment bytes depth k c within ascii h =
    clear_step bytes depth depth k c (fine_comment bytes k within ascii h) (not_in_comment bytes k (is_atom_byte (slice_index bytes k)) h)
    (flat depth (is_close bytes k) (is_open bytes k) (not_in_comment bytes k (slice_index bytes k == 41) h) (not_in_comment bytes k (slice_index bytes k == 40) h))

pub clear_semicolon : (bytes : List ℕ) (depth k : ℕ) → IsClear bytes depth k → k < length bytes → slice_index bytes k ≡ 59 → IsClear bytes depth (k + 1)
clear_semicolon bytes depth k c within h =
    clear_step bytes depth depth k c
    (fine_byte bytes k within (omega arith) (ap is_known h) (ap is_atom_byte h) (λ e. absurd (omega arith)) (λ e. absurd (omega arith)))
    (not_atom_byte bytes k (ap is_atom_byte h))
    (flat depth (is_close bytes k) (is_open bytes k) (other_byte bytes 41 59 k h refl) (other_byte bytes 40 59 k h refl))

pub clear_blank : (bytes : List ℕ) (depth k : ℕ) → IsClear bytes depth k → k < length bytes → slice_index bytes k < 128 → is_blank (slice_index bytes k) ≡ true → IsClear bytes depth (k + 1)
clear_blank bytes depth k c within ascii h =
    clear_step bytes depth depth k c (fine_blank bytes k within ascii h) (not_atom_byte bytes k (blank_not_atom (slice_index bytes k) h))
    (flat depth (is_close bytes k) (is_open bytes k)
    (ap (λ t. t && not (commented bytes k)) (differs is_blank (slice_index bytes k) 41 h refl))
    (ap (λ t. t && not (commented bytes k)) (differs is_blank (slice_index bytes k) 40 h refl)))

pub clear_open : (bytes : List ℕ) (depth k : ℕ) → IsClear bytes depth k → Stands bytes k 40 → depth ≢ 64 → IsClear bytes (depth + 1) (k + 1)
clear_open bytes depth k c s room =
    let nest = nesting_is bytes depth k c in
    let is = s.is in
    clear_step bytes depth (depth + 1) k c
    (fine_byte bytes k s.within (omega arith) (ap is_known s.is) (ap is_atom_byte s.is) (λ e. absurd (omega arith)) (λ e n. room (sym nest ∙ n)))
    (not_atom_byte bytes k (ap is_atom_byte s.is))
    (up depth (is_close bytes k) (is_open bytes k) (other_byte bytes 41 40 k s.is refl) (open_is bytes k s.is s.outside))

pub clear_close : (bytes : List ℕ) (depth k : ℕ) → IsClear bytes (depth + 1) k → Stands bytes k 41 → IsClear bytes depth (k + 1)
clear_close bytes depth k c s =
    let nest = nesting_is bytes (depth + 1) k c in
    let is = s.is in
    clear_step bytes (depth + 1) depth k c
    (fine_byte bytes k s.within (omega arith) (ap is_known s.is) (ap is_atom_byte s.is) (λ e n. absurd (omega arith)) (λ e. absurd (omega arith)))
    (not_atom_byte bytes k (ap is_atom_byte s.is))
    (down depth (is_close bytes k) (is_open bytes k) (close_is bytes k s.is s.outside) (other_byte bytes 40 41 k s.is refl))
