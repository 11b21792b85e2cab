-- What was read so far, from one place to the next.
use Rattle.std.proofs.Common.{◌≡◌, ℕ, ◌+◌, List, [], ◌∷◌, ◌++◌, arith, subst, inl, inr, length, length-append}
use Rattle.std.proofs.lemmas.Bool.{cases_lt}
use Rattle.std.proofs.lemmas.List.{append-nil}
use Rattle.sexp_text.specs.Places.{IsGap, Stands}
use Rattle.sexp_text.specs.Forms.{list_form}
use Rattle.sexp_text.specs.Spells.{Spells, none, word, number, list}
use Rattle.sexp_text.specs.Open.{IsReadFrom}
use Rattle.sexp_text.specs.declared.form.Form.{Form}
use Rattle.sexp_text.specs.declared.tree.Open.{Open}

module _ (bytes : List ℕ) where
  pub no_gap : (i : ℕ) → IsGap bytes i i
  no_gap i = record { order = omega arith; all = λ k low high. absurd (omega arith); ascii = λ k low high. absurd (omega arith) }

  gap_join : (i j k : ℕ) → IsGap bytes i j → IsGap bytes j k → IsGap bytes i k
  gap_join i j k g h =
      record {
        order = omega (arith, g.order, h.order);
        all = λ n low high. elim (cases_lt n j) [ inl less ↦ g.all n low less | inr more ↦ h.all n more high ];
        ascii = λ n low high. elim (cases_lt n j) [ inl less ↦ g.ascii n low less | inr more ↦ h.ascii n more high ];
      }

  pub gap_front : (fs : List Form) (i s e : ℕ) → IsGap bytes i s → Spells bytes fs s e → Spells bytes fs i e
  gap_front fs i s e g (none h) = none (gap_join _ _ _ g h)
  gap_front fs i s e g (word h w r) = word (gap_join _ _ _ g h) w r
  gap_front fs i s e g (number h w r) = number (gap_join _ _ _ g h) w r
  gap_front fs i s e g (list h o inner c r) = list (gap_join _ _ _ g h) o inner c r

  -- forms behind forms
  pub append : (fs gs : List Form) (i s e : ℕ) → Spells bytes fs i s → Spells bytes gs s e → Spells bytes (fs ++ gs) i e
  append fs gs i s e (none g) h = gap_front gs i s e g h
  append fs gs i s e (word g w r) h = word g w (append _ gs _ s e r h)
  append fs gs i s e (number g w r) h = number g w (append _ gs _ s e r h)
  append fs gs i s e (list g o inner c r) h = list g o inner c (append _ gs _ s e r h)

  pub read_more : (os : List Open) (i : ℕ) (fs gs : List Form) (s e : ℕ) → IsReadFrom bytes i os fs s → Spells bytes gs s e → IsReadFrom bytes i os (fs ++ gs) e
  read_more [] i fs gs s e r h = append fs gs i s e r h
  read_more (o ∷ os) i fs gs s e r h = (r.0, r.1, read_more os (o.start + 1) fs gs s e r.2 h)

  pub read_gap : (os : List Open) (i : ℕ) (fs : List Form) (s e : ℕ) → IsReadFrom bytes i os fs s → IsGap bytes s e → IsReadFrom bytes i os fs e
  read_gap os i fs s e r g = subst (λ gs. IsReadFrom bytes i os gs e) (append-nil fs) (read_more os i fs [] s e r (none g))

  pub read_begin : (os : List Open) (i : ℕ) (fs : List Form) (s : ℕ) → IsReadFrom bytes i os fs s → Stands bytes s 40 → IsReadFrom bytes i (os ++ record { start = s; before = fs } ∷ []) [] (s + 1)
  read_begin [] i fs s r o = (r, o, none (no_gap (s + 1)))
  read_begin (x ∷ os) i fs s r o = (r.0, r.1, read_begin os (x.start + 1) fs s r.2 o)

  pub read_finish : (os : List Open) (last : Open) (i : ℕ) (fs : List Form) (s : ℕ) → IsReadFrom bytes i (os ++ last ∷ []) fs s → Stands bytes s 41 → IsReadFrom bytes i os (last.before ++ list_form fs last.start (s + 1) ∷ []) (s + 1)
  read_finish [] last i fs s r c = append last.before _ i last.start (s + 1) r.0 (list (no_gap last.start) r.1 r.2 c (none (no_gap (s + 1))))
  read_finish (x ∷ os) last i fs s r c = (r.0, r.1, read_finish os last (x.start + 1) fs s r.2 c)

pub length_snoc : (os : List Open) (o : Open) → length (os ++ o ∷ []) ≡ length os + 1
length_snoc os o = omega (arith, length-append os (o ∷ []))
