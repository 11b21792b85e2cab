-- A domain that grows in two calls grows, and keeps lists of nodes.
use Rattle.std.proofs.Common.{◌≡◌, IsTrue, List, [], ◌∷◌, map, refl, sym, ap, ◌∙◌, subst}
use Rattle.std.proofs.lemmas.List.Elements.{All-nil, All-cons, All-head, All-tail}
use Rattle.data_value.specs.Nodes.{Seen, Extends, AllValid}

pub extends-same : {N : Type 0} (f : N → Seen N) → Extends f f
extends-same f = record { keeps = λ n h. refl }

pub extends-both : {N : Type 0} (f g h : N → Seen N) → Extends f g → Extends g h → Extends f h
extends-both f g h p q = record {
  keeps = λ n v. q.keeps n (subst (λ s. IsTrue s.valid) (sym (p.keeps n v)) v) ∙ p.keeps n v;
}

module _ {N : Type 0} (f g : N → Seen N) (x : Extends f g) where
  -- valid nodes are seen as the same
  pub nodes-kept : (ns : List N) → AllValid f ns → map g ns ≡ map f ns
  nodes-kept [] v = refl
  nodes-kept (n ∷ ns) v =
      ap (λ s. s ∷ map g ns) (x.keeps n (All-head (λ m. IsTrue (f m).valid) n ns v)) ∙ ap (λ ss. f n ∷ ss) (nodes-kept ns (All-tail (λ m. IsTrue (f m).valid) n ns v))

  pub valid-kept : (ns : List N) → AllValid f ns → AllValid g ns
  valid-kept [] v = All-nil (λ m. IsTrue (g m).valid)
  valid-kept (n ∷ ns) v =
      let here = All-head (λ m. IsTrue (f m).valid) n ns v in
      All-cons (λ m. IsTrue (g m).valid) n ns (subst (λ s. IsTrue s.valid) (sym (x.keeps n here)) here) (valid-kept ns (All-tail (λ m. IsTrue (f m).valid) n ns v))
