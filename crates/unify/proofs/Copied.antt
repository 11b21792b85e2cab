-- Valid terms from their parts, and copies of them.
use Rattle.std.proofs.Common.{◌≡◌, IsTrue, List, map, sym, ap, ◌∙◌}
use Rattle.std.specs.List.{list_all}
use Rattle.data_value.specs.Nodes.{Seen}
use Rattle.sort_term.specs.declared.ids.ConId.{ConId}
use Rattle.sort_term.specs.declared.term.Term.{Term}
use Rattle.sort_term.specs.declared.term.Term.TheVariants.{Con, Plain}
use Rattle.sort_term.specs.NodeTerms.{seen_term, is_valid_term}
use Rattle.sort_term.proofs.NodeTerming.{valid-Plain, valid-Con, seen-Plain, seen-Con}

module _ {N : Type 0} (f : N → Seen N) where
  pub node_valid : (t : Term N) (n : N) → t ≡ Plain n → IsTrue (is_valid_term (seen_term f t)) → IsTrue (f n).valid
  node_valid t n e h = sym (ap (λ u. is_valid_term (seen_term f u)) e ∙ ap is_valid_term (seen-Plain f n) ∙ valid-Plain (f n)) ∙ h

  pub args_valid : (t : Term N) (k : ConId) (ts us : List (Term N)) → t ≡ Con k ts → us ≡ ts → IsTrue (is_valid_term (seen_term f t)) → IsTrue (list_all is_valid_term (map (seen_term f) us))
  args_valid t k ts us e d h =
      ap (λ xs. list_all is_valid_term (map (seen_term f) xs)) d ∙ sym (ap (λ u. is_valid_term (seen_term f u)) e ∙ ap is_valid_term (seen-Con f k ts) ∙ valid-Con k (map (seen_term f) ts)) ∙ h

  pub copied_plain : (t : Term N) (n m : N) → t ≡ Plain n → f m ≡ f n → seen_term f (Plain m) ≡ seen_term f t
  copied_plain t n m e h = seen-Plain f m ∙ ap Plain h ∙ sym (ap (seen_term f) e ∙ seen-Plain f n)

  pub copied_con : (t : Term N) (k : ConId) (ts vs : List (Term N)) → t ≡ Con k ts → map (seen_term f) vs ≡ map (seen_term f) ts → seen_term f (Con k vs) ≡ seen_term f t
  copied_con t k ts vs e h = seen-Con f k vs ∙ ap (Con k) h ∙ sym (ap (seen_term f) e ∙ seen-Con f k ts)
