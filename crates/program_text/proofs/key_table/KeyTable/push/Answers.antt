use Rattle.std.proofs.Common.{◌≡◌, ◌==◌, ap, ◌∙◌, List, ℕ, Bool, false, true, ◌++◌, ◌∷◌, [], refl}
use Rattle.std.specs.List.{list_any}
use Rattle.indexmap.specs.IndexSet.{insert_key}
use Rattle.program_text.proofs.key_table.KeyTable.push.Goals as goal

-- a key that isn't there goes to the end
at_end : (eq : ℕ → ℕ → Bool) (ks : List ℕ) (k : ℕ) → list_any (eq k) ks ≡ false → insert_key eq ks k ≡ ks ++ k ∷ []
at_end eq ks k none = by (list_any (eq k) ks) refl
  where
    by : (b : Bool) → list_any (eq k) ks ≡ b → insert_key eq ks k ≡ ks ++ k ∷ []
    by true e = absurd cc
    by false e = rw e refl

pub returns : goal.returns
returns c = c.in_ok-insert.ensures.keys ∙ at_end (λ a b. a == b) c.self.inside.numbers.keys c.args.key (ap (list_any (λ k. c.args.key == k)) c.self.view_is ∙ c.requires) ∙ ap (λ ks. ks ++ c.args.key ∷ []) c.self.view_is
