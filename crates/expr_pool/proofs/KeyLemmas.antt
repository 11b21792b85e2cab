-- What it means that two keys are equal.
use Rattle.std.proofs.Common.{◌≡◌, ℕ, Bool, true, ◌&&◌, List, [], ◌∷◌, rules, refl, ap, sym, ◌∙◌}
use Rattle.std.specs.Prelude.{nat_eq}
use Rattle.std.specs.Cmp.{first_so, second_so}
use Rattle.std.specs.Cmp.Lexicographic.{pointwise}
use Rattle.std.proofs.lemmas.Bool.{eqb-true}
use Rattle.data_value.specs.Nodes.{Shown}
use Rattle.data_value.specs.Nodes as shown
use Rattle.data_value.specs.contracts.OpPartialEq.TheImpl as op_eq
use Rattle.data_value.specs.contracts.DataSortPartialEq.TheImpl as sort_eq
use Rattle.data_value.proofs.KeyLemmas.{decides_value_eq, decides_op_eq}
use Rattle.expr_pool.specs.declared.key.Key.{Key}
use Rattle.expr_pool.specs.declared.key.Key.TheVariants.{Variable, Constant, Apply}
use Rattle.expr_pool.specs.Keys.{key_shown, key_sort}
use Rattle.expr_pool.specs.contracts.key.KeyPartialEq.TheImpl as key_eq
use Rattle.expr_pool.specs.contracts.key.KeyEq.TheImpl.Laws as key_laws

abbrev pub same_key : Key → Key → Bool
same_key = (key_eq.ghosts).eq

numbers_agree : (ms ns : List ℕ) → pointwise nat_eq ms ns ≡ true → ms ≡ ns
numbers_agree [] [] h = refl
numbers_agree [] (n ∷ ns) h = cc
numbers_agree (m ∷ ms) [] h = cc
numbers_agree (m ∷ ms) (n ∷ ns) h =
    let here = eqb-true m n (first_so (nat_eq m n) (pointwise nat_eq ms ns) h) in
    let rest = numbers_agree ms ns (second_so (nat_eq m n) (pointwise nat_eq ms ns) h) in
    λ i. here i ∷ rest i

-- keys that are equal show the same
pub keys_agree : (a b : Key) → same_key a b ≡ true → key_shown a ≡ key_shown b
keys_agree (Variable i s) (Variable j t) h = search rules
keys_agree (Constant x) (Constant y) h = ap shown.Constant ((decides_value_eq x y).0 h)
keys_agree (Apply op s ns) (Apply o t ms) h =
    let rest = (sort_eq.ghosts).eq s t && pointwise nat_eq ns.items ms.items in
    let ops = (decides_op_eq op o).0 (first_so ((op_eq.ghosts).eq op o) rest h) in
    let args = numbers_agree ns.items ms.items (second_so ((sort_eq.ghosts).eq s t) (pointwise nat_eq ns.items ms.items) (second_so ((op_eq.ghosts).eq op o) rest h)) in
    λ i. shown.Apply (ops i) (args i)
keys_agree _ _ h = cc

keys_refl : (a : Key) → same_key a a ≡ true
keys_refl a = key_laws.laws-law.refl a

-- keys of one sort that show the same are equal
pub keys_same : (a b : Key) → key_shown a ≡ key_shown b → key_sort a ≡ key_sort b → same_key a b ≡ true
keys_same (Variable i s) (Variable j t) e d = let p : i ≡ j = cc in let q : Variable i s ≡ Variable j t = λ k. Variable (p k) (d k) in ap (same_key (Variable i s)) (sym q) ∙ keys_refl (Variable i s)
keys_same (Constant x) (Constant y) e d = let p : x ≡ y = cc in ap (λ z. same_key (Constant x) (Constant z)) (sym p) ∙ keys_refl (Constant x)
keys_same (Apply op s ns) (Apply o t ms) e d =
    let ops : op ≡ o = cc in
    let args : ns.items ≡ ms.items = cc in
    ap (λ x. (op_eq.ghosts).eq op x && ((sort_eq.ghosts).eq s t && pointwise nat_eq ns.items ms.items)) (sym ops)
    ∙ ap (λ x. (op_eq.ghosts).eq op op && ((sort_eq.ghosts).eq s x && pointwise nat_eq ns.items ms.items)) (sym d)
    ∙ ap (λ x. (op_eq.ghosts).eq op op && ((sort_eq.ghosts).eq s s && pointwise nat_eq ns.items x)) (sym args)
    ∙ keys_refl (Apply op s ns)
keys_same _ _ e d = absurd (cc)
