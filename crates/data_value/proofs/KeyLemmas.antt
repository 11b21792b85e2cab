-- What `==` finds equal is equal: maps, values and operators.
use Rattle.std.proofs.Common.{◌≡◌, ◌&&◌, ◌==◌, ℕ, true, rules, refl, List, [], ◌∷◌, Decides, sym, ap, ◌∙◌}
use Rattle.std.specs.Cmp.{first_so, second_so}
use Rattle.std.specs.Cmp.Lexicographic.{pointwise}
use Rattle.std.proofs.lemmas.Bool.{eqb-true}
use Rattle.data_value.specs.declared.Op.{Op}
use Rattle.data_value.specs.declared.Op.TheVariants.{Not, And, Or, Ite, Eq, BvNot, Neg, Add, Sub, Mul, Udiv, Urem, BvAnd, BvOr, BvXor, Shl, Lshr, Ashr, Ult, Ule, Slt, Sle, Concat, Extract, Zext, Sext, Get, Put}
use Rattle.data_value.specs.declared.Scalar.{Scalar}
use Rattle.data_value.specs.declared.Value.{Value}
use Rattle.data_value.specs.declared.Value.TheVariants.{One, Map}
use Rattle.data_value.specs.Maps.{Mapping}
use Rattle.data_value.specs.MapKeys.{same_entry, same_mapping, same_mapping_equiv}
use Rattle.data_value.specs.contracts.OpPartialEq.TheImpl as op_eq
use Rattle.data_value.specs.contracts.ScalarPartialEq.TheImpl as scalar_eq
use Rattle.data_value.specs.contracts.ValuePartialEq.TheImpl as value_eq

scalars_agree : (a b : Scalar) → (scalar_eq.ghosts).eq a b ≡ true → a ≡ b
scalars_agree a b h = search rules

entries_agree : (es fs : List (ℕ × ℕ)) → pointwise same_entry es fs ≡ true → es ≡ fs
entries_agree [] [] h = refl
entries_agree [] (f ∷ fs) h = cc
entries_agree (e ∷ es) [] h = cc
entries_agree (e ∷ es) (f ∷ fs) h =
    let here = first_so (same_entry e f) (pointwise same_entry es fs) h in
    let key = eqb-true e.0 f.0 (first_so (e.0 == f.0) (e.1 == f.1) here) in
    let word = eqb-true e.1 f.1 (second_so (e.0 == f.0) (e.1 == f.1) here) in
    let rest = entries_agree es fs (second_so (same_entry e f) (pointwise same_entry es fs) h) in
    λ i. (key i, word i) ∷ rest i

maps_agree : (m n : Mapping) → same_mapping m n ≡ true → m ≡ n
maps_agree m n h =
    let widths = first_so ((m.key_width == n.key_width) && (m.word_width == n.word_width)) (pointwise same_entry m.entries n.entries) h in
    let keys = eqb-true m.key_width n.key_width (first_so (m.key_width == n.key_width) (m.word_width == n.word_width) widths) in
    let words = eqb-true m.word_width n.word_width (second_so (m.key_width == n.key_width) (m.word_width == n.word_width) widths) in
    let entries = entries_agree m.entries n.entries (second_so ((m.key_width == n.key_width) && (m.word_width == n.word_width)) (pointwise same_entry m.entries n.entries) h) in
    λ i. record { key_width = keys i; word_width = words i; entries = entries i }

values_agree : (a b : Value) → (value_eq.ghosts).eq a b ≡ true → a ≡ b
values_agree (One a) (One b) h = ap One (scalars_agree a b h)
values_agree (One a) (Map n) h = cc
values_agree (Map m) (One b) h = cc
values_agree (Map m) (Map n) h = ap Map (maps_agree m n h)

ops_agree : (a b : Op) → (op_eq.ghosts).eq a b ≡ true → a ≡ b
ops_agree Not b h = search rules
ops_agree And b h = search rules
ops_agree Or b h = search rules
ops_agree Ite b h = search rules
ops_agree Eq b h = search rules
ops_agree BvNot b h = search rules
ops_agree Neg b h = search rules
ops_agree Add b h = search rules
ops_agree Sub b h = search rules
ops_agree Mul b h = search rules
ops_agree Udiv b h = search rules
ops_agree Urem b h = search rules
ops_agree BvAnd b h = search rules
ops_agree BvOr b h = search rules
ops_agree BvXor b h = search rules
ops_agree Shl b h = search rules
ops_agree Lshr b h = search rules
ops_agree Ashr b h = search rules
ops_agree Ult b h = search rules
ops_agree Ule b h = search rules
ops_agree Slt b h = search rules
ops_agree Sle b h = search rules
ops_agree Concat b h = search rules
ops_agree (Extract hi lo) b h = search rules
ops_agree (Zext n) b h = search rules
ops_agree (Sext n) b h = search rules
ops_agree Get b h = search rules
ops_agree Put b h = search rules

-- a value, and an operator, is found equal to itself
scalar_is_itself : (a : Scalar) → (scalar_eq.ghosts).eq a a ≡ true
scalar_is_itself a = search rules

value_is_itself : (a : Value) → (value_eq.ghosts).eq a a ≡ true
value_is_itself (One a) = scalar_is_itself a
value_is_itself (Map m) = same_mapping_equiv.refl m

op_is_itself : (a : Op) → (op_eq.ghosts).eq a a ≡ true
op_is_itself Not = search rules
op_is_itself And = search rules
op_is_itself Or = search rules
op_is_itself Ite = search rules
op_is_itself Eq = search rules
op_is_itself BvNot = search rules
op_is_itself Neg = search rules
op_is_itself Add = search rules
op_is_itself Sub = search rules
op_is_itself Mul = search rules
op_is_itself Udiv = search rules
op_is_itself Urem = search rules
op_is_itself BvAnd = search rules
op_is_itself BvOr = search rules
op_is_itself BvXor = search rules
op_is_itself Shl = search rules
op_is_itself Lshr = search rules
op_is_itself Ashr = search rules
op_is_itself Ult = search rules
op_is_itself Ule = search rules
op_is_itself Slt = search rules
op_is_itself Sle = search rules
op_is_itself Concat = search rules
op_is_itself (Extract hi lo) = search rules
op_is_itself (Zext n) = search rules
op_is_itself (Sext n) = search rules
op_is_itself Get = search rules
op_is_itself Put = search rules

pub decides_mapping_eq : (m n : Mapping) → Decides (same_mapping m n) (m ≡ n)
decides_mapping_eq m n = (maps_agree m n, λ e. ap (same_mapping m) (sym e) ∙ same_mapping_equiv.refl m)

pub decides_value_eq : (a b : Value) → Decides ((value_eq.ghosts).eq a b) (a ≡ b)
decides_value_eq a b = (values_agree a b, λ e. ap ((value_eq.ghosts).eq a) (sym e) ∙ value_is_itself a)

pub decides_op_eq : (a b : Op) → Decides ((op_eq.ghosts).eq a b) (a ≡ b)
decides_op_eq a b = (ops_agree a b, λ e. ap ((op_eq.ghosts).eq a) (sym e) ∙ op_is_itself a)
