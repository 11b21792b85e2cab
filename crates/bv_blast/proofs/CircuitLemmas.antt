-- Clauses that say what a formula says.
use Rattle.std.proofs.Common.{ℕ, ◌≡◌, ◌<◌, Bool, true, false, ◌&&◌, ◌||◌, List, [], ◌∷◌, ◌++◌, length, get_or, Some, slice_get, refl, ap, ◌∙◌, sym, subst}
use Rattle.std.specs.Option.{option_map}
use Rattle.std.proofs.lemmas.List.{length-map, get_or-map}
use Rattle.std.proofs.lemmas.Option.{slice_get-map}
use Rattle.refute_check.specs.declared.lit.Lit.{Lit}
use Rattle.refute_check.specs.Truth.{lit_true, clause_true, all_true}
use Rattle.data_value.specs.declared.Scalar.{Scalar}
use Rattle.data_value.specs.declared.Scalar.TheVariants.{Flag as FlagValue}
use Rattle.data_value.specs.declared.flat_formula.Flat.{Flat}
use Rattle.data_value.specs.declared.flat_formula.FlatNode.{FlatNode}
use Rattle.data_value.specs.Flat.{flat_values, AreWords}
use Rattle.bit_gates.specs.declared.builder.Builder.{Builder}
use Rattle.bit_gates.specs.Bits.{constant_lit}
use Rattle.bit_gates.specs.Grows.{Grows, Holds}
use Rattle.bit_gates.proofs.RangeLemmas.{all_same, all_true_both, all_true_parts}
use Rattle.bv_blast.specs.declared.circuit.Circuit.{Circuit}
use Rattle.bv_blast.specs.declared.place.Place.{Place}
use Rattle.bv_blast.specs.declared.place.Place.TheVariants.{Flag}
use Rattle.bv_blast.specs.Inputs.{spelled, words_of, widths_of}
use Rattle.bv_blast.specs.Free.{AreFree}
use Rattle.bv_blast.specs.Places.{place_value, HaveNodeValues}
use Rattle.bv_blast.specs.Circuits.{IsCircuitOf}
use Rattle.bv_blast.proofs.FreeLemmas.{words_same}
use Rattle.bv_blast.proofs.ModelLemmas.{spelled_below}

-- the words that inputs spell fit their widths
pub words_fit : (a : ℕ → Bool) (inputs : List (List ℕ)) → AreWords (widths_of inputs) (words_of a inputs)
words_fit a inputs = record {
  count = length-map inputs (spelled a) ∙ sym (length-map inputs (λ (bits : List ℕ). length bits));
  fit = λ k l.
      let m : k < length inputs = rw (length-map inputs (λ (bits : List ℕ). length bits)) at l in
      rw (get_or-map (spelled a) inputs k [] 0 m, get_or-map (λ (bits : List ℕ). length bits) inputs k [] 0 m) (spelled_below a (get_or inputs k []));
}

-- a clause of one literal
alone : (x : Bool) → ((x || false) && true) ≡ x
alone true = refl
alone false = refl

one_true : (a : ℕ → Bool) (z : Lit) → all_true a ((z ∷ []) ∷ []) ≡ lit_true a z
unfolding all_true clause_true
one_true a z = alone (lit_true a z)

-- the first clauses hold where everything is true
start_true : (cs : List (List Lit)) → cs ≡ (constant_lit true ∷ []) ∷ [] → all_true (λ x. true) cs ≡ true
unfolding lit_true all_true clause_true
start_true cs e = ap (all_true (λ x. true)) e

-- the value at the root
root_value : (b : Builder) (inputs : List (List ℕ)) (nodes : List FlatNode) (places : List Place) (root : ℕ) (z : Lit) (a : ℕ → Bool) → HaveNodeValues b inputs nodes places → slice_get places root ≡ Some (Flag z) → Holds b a
    → slice_get (flat_values (widths_of inputs) (words_of a inputs) nodes) root ≡ Some (FlagValue (lit_true a z))
root_value b inputs nodes places root z a h e o =
    ap (λ (vs : List Scalar). slice_get vs root) (sym (h.means a o)) ∙ slice_get-map (place_value a) places root ∙ ap (option_map (place_value a)) e

same_flag : (x y : Bool) → Some (FlagValue x) ≡ Some (FlagValue y) → x ≡ y
same_flag x y e = cc

pub is_circuit : (b0 b1 b2 : Builder) (flat : Flat) (circuit : Circuit) (widths : List ℕ) (inputs : List (List ℕ)) (nodes : List FlatNode) (places ps : List Place) (z : Lit)
    → widths ≡ flat.widths → inputs ≡ circuit.inputs → nodes ≡ flat.nodes → ps ≡ places → b0.clauses.list ≡ (constant_lit true ∷ []) ∷ [] → AreFree b0 b1 circuit.inputs widths → Grows b1 b2 → HaveNodeValues b2 inputs nodes places
    → slice_get ps flat.root ≡ Some (Flag z) → circuit.clauses.list ≡ b2.clauses.list ++ (z ∷ []) ∷ [] → IsCircuitOf flat circuit
is_circuit b0 b1 b2 flat circuit widths inputs nodes places ps z ew ei en ep e0 free g made er ec =
    let sizes : widths_of circuit.inputs ≡ flat.widths = free.sizes ∙ ew in
    let named : HaveNodeValues b2 circuit.inputs flat.nodes places = subst (λ (ns : List FlatNode). HaveNodeValues b2 circuit.inputs ns places) en (subst (λ (is : List (List ℕ)). HaveNodeValues b2 is nodes places) ei made) in
    let root : (a : ℕ → Bool) → Holds b2 a → slice_get (flat_values flat.widths (words_of a circuit.inputs) flat.nodes) flat.root ≡ Some (FlagValue (lit_true a z)) =
    λ a o. rw sizes at (root_value b2 circuit.inputs flat.nodes places flat.root z a named (ap (λ (qs : List Place). slice_get qs flat.root) (sym ep) ∙ er) o) in
    record {
      widths = sizes;
      sound = λ a o.
          let p = all_true_parts a b2.clauses.list ((z ∷ []) ∷ []) (ap (all_true a) (sym ec) ∙ o) in
          (rw sizes at (words_fit a circuit.inputs), root a p.0 ∙ ap (λ (v : Bool). Some (FlagValue v)) (sym (one_true a z) ∙ p.1));
      complete = λ words h.
          let a0 : ℕ → Bool = λ x. true in
          let s = free.picks a0 words (rw ew h.0) in
          let start : all_true s.bits b1.clauses.list ≡ true = ap (all_true s.bits) free.clauses ∙ all_same b0.clauses.vars a0 s.bits b0.clauses.list s.same b0.clauses.scoped ∙ start_true b0.clauses.list e0 in
          let r = g.reaches s.bits start in
          let spells : words_of r.bits circuit.inputs ≡ words = words_same b1.clauses.vars s.bits r.bits circuit.inputs r.same free.in_range ∙ s.spells in
          let here : slice_get (flat_values flat.widths words flat.nodes) flat.root ≡ Some (FlagValue (lit_true r.bits z)) = rw spells at (root r.bits r.holds) in
          let flag : lit_true r.bits z ≡ true = same_flag (lit_true r.bits z) true (sym here ∙ h.1) in
          record {
            bits = r.bits;
            holds = ap (all_true r.bits) ec ∙ all_true_both r.bits b2.clauses.list ((z ∷ []) ∷ []) r.holds (one_true r.bits z ∙ flag);
            spells = spells;
          };
    }
