-- The constant in the place of a node that means it.
use Rattle.std.proofs.Common.{arith, ◌≡◌, List, Some, refl, sym, ◌∙◌}
use Rattle.data_value.specs.declared.DataSort.{DataSort}
use Rattle.data_value.specs.declared.Scalar.{Scalar}
use Rattle.data_value.specs.declared.Value.TheVariants.{One}
use Rattle.data_value.specs.Nodes.{Seen, Shown, Variable, Constant, Apply, IsConstant}
use Rattle.data_value.specs.Views.{IsShown, shown_known, shown_size}
use Rattle.simplify.specs.Simpler.{IsSimpler}
use Rattle.simplify.specs.Valued.{IsWorth}

-- what shows a known scalar is one node
size_of_known : {N : Type 0} (g : N → Seen N) (x : Shown N) (c : Scalar) → shown_known x ≡ Some c → shown_size g x ≡ 1
size_of_known g (Variable i) c e = absurd (cc)
size_of_known g (Constant y) c e = refl
size_of_known g (Apply op ns) c e = absurd (cc)

pub constant_simpler : {N : Type 0} (f g : N → Seen N) (vars others : List DataSort) (node n : N) (c : Scalar) → IsShown f vars node → IsShown g others n → IsConstant g (One c) n → IsWorth (f node) (One c) → IsSimpler vars (f node) (g n)
constant_simpler f g vars others node n c was is made worth = record {
  valid = made.valid;
  sort = made.sort ∙ worth.0.sort;
  means = λ v fits. made.means v ∙ sym (worth.1 v);
  small =
      let one : (g n).size ≡ 1 = is.size ∙ size_of_known g (g n).shown c (sym is.known ∙ made.knows) in
      let more = was.size in
      omega arith;
}

-- a node that is made for a scalar is one node
pub size_of_constant : {N : Type 0} (g : N → Seen N) (others : List DataSort) (n : N) (c : Scalar) → IsShown g others n → IsConstant g (One c) n → (g n).size ≡ 1
size_of_constant g others n c is made = is.size ∙ size_of_known g (g n).shown c (sym is.known ∙ made.knows)
