-- Values are lawful nodes. This is a proof: it stands here since the law of an impl may cite no file of proofs.
use Rattle.std.specs.Prelude.{◌≡◌, [], Some, refl}
use Rattle.std.proofs.lemmas.List.Elements.{All-nil}
use Rattle.data_value.specs.declared.Scalar.{Scalar}
use Rattle.data_value.specs.declared.Value.{Value}
use Rattle.data_value.specs.declared.Value.TheVariants.{One, Map}
use Rattle.data_value.specs.Sorts.{IsSort}
use Rattle.data_value.specs.Nodes.{IsLawful, known_scalar}
use Rattle.data_value.specs.Ground.{ground_seen}
use Rattle.data_value.specs.ValueTests.{decides_value}

-- A scalar is known as itself.
pub known-is : (x : Value) (c : Scalar) → known_scalar x ≡ Some c → x ≡ One c
known-is (One s) c h = cc
known-is (Map m) c h = cc

-- Values are lawful nodes.
pub ground-laws : IsLawful ground_seen []
ground-laws = record {
  sorts = All-nil IsSort;
  sorted = λ x ok v fits. record { value = (decides_value x).0 ok; sort = refl };
  known = λ x c ok h v. known-is x c h;
}
