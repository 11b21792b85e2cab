use Rattle.std.proofs.Common.{arith}
use Rattle.data_value.specs.declared.Scalar.TheVariants.{Bits}
use Rattle.data_value.specs.declared.Value.TheVariants.{One}
use Rattle.data_value.specs.Values.{IsValue}
use Rattle.data_value.specs.ValueTests.{decides_value}
use Rattle.value_examples.proofs.conditions.word.Goals as goal

pub returns-clause-valid : goal.returns-clause-valid
returns-clause-valid c =
    let fits : IsValue (One (Bits 8 c.args.bits)) = ((omega arith, omega arith), omega arith) in
    (decides_value (One (Bits 8 c.args.bits))).1 fits
