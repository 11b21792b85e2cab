-- An item passes all checks, or a check first fails, by the kinds of faults.
use Rattle.std.proofs.Common.{◌<◌, arith}
use Rattle.rule_text.specs.declared.item.Item.{Item}
use Rattle.rule_text.specs.declared.error.ItemFault.{ItemFault}
use Rattle.rule_text.specs.declared.error.ItemFault.TheVariants.{Shape, Name, Limit, Sort, Unbound, DoubleKey, Undetermined}
use Rattle.rule_text.specs.Faults.{Loading, number_of, IsFirstIn, IsLawfulIn}

module _ {D : Type 0} (l : Loading D) (d : D) (i : Item) where
  -- each check is passed
  pub lawful_by : l.Passes Shape d i → l.Passes Name d i → l.Passes Limit d i → l.Passes Sort d i → l.Passes Unbound d i → l.Passes DoubleKey d i → l.Passes Undetermined d i → IsLawfulIn l d i
  lawful_by shape name limit sort unbound double_key undetermined Shape = shape
  lawful_by shape name limit sort unbound double_key undetermined Name = name
  lawful_by shape name limit sort unbound double_key undetermined Limit = limit
  lawful_by shape name limit sort unbound double_key undetermined Sort = sort
  lawful_by shape name limit sort unbound double_key undetermined Unbound = unbound
  lawful_by shape name limit sort unbound double_key undetermined DoubleKey = double_key
  lawful_by shape name limit sort unbound double_key undetermined Undetermined = undetermined

  -- the checks of lower numbers are passed, and this one is not
  pub first_shape : ¬ l.Passes Shape d i → IsFirstIn l d i Shape
  first_shape fails = record { lower = below; fails = fails }
    where
      below : (other : ItemFault) → number_of other < 2 → l.Passes other d i
      below Shape low = absurd (omega arith)
      below Name low = absurd (omega arith)
      below Limit low = absurd (omega arith)
      below Sort low = absurd (omega arith)
      below Unbound low = absurd (omega arith)
      below DoubleKey low = absurd (omega arith)
      below Undetermined low = absurd (omega arith)

  pub first_name : l.Passes Shape d i → ¬ l.Passes Name d i → IsFirstIn l d i Name
  first_name shape fails = record { lower = below; fails = fails }
    where
      below : (other : ItemFault) → number_of other < 3 → l.Passes other d i
      below Shape low = shape
      below Name low = absurd (omega arith)
      below Limit low = absurd (omega arith)
      below Sort low = absurd (omega arith)
      below Unbound low = absurd (omega arith)
      below DoubleKey low = absurd (omega arith)
      below Undetermined low = absurd (omega arith)

  pub first_limit : l.Passes Shape d i → l.Passes Name d i → ¬ l.Passes Limit d i → IsFirstIn l d i Limit
  first_limit shape name fails = record { lower = below; fails = fails }
    where
      below : (other : ItemFault) → number_of other < 4 → l.Passes other d i
      below Shape low = shape
      below Name low = name
      below Limit low = absurd (omega arith)
      below Sort low = absurd (omega arith)
      below Unbound low = absurd (omega arith)
      below DoubleKey low = absurd (omega arith)
      below Undetermined low = absurd (omega arith)

  pub first_sort : l.Passes Shape d i → l.Passes Name d i → l.Passes Limit d i → ¬ l.Passes Sort d i → IsFirstIn l d i Sort
  first_sort shape name limit fails = record { lower = below; fails = fails }
    where
      below : (other : ItemFault) → number_of other < 5 → l.Passes other d i
      below Shape low = shape
      below Name low = name
      below Limit low = limit
      below Sort low = absurd (omega arith)
      below Unbound low = absurd (omega arith)
      below DoubleKey low = absurd (omega arith)
      below Undetermined low = absurd (omega arith)

  pub first_unbound : l.Passes Shape d i → l.Passes Name d i → l.Passes Limit d i → l.Passes Sort d i → ¬ l.Passes Unbound d i → IsFirstIn l d i Unbound
  first_unbound shape name limit sort fails = record { lower = below; fails = fails }
    where
      below : (other : ItemFault) → number_of other < 6 → l.Passes other d i
      below Shape low = shape
      below Name low = name
      below Limit low = limit
      below Sort low = sort
      below Unbound low = absurd (omega arith)
      below DoubleKey low = absurd (omega arith)
      below Undetermined low = absurd (omega arith)

  pub first_double_key : l.Passes Shape d i → l.Passes Name d i → l.Passes Limit d i → l.Passes Sort d i → l.Passes Unbound d i → ¬ l.Passes DoubleKey d i → IsFirstIn l d i DoubleKey
  first_double_key shape name limit sort unbound fails = record { lower = below; fails = fails }
    where
      below : (other : ItemFault) → number_of other < 8 → l.Passes other d i
      below Shape low = shape
      below Name low = name
      below Limit low = limit
      below Sort low = sort
      below Unbound low = unbound
      below DoubleKey low = absurd (omega arith)
      below Undetermined low = absurd (omega arith)

  pub first_undetermined : l.Passes Shape d i → l.Passes Name d i → l.Passes Limit d i → l.Passes Sort d i → l.Passes Unbound d i → l.Passes DoubleKey d i → ¬ l.Passes Undetermined d i → IsFirstIn l d i Undetermined
  first_undetermined shape name limit sort unbound double_key fails = record { lower = below; fails = fails }
    where
      below : (other : ItemFault) → number_of other < 9 → l.Passes other d i
      below Shape low = shape
      below Name low = name
      below Limit low = limit
      below Sort low = sort
      below Unbound low = unbound
      below DoubleKey low = double_key
      below Undetermined low = absurd (omega arith)
