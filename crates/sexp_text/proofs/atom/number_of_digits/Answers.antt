use Rattle.std.proofs.Common.{◌≡◌, arith, sym, ◌∙◌, ℕ, List, true, take, subst}
use Rattle.std.specs.List.{list_all}
use Rattle.std.specs.Char.{is_digit}
use Rattle.std.specs.Str.Parse.{digits_value}
use Rattle.std.proofs.lemmas.List.{take_all}
use Rattle.sexp_text.proofs.Digits.{number_in-stops, number_in-digits, more_digits, more_value}
use Rattle.sexp_text.proofs.atom.number_of_digits.Goals as goal

pub returns-in_err-value : goal.returns-in_err-value
returns-in_err-value c =
    c.from_residual.ensures
    ∙ sym (number_in-stops c.args.base c.args.digits.now c.loop-byte.byte-index c.loop-byte.value (omega arith) (omega arith) c.loop-byte.invariant.value c.in_err-value.ensures)

pub loop-byte-preserved : goal.loop-byte-preserved
loop-byte-preserved c =
    record {
      some = c.loop-byte.invariant.some;
      all = more_digits c.args.base c.args.digits.now c.loop-byte.byte-index (omega arith) c.loop-byte.invariant.all c.in_ok-value.ensures.0.0;
      value = more_value c.args.base c.args.digits.now c.loop-byte.byte-index c.loop-byte.value c.in_ok-value.value (omega arith) c.loop-byte.invariant.value c.in_ok-value.ensures.1;
      small = omega (arith, c.in_ok-value.ensures.0.1, c.in_ok-value.ensures.1);
    }

pub returns : goal.returns
returns c =
    let base = c.args.base in
    let digits = c.args.digits.now in
    let whole : take c.loop-byte.byte-index digits ≡ digits = take_all c.loop-byte.byte-index digits c.loop-byte-test.false in
    sym (number_in-digits base digits c.loop-byte.value (omega arith)
    (subst (λ (text : List ℕ). list_all (λ c. is_digit c base) text ≡ true) whole c.loop-byte.invariant.all)
    (subst (λ (text : List ℕ). c.loop-byte.value ≡ digits_value base text) whole c.loop-byte.invariant.value)
    c.loop-byte.invariant.small)
