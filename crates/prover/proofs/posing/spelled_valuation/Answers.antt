use Rattle.std.proofs.Common.{sym, subst₂}
use Rattle.refute_check.specs.Truth.{assigned}
use Rattle.data_value.specs.Flat.{AreWords}
use Rattle.bv_blast.proofs.CircuitLemmas.{words_fit}
use Rattle.prover.proofs.posing.spelled_valuation.Goals as goal

pub lift-requires : goal.lift-requires
lift-requires c =
    let inputs = c.args.question.now.circuit.inputs in
    subst₂ AreWords c.args.question.now.fits (sym c.in_ok-words.ensures) (words_fit (assigned c.args.model.now) inputs)
