use Rattle.std.proofs.Common.{sym, ◌∙◌, subst}
use Rattle.refute_check.specs.Truth.{assigned}
use Rattle.data_value.specs.Nodes.{IsValuation}
use Rattle.bv_blast.specs.Inputs.{words_of}
use Rattle.map_reads.specs.Lifted.{lifted}
use Rattle.prover.proofs.posing.pose.Goals as goal

pub returns-clause-question : goal.returns-clause-question
returns-clause-question g c =
    let variables = g.D.Domain.variables c.args.d.now in
    let same = c.in_ok-prepared.ensures.means in
    let circuit = c.in_ok-circuit.ensures in
    let sorts = c.in_ok-reads.ensures.sorts ∙ c.in_ok-prepared.ensures.same_variables in
    record {
      models = λ model is.
          let words = words_of (assigned model) c.in_ok-circuit.circuit.inputs in
          let true_of = circuit.sound (assigned model) is.holds in
          let lift = c.in_ok-reads.ensures.sound words true_of.0 true_of.1 in
          let v = lifted c.in_ok-reads.reads words in
          let fits = subst (λ ss. IsValuation ss v) sorts lift.fits in
          record { fits = fits; holds = sym (same.means v fits) ∙ lift.holds };
      complete = λ some.
          let v = some.0 in
          let fits = subst (λ ss. IsValuation ss v) (sym sorts) some.1.fits in
          let words = c.in_ok-reads.ensures.tied v fits in
          let flat = (c.in_ok-reads.ensures.means words.words v fits words.fit words.ties).1 (same.means v some.1.fits ∙ some.1.holds) in
          let spelling = circuit.complete words.words (words.fit, flat) in
          record { assignment = spelling.bits; holds = spelling.holds };
    }
