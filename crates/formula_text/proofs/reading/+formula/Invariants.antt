use Rattle.data_value.specs.Nodes.{Extends, AllValid}
use Rattle.formula_text.proofs.reading.+formula.Given as goal

abbrev pub invariant-formulas-loop-form : goal.invariant-formulas-loop-form
invariant-formulas-loop-form g l = record {
  extends : Extends (g.D.Domain.look l.fn.d) (g.D.Domain.look l.d);
  valid : AllValid (g.D.Domain.look l.d) l.nodes.items;
}
