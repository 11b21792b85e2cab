use Rattle.std.proofs.Common.{◌≡◌, ◌↔◌, true, sym, subst}
use Rattle.data_value.specs.Truth.{truth}
use Rattle.sort_term.specs.Step.{StepsBy}
use Rattle.sort_term.specs.Cuts.{InCut}
use Rattle.sort_term.specs.Runs.{MetTo, LongTo, HaltedTo}
use Rattle.sort_term.specs.NodeTerms.{seen_term, tree_of}
use Rattle.path_condition.specs.Leaves.{seen_leaves, Gives}
use Rattle.verdict.proofs.Kept.{config_stays}
use Rattle.verdict.proofs.exploring.explored_side.Goals as goal

pub returns-clause-explored : goal.returns-clause-explored
returns-clause-explored g c =
    let look = g.D.Domain.look in
    let first = look c.args.d.now in
    let last = look c.search.new.d in
    let sys = c.args.semantics.now in
    let Steps = StepsBy sys c.args.program.now in
    let In = InCut sys.cons c.args.cuts.now in
    let n = c.args.steps in
    let condition = first c.args.condition.now in
    let same : seen_term last c.args.start.term ≡ seen_term first c.args.start.term = config_stays first last c.in_ok-met.ensures.extends sys c.args.start.term c.requires.start in
    let found = c.in_ok-met.ensures in
    record {
      from = same;
      leaves = record { met = found.met.each; long = found.long.each; halted = found.halted.each };
      found = λ v fits.
          record {
            met = λ rules t. subst (λ u. Gives v rules t (seen_leaves last c.in_ok-met.field-0.met) ↔ ((truth condition v ≡ true) × MetTo Steps In n (tree_of v u) rules t)) (sym same) (found.met.exact v fits rules t);
            long = λ rules t. subst (λ u. Gives v rules t (seen_leaves last c.in_ok-met.field-0.long) ↔ ((truth condition v ≡ true) × LongTo Steps In n (tree_of v u) rules t)) (sym same) (found.long.exact v fits rules t);
            halted = λ rules t. subst (λ u. Gives v rules t (seen_leaves last c.in_ok-met.field-0.halted) ↔ ((truth condition v ≡ true) × HaltedTo Steps In n (tree_of v u) rules t)) (sym same) (found.halted.exact v fits rules t);
          };
    }
