use Rattle.sort_term.specs.Step.{StepsBy}
use Rattle.sort_term.specs.Cuts.{InCut}
use Rattle.sort_term.specs.Runs.{MetTo, LongTo, HaltedTo}
use Rattle.sort_term.specs.NodeTerms.{seen_term}
use Rattle.path_condition.specs.Leaves.{seen_leaves}
use Rattle.cut_search.specs.Drops.{EndsFrom}
use Rattle.cut_search.proofs.Giving.{but_never}
use Rattle.cut_search.proofs.exact.search.Goals as goal

pub returns-clause-met : goal.returns-clause-met
returns-clause-met g c =
    let first = g.D.Domain.look c.args.d.now in
    let found = seen_leaves (g.D.Domain.look c.search_dropping.new.d) in
    let sys = c.args.semantics.now in
    let r = c.in_ok-search_dropping.field-0 in
    but_never (g.D.Domain.variables c.args.d.now) sys (found r.dropped) (EndsFrom (first c.args.condition.now) (seen_term first c.args.start.now.term) (MetTo (StepsBy sys c.args.program.now) (InCut sys.cons c.args.cuts.now) c.args.steps)) (found r.met) c.in_ok-search_dropping.ensures.allowed c.in_ok-search_dropping.ensures.met

pub returns-clause-long : goal.returns-clause-long
returns-clause-long g c =
    let first = g.D.Domain.look c.args.d.now in
    let found = seen_leaves (g.D.Domain.look c.search_dropping.new.d) in
    let sys = c.args.semantics.now in
    let r = c.in_ok-search_dropping.field-0 in
    but_never (g.D.Domain.variables c.args.d.now) sys (found r.dropped) (EndsFrom (first c.args.condition.now) (seen_term first c.args.start.now.term) (LongTo (StepsBy sys c.args.program.now) (InCut sys.cons c.args.cuts.now) c.args.steps)) (found r.long) c.in_ok-search_dropping.ensures.allowed c.in_ok-search_dropping.ensures.long

pub returns-clause-halted : goal.returns-clause-halted
returns-clause-halted g c =
    let first = g.D.Domain.look c.args.d.now in
    let found = seen_leaves (g.D.Domain.look c.search_dropping.new.d) in
    let sys = c.args.semantics.now in
    let r = c.in_ok-search_dropping.field-0 in
    but_never (g.D.Domain.variables c.args.d.now) sys (found r.dropped) (EndsFrom (first c.args.condition.now) (seen_term first c.args.start.now.term) (HaltedTo (StepsBy sys c.args.program.now) (InCut sys.cons c.args.cuts.now) c.args.steps)) (found r.halted) c.in_ok-search_dropping.ensures.allowed c.in_ok-search_dropping.ensures.halted
