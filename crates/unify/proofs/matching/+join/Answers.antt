use Rattle.std.proofs.Common.{rules, arith, ◌<◌, length, refl, ◌∙◌}
use Rattle.data_value.proofs.Grown.{extends-both}
use Rattle.sort_term.specs.declared.rule.Pattern.{the_lemmas}
use Rattle.unify.proofs.Evaluated.{binds_stay}
use Rattle.unify.proofs.Binding.{binds_valid}
use Rattle.unify.proofs.Joining.{literal_answers, cons_apart, parts_there, parts_sorted, parts_repeat, parts_answer, bind_within, repeats_next, apart_at, pattern_there, term_kept, term_sorted, joined_more}
use Rattle.unify.proofs.matching.+join.Goals as goal

pub join-bind-requires-clause-within : goal.join-bind-requires-clause-within
join-bind-requires-clause-within g t c = bind_within c.args.semantics.now.cons c.args.vars.now _ c.in-Bind.variable c.in-Bind.is c.requires.pattern

pub join-join_all-requires : goal.join-join_all-requires
join-join_all-requires g t c κs within = (
  search (rules, the_lemmas),
  (
    within.0,
    (
      within.1.0,
      (
        within.1.1,
        (
          parts_there c.args.semantics.now.cons c.args.vars.now (g.D.Domain.look c.args.d.now) _ c.in-Con.con c.in-Con-term.found c.in-Con.patterns _ _ c.in-Con-term.terms _ c.in-Con.is c.as_slice.ensures c.in-Con-term.is c.as_slice-then-con-found.ensures c.requires.pattern,
          (
            parts_sorted c.args.semantics.now.cons c.args.vars.now (g.D.Domain.look c.args.d.now) _ c.in-Con.con c.in-Con-term.found c.in-Con.patterns _ _ c.in-Con-term.terms _ c.in-Con.is c.as_slice.ensures c.in-Con-term.is c.as_slice-then-con-found.ensures c.if-con-found.true c.requires.pattern c.requires.term,
            (c.requires.matching, parts_repeat c.args.semantics.now.cons c.args.vars.now (g.D.Domain.look c.args.d.now) _ c.in-Con.con c.in-Con-term.found c.in-Con.patterns _ _ c.in-Con-term.terms _ c.in-Con.is c.as_slice.ensures c.in-Con-term.is c.as_slice-then-con-found.ensures _ c.requires.repeats),
          ),
        ),
      ),
    ),
  ),
)

pub join-returns-in_ok-equate_literal-in-Exact-clause-answer : goal.join-returns-in_ok-equate_literal-in-Exact-clause-answer
join-returns-in_ok-equate_literal-in-Exact-clause-answer g t c =
    let f = g.D.Domain.look c.args.d.now in
    let now = g.D.Domain.look c.equate_literal.new.d in
    let binds = c.args.matching.now.binds in
    literal_answers c.args.semantics.now.cons c.args.vars.now f _ c.in-Exact.scalar c.args.term.now c.in-Exact.is c.requires.pattern c.requires.term c.plain_node-node.result.now c.plain_node-node.ensures (g.D.Domain.variables c.args.d.now) (g.met.D.Domain.laws c.args.d.now)
    _ _ _ _ c.requires.matching.binds (binds_stay f now c.in_ok-equate_literal-in-Exact.ensures.extends binds (binds_valid _ _ _ c.requires.matching.binds))
    _ c.in_ok-equate_literal-in-Exact.ensures.apart c.in_ok-equate_literal-in-Exact.ensures.equal

pub join-returns-in_ok-join_all-in-Con-term-clause-answer : goal.join-returns-in_ok-join_all-in-Con-term-clause-answer
join-returns-in_ok-join_all-in-Con-term-clause-answer g t c =
    parts_answer c.args.semantics.now.cons c.args.vars.now (g.D.Domain.look c.args.d.now) _ c.in-Con.con c.in-Con-term.found c.in-Con.patterns _ _ c.in-Con-term.terms _ c.in-Con.is c.as_slice.ensures c.in-Con-term.is c.as_slice-then-con-found.ensures c.if-con-found.true
    (g.D.Domain.variables c.args.d.now) _ _ _ c.in_ok-join_all-in-Con-term.ensures.answer

pub join-returns-else-con-found-clause-answer : goal.join-returns-else-con-found-clause-answer
join-returns-else-con-found-clause-answer g t c =
    cons_apart c.args.semantics.now.cons c.args.vars.now (g.D.Domain.look c.args.d.now) _ c.in-Con.con c.in-Con-term.found c.in-Con.patterns c.in-Con.patterns _ c.in-Con-term.terms c.in-Con-term.terms c.in-Con.is refl c.in-Con-term.is refl c.if-con-found.false

pub join_all-join-requires : goal.join_all-join-requires
join_all-join-requires g t c κs within =
    let f = g.D.Domain.look c.args.d.now in
    let now = g.D.Domain.look c.loop-i.d in
    let long = c.loop-i.invariant.long in
    let lu : c.loop-i.i < length c.args.terms.now = omega (arith, long, c.loop-i-test.true) in (
      search (rules, the_lemmas),
      (
        within.0,
        (
          within.1.0,
          (
            within.1.1,
            (
              pattern_there c.args.semantics.now.cons c.args.vars.now f now c.loop-i.invariant.extends c.args.patterns.now c.args.terms.now c.loop-i.i c.index-patterns-i.result c.index-terms-i.result c.loop-i-test.true lu c.index-patterns-i.is c.index-terms-i.is c.requires.patterns c.requires.terms,
              (
                term_sorted c.args.semantics.now.cons c.args.vars.now f now c.loop-i.invariant.extends c.args.patterns.now c.args.terms.now c.loop-i.i c.index-patterns-i.result c.index-terms-i.result c.loop-i-test.true lu c.index-patterns-i.is c.index-terms-i.is c.requires.patterns c.requires.terms,
                (c.loop-i.invariant.joined.lawful, repeats_next _ _ _ _ _ _ c.loop-i-test.true c.index-patterns-i.is c.requires.repeats c.loop-i.invariant.joined.binds),
              ),
            ),
          ),
        ),
      ),
    )

pub join_all-returns-then-not-branch-clause-answer : goal.join_all-returns-then-not-branch-clause-answer
join_all-returns-then-not-branch-clause-answer g t c =
    let f = g.D.Domain.look c.args.d.now in
    let now = g.D.Domain.look c.loop-i.d in
    let long = c.loop-i.invariant.long in
    let lu : c.loop-i.i < length c.args.terms.now = omega (arith, long, c.loop-i-test.true) in
    apart_at f now _ _ _ _ _ c.loop-i-test.true lu c.index-patterns-i.is c.index-terms-i.is (term_kept c.args.semantics.now.cons c.args.vars.now f now c.loop-i.invariant.extends c.args.patterns.now c.args.terms.now c.loop-i.i c.index-patterns-i.result c.index-terms-i.result c.loop-i-test.true lu c.index-patterns-i.is c.index-terms-i.is c.requires.patterns c.requires.terms) (rw c.if-not-branch.true at c.in_ok-join.ensures.answer)

pub join_all-loop-i-preserved : goal.join_all-loop-i-preserved
join_all-loop-i-preserved g t c =
    let f = g.D.Domain.look c.args.d.now in
    let now = g.D.Domain.look c.loop-i.d in
    let long = c.loop-i.invariant.long in
    let lu : c.loop-i.i < length c.args.terms.now = omega (arith, long, c.loop-i-test.true) in
    record {
      long = c.loop-i.invariant.long;
      extends = extends-both _ _ _ c.loop-i.invariant.extends c.in_ok-join.ensures.extends;
      same_variables = c.in_ok-join.ensures.same_variables ∙ c.loop-i.invariant.same_variables;
      joined = joined_more c.args.semantics.now.cons c.args.vars.now f now c.loop-i.invariant.extends c.args.patterns.now c.args.terms.now c.loop-i.i c.index-patterns-i.result c.index-terms-i.result c.loop-i-test.true lu c.index-patterns-i.is c.index-terms-i.is c.requires.patterns c.requires.terms _ _ _ _ _ c.loop-i.invariant.same_variables long c.loop-i.invariant.joined (rw c.if-not-branch.false at c.in_ok-join.ensures.answer);
    }
