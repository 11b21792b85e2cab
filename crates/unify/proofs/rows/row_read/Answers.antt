use Rattle.std.proofs.Common.{◌≡◌, Some, IsSome, sym, subst, ◌∙◌}
use Rattle.sort_term.specs.Stands.{times}
use Rattle.sort_term.specs.NodeTerms.{seen_term}
use Rattle.unify.specs.Meets.{seen_matching, IsMatching, RebindsOnlyScalars, Equals}
use Rattle.unify.specs.Matchings.{seen_matchings, IsOfNodes, GoOn, Supposes, ReadsRow}
use Rattle.unify.proofs.Carried.{lawful_nodes, matching_stays, condition_valid}
use Rattle.unify.proofs.KnownEquations.{tells_true}
use Rattle.unify.proofs.GoingOn.{go_on_from, with_node, with_lawful, row_on, row_off}
use Rattle.unify.specs.Scopes.{scope_of}
use Rattle.unify.proofs.rows.row_read.Goals as goal

pub key_test-requires-clause-number : goal.key_test-requires-clause-number
key_test-requires-clause-number g c = c.requires.row.key

pub supposed-requires-clause-node : goal.supposed-requires-clause-node
supposed-requires-clause-node g c = c.in_ok-test.ensures.test.condition

pub supposed-requires-clause-matching : goal.supposed-requires-clause-matching
supposed-requires-clause-matching g c =
    let old = g.D.Domain.look c.args.d.now in
    let now = g.D.Domain.look c.key_test.new.d in
    let cons = c.args.semantics.now.cons in
    let vars = c.args.vars.now in
    let m = seen_matching old c.args.matching.now in
    let lawful = c.requires.matching in
    let test = now c.in_ok-test.test in
    let kept = matching_stays old now c.in_ok-test.ensures.extends c.args.matching.now (lawful_nodes cons vars m lawful) in
    subst IsOfNodes (sym kept) (lawful_nodes cons vars m lawful)

pub constant_term-requires : goal.constant_term-requires
constant_term-requires g c = subst IsSome (sym c.requires.row.term) c.requires.pattern

pub joined-requires-clause-term : goal.joined-requires-clause-term
joined-requires-clause-term g c = c.in_ok-term-in-Some.ensures.term.sorted ∙ c.requires.row.term

pub joined-requires-clause-matching : goal.joined-requires-clause-matching
joined-requires-clause-matching g c =
    let old = g.D.Domain.look c.args.d.now in
    let now = g.D.Domain.look c.key_test.new.d in
    let cons = c.args.semantics.now.cons in
    let vars = c.args.vars.now in
    let m = seen_matching old c.args.matching.now in
    let lawful = c.requires.matching in
    let test = now c.in_ok-test.test in
    let kept = matching_stays old now c.in_ok-test.ensures.extends c.args.matching.now (lawful_nodes cons vars m lawful) in
    let next = g.D.Domain.look c.constant_term.new.d in
    let more : seen_matching now c.in-Some.more ≡ with_node cons vars (g.D.Domain.variables c.args.d.now) m test = subst (λ x. Supposes now test x (Some c.in-Some.more)) kept (rw c.in-Some.is at c.in_ok-more.ensures) in
    let with = with_lawful cons vars (g.D.Domain.variables c.args.d.now) m test lawful c.in_ok-test.ensures.test.condition in
    let stays = matching_stays now next c.in_ok-term-in-Some.ensures.extends c.in-Some.more (subst IsOfNodes (sym more) (lawful_nodes cons vars _ with)) ∙ more in
    subst (IsMatching cons vars) (sym stays) with

pub joined-requires-clause-repeats : goal.joined-requires-clause-repeats
joined-requires-clause-repeats g c =
    let old = g.D.Domain.look c.args.d.now in
    let now = g.D.Domain.look c.key_test.new.d in
    let cons = c.args.semantics.now.cons in
    let vars = c.args.vars.now in
    let m = seen_matching old c.args.matching.now in
    let lawful = c.requires.matching in
    let test = now c.in_ok-test.test in
    let kept = matching_stays old now c.in_ok-test.ensures.extends c.args.matching.now (lawful_nodes cons vars m lawful) in
    let next = g.D.Domain.look c.constant_term.new.d in
    let more : seen_matching now c.in-Some.more ≡ with_node cons vars (g.D.Domain.variables c.args.d.now) m test = subst (λ x. Supposes now test x (Some c.in-Some.more)) kept (rw c.in-Some.is at c.in_ok-more.ensures) in
    let with = with_lawful cons vars (g.D.Domain.variables c.args.d.now) m test lawful c.in_ok-test.ensures.test.condition in
    let stays = matching_stays now next c.in_ok-term-in-Some.ensures.extends c.in-Some.more (subst IsOfNodes (sym more) (lawful_nodes cons vars _ with)) ∙ more in
    subst (λ x. RebindsOnlyScalars vars x.binds (λ i. times i c.args.pattern.now)) (sym stays) c.requires.repeats

pub returns-in-Some-clause-matchings : goal.returns-in-Some-clause-matchings
returns-in-Some-clause-matchings g c =
    let old = g.D.Domain.look c.args.d.now in
    let now = g.D.Domain.look c.key_test.new.d in
    let cons = c.args.semantics.now.cons in
    let vars = c.args.vars.now in
    let m = seen_matching old c.args.matching.now in
    let lawful = c.requires.matching in
    let test = now c.in_ok-test.test in
    let kept = matching_stays old now c.in_ok-test.ensures.extends c.args.matching.now (lawful_nodes cons vars m lawful) in
    let next = g.D.Domain.look c.constant_term.new.d in
    let more : seen_matching now c.in-Some.more ≡ with_node cons vars (g.D.Domain.variables c.args.d.now) m test = subst (λ x. Supposes now test x (Some c.in-Some.more)) kept (rw c.in-Some.is at c.in_ok-more.ensures) in
    let with = with_lawful cons vars (g.D.Domain.variables c.args.d.now) m test lawful c.in_ok-test.ensures.test.condition in
    let stays = matching_stays now next c.in_ok-term-in-Some.ensures.extends c.in-Some.more (subst IsOfNodes (sym more) (lawful_nodes cons vars _ with)) ∙ more in
    let variables = g.D.Domain.variables c.args.d.now in
    let p = c.args.pattern.now in
    let t = seen_term next c.in_ok-term-in-Some.term in
    let ms = seen_matchings (g.D.Domain.look c.joined.new.d) c.in_ok-joined-in-Some.field-0 in
    row_on cons vars variables p (old c.args.node.now) c.args.row.now m test c.in_ok-test.ensures.test (tells_true now (g.D.Domain.variables c.key_test.new.d) (g.met.D.Domain.laws c.key_test.new.d) c.in_ok-test.test c.in_ok-test.ensures.test.condition) t ms c.in_ok-term-in-Some.ensures.term
    (go_on_from cons vars (g.D.Domain.variables c.constant_term.new.d) variables (seen_matching next c.in-Some.more) (with_node cons vars variables m test) (λ i. times i p) (Equals p t) ms (c.in_ok-term-in-Some.ensures.same_variables ∙ c.in_ok-test.ensures.same_variables) stays c.in_ok-joined-in-Some.ensures.matchings)

pub returns-clause-matchings : goal.returns-clause-matchings
returns-clause-matchings g c =
    let old = g.D.Domain.look c.args.d.now in
    let now = g.D.Domain.look c.key_test.new.d in
    let cons = c.args.semantics.now.cons in
    let vars = c.args.vars.now in
    let m = seen_matching old c.args.matching.now in
    let lawful = c.requires.matching in
    let test = now c.in_ok-test.test in
    let kept = matching_stays old now c.in_ok-test.ensures.extends c.args.matching.now (lawful_nodes cons vars m lawful) in
    let variables = g.D.Domain.variables c.args.d.now in
    let p = c.args.pattern.now in
    let off = rw c.in-None.is at c.in_ok-more.ensures in
    subst (λ ms. GoOn (scope_of cons vars variables) m (λ i. times i p) (λ v w. ReadsRow (old c.args.node.now) p v w c.args.row.now) (seen_matchings now ms)) (sym c.new.ensures)
    (row_off cons vars variables p (old c.args.node.now) c.args.row.now m test c.in_ok-test.ensures.test ((g.met.D.Domain.laws c.key_test.new.d).known c.in_ok-test.test _ (condition_valid test c.in_ok-test.ensures.test.condition) off))
