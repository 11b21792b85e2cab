use Rattle.std.proofs.Common.{subst, [], ◌∷◌}
use Rattle.cut_search.specs.Drops.{AreAnswered}
use Rattle.cut_search.specs.Found.{under, judged_by}
use Rattle.path_condition.specs.Leaves.{seen_leaf}
use Rattle.cut_search.proofs.Giving.{answered_nil}
use Rattle.cut_search.proofs.Kept.{valid_stays, under_same, sifted_leaf, count_one}
use Rattle.cut_search.proofs.sifting.sift_as_it_is.Goals as goal

pub returns-then-is_known_false-clause-answered : goal.returns-then-is_known_false-clause-answered
returns-then-is_known_false-clause-answered g c = answered_nil c.args.answers.now.items c.new-then-is_known_false.result c.new-then-is_known_false.ensures

pub under_condition-requires : goal.under_condition-requires
under_condition-requires g c = record { state = valid_stays (g.D.Domain.look c.args.d.now) (g.D.Domain.look c.is_dropped.new.d) c.is_dropped.ensures.extends c.args.leaf.now.config.term c.requires.state }

pub returns-clause-sifted : goal.returns-clause-sifted
returns-clause-sifted g c = λ sys is.
    let look = g.D.Domain.look in
    let variables = g.D.Domain.variables c.args.d.now in
    let before = look c.args.d.now in
    let after = look c.is_dropped.new.d in
    let leaf = c.args.leaf.now in
    let Judged = judged_by g.J.Drops.Allows g.J.Drops.Keeps variables (before c.args.before.now ∷ []) in
    let told = c.in_ok-is_out.ensures.judged in
    let same = under_same before after c.is_dropped.ensures.extends c.args.condition leaf c.requires.condition c.requires.state in
    sifted_leaf variables sys Judged after c.in_ok-is_out.is_out c.in_ok-leaf.leaf (under (after c.args.condition) (seen_leaf after leaf)) (under (before c.args.condition) (seen_leaf before leaf)) c.in_ok-leaf.ensures same is (λ e. subst (λ b. Judged b (before c.args.condition)) e told) (λ e. subst (λ b. Judged b (before c.args.condition)) e told) c.in_ok-sorted.field-0.kept c.in_ok-sorted.field-0.dropped c.in_ok-sorted.ensures.kept c.in_ok-sorted.ensures.dropped

pub returns-clause-answered : goal.returns-clause-answered
returns-clause-answered g c =
    subst (λ n. AreAnswered c.args.answers.now.items c.is_dropped.new.answers.items n) (count_one c.in_ok-is_out.is_out c.in_ok-leaf.leaf c.in_ok-sorted.field-0.dropped c.in_ok-sorted.ensures.dropped) c.in_ok-is_out.ensures.answered
