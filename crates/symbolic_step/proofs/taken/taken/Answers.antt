use Rattle.std.proofs.Common.{◌≡◌, IsTrue, [], ◌∷◌, sym, ap, subst, ◌∙◌}
use Rattle.std.proofs.lemmas.List.{map-append}
use Rattle.sort_term.specs.NodeTerms.{seen_term, is_valid_term}
use Rattle.sort_term.proofs.NodeTerming.{term_stays}
use Rattle.path_condition.specs.Leaves.{rule_numbers}
use Rattle.symbolic_step.proofs.taken.taken.Goals as goal

pub copy_term-requires : goal.copy_term-requires
copy_term-requires g c =
    let before = g.D.Domain.look c.args.d.now in
    let now = g.D.Domain.look c.extend.new.d in
    let t = c.args.branch.now.«result».term in
    let same : seen_term now t ≡ seen_term before t = term_stays before now c.in_ok-condition.ensures.extends t c.requires.«result» in
    subst (λ u. IsTrue (is_valid_term (seen_term now u))) (sym c.term.ensures) (subst (λ u. IsTrue (is_valid_term u)) (sym same) c.requires.«result»)

pub returns-clause-leaf : goal.returns-clause-leaf
returns-clause-leaf g c =
    let before = g.D.Domain.look c.args.d.now in
    let now = g.D.Domain.look c.extend.new.d in
    let t = c.args.branch.now.«result».term in
    let same : seen_term now t ≡ seen_term before t = term_stays before now c.in_ok-condition.ensures.extends t c.requires.«result» in
    let copied : seen_term now c.in_ok-config.config ≡ seen_term now t = c.in_ok-config.ensures ∙ ap (seen_term now) c.term.ensures in
    record {
      means = c.in_ok-condition.ensures.means;
      live = λ known. let h = c.is_known_false.ensures.known.1 known in let no = c.if-is_known_false.false in cc;
      state = ap (seen_term now) c.new.ensures ∙ copied ∙ same;
      rules = ap rule_numbers c.in_ok-condition.ensures.rules ∙ map-append (λ r. r.0) c.args.path.now.rules (c.args.rule ∷ []);
    }
