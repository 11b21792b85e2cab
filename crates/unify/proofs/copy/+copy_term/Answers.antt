use Rattle.std.proofs.Common.{rules, ap, ◌∙◌, map}
use Rattle.sort_term.specs.declared.term.Term.{the_lemmas}
use Rattle.sort_term.specs.NodeTerms.{seen_term, is_valid_term}
use Rattle.unify.proofs.Lists.{test_at, mapped_more}
use Rattle.unify.proofs.Copied.{node_valid, args_valid, copied_plain, copied_con}
use Rattle.unify.proofs.copy.+copy_term.Goals as goal

pub copy_term-copy-requires : goal.copy_term-copy-requires
copy_term-copy-requires g t c = node_valid (g.D.Domain.look c.args.d.now) _ _ c.in-Plain.is c.requires

pub copy_term-copy_terms-requires : goal.copy_term-copy_terms-requires
copy_term-copy_terms-requires g t c κs within = (
  search (rules, the_lemmas),
  (within.0, (within.1, args_valid (g.D.Domain.look c.args.d.now) _ _ _ _ c.in-Con.is c.as_slice.ensures c.requires)),
)

pub copy_term-returns-in_ok-copy-in-Plain : goal.copy_term-returns-in_ok-copy-in-Plain
copy_term-returns-in_ok-copy-in-Plain g t c = copied_plain (g.D.Domain.look c.args.d.now) _ _ _ c.in-Plain.is c.in_ok-copy-in-Plain.ensures

pub copy_term-returns-in_ok-args-in-Con : goal.copy_term-returns-in_ok-args-in-Con
copy_term-returns-in_ok-args-in-Con g t c =
    let look = g.D.Domain.look c.args.d.now in
    copied_con look _ _ _ _ c.in-Con.is (ap (map (seen_term look)) c.from_vec.ensures ∙ c.in_ok-args-in-Con.ensures ∙ ap (map (seen_term look)) c.as_slice.ensures)

pub copy_terms-copy_term-requires : goal.copy_terms-copy_term-requires
copy_terms-copy_term-requires g t c κs within = (
  search (rules, the_lemmas),
  (within.0, (within.1, test_at (seen_term (g.D.Domain.look c.args.d.now)) is_valid_term _ _ _ c.loop-term-test.true c.term-item.is c.requires)),
)

pub copy_terms-loop-term-preserved : goal.copy_terms-loop-term-preserved
copy_terms-loop-term-preserved g t c =
    let look = g.D.Domain.look c.args.d.now in
    mapped_more (seen_term look) (seen_term look) _ _ _ _ _ _ c.loop-term-test.true c.term-item.is c.in_ok-push.ensures.items c.loop-term.invariant c.in_ok-copy_term.ensures
