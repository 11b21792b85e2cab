use Rattle.std.proofs.Common.{rules}
use Rattle.sort_term.specs.declared.term.Term.{the_lemmas}
use Rattle.sort_term.specs.NodeTerms.{seen_term, is_valid_term}
use Rattle.unify.proofs.Lists.{test_at}
use Rattle.unify.proofs.Copied.{args_valid}
use Rattle.symbolic_examples.proofs.valued.+put_term.Goals as goal

pub put_term-put_terms-requires : goal.put_term-put_terms-requires
put_term-put_terms-requires g t c κs within = (
  search (rules, the_lemmas),
  (within.0, (within.1, (c.requires.fits, args_valid (g.D.Domain.look c.args.d.now) _ _ _ _ c.in-Con.is c.as_slice.ensures c.requires.valid))),
)

pub put_terms-put_term-requires : goal.put_terms-put_term-requires
put_terms-put_term-requires g t c κs within = (
  search (rules, the_lemmas),
  (within.0, (within.1, (c.requires.fits, test_at (seen_term (g.D.Domain.look c.args.d.now)) is_valid_term _ _ _ c.loop-term-test.true c.term-item.is c.requires.valid))),
)
