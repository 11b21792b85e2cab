use Rattle.std.proofs.Common.{IsTrue, subst, sym}
use Rattle.data_value.specs.Nodes.{AllValid}
use Rattle.unify.specs.Binds.{seen_binds, AreValid}
use Rattle.unify.proofs.Lists.{all_mapped}
use Rattle.unify.proofs.matchings.copy_matching.Goals as goal

pub copy_binds-requires : goal.copy_binds-requires
copy_binds-requires g c = subst (λ bs. AreValid (seen_binds (g.D.Domain.look c.args.d.now) bs)) (sym c.as_slice.ensures) c.requires.binds

pub copy_nodes-requires : goal.copy_nodes-requires
copy_nodes-requires g c = subst (AllValid (g.D.Domain.look c.args.d.now)) (sym c.as_slice-2.ensures) (all_mapped (λ s. IsTrue s.valid) (g.D.Domain.look c.args.d.now) c.args.matching.now.equations c.requires.equations)
