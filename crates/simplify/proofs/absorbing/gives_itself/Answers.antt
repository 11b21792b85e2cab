use Rattle.std.proofs.Common.{sym, ◌∙◌, subst}
use Rattle.std.proofs.lemmas.Bool.{eqb-true}
use Rattle.data_value.specs.declared.Scalar.TheVariants.{Bits}
use Rattle.simplify.specs.Rewrites.{IsAbsorbing}
use Rattle.simplify.proofs.AbsorbingLemmas.{or_absorbs}
use Rattle.simplify.proofs.absorbing.gives_itself.Goals as goal

pub returns-in-BvOr : goal.returns-in-BvOr
returns-in-BvOr c = λ h. subst (λ op. IsAbsorbing op c.args.width c.args.bits (Bits c.args.width c.args.bits)) (sym c.in-BvOr.is) (or_absorbs c.args.width c.args.bits (eqb-true c.args.bits c.ones.result h ∙ c.ones.ensures))
