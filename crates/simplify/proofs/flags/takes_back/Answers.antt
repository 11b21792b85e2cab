use Rattle.std.proofs.Common.{sym, subst}
use Rattle.data_value.specs.declared.Op.TheVariants.{Neg}
use Rattle.simplify.specs.Rewrites.{TakesBack}
use Rattle.simplify.proofs.FlagLemmas.{neg_taken_back}
use Rattle.simplify.proofs.flags.takes_back.Goals as goal

pub returns-in-Neg-Neg : goal.returns-in-Neg-Neg
returns-in-Neg-Neg c = λ h. subst (λ op. TakesBack op c.args.inner) (sym c.in-Neg-Neg.is-0) (subst (TakesBack Neg) (sym c.in-Neg-Neg.is-1) neg_taken_back)
