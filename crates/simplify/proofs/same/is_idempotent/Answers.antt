use Rattle.std.proofs.Common.{sym, subst}
use Rattle.simplify.specs.Rewrites.{IsIdempotent}
use Rattle.simplify.proofs.SameLemmas.{and_idempotent, or_idempotent, bit_and_idempotent, bit_or_idempotent}
use Rattle.simplify.proofs.same.is_idempotent.Goals as goal

pub returns-in-And : goal.returns-in-And
returns-in-And c = λ h. subst IsIdempotent (sym c.in-And.is) and_idempotent

pub returns-in-Or : goal.returns-in-Or
returns-in-Or c = λ h. subst IsIdempotent (sym c.in-Or.is) or_idempotent

pub returns-in-BvAnd : goal.returns-in-BvAnd
returns-in-BvAnd c = λ h. subst IsIdempotent (sym c.in-BvAnd.is) bit_and_idempotent

pub returns-in-BvOr : goal.returns-in-BvOr
returns-in-BvOr c = λ h. subst IsIdempotent (sym c.in-BvOr.is) bit_or_idempotent
