use Rattle.std.proofs.Common.{sym, subst, [], ◌∷◌}
use Rattle.simplify.specs.Rewrites.{IsRewritten}
use Rattle.simplify.proofs.FlagLemmas.{false_right, false_left}
use Rattle.simplify.proofs.RewriteLemmas.{through}
use Rattle.data_value.specs.declared.Op.TheVariants.{Not, Eq}
use Rattle.simplify.proofs.flags.beside_false.Goals as goal

pub returns-then-is_beside_false : goal.returns-then-is_beside_false
returns-then-is_beside_false g c =
    let d = c.args.d.now in
    let look = g.D.Domain.look d in
    let vars = g.D.Domain.variables d in
    let a = c.args.a.now in
    let b = c.args.b.now in
    let is = c.is_beside_false.ensures c.if-is_beside_false.true in
    subst (λ op. IsRewritten vars look op (a ∷ b ∷ []) c.in_ok-negation-in-Eq.field-0) (sym c.in-Eq.is)
    (through vars look Eq Not (a ∷ b ∷ []) (a ∷ []) (false_right look vars (g.met.D.Domain.laws d) a b c.requires.first c.requires.second is.0 is.1) c.in_ok-negation-in-Eq.field-0 c.in_ok-negation-in-Eq.ensures)

pub returns-then-is_beside_false-2 : goal.returns-then-is_beside_false-2
returns-then-is_beside_false-2 g c =
    let d = c.args.d.now in
    let look = g.D.Domain.look d in
    let vars = g.D.Domain.variables d in
    let a = c.args.a.now in
    let b = c.args.b.now in
    let is = c.is_beside_false-in-Eq.ensures c.if-is_beside_false-2.true in
    subst (λ op. IsRewritten vars look op (a ∷ b ∷ []) c.in_ok-negation-in-Eq-2.field-0) (sym c.in-Eq.is)
    (through vars look Eq Not (a ∷ b ∷ []) (b ∷ []) (false_left look vars (g.met.D.Domain.laws d) a b c.requires.first c.requires.second is.0 is.1) c.in_ok-negation-in-Eq-2.field-0 c.in_ok-negation-in-Eq-2.ensures)
