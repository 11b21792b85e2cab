use Rattle.std.proofs.Common.{◌≡◌, Some, subst}
use Rattle.std.specs.Prelude.{IfSome}
use Rattle.simplify.specs.declared.rewritten.Rewritten.TheVariants.{Known}
use Rattle.simplify.specs.Rewrites.{IsRewritten, IsScalarFor}
use Rattle.simplify.proofs.RewriteLemmas.{known_value, known_simpler}
use Rattle.simplify.proofs.operator.simpler_operator.Goals as goal

pub constant-requires : goal.constant-requires
constant-requires g c =
    let d = c.args.d.now in
    let look = g.D.Domain.look d in
    let vars = g.D.Domain.variables d in
    let known : c.in_ok-node.field-0 ≡ Some (Known c.in-Some-Known.scalar) = cc in
    let is : IsScalarFor vars look c.args.op c.args.args.now c.in-Some-Known.scalar = subst (λ o. IfSome o (IsRewritten vars look c.args.op c.args.args.now)) known c.in_ok-node.ensures in
    (known_value look vars (g.met.D.Domain.laws d) c.args.op c.args.args.now c.in-Some-Known.scalar c.requires.valid c.requires.sorted is).0

pub returns-in_ok-constant-in-Some-Known-clause-simpler : goal.returns-in_ok-constant-in-Some-Known-clause-simpler
returns-in_ok-constant-in-Some-Known-clause-simpler g c =
    let d = c.args.d.now in
    let look = g.D.Domain.look d in
    let vars = g.D.Domain.variables d in
    let known : c.in_ok-node.field-0 ≡ Some (Known c.in-Some-Known.scalar) = cc in
    let is : IsScalarFor vars look c.args.op c.args.args.now c.in-Some-Known.scalar = subst (λ o. IfSome o (IsRewritten vars look c.args.op c.args.args.now)) known c.in_ok-node.ensures in
    let made = c.in_ok-constant-in-Some-Known.ensures.made in
    let shown = (g.met.D.Symbolic.views c.constant.new.self).shows c.in_ok-constant-in-Some-Known.field-0 made.valid in
    known_simpler look vars (g.met.D.Domain.laws d) (g.D.Domain.look c.constant.new.self) (g.D.Domain.variables c.constant.new.self) c.args.op c.args.args.now c.in-Some-Known.scalar c.in_ok-constant-in-Some-Known.field-0 c.requires.valid c.requires.sorted is made shown
