use Rattle.std.proofs.Common.{◌<◌, length, arith, subst}
use Rattle.map_reads.specs.Placing.{IsApply}
use Rattle.map_reads.proofs.Applying.{three_args, is_get, next_get, put_key, put_word, next_put, args_there, next_scalar}
use Rattle.map_reads.proofs.walking.apply.Goals as goal

pub read-requires-clause-get : goal.read-requires-clause-get
read-requires-clause-get g c =
    let d = c.args.d.now in
    let look = g.D.Domain.look d in
    let is = subst (λ op. IsApply look c.args.lines.now (length c.args.places.now) op c.args.args.now) c.in-Get.is c.requires.apply in
    is_get look c.args.lines.now c.args.places.now c.args.draft.now c.requires.places (g.D.Domain.variables d) (g.met.D.Domain.laws d) (g.met.D.Symbolic.views d).shows c.requires.lines c.requires.sorts c.requires.draft c.args.args.now is

pub returns-in_ok-found-in-Get : goal.returns-in_ok-found-in-Get
returns-in_ok-found-in-Get g c =
    let d = c.args.d.now in
    let look = g.D.Domain.look d in
    let is = subst (λ op. IsApply look c.args.lines.now (length c.args.places.now) op c.args.args.now) c.in-Get.is c.requires.apply in
    next_get look c.args.lines.now c.args.places.now c.args.draft.now c.requires.places (g.D.Domain.variables d) (g.met.D.Domain.laws d) (g.met.D.Symbolic.views d).shows c.requires.lines c.requires.sorts c.requires.draft c.args.args.now c.read.new.draft c.in_ok-found-in-Get.found is c.in_ok-found-in-Get.ensures

pub bounds-args-1-in-Put : goal.bounds-args-1-in-Put
bounds-args-1-in-Put g c =
    let d = c.args.d.now in
    let look = g.D.Domain.look d in
    let is = subst (λ op. IsApply look c.args.lines.now (length c.args.places.now) op c.args.args.now) c.in-Put.is c.requires.apply in
    let count = three_args look c.args.lines.now c.args.places.now c.args.draft.now c.requires.places (g.D.Domain.variables d) (g.met.D.Domain.laws d) (g.met.D.Symbolic.views d).shows c.requires.lines c.requires.sorts c.requires.draft c.args.args.now is in
    let l : 1 < length c.args.args.now = omega arith in
    l

pub scalar_at-key-requires : goal.scalar_at-key-requires
scalar_at-key-requires g c =
    let d = c.args.d.now in
    let look = g.D.Domain.look d in
    let is = subst (λ op. IsApply look c.args.lines.now (length c.args.places.now) op c.args.args.now) c.in-Put.is c.requires.apply in
    put_key look c.args.lines.now c.args.places.now c.args.draft.now c.requires.places (g.D.Domain.variables d) (g.met.D.Domain.laws d) (g.met.D.Symbolic.views d).shows c.requires.lines c.requires.sorts c.requires.draft c.args.args.now is

pub bounds-args-2 : goal.bounds-args-2
bounds-args-2 g c =
    let d = c.args.d.now in
    let look = g.D.Domain.look d in
    let is = subst (λ op. IsApply look c.args.lines.now (length c.args.places.now) op c.args.args.now) c.in-Put.is c.requires.apply in
    let count = three_args look c.args.lines.now c.args.places.now c.args.draft.now c.requires.places (g.D.Domain.variables d) (g.met.D.Domain.laws d) (g.met.D.Symbolic.views d).shows c.requires.lines c.requires.sorts c.requires.draft c.args.args.now is in
    let l : 2 < length c.args.args.now = omega arith in
    l

pub scalar_at-word-requires : goal.scalar_at-word-requires
scalar_at-word-requires g c =
    let d = c.args.d.now in
    let look = g.D.Domain.look d in
    let is = subst (λ op. IsApply look c.args.lines.now (length c.args.places.now) op c.args.args.now) c.in-Put.is c.requires.apply in
    put_word look c.args.lines.now c.args.places.now c.args.draft.now c.requires.places (g.D.Domain.variables d) (g.met.D.Domain.laws d) (g.met.D.Symbolic.views d).shows c.requires.lines c.requires.sorts c.requires.draft c.args.args.now is

pub returns-in-Put : goal.returns-in-Put
returns-in-Put g c =
    let d = c.args.d.now in
    let look = g.D.Domain.look d in
    let is = subst (λ op. IsApply look c.args.lines.now (length c.args.places.now) op c.args.args.now) c.in-Put.is c.requires.apply in
    next_put look c.args.lines.now c.args.places.now c.args.draft.now c.requires.places (g.D.Domain.variables d) (g.met.D.Domain.laws d) (g.met.D.Symbolic.views d).shows c.requires.lines c.requires.sorts c.requires.draft c.args.args.now _ is c.scalar_at-key.ensures c.scalar_at-word.ensures

pub operator-requires : goal.operator-requires
operator-requires g c =
    let d = c.args.d.now in
    let look = g.D.Domain.look d in
    args_there look c.args.lines.now c.args.places.now c.args.draft.now c.requires.places (g.D.Domain.variables d) (g.met.D.Domain.laws d) (g.met.D.Symbolic.views d).shows c.requires.lines c.requires.sorts c.requires.draft c.args.args.now c.args.op c.requires.apply c.in_default.not-Get c.in_default.not-Put

pub returns-in_ok-operator-in_default : goal.returns-in_ok-operator-in_default
returns-in_ok-operator-in_default g c =
    let d = c.args.d.now in
    let look = g.D.Domain.look d in
    next_scalar look c.args.lines.now c.args.places.now c.args.draft.now c.requires.places (g.D.Domain.variables d) (g.met.D.Domain.laws d) (g.met.D.Symbolic.views d).shows c.requires.lines c.requires.sorts c.requires.draft c.args.args.now c.args.op c.requires.apply c.in_default.not-Get c.in_default.not-Put c.operator.new.draft c.in_ok-operator-in_default.field-0 c.in_ok-operator-in_default.ensures
