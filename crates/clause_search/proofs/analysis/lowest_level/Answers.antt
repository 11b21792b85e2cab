use Rattle.std.proofs.Common.{◌≡◌, ◌-◌, inl, arith, false, None, Some, Option, ℕ, refl, sym}
use Rattle.std.specs.Option.{is_some}
use Rattle.clause_search.proofs.MarkLemmas.{unmarked_more, before_decision}
use Rattle.clause_search.proofs.analysis.lowest_level.Goals as goal

no_number : (o : Option ℕ) → is_some o ≡ false → o ≡ None
no_number None h = refl
no_number (Some k) h = cc

pub loop-place-preserved-then-is_none : goal.loop-place-preserved-then-is_none
loop-place-preserved-then-is_none c =
    let place = c.loop-place.place in
    let i = c.loop-place.invariant in
    let t = c.loop-place-test.true in
    record {
      unmarked = unmarked_more c.args.marks.now c.args.entries.now (place - 1) place _ (omega arith) (sym c.if-not-has.ensures) i.unmarked;
      within = omega arith;
      lowest = (omega arith, omega arith, inl (before_decision c.args.entries.now (place - 1) _ (omega arith) (no_number _ c.if-is_none.ensures)));
    }
