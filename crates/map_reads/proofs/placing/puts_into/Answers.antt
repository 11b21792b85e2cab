use Rattle.std.proofs.Common.{◌≡◌, ◌<◌, ◌∷◌, [], List, Some, slice_get, reverse, arith, sym, ap, ◌∙◌, subst}
use Rattle.std.proofs.lemmas.List.{reverse-append}
use Rattle.std.proofs.lemmas.Option.{slice_get-get_or, same_Some}
use Rattle.map_reads.specs.declared.placing.Place.TheVariants.{Over}
use Rattle.map_reads.specs.declared.placing.Put.{Put}
use Rattle.map_reads.specs.Placing.{LeadsUp}
use Rattle.map_reads.proofs.placing.puts_into.Goals as goal

pub loop-base-preserved : goal.loop-base-preserved
loop-base-preserved c =
    let places = c.args.places.now in
    let base = c.loop-base.base in
    let below = c.in-Over.below in
    let put = c.in-Over.put in
    let at : slice_get places base ≡ Some (Over below put) = slice_get-get_or places base _ c.loop-base.invariant.within ∙ ap Some c.in-Over.is in
    let less : below < base = c.requires.down base below put at in
    let more : reverse c.push.new.self.items ≡ put ∷ reverse c.loop-base.puts.items = ap (λ (ps : List Put). reverse ps) c.in_ok-push.ensures.items ∙ reverse-append c.loop-base.puts.items (put ∷ []) in
    record {
      within = let w = c.loop-base.invariant.within in omega arith;
      leads = subst (λ (ps : List Put). LeadsUp places c.args.map ps below) (sym more) (base, at, c.loop-base.invariant.leads);
    }

pub returns : goal.returns
returns c = record {
  within = c.loop-base.invariant.within;
  leads = c.loop-base.invariant.leads;
  ends = λ m put at. c.in_default.not-Over m put (same_Some _ _ (sym (slice_get-get_or c.args.places.now c.loop-base.base _ c.loop-base.invariant.within) ∙ at));
}
