use Rattle.std.proofs.Common.{◌≡◌, ℕ, List, [], ◌∷◌, length, reverse, take, nat_eq, refl, ap, ◌∙◌, arith}
use Rattle.std.proofs.lemmas.List.{length-append, length-reverse, length-take}
use Rattle.indexmap.specs.IndexMap.{get}
use Rattle.data_value.specs.Views.{shown_args}
use Rattle.node_list.specs.Walks.{arity}
use Rattle.node_list.proofs.Lines.{begins-push, stand_length, stands_last, made_at, listing_grown}
use Rattle.node_list.proofs.Tops.{reverse_push}
use Rattle.node_list.proofs.walk.append.Goals as goal

pub made_of-requires-clause-found : goal.made_of-requires-clause-found
made_of-requires-clause-found g c =
    let s = g.D.Domain.look c.args.d.now c.args.node in
    let found = c.args.walk.now.found.items in
    let k = arity s in
    let stand = stand_length (g.D.Domain.look c.args.d.now) c.args.walk.now.lines.items (take k (reverse found)) (shown_args s.shown) c.requires.found in
    let cut = length-take k (reverse found) in
    let turned = length-reverse found in
    omega arith

pub returns-clause-listing : goal.returns-clause-listing
returns-clause-listing g c =
    let look = g.D.Domain.look c.args.d.now in
    let s = look c.args.node in
    let lines = c.args.walk.now.lines in
    let at : c.len-place.result ≡ length lines.items = omega (arith, c.len-place.ensures, lines.ok.0) in
    listing_grown look lines.items c.push.new.self.items (get nat_eq c.args.walk.now.places) (get nat_eq c.remember.new.places) _ s c.len-place.result c.requires.listing refl c.requires.node c.requires.new c.in_ok-push.ensures.items at
    c.in_ok-remember.ensures.kept c.in_ok-remember.ensures.others
    (made_at look lines.items s c.in_ok-made.made (take (arity s) (reverse c.args.walk.now.found.items)) c.in_ok-made.ensures.made c.requires.found)

pub returns-clause-appended : goal.returns-clause-appended
returns-clause-appended g c =
    let look = g.D.Domain.look c.args.d.now in
    let s = look c.args.node in
    let lines = c.args.walk.now.lines in
    let place = c.len-place.result in
    let at : place ≡ length lines.items = omega (arith, c.len-place.ensures, lines.ok.0) in
    let more = c.in_ok-push.ensures.items in
    let long = ap (λ (ls : List _). length ls) more ∙ length-append lines.items (_ ∷ []) in
    record {
      begins = begins-push lines.items c.push.new.self.items _ more;
      place = place;
      end = omega arith;
      stands = stands_last look lines.items c.push.new.self.items _ s place at refl more;
      is = reverse_push c.made_of.new.found.items c.push-2.new.self.items place c.in_ok-push-2.ensures.items ∙ ap (λ (ps : List ℕ). place ∷ ps) c.in_ok-made.ensures.rest;
      others = c.in_ok-remember.ensures.others;
    }
