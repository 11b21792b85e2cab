use Rattle.std.proofs.Common.{◌≡◌, ◌≤◌, ◌+◌, ◌∷◌, ◌++◌, [], List, None, length, take, ap, sym, ◌∙◌, arith, length-append, length-set}
use Rattle.std.proofs.lemmas.List.{take-append-le, take_all}
use Rattle.clause_search.specs.declared.trail.Entry.{Entry}
use Rattle.clause_search.proofs.TrailLemmas.{trail_popped}
use Rattle.clause_search.proofs.MarkLemmas.{unmarked_front, unmarked_last, others_stay, unset_open}
use Rattle.clause_search.proofs.analysis.jump.Goals as goal

pub loop-trail-preserved-in-Some : goal.loop-trail-preserved-in-Some
loop-trail-preserved-in-Some c =
    let old = c.loop-trail.trail in
    let new = c.pop.new.self in
    let e = c.in-Some.entry in
    let marks = c.args.hints.now.marks in
    let i = c.loop-trail.invariant in
    let q : old.entries ≡ new.entries ++ e ∷ [] = c.in-Some.ensures.0 in
    let v = c.in-Some.ensures.1 in
    let size : length old.entries ≡ length new.entries + 1 = ap length q ∙ length-append new.entries (e ∷ []) in
    let n = c.len.ensures in
    let t = c.loop-trail-test.true in
    let within : c.args.kept ≤ length new.entries = omega arith in
    let free = unmarked_last marks old.entries new.entries e c.args.kept q within i.unmarked in
    record {
      within = within;
      unmarked = unmarked_front marks old.entries new.entries e c.args.kept q i.unmarked;
      trail = λ cs h. (trail_popped cs old new e (i.trail cs h) q v).trail;
      entries = sym (take-append-le c.args.kept new.entries (e ∷ []) within) ∙ ap (λ (es : List Entry). take c.args.kept es) (sym q) ∙ i.entries;
      vars = ap length v ∙ length-set old.values e.lit.var None ∙ i.vars;
      others = λ u s h. others_stay old.values new.values marks e.lit.var u s v free (i.others u s h);
      undecided = λ u h. unset_open old.values new.values e.lit.var u v (i.undecided u h);
    }

pub returns : goal.returns
returns c =
    let i = c.loop-trail.invariant in
    let whole : length c.loop-trail.trail.entries ≤ c.args.kept = omega (arith, c.len.ensures, c.loop-trail-test.false) in
    record { trail = i.trail; entries = sym (take_all c.args.kept c.loop-trail.trail.entries whole) ∙ i.entries; vars = i.vars; others = i.others; undecided = i.undecided }
