use Rattle.std.proofs.Common.{◌∷◌, [], arith}
use Rattle.std.proofs.lemmas.Result.{IfOk-weaker}
use Rattle.bv_blast.specs.Places.{HasPlace}
use Rattle.bv_blast.proofs.PlaceLemmas.{arg_below, arg_has, arg_sort, one_place, two_places, three_places, args_sorted, args_valued}
use Rattle.bv_blast.proofs.walk.apply.Goals as goal

pub bounds-places-i : goal.bounds-places-i
bounds-places-i c = arg_below c.args.places.now c.args.args.now c.requires.before 0 (omega arith)

pub on_one-requires-clause-sorted : goal.on_one-requires-clause-sorted
on_one-requires-clause-sorted c = args_sorted c.args.places.now c.args.args.now c.requires.before c.args.op (c.index-places-i.result ∷ []) (one_place c.args.places.now c.args.args.now c.requires.before c.index-places-i.result (omega arith) c.index-places-i.is) c.requires.sorted

pub on_one-requires-clause-x : goal.on_one-requires-clause-x
on_one-requires-clause-x c = arg_has c.args.places.now c.args.args.now c.requires.before (HasPlace c.args.b.now) 0 c.index-places-i.result (omega arith) c.index-places-i.is c.requires.places

pub on_one-requires-clause-sort : goal.on_one-requires-clause-sort
on_one-requires-clause-sort c = arg_sort c.args.places.now c.args.args.now c.requires.before 0 c.index-places-i.result (omega arith) c.index-places-i.is c.requires.sorts

pub returns-in-len1-clause-made : goal.returns-in-len1-clause-made
returns-in-len1-clause-made c =
    IfOk-weaker c.on_one.result _ _ (args_valued c.args.places.now c.args.args.now c.requires.before c.args.op (c.index-places-i.result ∷ []) (one_place c.args.places.now c.args.args.now c.requires.before c.index-places-i.result (omega arith) c.index-places-i.is) c.on_one.new.b) c.on_one.ensures.made

pub bounds-places-i-in-len2 : goal.bounds-places-i-in-len2
bounds-places-i-in-len2 c = arg_below c.args.places.now c.args.args.now c.requires.before 0 (omega arith)

pub bounds-places-j : goal.bounds-places-j
bounds-places-j c = arg_below c.args.places.now c.args.args.now c.requires.before 1 (omega arith)

pub on_two-requires-clause-sorted : goal.on_two-requires-clause-sorted
on_two-requires-clause-sorted c = args_sorted c.args.places.now c.args.args.now c.requires.before c.args.op (c.index-places-i-in-len2.result ∷ c.index-places-j.result ∷ []) (two_places c.args.places.now c.args.args.now c.requires.before c.index-places-i-in-len2.result c.index-places-j.result (omega arith) c.index-places-i-in-len2.is c.index-places-j.is) c.requires.sorted

pub on_two-requires-clause-x : goal.on_two-requires-clause-x
on_two-requires-clause-x c = arg_has c.args.places.now c.args.args.now c.requires.before (HasPlace c.args.b.now) 0 c.index-places-i-in-len2.result (omega arith) c.index-places-i-in-len2.is c.requires.places

pub on_two-requires-clause-y : goal.on_two-requires-clause-y
on_two-requires-clause-y c = arg_has c.args.places.now c.args.args.now c.requires.before (HasPlace c.args.b.now) 1 c.index-places-j.result (omega arith) c.index-places-j.is c.requires.places

pub on_two-requires-clause-sort_x : goal.on_two-requires-clause-sort_x
on_two-requires-clause-sort_x c = arg_sort c.args.places.now c.args.args.now c.requires.before 0 c.index-places-i-in-len2.result (omega arith) c.index-places-i-in-len2.is c.requires.sorts

pub on_two-requires-clause-sort_y : goal.on_two-requires-clause-sort_y
on_two-requires-clause-sort_y c = arg_sort c.args.places.now c.args.args.now c.requires.before 1 c.index-places-j.result (omega arith) c.index-places-j.is c.requires.sorts

pub returns-in-len2-clause-made : goal.returns-in-len2-clause-made
returns-in-len2-clause-made c =
    IfOk-weaker c.on_two.result _ _ (args_valued c.args.places.now c.args.args.now c.requires.before c.args.op (c.index-places-i-in-len2.result ∷ c.index-places-j.result ∷ []) (two_places c.args.places.now c.args.args.now c.requires.before c.index-places-i-in-len2.result c.index-places-j.result (omega arith) c.index-places-i-in-len2.is c.index-places-j.is) c.on_two.new.b) c.on_two.ensures.made

pub bounds-places-i-in-len3 : goal.bounds-places-i-in-len3
bounds-places-i-in-len3 c = arg_below c.args.places.now c.args.args.now c.requires.before 0 (omega arith)

pub bounds-places-j-in-len3 : goal.bounds-places-j-in-len3
bounds-places-j-in-len3 c = arg_below c.args.places.now c.args.args.now c.requires.before 1 (omega arith)

pub bounds-places-k : goal.bounds-places-k
bounds-places-k c = arg_below c.args.places.now c.args.args.now c.requires.before 2 (omega arith)

pub on_three-requires-clause-sorted : goal.on_three-requires-clause-sorted
on_three-requires-clause-sorted c = args_sorted c.args.places.now c.args.args.now c.requires.before c.args.op (c.index-places-i-in-len3.result ∷ c.index-places-j-in-len3.result ∷ c.index-places-k.result ∷ []) (three_places c.args.places.now c.args.args.now c.requires.before c.index-places-i-in-len3.result c.index-places-j-in-len3.result c.index-places-k.result (omega arith) c.index-places-i-in-len3.is c.index-places-j-in-len3.is c.index-places-k.is) c.requires.sorted

pub on_three-requires-clause-first : goal.on_three-requires-clause-first
on_three-requires-clause-first c = arg_has c.args.places.now c.args.args.now c.requires.before (HasPlace c.args.b.now) 0 c.index-places-i-in-len3.result (omega arith) c.index-places-i-in-len3.is c.requires.places

pub on_three-requires-clause-x : goal.on_three-requires-clause-x
on_three-requires-clause-x c = arg_has c.args.places.now c.args.args.now c.requires.before (HasPlace c.args.b.now) 1 c.index-places-j-in-len3.result (omega arith) c.index-places-j-in-len3.is c.requires.places

pub on_three-requires-clause-y : goal.on_three-requires-clause-y
on_three-requires-clause-y c = arg_has c.args.places.now c.args.args.now c.requires.before (HasPlace c.args.b.now) 2 c.index-places-k.result (omega arith) c.index-places-k.is c.requires.places

pub returns-in-len3-clause-made : goal.returns-in-len3-clause-made
returns-in-len3-clause-made c =
    IfOk-weaker c.on_three.result _ _ (args_valued c.args.places.now c.args.args.now c.requires.before c.args.op (c.index-places-i-in-len3.result ∷ c.index-places-j-in-len3.result ∷ c.index-places-k.result ∷ []) (three_places c.args.places.now c.args.args.now c.requires.before c.index-places-i-in-len3.result c.index-places-j-in-len3.result c.index-places-k.result (omega arith) c.index-places-i-in-len3.is c.index-places-j-in-len3.is c.index-places-k.is) c.on_three.new.b) c.on_three.ensures.made
