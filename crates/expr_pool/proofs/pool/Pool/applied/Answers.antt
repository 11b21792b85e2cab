use Rattle.std.proofs.Common.{◌≡◌, ◌∙◌, Some, nat_lt, length, ap}
use Rattle.std.proofs.lemmas.List.Sums.{list_all-from_AllPass}
use Rattle.data_value.specs.Sorts.{op_sort}
use Rattle.data_value.specs.Nodes.{sorts_of}
use Rattle.expr_pool.specs.Keys.{pool_look}
use Rattle.data_value.proofs.Folding.{fits_applied}
use Rattle.expr_pool.proofs.pool.Pool.applied.Goals as goal

pub returns-clause-fits : goal.returns-clause-fits
returns-clause-fits c =
    let keys = c.args.self.now.nodes.keys in
    let below = list_all-from_AllPass (λ n. nat_lt n (length keys)) c.args.args.now c.requires.valid in
    let sorted : Some c.in-Some.sort ≡ op_sort c.args.op (sorts_of (pool_look keys) c.args.args.now) =
    c.in-Some.ensures ∙ ap (op_sort c.args.op) (c.as_slice-2.ensures.value ∙ c.in_ok-sorts.ensures ∙ ap (λ ks. sorts_of (pool_look ks) c.args.args.now) c.as_slice.ensures.keys) in
    fits_applied (length keys) (sorts_of (pool_look keys)) c.args.op c.in-Some.sort c.in_ok-from_slice-in-Some.field-0.items c.args.args.now c.in_ok-from_slice-in-Some.ensures.ok below sorted
