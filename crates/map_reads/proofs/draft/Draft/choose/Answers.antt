use Rattle.std.proofs.Common.{◌∷◌, []}
use Rattle.std.proofs.lemmas.Result.{IfOk-weaker}
use Rattle.data_value.specs.declared.DataSort.TheVariants.{Bool as BoolSort}
use Rattle.data_value.specs.declared.Op.TheVariants.{Ite}
use Rattle.map_reads.proofs.Drafting.{applied}
use Rattle.map_reads.proofs.Sorting.{choice_of, three_at}
use Rattle.map_reads.proofs.draft.Draft.choose.Goals as goal

pub returns-in-None : goal.returns-in-None
returns-in-None c =
    let old = c.args.self.now in
    IfOk-weaker c.apply.result _ _
    (λ p is t draft scalar test a b.
    applied old c.apply.new.self p Ite (c.args.test ∷ c.args.a ∷ c.args.b ∷ []) (BoolSort ∷ t ∷ t ∷ []) t draft is (three_at test a b) (choice_of t scalar))
    c.apply.ensures
