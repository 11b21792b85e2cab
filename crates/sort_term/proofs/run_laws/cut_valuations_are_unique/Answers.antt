use Rattle.sort_term.proofs.Agreeing.{one_cover}
use Rattle.sort_term.proofs.run_laws.cut_valuations_are_unique.Goals as goal

pub returns : goal.returns
returns g c = λ sys item h v w s a b. one_cover sys item h v w s a b
