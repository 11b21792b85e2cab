use Rattle.std.proofs.Common.{refl, sym, ◌∙◌}
use Rattle.std.proofs.lemmas.Bool.{eq-eqb, ne_eqb}
use Rattle.data_value.proofs.MapLemmas.{put_is_mapping, read-write}
use Rattle.data_value.proofs.laws.puts_change_one_key.Goals as goal

pub returns-clause-map : goal.returns-clause-map
returns-clause-map c = put_is_mapping

pub returns-clause-back : goal.returns-clause-back
returns-clause-back c = λ es k v. read-write es k v k ∙ rw (eq-eqb k k refl)

pub returns-clause-others : goal.returns-clause-others
returns-clause-others c = λ es k v j n. read-write es k v j ∙ rw (ne_eqb k j (λ e. n (sym e)))
