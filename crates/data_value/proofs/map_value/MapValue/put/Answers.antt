use Rattle.std.proofs.Common.{◌≡◌, ap}
use Rattle.data_value.specs.Maps.{Mapping}
use Rattle.data_value.proofs.MapLemmas.{put_is_mapping}
use Rattle.data_value.proofs.map_value.MapValue.put.Goals as goal

pub invariant_of-result : goal.invariant_of-result
invariant_of-result c =
    let key_width : c.self.inside.key_width ≡ c.args.self.now.key_width = ap (λ (m : Mapping). m.key_width) c.self.view_is in
    let word_width : c.self.inside.word_width ≡ c.args.self.now.word_width = ap (λ (m : Mapping). m.word_width) c.self.view_is in
    rw (c.in_ok-entries.ensures, c.deref.ensures.value)
    (put_is_mapping _ c.args.key c.args.word c.self.invariant (rw key_width c.requires.key) (rw word_width c.requires.word))
