use Rattle.std.proofs.Common.{◌≡◌, sym, ap, ◌∙◌, map}
use Rattle.std.specs.Prelude.{bytes_eq}
use Rattle.name_resolution.specs.Names.{place_of}
use Rattle.name_resolution.proofs.Places.{position-map}
use Rattle.name_resolution.proofs.names.NameTable.place.Goals as goal

pub returns : goal.returns
returns c =
    let seen : map (λ v. v.items) c.self.inside.words.keys ≡ c.args.self.now = c.self.view_is in
    c.get_index_of.ensures.index
    ∙ sym (position-map (λ v. v.items) (bytes_eq c.as_slice.result.now) c.self.inside.words.keys)
    ∙ ap (place_of c.as_slice.result.now) seen
    ∙ ap (λ name. place_of name c.args.self.now) c.as_slice.ensures.bytes
