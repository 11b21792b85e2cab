use Rattle.std.proofs.Common.{rules, ℕ, ◌+◌, List, All, IsTrue, Option, IfSome, length, sym, ap, ◌∙◌, subst}
use Rattle.std.proofs.lemmas.List.{length_push}
use Rattle.keq_cli.specs.Outside.{FileMap, IsHeld, IsFetched}
use Rattle.keq_cli.specs.Words.{Ask}
use Rattle.keq_cli.specs.Asked.{asks_of}
use Rattle.keq_cli.proofs.Fetched.{fetched_more, never_missing}
use Rattle.keq_cli.proofs.fetching.fetch_texts.Goals as goal

pub returns-in_err-text-clause-steady : goal.returns-in_err-text-clause-steady
returns-in_err-text-clause-steady g c = λ steady all failed.
    let shelf = c.loop-name.shelf in
    let still : IsTrue (g.F.Shelf.steady shelf) = subst IsTrue (sym c.loop-name.invariant.steady) steady in
    let held : IfSome (g.F.Shelf.holds shelf) (λ files. All (λ (ask : Ask). IsHeld files ask.name) (asks_of c.args.names.now)) =
    subst (λ (held : Option FileMap). IfSome held (λ files. All (λ (ask : Ask). IsHeld files ask.name) (asks_of c.args.names.now))) (sym c.loop-name.invariant.holds) all in
    never_missing c.args.names.now c.loop-name.name-index c.name-item.result c.loop-name-test.true c.name-item.is (g.F.Shelf.steady shelf) (g.F.Shelf.holds shelf) c.as_str.result.now c.as_str.ensures.value still (g.met.F.Shelf.steady_tells shelf still) held (c.in_err-text.ensures.missing (search rules))

pub loop-name-preserved : goal.loop-name-preserved
loop-name-preserved g c =
    let shelf = c.loop-name.shelf in
    let text = c.from_vec.result in
    let fetched : IfSome (g.F.Shelf.holds shelf) (λ files. IsFetched files c.as_str.result.now 1048577 text) =
    subst (λ (bytes : List ℕ). IfSome (g.F.Shelf.holds shelf) (λ files. IsFetched files c.as_str.result.now 1048577 bytes)) (sym c.from_vec.ensures) c.in_ok-text.ensures.bytes in
    record {
      holds = search rules;
      steady = search rules;
      faults = search rules;
      calls = search rules;
      as_many = ap length c.in_ok-push.ensures.ok ∙ length_push c.loop-name.texts text ∙ ap (λ n. n + 1) c.loop-name.invariant.as_many;
      texts = fetched_more c.args.names.now c.loop-name.name-index c.name-item.result c.loop-name-test.true c.name-item.is (g.F.Shelf.holds c.args.shelf.now) c.as_str.result.now c.as_str.ensures.value c.loop-name.texts c.push.new.self text c.in_ok-push.ensures.ok c.loop-name.invariant.texts
          (subst (λ (held : Option FileMap). IfSome held (λ files. IsFetched files c.as_str.result.now 1048577 text)) c.loop-name.invariant.holds fetched);
    }
