-- The shelf keeps what it holds and counts each fetch, and what is fetched so far are the fronts of the names so far.
use Rattle.std.proofs.Common.{◌≡◌, IfSome, length, take}
use Rattle.keq_cli.specs.Outside.{count_after}
use Rattle.keq_cli.specs.Asked.{asks_of}
use Rattle.keq_cli.specs.Texts.{AreFetched}
use Rattle.keq_cli.proofs.fetching.fetch_texts.Given as goal

abbrev pub invariant-loop-name : goal.invariant-loop-name
invariant-loop-name g l =
    record {
      holds : g.F.Shelf.holds l.shelf ≡ g.F.Shelf.holds l.initial.shelf;
      steady : g.F.Shelf.steady l.shelf ≡ g.F.Shelf.steady l.initial.shelf;
      faults : g.F.Shelf.faults l.shelf ≡ g.F.Shelf.faults l.initial.shelf;
      calls : g.F.Shelf.calls l.shelf ≡ count_after l.name-index (g.F.Shelf.calls l.initial.shelf);
      as_many : length l.texts ≡ l.name-index;
      texts : IfSome (g.F.Shelf.holds l.initial.shelf) (λ files. AreFetched files (asks_of (take l.name-index l.names)) l.texts);
    }
