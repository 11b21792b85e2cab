use Rattle.std.proofs.Common.{sym, ◌∙◌, ◌≡◌, arith, ℕ, List, take, min, length, ap}
use Rattle.std.proofs.lemmas.Grind.{common_steps}
use Rattle.std.proofs.lemmas.List.{take_all}
use Rattle.std.proofs.Math.Seq.{take-length}
use Rattle.std.specs.FinMap.{get}
use Rattle.keq_cli.specs.Memory.{file_map}
use Rattle.keq_cli.proofs.memory_shelf.MemoryShelfShelf.fetch.Goals as goal

take_min : (n : ℕ) (xs : List ℕ) → take (min n (length xs)) xs ≡ take n xs
take_min n xs = grind (arith, common_steps, take_all, take-length)

pub returns-in_ok-from_slice-in-Some-clause-bytes : goal.returns-in_ok-from_slice-in-Some-clause-bytes
returns-in_ok-from_slice-in-Some-clause-bytes c =
    record {
      all = c.in-Some.text.now;
      held = ap (λ files. get (file_map files) c.args.name.now) (sym c.as_slice-2.ensures) ∙ sym c.in-Some.ensures;
      front = c.in_ok-from_slice-in-Some.ensures.items ∙ ap (λ n. take n c.in-Some.text.now) c.min.ensures ∙ take_min c.args.most c.in-Some.text.now;
    }
