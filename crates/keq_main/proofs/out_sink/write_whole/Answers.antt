use Rattle.std.proofs.Common.{◌≡◌, ◌+◌, ◌-◌, ℕ, List, ◌++◌, length, take, drop, subst, sym, ap, ◌∙◌, rules, take-add}
use Rattle.std.proofs.lemmas.List.{take_rest}
use Rattle.std.specs.Io.KnownBytes.{Appends}
use Rattle.std.proofs.KnownBytes.{Appends-trans}
use Rattle.keq_main.proofs.out_sink.write_whole.Goals as goal

-- a front of the piece, and a front of the rest
front_more : (piece : List ℕ) (at count : ℕ) → take at piece ++ take count (take (length piece - at) (drop at piece)) ≡ take (at + count) piece
front_more piece at count = ap (λ rest. take at piece ++ take count rest) (take_rest piece at) ∙ sym (take-add at count piece)

pub loop-at-preserved : goal.loop-at-preserved
loop-at-preserved g c =
    record {
      within = search rules;
      written = subst (Appends _ _) (front_more c.args.piece.now c.loop-at.at c.in-Ok.count) (Appends-trans _ _ _ _ _ c.loop-at.invariant.written c.in-Ok.ensures.bytes);
    }
