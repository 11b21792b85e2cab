use Rattle.std.proofs.Common.{◌<◌, All, AllPairs}
use Rattle.pair_examples.proofs.undefined.rising_places.Given as goal

-- the places so far are below the bound, and rise
abbrev pub invariant-loop-form : goal.invariant-loop-form
invariant-loop-form l = All (λ k. k < l.bound) l.places × AllPairs (λ j k. j < k) l.places
