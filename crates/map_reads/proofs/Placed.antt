-- The lines of a node get their places in turn, and so do nodes.
use Rattle.std.proofs.Common.{◌≡◌, ℕ, ◌<◌, ◌+◌, ◌-◌, inl, inr, true, Some, List, [], ◌∷◌, ◌++◌, length, take, slice_get, get_or, arith, ap, sym, ◌∙◌, subst}
use Rattle.std.proofs.lemmas.List.{length-append, take_more, take_all}
use Rattle.std.proofs.lemmas.Option.{slice_get_within}
use Rattle.data_value.specs.Sorts.{is_scalar_sort}
use Rattle.data_value.specs.Nodes.{Seen, IsValuation}
use Rattle.node_list.specs.declared.line.Line.{Line}
use Rattle.node_list.specs.Listed.{IsListed}
use Rattle.map_reads.specs.declared.draft.Draft.{Draft}
use Rattle.map_reads.specs.declared.placing.Place.{Place}
use Rattle.map_reads.specs.declared.placing.Place.TheVariants.{Scalar, Map, Over}
use Rattle.map_reads.specs.declared.placing.Put.{Put}
use Rattle.map_reads.specs.Drafts.{IsDraft, Grows, Stands, IsPlaced}
use Rattle.map_reads.specs.Placing.{IsScalarAt, IsWordAt, IsOver, StandsFor, HavePlaces, IsNext, ArePlaced, scalar_meant}
use Rattle.map_reads.proofs.Drafting.{get_pushed, grows-same, grows-both, stands_later}
use Rattle.map_reads.proofs.Walks.{scalar_there, scalar_stands}

-- the first i lines have their places, in a draft that has grown
pub record IsWalked {N : Type 0} (look : N → Seen N) (old new : Draft) (lines : List (Line N)) (places : List Place) (i : ℕ) : Type 0 where
  pub count : length places ≡ i
  pub grows : Grows old new
  pub draft : IsDraft new
  pub have : HavePlaces look new lines places

module _ {N : Type 0} (look : N → Seen N) (old new : Draft) (draft : IsDraft old) (grows : Grows old new) where
  word_later : (p w : ℕ) (s : Seen N) → IsWordAt old p w s → IsWordAt new p w s
  word_later p w s is = record { stands = stands_later old new draft grows p _ _ is.stands; value = λ v fits. is.value v (subst (λ ss. IsValuation ss v) grows.sorts fits) }

  over_later : (above below : Seen N) (put : Put) → IsOver old above below put → IsOver new above below put
  over_later above below put is = record {
    key_width = is.key_width;
    word_width = is.word_width;
    sort = is.sort;
    same_sort = is.same_sort;
    key = is.key;
    word = is.word;
    key_at = word_later put.key is.key_width is.key is.key_at;
    word_at = word_later put.word is.word_width is.word is.word_at;
    map_value = λ v fits. is.map_value v (subst (λ ss. IsValuation ss v) grows.sorts fits);
    means = is.means;
  }

  -- a line's place is its place in a draft that has grown
  for_later : (lines : List (Line N)) (k : ℕ) (s : Seen N) (p : Place) → StandsFor look old lines k s p → StandsFor look new lines k s p
  for_later lines k s (Scalar q) for = (for.0, stands_later old new draft grows q _ _ for.1)
  for_later lines k s Map for = for
  for_later lines k s (Over m put) for = (for.0, (for.1.0, for.1.1, over_later s for.1.0 put for.1.2))

module _ {N : Type 0} (look : N → Seen N) where
  pub walk_begins : (old : Draft) (lines : List (Line N)) (places : List Place) → IsDraft old → places ≡ [] → IsWalked look old old lines places 0
  walk_begins old lines places draft none = record {
    count = ap (λ (ps : List Place). length ps) none;
    grows = grows-same old;
    draft = draft;
    have = record {
      within = let e = ap (λ (ps : List Place). length ps) none in omega arith;
      each = λ k line place at is. absurd (let e = ap (λ (ps : List Place). length ps) none in let l = slice_get_within places k place is in omega arith);
    };
  }

  pub walk_next : (old mid new : Draft) (lines : List (Line N)) (places more : List Place) (place : Place) (i : ℕ) → i < length lines → IsWalked look old mid lines places i → IsNext look mid new lines (length places) place → more ≡ places ++ place ∷ [] → IsWalked look old new lines more (i + 1)
  walk_next old mid new lines places more place i low before next e =
      let longer : length more ≡ length places + 1 = ap (λ (ps : List Place). length ps) e ∙ length-append places (place ∷ []) in
      record {
        count = let c = before.count in omega arith;
        grows = grows-both old mid new before.grows next.grows;
        draft = next.draft;
        have = record {
          within = let c = before.count in omega arith;
          each = λ k line p at is. elim (get_pushed places place k p (sym (ap (λ (ps : List Place). slice_get ps k) e) ∙ is)) [
            | inl h ↦ for_later look mid new before.draft next.grows lines k (look line.node) p (before.have.each k line p at h)
            | inr h ↦
                subst (StandsFor look new lines k (look line.node)) h.1
                (subst (λ j. StandsFor look new lines j (look line.node) place) (sym h.0) (next.stands line (ap (slice_get lines) (sym h.0) ∙ at)))
          ];
        };
      }

  -- the last line's node is a scalar, and has its place
  pub walk_ends : (old new : Draft) (lines : List (Line N)) (places : List Place) (i : ℕ) (s : Seen N) → i ≡ length lines → IsListed look s lines → is_scalar_sort s.sort ≡ true → IsWalked look old new lines places i → IsScalarAt places (length lines - 1)
  walk_ends old new lines places i s all listed one walked =
      let last = listed.last in
      let end : last.0 ≡ length lines - 1 = let e = last.1 in omega arith in
      subst (IsScalarAt places) end (scalar_there look lines places new walked.have last.0 s last.2 (let e = last.1 in let c = walked.count in omega arith) one)

  pub walk_placed : (old new : Draft) (lines : List (Line N)) (places : List Place) (i p : ℕ) (s : Seen N) → IsListed look s lines → slice_get places (length lines - 1) ≡ Some (Scalar p) → IsWalked look old new lines places i → IsPlaced old new p s.sort (scalar_meant s)
  walk_placed old new lines places i p s listed is walked =
      let last = listed.last in
      let end : last.0 ≡ length lines - 1 = let e = last.1 in omega arith in
      record { grows = walked.grows; draft = walked.draft; stands = scalar_stands look lines places new walked.have last.0 s p last.2 (ap (slice_get places) end ∙ is) }

  pub placed_none : (old : Draft) (nodes : List N) (places : List ℕ) → IsDraft old → places ≡ [] → ArePlaced look old old (take 0 nodes) places
  placed_none old nodes places draft none = record {
    grows = grows-same old;
    draft = draft;
    count = ap (λ (ps : List ℕ). length ps) none;
    each = λ i n p at is. absurd (let e = ap (λ (ps : List ℕ). length ps) none in let l = slice_get_within places i p is in omega arith);
  }

  pub placed_more : (old mid new : Draft) (nodes : List N) (places more : List ℕ) (i p : ℕ) (n : N) → i < length nodes → n ≡ get_or nodes i n → ArePlaced look old mid (take i nodes) places → IsPlaced mid new p (look n).sort (scalar_meant (look n)) → more ≡ places ++ p ∷ [] → ArePlaced look old new (take (i + 1) nodes) more
  placed_more old mid new nodes places more i p n low item before next e =
      let grown : take (i + 1) nodes ≡ take i nodes ++ n ∷ [] = take_more nodes i n low ∙ ap (λ (x : N). take i nodes ++ x ∷ []) (sym item) in
      subst (λ (ns : List N). ArePlaced look old new ns more) (sym grown) (record {
        grows = grows-both old mid new before.grows next.grows;
        draft = next.draft;
        count = ap (λ (ps : List ℕ). length ps) e ∙ length-append places (p ∷ []) ∙ ap (λ k. k + 1) before.count ∙ sym (length-append (take i nodes) (n ∷ []));
        each = λ k m q at is. elim (get_pushed places p k q (sym (ap (λ (ps : List ℕ). slice_get ps k) e) ∙ is)) [
          | inl h ↦ elim (get_pushed (take i nodes) n k m at) [
            | inl j ↦ stands_later mid new before.draft next.grows q _ _ (before.each k m q j h)
            | inr j ↦ absurd (let l = slice_get_within places k q h in let c = before.count in let f = j.0 in omega arith)
          ]
          | inr h ↦ elim (get_pushed (take i nodes) n k m at) [
            | inl j ↦ absurd (let l = slice_get_within (take i nodes) k m j in let c = before.count in let f = h.0 in omega arith)
            | inr j ↦ subst (λ (x : N). Stands new q (look x).sort (scalar_meant (look x))) j.1 (subst (λ r. Stands new r (look n).sort (scalar_meant (look n))) h.1 next.stands)
          ]
        ];
      })

  pub placed_all : (old new : Draft) (nodes : List N) (places : List ℕ) (i : ℕ) → i ≡ length nodes → ArePlaced look old new (take i nodes) places → ArePlaced look old new nodes places
  placed_all old new nodes places i all are = subst (λ (ns : List N). ArePlaced look old new ns places) (take_all i nodes (omega arith)) are
