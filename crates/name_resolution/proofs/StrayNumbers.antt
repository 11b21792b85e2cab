-- A tree with a stray number is nothing.
use Rattle.std.proofs.Common.{◌≡◌, ℕ, ◌^◌, Bool, true, false, ◌&&◌, ◌||◌, nat_lt, if◌then◌else◌, List, [], ◌∷◌, map, Option, None, Some, refl, sym, ap, ◌∙◌, subst}
use Rattle.std.specs.Prelude.{not, codes, bytes_eq, option_map, option_and_then, IsTrue}
use Rattle.std.specs.List.{list_all}
use Rattle.std.proofs.lemmas.Bool.{and_parts}
use Rattle.std.proofs.lemmas.Slice.Eq.{bytes_eq-Decides}
use Rattle.data_value.specs.declared.DataSort.TheVariants.{Bool as BoolSort, Bits as BitsSort, Map as MapSort}
use Rattle.data_value.specs.declared.Op.{Op}
use Rattle.data_value.specs.declared.Op.TheVariants.{Extract}
use Rattle.data_value.specs.declared.Scalar.TheVariants.{Bits as Word}
use Rattle.data_value.specs.Sorts.{is_width}
use Rattle.rule_text.specs.declared.item.RawTree.{RawTree, RawTree-F, roll-RawTree, fold-roll-RawTree, ind-RawTree, map-RawTree}
use Rattle.sort_term.specs.Sorted.{in_front}
use Rattle.sort_term.specs.declared.ids.ConId.{ConId}
use Rattle.sort_term.specs.declared.semantics.Con.{Con}
use Rattle.sort_term.specs.declared.term.Sort.{Sort}
use Rattle.sort_term.specs.declared.term.Sort.TheVariants.{Own, Plain}
use Rattle.name_resolution.specs.Known.{Vocabulary, con_of}
use Rattle.name_resolution.specs.Operators.{with_numbers, operator_of}
use Rattle.name_resolution.specs.Reads.{Reading, Said, said, number_at, scalar_literal, argument, arguments, applied_con, applied_op, node_says, tree_says, tree_of}
use Rattle.name_resolution.specs.Strays.{Found, tells_width, is_stray_at, is_one_stray, is_above_bits, found_node, found_in, has_stray_number}
use Rattle.name_resolution.specs.Within.{argument_sorts}
use Rattle.name_resolution.proofs.Arguments.{front-none, none-front, heard-is, said-is}

either : {P : Type 0} (a b : Bool) → (a || b) ≡ true → (a ≡ true → P) → (b ≡ true → P) → P
either true b h f g = f refl
either false b h f g = g h

if_not : {X : Type 0} (a b : Bool) (x : X) → not a ≡ true → (if a && b then Some x else None) ≡ None
if_not true b x h = absurd cc
if_not false b x h = refl

-- a number in a place that tells no width
no_number : (place : Option Sort) (n : ℕ) → not (tells_width place) ≡ true → number_at place n ≡ None
no_number None n h = refl
no_number (Some (Own a)) n h = refl
no_number (Some (Plain BoolSort)) n h = refl
no_number (Some (Plain (MapSort key word))) n h = refl
no_number (Some (Plain (BitsSort width))) n h = if_not (is_width width) (nat_lt n (2 ^ width)) (Word width n) h

no_bits : (numbers : List ℕ) → not (list_all (λ n. nat_lt n 64) numbers) ≡ true → with_numbers numbers (Extract 0 0) ≡ None
no_bits [] h = refl
no_bits (hi ∷ []) h = refl
no_bits (hi ∷ lo ∷ []) h = by (nat_lt hi 64) (nat_lt lo 64) h
  where
    by : (a b : Bool) → not (a && (b && true)) ≡ true → (if a && b then Some (Extract hi lo) else None) ≡ None
    by true true h = absurd cc
    by true false h = refl
    by false b h = refl
no_bits (hi ∷ lo ∷ n ∷ more) h = refl

no_such_extract : (numbers : List ℕ) → not (list_all (λ n. nat_lt n 64) numbers) ≡ true → operator_of (codes "extract") numbers ≡ None
unfolding operator_of
no_such_extract numbers above = no_bits numbers above

-- no operator takes out a bit above 63
no_extract : (name numbers : List ℕ) → is_above_bits name numbers ≡ true → operator_of name numbers ≡ None
no_extract name numbers h =
    let tests = and_parts (bytes_eq name (codes "extract")) (not (list_all (λ n. nat_lt n 64) numbers)) h in
    let same : name ≡ codes "extract" = (bytes_eq-Decides name (codes "extract")).0 tests.0 in
    ap (λ word. operator_of word numbers) same ∙ no_such_extract numbers tests.1

module _ {X : Type 0} (reading : Reading X) (known : Vocabulary) (vars : List (List ℕ)) where
  abbrev says : RawTree → Said X
  says = tree_says reading known vars

  -- what is to be shown of a tree, in a place of each sort
  abbrev IsNothing : RawTree → Type 0
  IsNothing raw = (sort : Option Sort) → is_stray_at sort (found_in known raw) ≡ true → argument reading sort (says raw) ≡ None

  -- the same of a tree by its kind
  abbrev IsNothingNode : RawTree-F RawTree → Type 0
  IsNothingNode node = (sort : Option Sort) → is_stray_at sort (found_node known (map-RawTree RawTree Found (found_in known) node)) ≡ true → argument reading sort (node_says reading known vars (map-RawTree RawTree (Said X) says node)) ≡ None

  of_node : (node : RawTree-F RawTree) → IsNothingNode node → IsNothing (roll-RawTree node)
  of_node node is sort s =
      ap (argument reading sort) (fold-roll-RawTree (Said X) (node_says reading known vars) node)
      ∙ is sort (ap (is_stray_at sort) (sym (fold-roll-RawTree Found (found_node known) node)) ∙ s)

  abbrev Part : Type 0
  Part = (raw : RawTree) × IsNothing raw

  no_arguments : (sorts : List Sort) (es : List Part) → is_one_stray sorts (map (found_in known) (map (λ e. e.0) es)) ≡ true → arguments reading sorts (map says (map (λ e. e.0) es)) ≡ None
  no_arguments sorts [] s = absurd cc
  no_arguments [] (e ∷ es) s =
      let rest = arguments reading [] (map says (map (λ e. e.0) es)) in
      either (is_stray_at None (found_in known e.0)) (is_one_stray [] (map (found_in known) (map (λ e. e.0) es))) s
      (λ here. ap (λ o. in_front o rest) (e.1 None here) ∙ none-front rest)
      (λ later. ap (in_front (argument reading None (says e.0))) (no_arguments [] es later) ∙ front-none (argument reading None (says e.0)))
  no_arguments (a ∷ sorts) (e ∷ es) s =
      let rest = arguments reading sorts (map says (map (λ e. e.0) es)) in
      either (is_stray_at (Some a) (found_in known e.0)) (is_one_stray sorts (map (found_in known) (map (λ e. e.0) es))) s
      (λ here. ap (λ o. in_front o rest) (e.1 (Some a) here) ∙ none-front rest)
      (λ later. ap (in_front (argument reading (Some a) (says e.0))) (no_arguments sorts es later) ∙ front-none (argument reading (Some a) (says e.0)))

  no_con : (o : Option (ConId × Con)) (es : List Part) → is_one_stray (argument_sorts o) (map (found_in known) (map (λ e. e.0) es)) ≡ true → applied_con reading o (map says (map (λ e. e.0) es)) ≡ None
  no_con None es s = refl
  no_con (Some con) es s = ap (option_map (reading.con con.0)) (no_arguments con.1.args es s)

  no_op : (o : Option Op) (parts : List (Said X)) → arguments reading [] parts ≡ None → applied_op reading o parts ≡ None
  no_op None parts none = refl
  no_op (Some op) parts none = ap (option_and_then (reading.op op)) none

  said_nothing : (place : Option Sort) (o : Option X) → o ≡ None → argument reading place (said o) ≡ None
  said_nothing place o none = said-is reading place o ∙ none

  layer : (y : RawTree-F Part) → IsNothingNode (map-RawTree Part RawTree (λ e. e.0) y)
  layer (RawTree-F.Word name) sort s = absurd cc
  layer (RawTree-F.Number number) sort s = ap (option_and_then (scalar_literal reading)) (no_number sort number s)
  layer (RawTree-F.Flag flag) sort s = absurd cc
  layer (RawTree-F.Bits width number) sort s = absurd cc
  layer (RawTree-F.Map key word entries) sort s = absurd cc
  layer (RawTree-F.Con name es) sort s = said_nothing sort (applied_con reading (con_of known name) (map says (map (λ e. e.0) es))) (no_con (con_of known name) es s)
  layer (RawTree-F.Op name numbers es) sort s =
      let parts = map says (map (λ (e : Part). e.0) es) in
      said_nothing sort (applied_op reading (operator_of name numbers) parts)
      (either (is_above_bits name numbers) (is_one_stray [] (map (found_in known) (map (λ e. e.0) es))) s
      (λ above. ap (λ o. applied_op reading o parts) (no_extract name numbers above))
      (λ stray. no_op (operator_of name numbers) parts (no_arguments [] es stray)))

  is_nothing : (raw : RawTree) → IsNothing raw
  is_nothing = ind-RawTree IsNothing (λ x y is. subst (λ z. IsNothing (roll-RawTree z)) is (of_node (map-RawTree Part RawTree (λ e. e.0) y) (layer y)))

  -- a tree with a stray number is nothing
  pub no_tree : (raw : RawTree) → IsTrue (has_stray_number known raw) → tree_of reading known vars raw ≡ None
  no_tree raw s = heard-is reading (says raw) ∙ is_nothing raw None s
