-- Lawful trees that name what is known, keep the limits and have no stray number are read.
use Rattle.std.proofs.Common.{◌≡◌, ℕ, ◌^◌, Bool, true, false, ◌&&◌, nat_lt, List, [], ◌∷◌, map, length, Option, None, Some, is_some, IsTrue, refl, sym, ap, ◌∙◌, subst}
use Rattle.std.specs.Prelude.{not, option_map, option_and_then, IsSome, IsFalse}
use Rattle.std.specs.List.{list_all}
use Rattle.std.proofs.lemmas.Bool.{and_parts, and_from, or_parts, not-false}
use Rattle.data_value.specs.declared.DataSort.TheVariants.{Bool as BoolSort, Bits as BitsSort, Map as MapSort}
use Rattle.data_value.specs.declared.Op.{Op}
use Rattle.data_value.specs.declared.Scalar.{Scalar}
use Rattle.data_value.specs.declared.Scalar.TheVariants.{Flag, Bits as Word}
use Rattle.data_value.specs.declared.Value.TheVariants.{One, Map}
use Rattle.data_value.specs.Maps.{Mapping}
use Rattle.data_value.specs.Sorts.{is_width}
use Rattle.rule_text.specs.Lawful.{is_lawful_node, is_lawful_tree, has_maps, has_operators}
use Rattle.rule_text.specs.Operators.{is_operator}
use Rattle.rule_text.specs.declared.tree.Place.{Place}
use Rattle.rule_text.specs.declared.tree.Place.TheVariants.{Pattern, Expression, Ground}
use Rattle.rule_text.specs.declared.item.RawTree.{RawTree, RawTree-F, roll-RawTree, fold-roll-RawTree, ind-RawTree, map-RawTree}
use Rattle.sort_term.specs.Names.{is_reserved_word}
use Rattle.sort_term.specs.Sorted.{in_front}
use Rattle.sort_term.specs.declared.ids.ConId.{ConId}
use Rattle.sort_term.specs.declared.semantics.Con.{Con}
use Rattle.sort_term.specs.declared.term.Sort.{Sort}
use Rattle.sort_term.specs.declared.term.Sort.TheVariants.{Own, Plain}
use Rattle.sort_term.specs.declared.rule.Pattern.TheVariants as pattern
use Rattle.sort_term.specs.declared.rule.RuleExpr.TheVariants as expr
use Rattle.sort_term.specs.declared.term.Term.TheVariants as term
use Rattle.name_resolution.specs.Known.{Vocabulary, con_of, literal_of, mapping_of, are_entries}
use Rattle.name_resolution.specs.Named.{is_named_node, is_named_tree}
use Rattle.name_resolution.specs.Names.{place_of}
use Rattle.name_resolution.specs.Operators.{are_numbers_within, operator_of}
use Rattle.name_resolution.specs.Reads.{Reading, Said, said, number_at, scalar_literal, map_literal, argument, arguments, applied_con, applied_op, node_says, tree_says, tree_of, pattern_reading, expression_reading, ground_reading, pattern_of, expression_of, ground_of}
use Rattle.name_resolution.specs.Strays.{Found, tells_width, is_stray_at, is_one_stray, is_above_bits, found_node, found_in, has_stray_number}
use Rattle.name_resolution.specs.Within.{Asked, fits_place, is_within_place, are_within_places, argument_sorts, asked_node, asked, IsWithinTree}
use Rattle.name_resolution.proofs.Arguments.{heard-is, said-is}
use Rattle.name_resolution.proofs.OperatorRows.{There, if_there, operator_there}

there_of : {X : Type 0} (o : Option X) → is_some o ≡ true → There o
there_of None h = absurd cc
there_of (Some x) h = (x, refl)

there_then : {X Y : Type 0} (f : X → Option Y) (o : Option X) → There o → ((x : X) → There (f x)) → There (option_and_then f o)
there_then f o here next =
    let a = next here.0 in
    (a.0, ap (option_and_then f) here.1 ∙ a.1)

there_in_front : {X : Type 0} (o : Option X) (more : Option (List X)) → There o → There more → There (in_front o more)
there_in_front None more here rest = absurd (let e = here.1 in cc)
there_in_front (Some x) None here rest = absurd (let e = rest.1 in cc)
there_in_front (Some x) (Some xs) here rest = (x ∷ xs, refl)

-- a number in a place that tells a width which holds it
number_there : (place : Option Sort) (n : ℕ) → fits_place place n ≡ true → tells_width place ≡ true → There (number_at place n)
number_there None n fits tells = absurd cc
number_there (Some (Own a)) n fits tells = absurd cc
number_there (Some (Plain BoolSort)) n fits tells = absurd cc
number_there (Some (Plain (MapSort key word))) n fits tells = absurd cc
number_there (Some (Plain (BitsSort width))) n fits tells = if_there (is_width width && nat_lt n (2 ^ width)) (Word width n) (and_from (is_width width) (nat_lt n (2 ^ width)) tells fits)

module _ {X : Type 0} (reading : Reading X) where
  said_there : (place : Option Sort) (o : Option X) → There o → There (argument reading place (said o))
  said_there place o here = (here.0, said-is reading place o ∙ here.1)

  module _ (place : Place) (known : Vocabulary) (vars : List (List ℕ))
      (variables_there : (name : List ℕ) → is_some (place_of name vars) ≡ true → There (option_and_then reading.variable (place_of name vars)))
      (scalars_there : (x : Scalar) → There (scalar_literal reading x))
      (maps_there : has_maps place ≡ true → (m : Mapping) → There (map_literal reading m))
      (operators_there : has_operators place ≡ true → (op : Op) (args : List X) → There (reading.op op args)) where
    abbrev lawful : RawTree → Bool
    lawful = is_lawful_tree place

    abbrev named : RawTree → Bool
    named = is_named_tree known vars

    abbrev says : RawTree → Said X
    says = tree_says reading known vars

    -- what is to be shown of a tree, in a place of each sort
    abbrev IsRead : RawTree → Type 0
    IsRead raw = (sort : Option Sort) → lawful raw ≡ true → named raw ≡ true → is_within_place sort (asked known raw) ≡ true → is_stray_at sort (found_in known raw) ≡ false → There (argument reading sort (says raw))

    -- the same of a tree by its kind
    abbrev IsReadNode : RawTree-F RawTree → Type 0
    IsReadNode node = (sort : Option Sort) → is_lawful_node place (map-RawTree RawTree Bool lawful node) ≡ true → is_named_node known vars (map-RawTree RawTree Bool named node) ≡ true → is_within_place sort (asked_node known (map-RawTree RawTree Asked (asked known) node)) ≡ true → is_stray_at sort (found_node known (map-RawTree RawTree Found (found_in known) node)) ≡ false → There (argument reading sort (node_says reading known vars (map-RawTree RawTree (Said X) says node)))

    of_node : (node : RawTree-F RawTree) → IsReadNode node → IsRead (roll-RawTree node)
    of_node node read sort l n w s =
        let a = read sort
        (sym (fold-roll-RawTree Bool (is_lawful_node place) node) ∙ l)
        (sym (fold-roll-RawTree Bool (is_named_node known vars) node) ∙ n)
        (ap (is_within_place sort) (sym (fold-roll-RawTree Asked (asked_node known) node)) ∙ w)
        (ap (is_stray_at sort) (sym (fold-roll-RawTree Found (found_node known) node)) ∙ s) in
        (a.0, ap (argument reading sort) (fold-roll-RawTree (Said X) (node_says reading known vars) node) ∙ a.1)

    abbrev Part : Type 0
    Part = (raw : RawTree) × IsRead raw

    arguments_there : (sorts : List Sort) (es : List Part) → list_all (λ arg. arg) (map lawful (map (λ e. e.0) es)) ≡ true → list_all (λ arg. arg) (map named (map (λ e. e.0) es)) ≡ true → are_within_places sorts (map (asked known) (map (λ e. e.0) es)) ≡ true → is_one_stray sorts (map (found_in known) (map (λ e. e.0) es)) ≡ false → There (arguments reading sorts (map says (map (λ e. e.0) es)))
    arguments_there sorts [] l n w s = ([], refl)
    arguments_there [] (e ∷ es) l n w s =
        let ls = and_parts (lawful e.0) (list_all (λ arg. arg) (map lawful (map (λ e. e.0) es))) l in
        let ns = and_parts (named e.0) (list_all (λ arg. arg) (map named (map (λ e. e.0) es))) n in
        let ws = and_parts (is_within_place None (asked known e.0)) (are_within_places [] (map (asked known) (map (λ e. e.0) es))) w in
        let ss = or_parts (is_stray_at None (found_in known e.0)) (is_one_stray [] (map (found_in known) (map (λ e. e.0) es))) s in
        there_in_front (argument reading None (says e.0)) (arguments reading [] (map says (map (λ e. e.0) es))) (e.1 None ls.0 ns.0 ws.0 ss.0) (arguments_there [] es ls.1 ns.1 ws.1 ss.1)
    arguments_there (a ∷ sorts) (e ∷ es) l n w s =
        let ls = and_parts (lawful e.0) (list_all (λ arg. arg) (map lawful (map (λ e. e.0) es))) l in
        let ns = and_parts (named e.0) (list_all (λ arg. arg) (map named (map (λ e. e.0) es))) n in
        let ws = and_parts (is_within_place (Some a) (asked known e.0)) (are_within_places sorts (map (asked known) (map (λ e. e.0) es))) w in
        let ss = or_parts (is_stray_at (Some a) (found_in known e.0)) (is_one_stray sorts (map (found_in known) (map (λ e. e.0) es))) s in
        there_in_front (argument reading (Some a) (says e.0)) (arguments reading sorts (map says (map (λ e. e.0) es))) (e.1 (Some a) ls.0 ns.0 ws.0 ss.0) (arguments_there sorts es ls.1 ns.1 ws.1 ss.1)

    con_there : (o : Option (ConId × Con)) (es : List Part) → is_some o ≡ true → list_all (λ arg. arg) (map lawful (map (λ e. e.0) es)) ≡ true → list_all (λ arg. arg) (map named (map (λ e. e.0) es)) ≡ true → are_within_places (argument_sorts o) (map (asked known) (map (λ e. e.0) es)) ≡ true → is_one_stray (argument_sorts o) (map (found_in known) (map (λ e. e.0) es)) ≡ false → There (applied_con reading o (map says (map (λ e. e.0) es)))
    con_there None es is l n w s = absurd cc
    con_there (Some con) es is l n w s =
        let a = arguments_there con.1.args es l n w s in
        (reading.con con.0 a.0, ap (option_map (reading.con con.0)) a.1)

    op_there : (o : Option Op) (es : List Part) → There o → has_operators place ≡ true → There (arguments reading [] (map says (map (λ e. e.0) es))) → There (applied_op reading o (map says (map (λ e. e.0) es)))
    op_there None es here may args = absurd (let e = here.1 in cc)
    op_there (Some op) es here may args = there_then (reading.op op) (arguments reading [] (map says (map (λ e. e.0) es))) args (operators_there may op)

    layer : (y : RawTree-F Part) → IsReadNode (map-RawTree Part RawTree (λ e. e.0) y)
    layer (RawTree-F.Word name) sort l n w s = said_there sort (option_and_then reading.variable (place_of name vars)) (variables_there name n)
    layer (RawTree-F.Number number) sort l n w s = there_then (scalar_literal reading) (number_at sort number) (number_there sort number w (not-false (tells_width sort) s)) scalars_there
    layer (RawTree-F.Flag flag) sort l n w s = said_there sort (scalar_literal reading (Flag flag)) (scalars_there (Flag flag))
    layer (RawTree-F.Bits width number) sort l n w s =
        said_there sort (option_and_then (scalar_literal reading) (literal_of width number)) (there_then (scalar_literal reading) (literal_of width number) (there_of (literal_of width number) w) scalars_there)
    layer (RawTree-F.Map key word entries) sort l n w s =
        said_there sort (option_and_then (map_literal reading) (mapping_of key word entries)) (there_then (map_literal reading) (mapping_of key word entries) (if_there (are_entries key word entries) _ w) (maps_there l))
    layer (RawTree-F.Con name es) sort l n w s =
        let ls = and_parts (not (is_reserved_word name)) (list_all (λ arg. arg) (map lawful (map (λ e. e.0) es))) l in
        let ns = and_parts (is_some (con_of known name)) (list_all (λ arg. arg) (map named (map (λ e. e.0) es))) n in
        said_there sort (applied_con reading (con_of known name) (map says (map (λ e. e.0) es))) (con_there (con_of known name) es ns.0 ls.1 ns.1 w s)
    layer (RawTree-F.Op name numbers es) sort l n w s =
        let raws = map (λ (e : Part). e.0) es in
        let may = and_parts (has_operators place) (is_operator name (length numbers) (length (map lawful raws)) && list_all (λ arg. arg) (map lawful raws)) l in
        let ls = and_parts (is_operator name (length numbers) (length (map lawful raws))) (list_all (λ arg. arg) (map lawful raws)) may.1 in
        let ws = and_parts (are_numbers_within name numbers) (are_within_places [] (map (asked known) raws)) w in
        let ss = or_parts (is_above_bits name numbers) (is_one_stray [] (map (found_in known) raws)) s in
        said_there sort (applied_op reading (operator_of name numbers) (map says raws))
        (op_there (operator_of name numbers) es (operator_there name numbers ws.0 ss.0 (length (map lawful raws)) ls.0) may.0 (arguments_there [] es ls.1 n ws.1 ss.1))

    is_read : (raw : RawTree) → IsRead raw
    is_read = ind-RawTree IsRead (λ x y is. subst (λ z. IsRead (roll-RawTree z)) is (of_node (map-RawTree Part RawTree (λ e. e.0) y) (layer y)))

    tree_there : (raw : RawTree) → IsTrue (lawful raw) → IsTrue (named raw) → IsWithinTree known raw → IsFalse (has_stray_number known raw) → IsSome (tree_of reading known vars raw)
    tree_there raw l n w s =
        let a = is_read raw None l n w.numbers s in
        ap is_some (heard-is reading (says raw) ∙ a.1)

a_variable : {X : Type 0} (make : ℕ → X) (vars : List (List ℕ)) (name : List ℕ) → is_some (place_of name vars) ≡ true → There (option_and_then (λ i. Some (make i)) (place_of name vars))
a_variable make vars name is = there_then (λ i. Some (make i)) (place_of name vars) (there_of (place_of name vars) is) (λ i. (make i, refl))

pub patterns_there : (known : Vocabulary) (vars : List (List ℕ)) (raw : RawTree) → IsTrue (is_lawful_tree Pattern raw) → IsTrue (is_named_tree known vars raw) → IsWithinTree known raw → IsFalse (has_stray_number known raw) → IsSome (pattern_of known vars raw)
patterns_there known vars = tree_there pattern_reading Pattern known vars (a_variable pattern.Bind vars) (λ x. (pattern.Exact x, refl)) (λ no_maps. absurd cc) (λ no_operators. absurd cc)

pub expressions_there : (known : Vocabulary) (vars : List (List ℕ)) (raw : RawTree) → IsTrue (is_lawful_tree Expression raw) → IsTrue (is_named_tree known vars raw) → IsWithinTree known raw → IsFalse (has_stray_number known raw) → IsSome (expression_of known vars raw)
expressions_there known vars = tree_there expression_reading Expression known vars (a_variable expr.Var vars) (λ x. (expr.Lit (One x), refl)) (λ maps m. (expr.Lit (Map m), refl)) (λ operators op args. (expr.Op op args, refl))

pub terms_there : (known : Vocabulary) (raw : RawTree) → IsTrue (is_lawful_tree Ground raw) → IsTrue (is_named_tree known [] raw) → IsWithinTree known raw → IsFalse (has_stray_number known raw) → IsSome (ground_of known raw)
terms_there known = tree_there ground_reading Ground known [] (λ name none. absurd cc) (λ x. (term.Plain (One x), refl)) (λ maps m. (term.Plain (Map m), refl)) (λ no_operators. absurd cc)
