-- What a rule says, and whether it has its names, by what is found of its parts.
use Rattle.std.proofs.Common.{◌≡◌, ℕ, List, map, Option, Some, None, IsSome, is_some, Bool, true, false, not, IsTrue, All, refl, sym, ◌∙◌, ap}
use Rattle.std.specs.Prelude.{option_map}
use Rattle.std.proofs.lemmas.Option.{same_Some}
use Rattle.rule_text.specs.declared.item.RawVar.{RawVar}
use Rattle.rule_text.specs.declared.item.RawTree.{RawTree}
use Rattle.rule_text.specs.declared.item.RawDemand.{RawDemand}
use Rattle.rule_text.specs.declared.item.Item.TheVariants.{Rule}
use Rattle.sort_term.specs.declared.rule.Var.{Var}
use Rattle.sort_term.specs.declared.rule.Pattern.{Pattern}
use Rattle.sort_term.specs.declared.rule.RuleExpr.{RuleExpr}
use Rattle.sort_term.specs.declared.rule.Demand.{Demand}
use Rattle.sort_term.specs.declared.rule.Rule.{Rule as RuleOf}
use Rattle.name_resolution.specs.Known.{Vocabulary}
use Rattle.name_resolution.specs.Named.{IsNamesOf, is_named_sort, is_named_tree}
use Rattle.name_resolution.specs.Names.{IsNew}
use Rattle.name_resolution.specs.Reads.{pattern_of, expression_of, variables_of}
use Rattle.name_resolution.specs.Variables.{names_of}
use Rattle.semantics_load.specs.declared.piece.Piece.TheVariants as piece
use Rattle.semantics_load.specs.Declaring.{Declared, known_in}
use Rattle.semantics_load.specs.Names.{IsDemandNamed, HasNames, IsNamesIn}
use Rattle.semantics_load.specs.Pieces.{both_from, rule_from, demands_of, piece_of}

pub true_and_false : (b : Bool) → b ≡ true → b ≡ false → ⊥
true_and_false b p q = absurd cc

-- what isn't none is there
pub told_by : {X : Type 0} (o x : Option X) (none : Bool) → o ≡ x → is_some o ≡ not none → none ≡ false → IsSome x
told_by o x none same is off = rw (sym same) (is ∙ ap not off)

none_in_front : (name : List ℕ) (vars : Option (List Var)) (head : Option Pattern) (demands : Option (List Demand)) (outcome : Option RuleExpr) → None ≡ both_from vars head → None ≡ rule_from name vars head demands outcome
none_in_front name None head demands outcome none = refl
none_in_front name (Some v) None demands outcome none = refl
none_in_front name (Some v) (Some h) demands outcome none = absurd cc

none_at_end : (name : List ℕ) (vars : Option (List Var)) (head : Option Pattern) (demands : Option (List Demand)) (outcome : Option RuleExpr) → None ≡ both_from demands outcome → None ≡ rule_from name vars head demands outcome
none_at_end name None head demands outcome none = refl
none_at_end name (Some v) None demands outcome none = refl
none_at_end name (Some v) (Some h) None outcome none = refl
none_at_end name (Some v) (Some h) (Some d) None none = refl
none_at_end name (Some v) (Some h) (Some d) (Some e) none = absurd cc

all_parts : (name : List ℕ) (vars : Option (List Var)) (head : Option Pattern) (demands : Option (List Demand)) (outcome : Option RuleExpr) (front : List Var × Pattern) (end : List Demand × RuleExpr) → Some front ≡ both_from vars head → Some end ≡ both_from demands outcome → rule_from name (Some front.0) (Some front.1) (Some end.0) (Some end.1) ≡ rule_from name vars head demands outcome
all_parts name None head demands outcome front end p q = absurd cc
all_parts name (Some v) None demands outcome front end p q = absurd cc
all_parts name (Some v) (Some h) None outcome front end p q = absurd cc
all_parts name (Some v) (Some h) (Some d) None front end p q = absurd cc
all_parts name (Some v) (Some h) (Some d) (Some e) front end p q =
    ap (λ (f : List Var × Pattern). rule_from name (Some f.0) (Some f.1) (Some end.0) (Some end.1)) (same_Some front (v, h) p)
    ∙ ap (λ (l : List Demand × RuleExpr). rule_from name (Some v) (Some h) (Some l.0) (Some l.1)) (same_Some end (d, e) q)

module _ (d : Declared) (known : Vocabulary) (names : List (List ℕ)) (name : List ℕ) (vars : List RawVar) (head : RawTree) (demands : List RawDemand) (outcome : RawTree) (is : known ≡ known_in d) (are : names ≡ names_of vars) where
  -- a rule without its variables or its head says nothing
  pub no_front : None ≡ both_from (variables_of known vars) (pattern_of known names head) → None ≡ piece_of d (Rule name vars head demands outcome)
  no_front none = rw (sym is, sym are) (ap (option_map piece.Rule) (none_in_front name _ _ (demands_of known names demands) (expression_of known names outcome) none))

  -- nor does one without its demands or its result
  pub no_end : None ≡ both_from (demands_of known names demands) (expression_of known names outcome) → None ≡ piece_of d (Rule name vars head demands outcome)
  no_end none = rw (sym is, sym are) (ap (option_map piece.Rule) (none_at_end name (variables_of known vars) (pattern_of known names head) _ _ none))

  -- with these it says the rule of them
  pub rule_said_of : (front : List Var × Pattern) (end : List Demand × RuleExpr) (rule : RuleOf) → Some front ≡ both_from (variables_of known vars) (pattern_of known names head) → Some end ≡ both_from (demands_of known names demands) (expression_of known names outcome) → Some rule ≡ rule_from name (Some front.0) (Some front.1) (Some end.0) (Some end.1) → Some (piece.Rule rule) ≡ piece_of d (Rule name vars head demands outcome)
  rule_said_of front end rule p q r = rw (sym is, sym are) (ap (option_map piece.Rule) (r ∙ all_parts name _ _ _ _ front end p q))

module _ (d : Declared) (known : Vocabulary) (names : List (List ℕ)) (name : List ℕ) (vars : List RawVar) (head : RawTree) (demands : List RawDemand) (outcome : RawTree) (is : known ≡ known_in d) (of : IsNamesOf vars (Some names)) where
  -- a rule that has its names has known sorts
  pub sorts_named : HasNames d (Rule name vars head demands outcome) → All (λ x. IsTrue (is_named_sort known x.sort)) vars
  sorts_named h = rw is h.2.vars_named.sorts

  -- and terms that name what is known
  pub terms_named : HasNames d (Rule name vars head demands outcome) → IsTrue (is_named_tree known names head) × All (IsDemandNamed known names) demands × IsTrue (is_named_tree known names outcome)
  terms_named h = rw (is, of.1) (h.2.head_named, h.2.demands_named, h.2.outcome_named)

  -- a new rule with both has its names
  pub rule_named : IsSome d.config → IsNew name (map (λ r. r.name) d.rules) → All (λ x. IsTrue (is_named_sort known x.sort)) vars → IsTrue (is_named_tree known names head) × All (IsDemandNamed known names) demands × IsTrue (is_named_tree known names outcome) → IsNamesIn d (Rule name vars head demands outcome) (Some names)
  rule_named told new sorts terms =
      let known_terms : IsTrue (is_named_tree (known_in d) (names_of vars) head) × All (IsDemandNamed (known_in d) (names_of vars)) demands × IsTrue (is_named_tree (known_in d) (names_of vars) outcome) = rw (sym is, sym of.1) terms in
      ((told, new, record { vars_named = record { names = of.0; sorts = rw (sym is) sorts }; head_named = known_terms.0; demands_named = known_terms.1; outcome_named = known_terms.2 }), of.1)
