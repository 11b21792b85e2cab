-- What a configuration determines of the variables of a term: those that are direct arguments of its constructors.
use Rattle.std.specs.Prelude.{◌≡◌, ℕ, Bool, true, false, ◌||◌, IsTrue, List, map, Some}
use Rattle.std.specs.List.{list_any}
use Rattle.data_value.specs.declared.Value.{Value}
use Rattle.data_value.specs.Nodes.{Seen}
use Rattle.sort_term.specs.declared.semantics.Con.{Con}
use Rattle.sort_term.specs.declared.term.Term.{Term}
use Rattle.sort_term.specs.declared.rule.Var.{Var}
use Rattle.sort_term.specs.declared.rule.RuleExpr.{RuleExpr}
use Rattle.sort_term.specs.Tree.{Trees, value}
use Rattle.sort_term.specs.Stands.{argument_of, is_argument}
use Rattle.sort_term.specs.NodeTerms.{tree_of}
use Rattle.unify.specs.Binds.{Bound, bound_at, IsBound, AreBinds, Agrees}
use Rattle.pair_match.specs.Clash.{ClashSomewhere, ClashAnywhere}

-- no constructor of the expression stands against another one, and its variables that the term determines are bound
pub record Determines {N : Type 0} (cons : List Con) (vars : List Var) (e : RuleExpr) (t : Term (Seen N)) (old new : Bound N) : Type 0 where
  pub clear : ¬ ClashSomewhere e t
  -- each variable that is bound has a term of its sort, the same one where it was bound before
  pub lawful : AreBinds cons vars new
  pub keeps : (i : ℕ) (u : Term (Seen N)) → bound_at old i ≡ Some u → bound_at new i ≡ Some u
  -- the expression is bound where it is a variable, and so is each direct argument of a constructor in it
  pub itself : (i : ℕ) → IsTrue (argument_of i e).0 → IsBound new i
  pub arguments : (i : ℕ) → IsTrue (is_argument i e) → IsBound new i
  -- a valuation that makes the expression what the term means gives the variables the values of their terms
  pub complete : (v : List Value) (w : Trees) → Agrees v old w → value w e ≡ tree_of v t → Agrees v new w

-- the same of several expressions and as many terms, place by place
pub record DeterminesAll {N : Type 0} (cons : List Con) (vars : List Var) (es : List RuleExpr) (ts : List (Term (Seen N))) (old new : Bound N) : Type 0 where
  pub clear : ¬ ClashAnywhere es ts
  pub lawful : AreBinds cons vars new
  pub keeps : (i : ℕ) (u : Term (Seen N)) → bound_at old i ≡ Some u → bound_at new i ≡ Some u
  pub parts : (i : ℕ) → IsTrue (list_any (λ part. part.0 || part.1) (map (argument_of i) es)) → IsBound new i
  pub complete : (v : List Value) (w : Trees) → Agrees v old w → map (value w) es ≡ map (tree_of v) ts → Agrees v new w

-- whether that is so, or a constructor stands against another one somewhere
abbrev pub Determined : {N : Type 0} → List Con → List Var → RuleExpr → Term (Seen N) → Bound N → Bound N → Bool → Type 0
Determined cons vars e t old new true = Determines cons vars e t old new
Determined cons vars e t old new false = ClashSomewhere e t

abbrev pub AllDetermined : {N : Type 0} → List Con → List Var → List RuleExpr → List (Term (Seen N)) → Bound N → Bound N → Bool → Type 0
AllDetermined cons vars es ts old new true = DeterminesAll cons vars es ts old new
AllDetermined cons vars es ts old new false = ClashAnywhere es ts
