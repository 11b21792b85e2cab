-- What is read of an item, part by part.
use Rattle.std.proofs.Common.{◌≡◌, ℕ, List, Option, Some, refl, sym, ap, ◌∙◌}
use Rattle.sort_term.specs.declared.rule.Var.{Var}
use Rattle.sort_term.specs.declared.rule.Pattern.{Pattern}
use Rattle.sort_term.specs.declared.rule.RuleExpr.{RuleExpr}
use Rattle.sort_term.specs.declared.points.Cut.{Cut}
use Rattle.sync_points.specs.Pieces.{cut_from, point_from}

-- an item of a cut, whose variables, pattern and conditions were read in turn, each behind what was read before
pub cut_read : {S : Type 0} (name given : List ℕ) (v : Option (List Var)) (p : Option Pattern) (w : Option (List RuleExpr)) (vars : List Var) (one two : List Var × Pattern) (whens : List RuleExpr) → name ≡ given → Some vars ≡ v
    → (one.0 ≡ vars) × (p ≡ Some one.1) → (two ≡ one) × (w ≡ Some whens) → ◌≡◌ {A = Option (Cut S)} (Some (record { name = name; vars = two.0; pattern = two.1; whens = whens; side = record {} })) (cut_from given v p w)
cut_read name given v p w vars one two whens n e f g =
    let v' : v ≡ Some two.0 = sym e ∙ ap Some (sym f.0 ∙ ap (λ (x : List Var × Pattern). x.0) (sym g.0)) in
    let p' : p ≡ Some two.1 = f.1 ∙ ap (λ (x : List Var × Pattern). Some x.1) (sym g.0) in
    rw (v', p', g.1, n) refl

-- a point, whose variables, terms and conditions were read in turn
pub point_read : (name given : List ℕ) (v : Option (List Var)) (l r : Option RuleExpr) (w : Option (List RuleExpr)) (vars : List Var) (one : List Var × RuleExpr) (two three : (List Var × RuleExpr) × RuleExpr) (whens : List RuleExpr)
    → name ≡ given → Some vars ≡ v → (one.0 ≡ vars) × (l ≡ Some one.1) → (two.0 ≡ one) × (r ≡ Some two.1) → (three ≡ two) × (w ≡ Some whens)
    → Some (record { name = name; vars = three.0.0; left = three.0.1; right = three.1; whens = whens }) ≡ point_from given v l r w
point_read name given v l r w vars one two three whens n e f g h =
    let v' : v ≡ Some three.0.0 = sym e ∙ ap Some (sym f.0 ∙ ap (λ (x : List Var × RuleExpr). x.0) (sym g.0) ∙ ap (λ (x : (List Var × RuleExpr) × RuleExpr). x.0.0) (sym h.0)) in
    let l' : l ≡ Some three.0.1 = f.1 ∙ ap (λ (x : List Var × RuleExpr). Some x.1) (sym g.0) ∙ ap (λ (x : (List Var × RuleExpr) × RuleExpr). Some x.0.1) (sym h.0) in
    let r' : r ≡ Some three.1 = g.1 ∙ ap (λ (x : (List Var × RuleExpr) × RuleExpr). Some x.1) (sym h.0) in
    rw (v', l', r', h.1, n) refl
