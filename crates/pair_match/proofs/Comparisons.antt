-- What has to be true for values of expressions to be what terms mean, from their parts.
use Rattle.std.proofs.Common.{arith, ◌≡◌, ◌↔◌, ℕ, ◌+◌, ◌<◌, IsTrue, List, [], ◌∷◌, ◌++◌, length, map, take, get_or, Option, IsSome, sym, ap, ◌∙◌, subst}
use Rattle.std.proofs.lemmas.List.{map-append, same_from_push}
use Rattle.data_value.specs.declared.DataSort.{DataSort}
use Rattle.data_value.specs.declared.Value.{Value}
use Rattle.data_value.specs.Nodes.{Seen, Extends}
use Rattle.sort_term.specs.declared.ids.ConId.{ConId}
use Rattle.sort_term.specs.declared.term.Sort.{Sort}
use Rattle.sort_term.specs.declared.term.Term.{Term}
use Rattle.sort_term.specs.declared.term.Term.TheVariants as term
use Rattle.sort_term.specs.declared.semantics.Con.{Con}
use Rattle.sort_term.specs.declared.rule.RuleExpr.{RuleExpr}
use Rattle.sort_term.specs.declared.rule.RuleExpr.TheVariants as expr
use Rattle.sort_term.specs.Tree.{Trees, value}
use Rattle.sort_term.specs.NodeTerms.{seen_term, seen_sort, tree_of}
use Rattle.sort_term.proofs.Equations.{value-Con}
use Rattle.sort_term.proofs.NodeTerming.{seen-Con, tree_of-Con, sorted_valid, term_stays}
use Rattle.sort_term.proofs.Parts.{some_of}
use Rattle.unify.specs.Binds.{Bound, Gives}
use Rattle.unify.proofs.Nodes.{cons_same, plain_same, plain_tree}
use Rattle.pair_match.specs.declared.sameness.Sameness.{Sameness}
use Rattle.pair_match.specs.Clash.{ClashSomewhere, ClashAnywhere}
use Rattle.pair_match.specs.Sameness.{SeenSameness, seen_sameness, IsSameness, AddsSameness, AddsWhere}
use Rattle.pair_match.proofs.Arguments.{images_more, one_con}
use Rattle.pair_match.proofs.Clashes.{parts_clash}
use Rattle.pair_match.proofs.Samenesses.{sameness_stays}

-- the same of P and of Q
pub adds_same : {N : Type 0} (variables : List DataSort) (bs : Bound N) (old new : SeenSameness N) (P Q : List Value → Trees → Type 0) → ((v : List Value) (w : Trees) → P v w ↔ Q v w) → AddsWhere variables bs old new P → AddsWhere variables bs old new Q
adds_same variables bs old new P Q same a = record {
  lawful = a.lawful;
  exact = λ v fits w agrees. (
    λ h. let r = (a.exact v fits w agrees).0 h in (r.0, (same v w).0 r.1),
    λ h. (a.exact v fits w agrees).1 (h.0, (same v w).1 h.1),
  );
}

-- one thing after another
pub adds_both : {N : Type 0} (variables : List DataSort) (bs : Bound N) (old mid new : SeenSameness N) (P Q R : List Value → Trees → Type 0) → ((v : List Value) (w : Trees) → R v w ↔ (P v w × Q v w)) → AddsWhere variables bs old mid P → AddsWhere variables bs mid new Q → AddsWhere variables bs old new R
adds_both variables bs old mid new P Q R is a b = record {
  lawful = b.lawful;
  exact = λ v fits w agrees. (
    λ h.
        let r = (b.exact v fits w agrees).0 h in
        let s = (a.exact v fits w agrees).0 r.0 in
        (s.0, (is v w).1 (s.1, r.1)),
    λ h.
        let both = (is v w).0 h.1 in
        (b.exact v fits w agrees).1 ((a.exact v fits w agrees).1 (h.0, both.0), both.1),
  );
}

-- what is said of the value of an expression after the domain has grown is said of what was there before
pub adds_before : {N : Type 0} (variables sorts : List DataSort) (bs cs : Bound N) (t u : Term (Seen N)) (e : RuleExpr) (old new : SeenSameness N) → sorts ≡ variables → cs ≡ bs → u ≡ t → AddsWhere sorts cs old new (λ v w. value w e ≡ tree_of v u) → AddsWhere variables bs old new (λ v w. value w e ≡ tree_of v t)
adds_before variables sorts bs cs t u e old new same_sorts same_binds same_term a =
    subst (λ y. AddsWhere variables bs old new (λ v w. value w e ≡ tree_of v y)) same_term
    (subst (λ zs. AddsWhere variables zs old new (λ v w. value w e ≡ tree_of v u)) same_binds
    (subst (λ vs. AddsWhere vs cs old new (λ v w. value w e ≡ tree_of v u)) same_sorts a))

-- nothing yet
pub adds_none : {N : Type 0} (variables : List DataSort) (bs : Bound N) (s : SeenSameness N) (P : List Value → Trees → Type 0) → IsSameness s → ((v : List Value) (w : Trees) → P v w) → AddsWhere variables bs s s P
adds_none variables bs s P lawful always = record { lawful = lawful; exact = λ v fits w agrees. (λ h. (h, always v w), λ h. h.0) }

-- the value of an expression against a node
module _ {N : Type 0} (cons : List Con) (f g h : N → Seen N) (x : Extends f g) (variables sorts : List DataSort) (same_sorts : sorts ≡ variables) (bs : Bound N) (e : RuleExpr) (t config : Term N) (n m : N) (old new : Sameness N) (lawful : IsSameness (seen_sameness f old)) (is : t ≡ term.Plain n) (config_is : config ≡ term.Plain m) (valid : IsTrue (f m).valid) where
  kept : g m ≡ f m
  kept = x.keeps m valid

  value_is : (v : List Value) → tree_of v (seen_term g t) ≡ term.Plain ((g n).meaning v)
  value_is v = ap (λ u. tree_of v (seen_term g u)) is ∙ plain_tree g v n

  node_is : (v : List Value) → tree_of v (seen_term f config) ≡ term.Plain ((f m).meaning v)
  node_is v = ap (λ u. tree_of v (seen_term f u)) config_is ∙ plain_tree f v m

  pub node_compared : Gives cons bs e (seen_term g t) → AddsSameness sorts (seen_sameness g old) (seen_sameness h new) (λ v. (g n).meaning v ≡ (g m).meaning v) → AddsWhere variables bs (seen_sameness f old) (seen_sameness h new) (λ v w. value w e ≡ tree_of v (seen_term f config))
  node_compared gives adds = record {
    lawful = now.lawful;
    exact = λ v fits w a. (
      λ k. let r = (now.exact v fits).0 k in (r.0, gives.means v w a ∙ value_is v ∙ ap term.Plain (r.1 ∙ ap (λ s. s.meaning v) kept) ∙ sym (node_is v)),
      λ k. (now.exact v fits).1 (k.0, plain_same _ _ (sym (value_is v) ∙ sym (gives.means v w a) ∙ k.1 ∙ node_is v) ∙ sym (ap (λ s. s.meaning v) kept)),
    );
  }
    where
      now : AddsSameness variables (seen_sameness f old) (seen_sameness h new) (λ v. (g n).meaning v ≡ (g m).meaning v)
      now =
          subst (λ s. AddsSameness variables s (seen_sameness h new) (λ v. (g n).meaning v ≡ (g m).meaning v)) (sameness_stays f g x old lawful)
          (subst (λ vs. AddsSameness vs (seen_sameness g old) (seen_sameness h new) (λ v. (g n).meaning v ≡ (g m).meaning v)) same_sorts adds)

-- a constructor against the same one
pub con_compared : {N : Type 0} (f : N → Seen N) (variables : List DataSort) (bs : Bound N) (e : RuleExpr) (c d : ConId) (es xs : List RuleExpr) (t : Term N) (ts us : List (Term N)) → e ≡ expr.Con c es → xs ≡ es → t ≡ term.Con d ts → us ≡ ts → c ≡ d → (old new : SeenSameness N)
    → AddsWhere variables bs old new (λ v w. map (value w) xs ≡ map (tree_of v) (map (seen_term f) us)) → AddsWhere variables bs old new (λ v w. value w e ≡ tree_of v (seen_term f t))
con_compared {N} f variables bs e c d es xs t ts us is same term_is terms one old new a =
    adds_same variables bs old new (λ v w. map (value w) xs ≡ map (tree_of v) (map (seen_term f) us)) (λ v w. value w e ≡ tree_of v (seen_term f t)) equal a
  where
    left : (w : Trees) → value w e ≡ term.Con d (map (value w) xs)
    left w = ap (value w) is ∙ value-Con w c es ∙ ap (λ k. term.Con k (map (value w) es)) one ∙ ap (λ ys. term.Con d (map (value w) ys)) (sym same)

    right : (v : List Value) → tree_of v (seen_term f t) ≡ term.Con d (map (tree_of v) (map (seen_term f) us))
    right v = ap (tree_of v) (ap (seen_term f) term_is ∙ seen-Con f d ts) ∙ tree_of-Con v d (map (seen_term f) ts) ∙ ap (λ ys. term.Con d (map (tree_of v) (map (seen_term f) ys))) (sym terms)

    equal : (v : List Value) (w : Trees) → (map (value w) xs ≡ map (tree_of v) (map (seen_term f) us)) ↔ (value w e ≡ tree_of v (seen_term f t))
    equal v w = (
      λ h. left w ∙ ap (term.Con d) h ∙ sym (right v),
      λ h. (cons_same d d _ _ (sym (left w) ∙ h ∙ right v)).1,
    )

-- one place more of the lists
module _ {N : Type 0} (f : N → Seen N) (variables sorts : List DataSort) (same_sorts : sorts ≡ variables) (bs cs : Bound N) (same_binds : cs ≡ bs) (es : List RuleExpr) (ts : List (Term N)) (i : ℕ) (e : RuleExpr) (t : Term N) (long : length ts ≡ length es) (l : i < length es) (is : e ≡ get_or es i e) (it : t ≡ get_or ts i t) (u : Term (Seen N)) (same_term : u ≡ seen_term f t) (old mid new : SeenSameness N) where
  pub compared_more : AddsWhere variables bs old mid (λ v w. map (value w) (take i es) ≡ map (tree_of v) (map (seen_term f) (take i ts))) → AddsWhere sorts cs mid new (λ v w. value w e ≡ tree_of v u) → AddsWhere variables bs old new (λ v w. map (value w) (take (i + 1) es) ≡ map (tree_of v) (map (seen_term f) (take (i + 1) ts)))
  compared_more first next = adds_both variables bs old mid new _ _ _ equal first (adds_before variables sorts bs cs (seen_term f t) u e mid new same_sorts same_binds same_term next)
    where
      equal : (v : List Value) (w : Trees) → (map (value w) (take (i + 1) es) ≡ map (tree_of v) (map (seen_term f) (take (i + 1) ts))) ↔ ((map (value w) (take i es) ≡ map (tree_of v) (map (seen_term f) (take i ts))) × (value w e ≡ tree_of v (seen_term f t)))
      equal v w =
          let left = images_more (value w) es i e l is in
          let right = ap (map (tree_of v)) (images_more (seen_term f) ts i t (omega arith) it) ∙ map-append (tree_of v) (map (seen_term f) (take i ts)) (seen_term f t ∷ []) in (
            λ h. same_from_push _ _ _ _ (sym left ∙ h ∙ right),
            λ h. left ∙ ap (λ zs. zs ++ value w e ∷ []) h.0 ∙ ap (λ z. map (tree_of v) (map (seen_term f) (take i ts)) ++ z ∷ []) h.1 ∙ sym right,
          )

-- the constructors of an expression and a term that clash nowhere are one
pub cons_same_here : {N : Type 0} (f : N → Seen N) (e : RuleExpr) (c d : ConId) (es : List RuleExpr) (t : Term N) (ts : List (Term N)) → e ≡ expr.Con c es → t ≡ term.Con d ts → ¬ ClashSomewhere e (seen_term f t) → c ≡ d
cons_same_here f e c d es t ts is term_is clear = one_con c d es (map (seen_term f) ts) (λ k. clear (rw (is, ap (seen_term f) term_is ∙ seen-Con f d ts) k))

-- and so do their arguments
pub args_clear : {N : Type 0} (f : N → Seen N) (e : RuleExpr) (c d : ConId) (es xs : List RuleExpr) (t : Term N) (ts us : List (Term N)) → e ≡ expr.Con c es → xs ≡ es → t ≡ term.Con d ts → us ≡ ts → ¬ ClashSomewhere e (seen_term f t) → ¬ ClashAnywhere xs (map (seen_term f) us)
args_clear f e c d es xs t ts us is same term_is terms clear k = clear (rw (is, ap (seen_term f) term_is ∙ seen-Con f d ts) (parts_clash c d es (map (seen_term f) ts) (rw (same, terms) at k)))

-- a term of a sort stays as it is where the domain grows
pub config_stays : {N : Type 0} (cons : List Con) (f g : N → Seen N) → Extends f g → (t : Term N) (a : Option Sort) → IsSome a → seen_sort cons (seen_term f t) ≡ a → seen_term g t ≡ seen_term f t
config_stays cons f g x t a some is = let s = some_of a some in term_stays f g x t (sorted_valid cons (seen_term f t) s.0 (is ∙ s.1))
