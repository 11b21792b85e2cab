use Rattle.std.proofs.Common.{rules, ◌≡◌, length, IfOk, subst, sym}
use Rattle.std.proofs.lemmas.Result.{IfOk-weaker}
use Rattle.sort_term.specs.declared.term.Term.TheVariants as term
use Rattle.sort_term.specs.declared.rule.RuleExpr.TheVariants as expr
use Rattle.sort_term.specs.declared.rule.RuleExpr.{the_lemmas}
use Rattle.ground_step.specs.Fit.{ReadsWithin, Determines, DeterminesAll}
use Rattle.ground_step.proofs.Determined.{var_reads, con_reads, determines_var, determines_lit, determines_op, determines_con, all_more, all_stop}
use Rattle.ground_step.proofs.relation.+determine.Goals as goal

pub determine-bind-requires : goal.determine-bind-requires
determine-bind-requires t c = var_reads (length c.args.binds.now) c.in-Var.variable (subst (ReadsWithin (length c.args.binds.now)) c.in-Var.is c.requires)

pub determine-determine_all-requires : goal.determine-determine_all-requires
determine-determine_all-requires t c = (
  search (rules, the_lemmas),
  rw c.as_slice.ensures (con_reads (length c.args.binds.now) c.in-Con.con c.in-Con.terms (subst (ReadsWithin (length c.args.binds.now)) c.in-Con.is c.requires)),
)

pub determine_all-determine-requires : goal.determine_all-determine-requires
determine_all-determine-requires t c = (
  search (rules, the_lemmas),
  rw c.loop-i.invariant.1.keeps (subst (ReadsWithin (length c.args.binds.now)) (sym c.index-terms-i.is) (c.requires c.loop-i.i _ c.loop-i-test.true)),
)

pub determine-returns-in-Var : goal.determine-returns-in-Var
determine-returns-in-Var t c =
    let l = var_reads (length c.args.binds.now) c.in-Var.variable (subst (ReadsWithin (length c.args.binds.now)) c.in-Var.is c.requires) in
    IfOk-weaker c.bind.result _ _ (λ ok n. rw c.in-Var.is (determines_var c.args.binds.now c.bind.new.binds ok c.in-Var.variable c.args.tree.now l n)) c.bind.ensures

pub determine-returns-in-Lit : goal.determine-returns-in-Lit
determine-returns-in-Lit t c = rw c.in-Lit.is (determines_lit c.args.binds.now c.in-Lit.field-0 c.args.tree.now)

pub determine-returns-in-Op : goal.determine-returns-in-Op
determine-returns-in-Op t c = rw c.in-Op.is (determines_op c.args.binds.now c.in-Op.field-0 c.in-Op.field-1 c.args.tree.now)

pub determine-returns-then-con-found : goal.determine-returns-then-con-found
determine-returns-then-con-found t c =
    let same : c.in-Con.con ≡ c.in-Con-tree.found = (let e : c.in-Con.con.0 ≡ c.in-Con-tree.found.0 = c.if-con-found.true in search rules) in
    let all : IfOk c.determine_all.result (λ ok. DeterminesAll c.args.binds.now c.determine_all.new.binds ok c.in-Con.terms c.in-Con-tree.trees) = rw (c.as_slice.ensures, c.as_slice-then-con-found.ensures) at c.determine_all.ensures in
    IfOk-weaker c.determine_all.result _ _ (λ ok d. rw (c.in-Con.is, c.in-Con-tree.is) (subst (λ k. Determines c.args.binds.now c.determine_all.new.binds ok (expr.Con c.in-Con.con c.in-Con.terms) (term.Con k c.in-Con-tree.trees)) same (determines_con c.args.binds.now c.determine_all.new.binds ok c.in-Con.con c.in-Con.terms c.in-Con-tree.trees d))) all

pub determine_all-returns-then-not-branch : goal.determine_all-returns-then-not-branch
determine_all-returns-then-not-branch t c =
    all_stop c.args.binds.now c.loop-i.binds c.determine.new.binds c.args.terms.now c.args.trees.now c.loop-i.i c.index-terms-i.result c.index-trees-i.result c.loop-i.invariant.0 c.loop-i-test.true c.index-terms-i.is c.index-trees-i.is c.loop-i.invariant.1 (rw c.if-not-branch.true at c.in_ok-determine.ensures)

pub determine_all-loop-i-preserved : goal.determine_all-loop-i-preserved
determine_all-loop-i-preserved t c =
    (c.loop-i.invariant.0, all_more c.args.binds.now c.loop-i.binds c.determine.new.binds c.args.terms.now c.args.trees.now c.loop-i.i c.index-terms-i.result c.index-trees-i.result c.loop-i.invariant.0 c.loop-i-test.true c.index-terms-i.is c.index-trees-i.is c.loop-i.invariant.1 (rw c.if-not-branch.false at c.in_ok-determine.ensures))
