use Rattle.std.proofs.Common.{ap, sym, subst, ◌∙◌, ◌++◌, ◌∷◌, [], All, map}
use Rattle.std.proofs.lemmas.List.{map-append}
use Rattle.std.proofs.lemmas.List.Elements.{All-head, All-tail}
use Rattle.sort_term.specs.declared.term.Term.TheVariants.{Plain}
use Rattle.unify.specs.Binds.{IsNode}
use Rattle.unify.proofs.Nodes.{plain_con}
use Rattle.unify.proofs.plain.plain_nodes.Goals as goal

pub loop-term-init : goal.loop-term-init
loop-term-init g c = record {
  made = sym (ap (map Plain) c.new-nodes.ensures);
  left = subst (All IsNode) (sym c.into_iter-term-iterator.ensures.into_iter_gives.0) c.requires;
}

pub unreachable-requires : goal.unreachable-requires
unreachable-requires g c = plain_con _ _ _ c.in-Con.is (All-head IsNode _ _ (subst (All IsNode) c.in-Some.ensures.steps.0 c.loop-term.invariant.left))

pub loop-term-preserved : goal.loop-term-preserved
loop-term-preserved g c = record {
  made =
      ap (λ ts. ts ++ c.in-Some.term ∷ []) c.loop-term.invariant.made ∙ ap (λ t. map Plain c.loop-term.nodes ++ t ∷ []) c.in-Plain.is
      ∙ sym (ap (map Plain) c.in_ok-push-in-Plain.ensures.ok ∙ map-append Plain c.loop-term.nodes (c.in-Plain.node ∷ []));
  left = All-tail IsNode c.in-Some.term _ (subst (All IsNode) c.in-Some.ensures.steps.0 c.loop-term.invariant.left);
}
