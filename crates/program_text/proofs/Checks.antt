-- What is told of any loading of ground terms.
use Rattle.std.proofs.Common.{◌≡◌, Option, Result, Ok, Err, IfErr, IsErrAnd, sym, subst}
use Rattle.rule_text.specs.Faults.{Loading, IsItemError}
use Rattle.rule_text.specs.declared.error.ItemError.{ItemError}
use Rattle.rule_text.specs.declared.error.ItemError.TheVariants.{NoMemory}
use Rattle.rule_text.specs.declared.item.Item.{Item}
use Rattle.rule_text.specs.declared.item.RawTree.{RawTree}
use Rattle.sort_term.specs.declared.term.Sort.{Sort}
use Rattle.sort_term.specs.System.{System}
use Rattle.sort_term.specs.Tree.{Tree}
use Rattle.program_text.specs.Grounds.{IsSortedTerm}

-- want of memory tells nothing of the item
pub without_memory : {D X : Type 0} (l : Loading D) (d : D) (i : Item) (r : Result X ItemError) → IsErrAnd r (λ e. e ≡ NoMemory) → IfErr r (IsItemError l d i)
without_memory l d i (Ok x) is = tt
without_memory l d i (Err e) is = subst (IsItemError l d i) (sym is) tt

-- what is told of a term for a semantics and a sort, by the same semantics, sort and term
pub told : (s t : System) (a b : Sort) (raw : RawTree) (found term : Option Tree) → s ≡ t → a ≡ b → found ≡ term → IsSortedTerm s a raw found → IsSortedTerm t b raw term
told s t a b raw found term same one is sorted = subst (IsSortedTerm t b raw) is (subst (λ c. IsSortedTerm t c raw found) one (subst (λ u. IsSortedTerm u a raw found) same sorted))
