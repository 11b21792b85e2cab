-- A text is that of one semantics, or has one first fault.
use Rattle.std.proofs.Common.{◌≡◌, ℕ, List, sym, ap, ◌∙◌}
use Rattle.std.proofs.lemmas.Option.{same_Some}
use Rattle.rule_text.specs.declared.item.Item.{Item}
use Rattle.rule_text.specs.declared.error.LoadFault.{LoadFault}
use Rattle.rule_text.specs.Faults.{IsFaultOf}
use Rattle.rule_text.proofs.OneEnd.{one_value, one_fault, no_value_and_fault}
use Rattle.sort_term.specs.declared.ids.SortId.{SortId}
use Rattle.sort_term.specs.declared.semantics.Con.{Con}
use Rattle.sort_term.specs.declared.semantics.Table.{Table}
use Rattle.sort_term.specs.declared.rule.Rule.{Rule}
use Rattle.sort_term.specs.System.{System, system_of}
use Rattle.semantics_load.specs.Declaring.{Declared, nothing}
use Rattle.semantics_load.specs.Pieces.{with_piece}
use Rattle.semantics_load.specs.Loads.{Adds, semantics_loading}
use Rattle.semantics_load.specs.Text.{declared_by, IsSemanticsText}

-- what an item adds is determined
adds_one : (d : Declared) (i : Item) (e f : Declared) → Adds d i e → Adds d i f → e ≡ f
adds_one d i e f a b = a.is ∙ ap (with_piece d) (same_Some a.piece b.piece (sym a.says ∙ b.says)) ∙ sym b.is

-- a semantics is told by what it declares
same_system : (s t : System) → declared_by s ≡ declared_by t → s ≡ t
same_system s t same =
    ap (λ (sorts : List (List ℕ)). system_of sorts s.cons s.tables s.rules s.config) (ap (λ (d : Declared). d.sorts) same)
    ∙ ap (λ (cons : List Con). system_of t.sorts cons s.tables s.rules s.config) (ap (λ (d : Declared). d.cons) same)
    ∙ ap (λ (tables : List Table). system_of t.sorts t.cons tables s.rules s.config) (ap (λ (d : Declared). d.tables) same)
    ∙ ap (λ (rules : List Rule). system_of t.sorts t.cons t.tables rules s.config) (ap (λ (d : Declared). d.rules) same)
    ∙ ap (λ (config : SortId). system_of t.sorts t.cons t.tables t.rules config) (same_Some s.config t.config (ap (λ (d : Declared). d.config) same))

pub one_semantics : (bytes : List ℕ) (s t : System) → IsSemanticsText bytes s → IsSemanticsText bytes t → s ≡ t
one_semantics bytes s t a b = same_system s t (one_value semantics_loading adds_one nothing bytes (declared_by s) (declared_by t) a.whole b.whole)

pub one_text_fault : (bytes : List ℕ) (f g : LoadFault) → IsFaultOf semantics_loading nothing bytes f → IsFaultOf semantics_loading nothing bytes g → f ≡ g
one_text_fault = one_fault semantics_loading adds_one nothing

pub no_semantics_and_fault : (bytes : List ℕ) (s : System) (f : LoadFault) → IsSemanticsText bytes s → ¬ IsFaultOf semantics_loading nothing bytes f
no_semantics_and_fault bytes s f text fault = no_value_and_fault semantics_loading adds_one nothing bytes (declared_by s) f text.whole fault
