-- What is printed of a state is a start text of the same state.
use Rattle.std.proofs.Common.{arith, ◌≡◌, ◌≤◌, true, IsTrue, [], ◌∷◌, ◌++◌, map, None, Some, All, refl, sym, ap, ◌∙◌, subst, inr}
use Rattle.std.proofs.lemmas.Bool.{and_from}
use Rattle.sexp_text.specs.Printed.{is_word, is_printable, ArePrintable, without_spans}
use Rattle.sexp_text.specs.Forms.{depth_of}
use Rattle.sexp_text.proofs.Reread.{printed_read}
use Rattle.rule_text.specs.Faults.{TakesForm}
use Rattle.rule_text.specs.Turns.{InTurn}
use Rattle.rule_text.specs.declared.item.Item.TheVariants as item
use Rattle.rule_text.proofs.Firsts.{lawful_by}
use Rattle.sort_term.specs.declared.ids.SortId.{SortId}
use Rattle.sort_term.specs.declared.term.Sort.TheVariants.{Own}
use Rattle.sort_term.specs.Rules.{IsSemantics}
use Rattle.sort_term.specs.Step.{IsState}
use Rattle.sort_term.specs.System.{System}
use Rattle.sort_term.specs.Tree.{Tree}
use Rattle.name_resolution.specs.Known.{vocabulary_in}
use Rattle.name_resolution.specs.Reads.{Said, bare, whole, nothing, heard, argument, ground_reading, ground_of, tree_says}
use Rattle.name_resolution.specs.Within.{Asked, bare as asked_bare, tested, is_within_place, asked, IsWithinTree}
use Rattle.program_text.specs.States.{StartOf, no_start, start_loading}
use Rattle.program_text.specs.Text.{IsStartText}
use Rattle.report_text.specs.Again.{raw_state, FitsText, PrintedStatesLoad}
use Rattle.report_text.specs.States.{tree_text}
use Rattle.report_text.proofs.RawStates.{form_of, spelled, spanless}
use Rattle.report_text.proofs.RawTrees.{rereads}
use Rattle.report_text.proofs.RawValues.{IsReread}

-- a place of a declared sort tells no more than no place
heard_own : (a : SortId) (part : Said Tree) → heard part ≡ argument ground_reading (Some (Own a)) part
heard_own a (bare n) = refl
heard_own a (whole t) = refl
heard_own a nothing = refl

within_own : (a : SortId) (part : Asked) → is_within_place (Some (Own a)) part ≡ true → is_within_place None part ≡ true
within_own a (asked_bare n) h = refl
within_own a (tested b) h = h

module _ (s : System) (t : Tree) (is_semantics : IsSemantics s) (words : All (λ con. IsTrue (is_word con.name)) s.cons) (state : IsState s t) (fits : FitsText s.cons t) where
  again : IsReread (vocabulary_in s) (Own s.config) t (raw_state s.cons t)
  again = rereads s is_semantics words t (Own s.config) state.is

  -- the start that the text makes
  abbrev told : StartOf
  told = record { semantics = s; tree = Some t }

  says : ground_of (vocabulary_in s) (raw_state s.cons t) ≡ Some t
  says = heard_own s.config (tree_says ground_reading (vocabulary_in s) [] (raw_state s.cons t)) ∙ again.reads

  within : IsWithinTree (vocabulary_in s) (raw_state s.cons t)
  within = record { short = fits.few; numbers = within_own s.config (asked (vocabulary_in s) (raw_state s.cons t)) again.within }

  -- the form is that of an item which passes all checks and tells the state
  taken : TakesForm start_loading (no_start s) (form_of s.cons t) told
  taken = record {
    item = item.Start (raw_state s.cons t);
    written = record { spelled = refl; lawful = again.lawful };
    takes = record {
      lawful = lawful_by start_loading (no_start s) (item.Start (raw_state s.cons t)) refl again.named within (record { tree = t; says = says; sorted = state }) tt tt tt;
      adds = record { tree = t; says = says; is = refl };
    };
  }

  printable : ArePrintable (form_of s.cons t ∷ [])
  printable =
      let shallow : depth_of (form_of s.cons t) ≤ 64 = fits.shallow in
      record { parts = and_from (is_printable (form_of s.cons t)) true again.printable refl; shallow = omega arith }

  pub loads : IsStartText s (tree_text s.cons t) t
  loads =
      let form = form_of s.cons t in
      let line = ap (λ text. text ++ 10 ∷ []) (sym (spelled s.cons t)) in
      let read = printed_read (tree_text s.cons t) (form ∷ []) printable (inr line) fits.short in
      let forms : map without_spans read.0 ≡ form ∷ [] = read.2 ∙ ap (λ f. f ∷ []) (spanless s.cons t) in
      record {
        whole = record {
          text = record {
            forms = read.0;
            text = read.1;
            taken = subst (λ fs. InTurn (TakesForm start_loading) (no_start s) fs told) (sym forms) (told, taken, refl);
          };
          whole = refl;
        };
      }

pub printed_loads : PrintedStatesLoad
printed_loads = loads
