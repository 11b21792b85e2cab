-- Each item that is taken keeps what is there lawful, and so what a text makes is a semantics.
use Rattle.std.proofs.Common.{◌≡◌, ◌≤◌, ◌<◌, ℕ, List, [], ◌∷◌, ◌++◌, map, length, Option, Some, None, IsSome, IsTrue, All, refl, sym, ap, ◌∙◌, subst}
use Rattle.std.specs.Prelude.{option_map}
use Rattle.std.proofs.lemmas.List.{append-nil, map-id}
use Rattle.std.proofs.lemmas.Option.{same_Some}
use Rattle.data_value.specs.Sorts.{IsWidth}
use Rattle.rule_text.specs.declared.error.ItemFault.TheVariants.{Name, Limit, Sort, Unbound}
use Rattle.rule_text.specs.declared.item.RawSort.{RawSort}
use Rattle.rule_text.specs.declared.item.RawSort.TheVariants.{Named}
use Rattle.rule_text.specs.declared.item.RawVar.{RawVar}
use Rattle.rule_text.specs.declared.item.RawTree.{RawTree}
use Rattle.rule_text.specs.declared.item.RawDemand.{RawDemand}
use Rattle.rule_text.specs.declared.item.Item.{Item}
use Rattle.rule_text.specs.declared.item.Item.TheVariants as item
use Rattle.rule_text.specs.Faults.{TakesItem, IsTextOf}
use Rattle.rule_text.proofs.Taking.{text_keeps}
use Rattle.sort_term.specs.declared.ids.SortId.{SortId}
use Rattle.sort_term.specs.declared.term.Sort.TheVariants.{Own}
use Rattle.sort_term.specs.declared.semantics.Con.{Con}
use Rattle.sort_term.specs.declared.semantics.Table.{Table}
use Rattle.sort_term.specs.declared.rule.Rule.{Rule}
use Rattle.sort_term.specs.Names.{IsFree}
use Rattle.sort_term.specs.Signature.{is_usable, has_con, IsCon, IsTable}
use Rattle.sort_term.specs.Rules.{IsRule, AreRules, IsSemantics}
use Rattle.sort_term.specs.System.{System}
use Rattle.sort_term.specs.Sorted.{all_there}
use Rattle.sort_term.proofs.Growing.{made_grows, cons_grow, tables_grow, rules_grow}
use Rattle.sort_term.proofs.Pushed.{no_sorts, sorts_push, no_cons, cons_push, no_tables, tables_push, no_rules, rules_push}
use Rattle.name_resolution.specs.Known.{declared_sort, sort_of}
use Rattle.name_resolution.specs.Names.{IsNew}
use Rattle.name_resolution.specs.Reads.{variables_of}
use Rattle.name_resolution.proofs.Places.{apart_from_new}
use Rattle.name_resolution.proofs.Read.{there_length, lengths_stay, names_pass, own_sorts_are_declared}
use Rattle.semantics_load.specs.declared.piece.Piece.{Piece}
use Rattle.semantics_load.specs.declared.piece.Piece.TheVariants as piece
use Rattle.semantics_load.specs.Declaring.{Declared, nothing, known_in}
use Rattle.name_resolution.specs.Variables.{names_of}
use Rattle.semantics_load.specs.Pieces.{demands_of, piece_of, with_piece}
use Rattle.semantics_load.specs.Names.{HasNames, IsRuleNamed}
use Rattle.semantics_load.specs.Limits.{IsWithinLimits, IsRuleWithin}
use Rattle.semantics_load.specs.Sorts.{IsRuleSorted, IsPieceSorted, IsPieceBound, HasSorts}
use Rattle.semantics_load.specs.Loads.{semantics_loading, lacking_config}
use Rattle.semantics_load.specs.Text.{declared_by, IsSemanticsText}
use Rattle.semantics_load.specs.Drafts.{AreRulesOf, IsDraft}
use Rattle.semantics_load.proofs.Said.{SaysCon, says_sort, says_con, says_table, says_config, says_rule}
use Rattle.semantics_load.proofs.Counts.{few_demands}

-- rules, where more is declared
rules_with_con : (cons : List Con) (c : Con) (tables : List Table) (config : Option SortId) (rules : List Rule) → AreRulesOf cons tables config rules → AreRulesOf (cons ++ c ∷ []) tables config rules
rules_with_con cons c tables None rules h = h
rules_with_con cons c tables (Some a) rules h =
    (made_grows cons (c ∷ []) a h.0, subst (λ ts. AreRules (cons ++ c ∷ []) ts a rules) (append-nil tables) (rules_grow cons (c ∷ []) tables [] a rules h.1))

rules_with_table : (cons : List Con) (tables : List Table) (t : Table) (config : Option SortId) (rules : List Rule) → AreRulesOf cons tables config rules → AreRulesOf cons (tables ++ t ∷ []) config rules
rules_with_table cons tables t None rules h = h
rules_with_table cons tables t (Some a) rules h =
    (h.0, subst (λ cs. AreRules cs (tables ++ t ∷ []) a rules) (append-nil cons) (rules_grow cons [] tables (t ∷ []) a rules h.1))

-- what an item says that passes its checks, where what is there is lawful
module _ (d : Declared) (h : IsDraft d) where
  with_sort : (name : List ℕ) → HasNames d (item.Sort name) → IsWithinLimits d (item.Sort name) → IsDraft (with_piece d (piece.Sort name))
  with_sort name named within =
      record {
        sorts_pass = sorts_push d.sorts name h.sorts_pass within (apart_from_new (λ other. other) name d.sorts (subst (IsNew name) (sym (map-id d.sorts)) named.new)) named.free;
        cons_pass = cons_grow d.sorts (name ∷ []) d.cons h.cons_pass;
        tables_pass = h.tables_pass;
        rules_pass = h.rules_pass;
      }

  with_con : (c : Con) → length d.cons < 256 → IsNew c.name (map (λ other. other.name) d.cons) → IsCon d.sorts d.cons c → IsDraft (with_piece d (piece.Con c))
  with_con c few new lawful =
      record {
        sorts_pass = h.sorts_pass;
        cons_pass = cons_push d.sorts d.cons c h.cons_pass few (apart_from_new (λ (other : Con). other.name) c.name d.cons new) lawful;
        tables_pass = tables_grow d.cons (c ∷ []) d.tables h.tables_pass;
        rules_pass = rules_with_con d.cons c d.tables d.config d.rules h.rules_pass;
      }

  with_table : (t : Table) → length d.tables < 16 → IsNew t.name (map (λ other. other.name) d.tables) → IsTable d.cons t → IsDraft (with_piece d (piece.Table t))
  with_table t few new lawful =
      record {
        sorts_pass = h.sorts_pass;
        cons_pass = h.cons_pass;
        tables_pass = tables_push d.cons d.tables t h.tables_pass few (apart_from_new (λ (other : Table). other.name) t.name d.tables new) lawful;
        rules_pass = rules_with_table d.cons d.tables t d.config d.rules h.rules_pass;
      }

  with_config : (a : SortId) → d.config ≡ None → IsTrue (has_con d.cons a) → IsDraft (with_piece d (piece.Config a))
  with_config a untold made =
      let none : d.rules ≡ [] = subst (λ config. AreRulesOf d.cons d.tables config d.rules) untold h.rules_pass in
      record {
        sorts_pass = h.sorts_pass;
        cons_pass = h.cons_pass;
        tables_pass = h.tables_pass;
        rules_pass = (made, subst (AreRules d.cons d.tables a) (sym none) (no_rules d.cons d.tables a));
      }

  with_rule : (r : Rule) → IsSome d.config → length d.rules < 1000 → IsNew r.name (map (λ other. other.name) d.rules) → ((config : SortId) → d.config ≡ Some config → IsRule d.cons d.tables config r) → IsDraft (with_piece d (piece.Rule r))
  with_rule r told few new lawful =
      record { sorts_pass = h.sorts_pass; cons_pass = h.cons_pass; tables_pass = h.tables_pass; rules_pass = by d.config refl told h.rules_pass }
    where
      by : (config : Option SortId) → d.config ≡ config → IsSome config → AreRulesOf d.cons d.tables config d.rules → AreRulesOf d.cons d.tables config (d.rules ++ r ∷ [])
      by None is there rules = absurd cc
      by (Some a) is there rules = (rules.0, rules_push d.cons d.tables a d.rules r rules.1 few (apart_from_new (λ (other : Rule). other.name) r.name d.rules new) (lawful a is))

-- a constructor that an item says is lawful
con_is_lawful : (d : Declared) (name : List ℕ) (args : List RawSort) (sort : List ℕ) (p : Piece) (s : SaysCon name (all_there (map (sort_of (known_in d)) args)) (declared_sort (known_in d) sort) p) → HasNames d (item.Con name args sort) → IsWithinLimits d (item.Con name args sort) → All (λ a. IsTrue (is_usable d.cons a)) s.con.args → IsCon d.sorts d.cons s.con
con_is_lawful d name args sort p s named within usable =
    record {
      free = subst IsFree (sym s.named) named.0.free;
      known = own_sorts_are_declared (known_in d) (Named sort) s.con.sort (ap (option_map Own) s.makes);
      few = subst (λ n. n ≤ 16) (sym (there_length (sort_of (known_in d)) args s.con.args s.takes)) within.1;
      usable = usable;
    }

-- a rule that an item says is lawful
rule_is_lawful : (d : Declared) (name : List ℕ) (vars : List RawVar) (head : RawTree) (demands : List RawDemand) (outcome : RawTree) (r : Rule) → IsRuleNamed (known_in d) vars head demands outcome → IsRuleWithin (known_in d) vars head demands outcome → variables_of (known_in d) vars ≡ Some r.vars → demands_of (known_in d) (names_of vars) demands ≡ Some r.demands → IsRuleSorted d r → IsPieceBound (piece.Rule r) → (config : SortId) → d.config ≡ Some config → IsRule d.cons d.tables config r
rule_is_lawful d name vars head demands outcome r named within vars_are demands_are sorted bound config told =
    let names = names_pass (known_in d) vars r.vars named.vars_named.names vars_are in
    record {
      vars = record {
        few = subst (λ n. n ≤ 64) (sym (lengths_stay (known_in d) vars r.vars vars_are)) within.vars_within.few;
        distinct = names.0;
        free = names.1;
        sorts = sorted.usable;
      };
      few = few_demands (known_in d) (names_of vars) demands r.demands demands_are within.lets within.whens;
      sorted = sorted.sorted config told;
      bound = record { repeats = sorted.repeats; all = bound.0; reads = bound.1 };
    }

-- what an item says that passes its checks
pub said_keeps : (d : Declared) (i : Item) (p : Piece) → IsDraft d → HasNames d i → IsWithinLimits d i → piece_of d i ≡ Some p → IsPieceSorted d p → IsPieceBound p → IsDraft (with_piece d p)
said_keeps d (item.Sort name) p h named within says sorted bound =
    subst (λ q. IsDraft (with_piece d q)) (sym (says_sort d p name says)) (with_sort d h name named within)
said_keeps d (item.Con name args sort) p h named within says sorted bound =
    let s = says_con d p name args sort says in
    subst (λ q. IsDraft (with_piece d q)) (sym s.is)
    (with_con d h s.con within.0 (subst (λ n. IsNew n (map (λ (c : Con). c.name) d.cons)) (sym s.named) named.0.new)
    (con_is_lawful d name args sort p s named within (subst (IsPieceSorted d) s.is sorted)))
said_keeps d (item.Table name key sort) p h named within says sorted bound =
    let s = says_table d p name key sort says in
    subst (λ q. IsDraft (with_piece d q)) (sym s.is)
    (with_table d h s.table within.0 (subst (λ n. IsNew n (map (λ (t : Table). t.name) d.tables)) (sym s.named) named.0.new)
    record { free = subst IsFree (sym s.named) named.0.free; width = subst IsWidth (sym s.keyed) within.1; usable = subst (IsPieceSorted d) s.is sorted })
said_keeps d (item.Config name) p h named within says sorted bound =
    let s = says_config d p name says in
    subst (λ q. IsDraft (with_piece d q)) (sym s.is) (with_config d h s.config named.0 (subst (IsPieceSorted d) s.is sorted))
said_keeps d (item.Rule name vars head demands outcome) p h named within says sorted bound =
    let s = says_rule d p name vars head demands outcome says in
    subst (λ q. IsDraft (with_piece d q)) (sym s.is)
    (with_rule d h s.rule named.0 within.0 (subst (λ n. IsNew n (map (λ (r : Rule). r.name) d.rules)) (sym s.named) named.1)
    (rule_is_lawful d name vars head demands outcome s.rule named.2 within.1 s.vars_are s.demands_are (subst (IsPieceSorted d) s.is sorted) (subst IsPieceBound s.is bound)))
said_keeps d (item.Row table key term) p h named within says sorted bound = absurd cc
said_keeps d (item.Cut left name vars pattern whens) p h named within says sorted bound = absurd cc
said_keeps d (item.Point name vars left right whens) p h named within says sorted bound = absurd cc
said_keeps d (item.Start tree) p h named within says sorted bound = absurd cc

-- an item that is taken
pub keeps : (d : Declared) (i : Item) (e : Declared) → IsDraft d → TakesItem semantics_loading d i e → IsDraft e
keeps d i e h t =
    let sorts : HasSorts d i = t.lawful Sort in
    let sorted = subst (IsPieceSorted d) (same_Some sorts.piece t.adds.piece (sym sorts.says ∙ t.adds.says)) sorts.sorted in
    subst IsDraft (sym t.adds.is) (said_keeps d i t.adds.piece h (t.lawful Name) (t.lawful Limit) t.adds.says sorted (t.lawful Unbound t.adds.piece t.adds.says))

pub begins : IsDraft nothing
begins = record { sorts_pass = no_sorts; cons_pass = no_cons []; tables_pass = no_tables []; rules_pass = refl }

-- what a text makes
pub text_makes_draft : (bytes : List ℕ) (d : Declared) → IsTextOf semantics_loading nothing bytes d → IsDraft d
text_makes_draft = text_keeps semantics_loading nothing IsDraft begins keeps

-- a draft whose sort of the states is told
pub draft_is_semantics : (s : System) → IsDraft (declared_by s) → IsSemantics s
draft_is_semantics s h = record { sorts_pass = h.sorts_pass; cons_pass = h.cons_pass; tables_pass = h.tables_pass; config_made = h.rules_pass.0; rules_pass = h.rules_pass.1 }

pub text_makes_semantics : (bytes : List ℕ) (s : System) → IsSemanticsText bytes s → IsSemantics s
text_makes_semantics bytes s h = draft_is_semantics s (text_makes_draft bytes (declared_by s) h.whole.text)

-- where a text lacks no sort of the states, it is told
pub is_told : (config : Option SortId) → lacking_config config ≡ None → IsSome config
is_told None none = absurd cc
is_told (Some a) none = refl
