-- What texts load: programs and states of their semantics, and of each text one.
use Rattle.std.proofs.Common.{◌≡◌, ◌==◌, ◌<◌, ◌^◌, ◌⊎◌, inl, inr, ℕ, zero, suc, IsFalse, List, [], ◌∷◌, ◌++◌, map, slice_get, slice_set, Option, Some, None, option_map, option_and_then, refl, sym, ap, ap₂, ◌∙◌, subst}
use Rattle.std.specs.List.{list_any}
use Rattle.std.proofs.lemmas.List.{length-map}
use Rattle.std.proofs.lemmas.Option.{same_Some, slice_get-map}
use Rattle.rule_text.specs.Faults.{IsLawfulIn, TakesItem, IsTextOf, IsWholeText}
use Rattle.rule_text.specs.declared.error.ItemFault.TheVariants as fault
use Rattle.rule_text.specs.declared.item.Item.{Item}
use Rattle.rule_text.specs.declared.item.Item.TheVariants as item
use Rattle.rule_text.specs.declared.item.RawTree.{RawTree}
use Rattle.rule_text.proofs.OneEnd.{one_value}
use Rattle.rule_text.proofs.Taking.{text_keeps}
use Rattle.sort_term.specs.declared.ids.TableId.{TableId}
use Rattle.sort_term.specs.declared.program.Row.{Row}
use Rattle.sort_term.specs.declared.semantics.Table.{Table}
use Rattle.sort_term.specs.declared.term.Sort.TheVariants.{Own}
use Rattle.sort_term.specs.Problems.{IsRow, AreRows, IsProgram}
use Rattle.sort_term.specs.Sorted.{IsTreeOf}
use Rattle.sort_term.specs.Step.{Tables}
use Rattle.sort_term.specs.System.{System}
use Rattle.sort_term.specs.Tree.{Tree}
use Rattle.sort_term.proofs.Pushed.{no_rows as empty_rows, rows_push}
use Rattle.name_resolution.specs.Names.{place_of}
use Rattle.name_resolution.specs.Known.{vocabulary_in, table_of, table_at}
use Rattle.program_text.specs.Rows.{RowsOf, list_at, rows_at, with_row, no_rows, IsRowItem, IsRowWithin, HasSorts, Adds, AddsRow, program_loading}
use Rattle.program_text.specs.States.{StartOf, no_start, SaysTree, IsStartItem, HasSorts as WritesState, Adds as AddsState, start_loading}
use Rattle.program_text.specs.Text.{IsProgramText, IsStartText}
use Rattle.program_text.proofs.Keys.{length_set}
use Rattle.program_text.proofs.RowChecks.{of_rows}
use Rattle.program_text.proofs.StartChecks.{of_starts}

-- a table with its number is there
table_there : (s : System) (name : List ℕ) (t : TableId × Table) → table_of (vocabulary_in s) name ≡ Some t → slice_get s.tables t.0.0 ≡ Some t.1
table_there s name t is = by (place_of name (map (λ table. table.name) s.tables)) is
  where
    at : (place : ℕ) (o : Option Table) → slice_get s.tables place ≡ o → option_map (λ table. (record { 0 = place }, table)) o ≡ Some t → slice_get s.tables t.0.0 ≡ Some t.1
    at place None there h = absurd cc
    at place (Some u) there h =
        let pair : TableId × Table = (record { 0 = place }, u) in
        subst (λ (x : TableId × Table). slice_get s.tables x.0.0 ≡ Some x.1) (same_Some pair t h) there

    by : (o : Option ℕ) → option_and_then (table_at (vocabulary_in s)) o ≡ Some t → slice_get s.tables t.0.0 ≡ Some t.1
    by None h = absurd cc
    by (Some place) h = at place (slice_get s.tables place) refl h

-- what is there once one item is put in another's place: what was there, or the new one
set_there : {X : Type 0} (xs : List X) (i k : ℕ) (x y : X) → slice_get (slice_set xs i x) k ≡ Some y → (slice_get xs k ≡ Some y) ⊎ ((k ≡ i) × (x ≡ y) × ((z : X) × slice_get xs k ≡ Some z))
set_there [] i k x y is = inl is
set_there (z ∷ xs) zero zero x y is = inr (refl, same_Some x y is, (z, refl))
set_there (z ∷ xs) zero (suc k) x y is = inl is
set_there (z ∷ xs) (suc i) zero x y is = inl is
set_there (z ∷ xs) (suc i) (suc k) x y is = elim (set_there xs i k x y is) [ inl e ↦ inl e | inr d ↦ inr (ap suc d.0, d.1, d.2) ]

-- one row more, which passes all checks, leaves a program
module _ (d : RowsOf) (h : IsProgram d.semantics d.rows) (name : List ℕ) (key : ℕ) (raw : RawTree) (lawful : IsLawfulIn program_loading d (item.Row name key raw)) (e : RowsOf) (adds : AddsRow d name key raw e) where
  is_row : IsRow d.semantics.cons adds.t.1 adds.r
  is_row =
      let within : IsRowWithin d adds.t key raw = lawful fault.Limit adds.t adds.says.is_table in
      let sorts : HasSorts d name key raw = lawful fault.Sort in
      let one : sorts.t ≡ adds.t = same_Some sorts.t adds.t (sym sorts.says.is_table ∙ adds.says.is_table) in
      let same : sorts.r.term ≡ adds.r.term = same_Some sorts.r.term adds.r.term (sym sorts.says.reads ∙ adds.says.reads) in
      record {
        key = subst (λ k. k < 2 ^ adds.t.1.key) (sym adds.says.same_key) within.key_fits;
        term = subst (IsTreeOf d.semantics.cons adds.t.1.sort) same (subst (λ (t : TableId × Table). IsTreeOf d.semantics.cons t.1.sort sorts.r.term) one sorts.sorted);
      }

  grown_at : (k : ℕ) (table : Table) (rows : List Row) → slice_get d.semantics.tables k ≡ Some table → (slice_get d.rows k ≡ Some rows) ⊎ ((k ≡ adds.t.0.0) × (rows_at d adds.t.0 ++ adds.r ∷ [] ≡ rows) × ((old : List Row) × slice_get d.rows k ≡ Some old)) → AreRows d.semantics.cons table rows
  grown_at k table rows there (inl is) = h.rows.each k table rows there is
  grown_at k table rows there (inr new) =
      let old = new.2.0 in
      let old_there : slice_get d.rows adds.t.0.0 ≡ Some old = subst (λ n. slice_get d.rows n ≡ Some old) new.0 new.2.1 in
      let is_old : rows_at d adds.t.0 ≡ old = ap list_at old_there in
      let same : adds.t.1 ≡ table = same_Some adds.t.1 table (sym (table_there d.semantics name adds.t adds.says.is_table) ∙ subst (λ n. slice_get d.semantics.tables n ≡ Some table) new.0 there) in
      let before : AreRows d.semantics.cons table (rows_at d adds.t.0) = subst (AreRows d.semantics.cons table) (sym is_old) (h.rows.each k table old there new.2.1) in
      let within : IsRowWithin d adds.t key raw = lawful fault.Limit adds.t adds.says.is_table in
      let other : IsFalse (list_any (λ (row : Row). row.key == adds.r.key) (rows_at d adds.t.0)) = subst (λ k. IsFalse (list_any (λ (row : Row). row.key == k) (rows_at d adds.t.0))) (sym adds.says.same_key) (lawful fault.DoubleKey adds.t adds.says.is_table) in
      subst (AreRows d.semantics.cons table) new.1 (rows_push d.semantics.cons table (rows_at d adds.t.0) adds.r before within.few other (subst (λ (t : Table). IsRow d.semantics.cons t adds.r) same is_row))

  grown : IsProgram d.semantics (with_row d adds.t.0 adds.r).rows
  grown = record {
    long = length_set d.rows adds.t.0.0 (rows_at d adds.t.0 ++ adds.r ∷ []) ∙ h.long;
    rows = record { each = λ k table rows there is. grown_at k table rows there (set_there d.rows adds.t.0.0 k (rows_at d adds.t.0 ++ adds.r ∷ []) rows is) };
  }

-- the rows so far are a program of this semantics
abbrev KeepsProgram : System → RowsOf → Type 0
KeepsProgram s d = (d.semantics ≡ s) × IsProgram d.semantics d.rows

no_program : (s : System) → KeepsProgram s (no_rows s)
no_program s = (refl, record { long = length-map _ _; rows = record { each = each } })
  where
    each : (k : ℕ) (t : Table) (rows : List Row) → slice_get s.tables k ≡ Some t → slice_get (no_rows s).rows k ≡ Some rows → AreRows s.cons t rows
    each k t rows there is =
        let none : Table → List Row = λ _. [] in
        let same : [] ≡ rows = same_Some [] rows (sym (slice_get-map none s.tables k ∙ ap (option_map none) there) ∙ is) in
        subst (AreRows s.cons t) same (empty_rows s.cons t)

program_kept : (s : System) (d : RowsOf) (i : Item) (e : RowsOf) → KeepsProgram s d → TakesItem program_loading d i e → KeepsProgram s e
program_kept s d i e h takes = of_rows (λ j. TakesItem program_loading d j e → KeepsProgram s e) row i (takes.lawful fault.Shape) takes
  where
    row : (name : List ℕ) (key : ℕ) (raw : RawTree) → TakesItem program_loading d (item.Row name key raw) e → KeepsProgram s e
    row name key raw t =
        (ap (λ (x : RowsOf). x.semantics) t.adds.is ∙ h.0, subst (λ (x : RowsOf). IsProgram x.semantics x.rows) (sym t.adds.is) (grown d h.1 name key raw t.lawful e t.adds))

programs_kept : (s : System) (bytes : List ℕ) (d : RowsOf) → IsTextOf program_loading (no_rows s) bytes d → KeepsProgram s d
programs_kept s bytes d text = text_keeps program_loading (no_rows s) (KeepsProgram s) (no_program s) (program_kept s) bytes d text

-- what the text of a program loads is a program
pub texts_load_programs : (s : System) (bytes : List ℕ) (p : Tables) → IsProgramText s bytes p → IsProgram s p
texts_load_programs s bytes p t = (programs_kept s bytes (record { semantics = s; rows = p }) t.whole.text).1

-- the items of a text are those of a program of the semantics that stood before them
pub is_program_text : (s : System) (bytes : List ℕ) (start d : RowsOf) (p : Tables) → start ≡ no_rows s → IsWholeText program_loading start bytes d → p ≡ d.rows → IsProgramText s bytes p
is_program_text s bytes start d p is whole same =
    let from : IsWholeText program_loading (no_rows s) bytes d = subst (λ x. IsWholeText program_loading x bytes d) is whole in
    let made : d ≡ record { semantics = s; rows = p } = ap₂ (λ (t : System) (rows : Tables). record { semantics = t; rows = rows }) (programs_kept s bytes d from.text).0 (sym same) in
    record { whole = subst (λ x. IsWholeText program_loading (no_rows s) bytes x) made from }

-- only a row adds to a program
adds_row : (d : RowsOf) (i : Item) (e : RowsOf) → Adds d i e → IsRowItem i
adds_row d (item.Row _ _ _) e a = tt
adds_row d (item.Sort _) e a = a
adds_row d (item.Con _ _ _) e a = a
adds_row d (item.Table _ _ _) e a = a
adds_row d (item.Config _) e a = a
adds_row d (item.Rule _ _ _ _ _) e a = a
adds_row d (item.Cut _ _ _ _ _) e a = a
adds_row d (item.Point _ _ _ _ _) e a = a
adds_row d (item.Start _) e a = a

-- an item makes one program of another
pub row_adds_one : (d : RowsOf) (i : Item) (e f : RowsOf) → Adds d i e → Adds d i f → e ≡ f
row_adds_one d i e f a b = of_rows (λ j. Adds d j e → Adds d j f → e ≡ f) row i (adds_row d i e a) a b
  where
    row : (name : List ℕ) (key : ℕ) (raw : RawTree) → AddsRow d name key raw e → AddsRow d name key raw f → e ≡ f
    row name key raw a b =
        let table : a.t ≡ b.t = same_Some a.t b.t (sym a.says.is_table ∙ b.says.is_table) in
        let term : a.r.term ≡ b.r.term = same_Some a.r.term b.r.term (sym a.says.reads ∙ b.says.reads) in
        let made : a.r ≡ b.r = ap₂ (λ (k : ℕ) (t : Tree). record { key = k; term = t }) (a.says.same_key ∙ sym b.says.same_key) term in
        a.is ∙ ap₂ (λ (t : TableId × Table) (r : Row). with_row d t.0 r) table made ∙ sym b.is

-- a text is that of one program
pub one_program : (s : System) (bytes : List ℕ) (p q : Tables) → IsProgramText s bytes p → IsProgramText s bytes q → p ≡ q
one_program s bytes p q t u = ap (λ (d : RowsOf). d.rows) (one_value program_loading row_adds_one (no_rows s) bytes (record { semantics = s; rows = p }) (record { semantics = s; rows = q }) t.whole u.whole)

-- only an item that writes a state says a tree
says_start : (s : System) (i : Item) (t : Tree) → SaysTree s i t → IsStartItem (no_start s) i
says_start s (item.Start _) t a = refl
says_start s (item.Row _ _ _) t a = a
says_start s (item.Sort _) t a = a
says_start s (item.Con _ _ _) t a = a
says_start s (item.Table _ _ _) t a = a
says_start s (item.Config _) t a = a
says_start s (item.Rule _ _ _ _ _) t a = a
says_start s (item.Cut _ _ _ _ _) t a = a
says_start s (item.Point _ _ _ _ _) t a = a

-- an item says one tree
one_tree : (s : System) (i : Item) (t u : Tree) → SaysTree s i t → SaysTree s i u → t ≡ u
one_tree s i t u a b = of_starts (no_start s) (λ j. SaysTree s j t → SaysTree s j u → t ≡ u) (λ raw x y. same_Some t u (sym x ∙ y)) i (says_start s i t a) a b

-- the tree, if it is told, is a state of this semantics
abbrev IsKept : StartOf → Type 0
IsKept d = (t : Tree) → d.tree ≡ Some t → IsTreeOf d.semantics.cons (Own d.semantics.config) t

abbrev KeepsState : System → StartOf → Type 0
KeepsState s d = (d.semantics ≡ s) × IsKept d

state_kept : (s : System) (d : StartOf) (i : Item) (e : StartOf) → KeepsState s d → TakesItem start_loading d i e → KeepsState s e
state_kept s d i e h takes =
    let sorts : WritesState d.semantics i = takes.lawful fault.Sort in
    let one : sorts.tree ≡ takes.adds.tree = one_tree d.semantics i sorts.tree takes.adds.tree sorts.says takes.adds.says in
    let sorted : IsTreeOf d.semantics.cons (Own d.semantics.config) takes.adds.tree = subst (IsTreeOf d.semantics.cons (Own d.semantics.config)) one sorts.sorted in
    (ap (λ (x : StartOf). x.semantics) takes.adds.is ∙ h.0, subst IsKept (sym takes.adds.is) (λ t is. subst (IsTreeOf d.semantics.cons (Own d.semantics.config)) (same_Some takes.adds.tree t is) sorted))

states_kept : (s : System) (bytes : List ℕ) (d : StartOf) → IsTextOf start_loading (no_start s) bytes d → KeepsState s d
states_kept s bytes d text = text_keeps start_loading (no_start s) (KeepsState s) (refl, λ t is. absurd cc) (state_kept s) bytes d text

-- what a start text loads is a state
pub texts_load_starts : (s : System) (bytes : List ℕ) (t : Tree) → IsStartText s bytes t → IsTreeOf s.cons (Own s.config) t
texts_load_starts s bytes t text = (states_kept s bytes (record { semantics = s; tree = Some t }) text.whole.text).1 t refl

-- the item of a text is that of a state of the semantics that stood before it
pub is_start_text : (s : System) (bytes : List ℕ) (start d : StartOf) (t : Tree) → start ≡ no_start s → IsWholeText start_loading start bytes d → d.tree ≡ Some t → IsStartText s bytes t
is_start_text s bytes start d t is whole same =
    let from : IsWholeText start_loading (no_start s) bytes d = subst (λ x. IsWholeText start_loading x bytes d) is whole in
    let made : d ≡ record { semantics = s; tree = Some t } = ap₂ (λ (u : System) (o : Option Tree). record { semantics = u; tree = o }) (states_kept s bytes d from.text).0 same in
    record { whole = subst (λ x. IsWholeText start_loading (no_start s) bytes x) made from }

-- an item makes one state
pub start_adds_one : (d : StartOf) (i : Item) (e f : StartOf) → AddsState d i e → AddsState d i f → e ≡ f
start_adds_one d i e f a b = a.is ∙ ap (λ (t : Tree). record { semantics = d.semantics; tree = Some t }) (one_tree d.semantics i a.tree b.tree a.says b.says) ∙ sym b.is

-- a text is that of one state
pub one_state : (s : System) (bytes : List ℕ) (t u : Tree) → IsStartText s bytes t → IsStartText s bytes u → t ≡ u
one_state s bytes t u text other =
    let same = one_value start_loading start_adds_one (no_start s) bytes (record { semantics = s; tree = Some t }) (record { semantics = s; tree = Some u }) text.whole other.whole in
    same_Some t u (ap (λ (d : StartOf). d.tree) same)
