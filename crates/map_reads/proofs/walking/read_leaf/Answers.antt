use Rattle.std.proofs.Common.{◌≡◌, ℕ, List, Some, get_or, ap, ◌∙◌, sym, subst}
use Rattle.std.proofs.lemmas.Result.{IfOk-weaker}
use Rattle.data_value.specs.declared.DataSort.{DataSort}
use Rattle.data_value.specs.declared.DataSort.TheVariants.{Bool as BoolSort, Bits as BitsSort, Map as MapSort}
use Rattle.data_value.specs.declared.Scalar.TheVariants.{Bits}
use Rattle.data_value.specs.Values.{map_of, word_of}
use Rattle.data_value.specs.Maps.{read}
use Rattle.data_value.specs.Views.{value_at}
use Rattle.map_reads.specs.Drafts.{IsPlaced}
use Rattle.data_value.specs.Nodes.{Constant}
use Rattle.data_value.specs.declared.Value.TheVariants.{Map}
use Rattle.map_reads.specs.Placing.{scalar_meant}
use Rattle.map_reads.proofs.Leaves.{map_sorted, leaf_sort, constant_keys, map_shown, leaf_read, leaf_entries}
use Rattle.map_reads.proofs.walking.read_leaf.Goals as goal

pub unreachable-requires : goal.unreachable-requires
unreachable-requires g c =
    let d = c.args.d.now in
    let look = g.D.Domain.look d in
    let n = c.args.map.now in
    let old = c.args.draft.now in
    let shown = (g.met.D.Symbolic.views d).shows n c.requires.valid in
    let i = c.in-Variable.index in
    let here : get_or old.sorts i BoolSort ≡ (look n).sort = leaf_sort look n old old c.requires.draft (g.D.Domain.variables d) shown c.requires.sorts i c.in-Variable.ensures in
    let m = map_sorted (look n).sort c.requires.map in
    c.in_default-as_slice.not-Map m.0 m.1.0 (ap (λ (ss : List DataSort). get_or ss i BoolSort) c.as_slice.ensures ∙ here ∙ m.1.1)

pub returns-in-Map : goal.returns-in-Map
returns-in-Map g c =
    let d = c.args.d.now in
    let look = g.D.Domain.look d in
    let n = c.args.map.now in
    let old = c.args.draft.now in
    let new = c.read_variable.new.draft in
    let shown = (g.met.D.Symbolic.views d).shows n c.requires.valid in
    let i = c.in-Variable.index in
    let here : get_or old.sorts i BoolSort ≡ (look n).sort = leaf_sort look n old old c.requires.draft (g.D.Domain.variables d) shown c.requires.sorts i c.in-Variable.ensures in
    let is : get_or old.sorts i BoolSort ≡ MapSort c.in-Map.field-0 c.in-Map.width = ap (λ (ss : List DataSort). get_or ss i BoolSort) (sym c.as_slice.ensures) ∙ c.in-Map.is in
    IfOk-weaker c.read_variable.result _ _
    (λ p told keys words k sort at.
    let same : MapSort c.in-Map.field-0 c.in-Map.width ≡ MapSort keys words = sym is ∙ here ∙ sort in
    let width : c.in-Map.width ≡ words = cc in
    let map_at = map_shown look n old new c.requires.draft (g.D.Domain.variables d) shown c.requires.sorts p c.args.key keys words k sort at i c.in-Variable.ensures in
    leaf_read look n old new c.requires.draft (g.D.Domain.variables d) shown c.requires.sorts p c.args.key keys words k sort at i c.in-Variable.ensures
    (subst (λ (w : ℕ). IsPlaced old new p (BitsSort w) (λ v. Bits w (read (map_of (value_at v i)).entries (word_of (scalar_meant k v))))) width (told keys (scalar_meant k) c.requires.draft (map_at ∙ ap (λ w. Some (MapSort keys w)) (sym width)) at.stands)))
    c.read_variable.ensures

pub returns-in-Constant-Map : goal.returns-in-Constant-Map
returns-in-Constant-Map g c =
    let d = c.args.d.now in
    let look = g.D.Domain.look d in
    let n = c.args.map.now in
    let old = c.args.draft.now in
    let h = c.in-Constant-Map in
    let shown = (g.met.D.Symbolic.views d).shows n c.requires.valid in
    let is : Constant (Map h.map) ≡ (look n).shown = ap Constant (sym h.field-0-is) ∙ h.ensures in
    IfOk-weaker c.read_constant.result _ _
    (λ p told keys words k sort at.
    let key_sort = at.stands.sort ∙ ap (λ w. Some (BitsSort w)) (sym (constant_keys look n old old c.requires.draft (g.D.Domain.variables d) shown c.requires.sorts keys words sort h.map is)) in
    leaf_entries look n old c.read_constant.new.draft c.requires.draft (g.D.Domain.variables d) shown c.requires.sorts p c.args.key keys words k sort at h.map is (told c.requires.draft key_sort))
    c.read_constant.ensures
