use Rattle.std.proofs.Common.{◌≡◌, ℕ, ◌+◌, ◌<◌, List, length, drop, get_or, cond, true, false, Bool, Some, ap, sym, ◌∙◌}
use Rattle.std.proofs.lemmas.Cmp.{nat_list_cmp_total}
use Rattle.std.proofs.lemmas.List.{at_drop_more}
use Rattle.std.specs.Ordering.{nat_cmp, eq_by_cmp}
use Rattle.std.specs.Cmp.Lexicographic.{slice_cmp, texts_ties}
use Rattle.std.specs.FinMap.{find, get-from_entries}
use Rattle.keq_cli.specs.Memory.{named}
use Rattle.keq_cli.specs.declared.memory_shelf.NamedText.{NamedText}
use Rattle.keq_cli.proofs.memory_shelf.find_text.Goals as goal

-- what is found from a file on: its text, or what is found behind it
found_from : (name : List ℕ) (files : List NamedText) (i : ℕ) (file : NamedText) (same : Bool) → i < length files → file ≡ get_or files i file → same ≡ eq_by_cmp (slice_cmp nat_cmp) name file.name → find (slice_cmp nat_cmp) name (named (drop i files)) ≡ cond same (Some file.bytes) (find (slice_cmp nat_cmp) name (named (drop (i + 1) files)))
found_from name files i file same within is test =
    at_drop_more (λ fs. find (slice_cmp nat_cmp) name (named fs)) files i file within
    ∙ ap (λ (f : NamedText). cond (eq_by_cmp (slice_cmp nat_cmp) name f.name) (Some f.bytes) (find (slice_cmp nat_cmp) name (named (drop (i + 1) files)))) (sym is)
    ∙ ap (λ b. cond b (Some file.bytes) (find (slice_cmp nat_cmp) name (named (drop (i + 1) files)))) (sym test)

pub loop-file-init : goal.loop-file-init
loop-file-init c = get-from_entries nat_list_cmp_total _ _

pub returns-then-eq : goal.returns-then-eq
returns-then-eq c =
    ap Some c.as_slice-then-eq.ensures
    ∙ sym (c.loop-file.invariant
    ∙ found_from c.args.name.now c.args.files.now c.loop-file.file-index c.file-item.result true c.loop-file-test.true c.file-item.is (let t = texts_ties c.args.name.now c.file-item.result.name in cc))

pub loop-file-preserved : goal.loop-file-preserved
loop-file-preserved c =
    c.loop-file.invariant
    ∙ found_from c.args.name.now c.args.files.now c.loop-file.file-index c.file-item.result false c.loop-file-test.true c.file-item.is (let t = texts_ties c.args.name.now c.file-item.result.name in cc)
