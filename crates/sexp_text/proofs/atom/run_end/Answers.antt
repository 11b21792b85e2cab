use Rattle.std.proofs.Common.{◌≡◌, true, slice_index, arith, sym, ◌∙◌}
use Rattle.sexp_text.specs.Places.{is_atom_at}
use Rattle.sexp_text.specs.Bytes.{is_atom_byte}
use Rattle.sexp_text.proofs.Commented.{commented-atom, atom_here, all_more}
use Rattle.sexp_text.proofs.atom.run_end.Goals as goal

pub loop-end-init : goal.loop-end-init
loop-end-init c =
    let bytes = c.args.bytes.now in
    let here = atom_here bytes c.args.start c.requires.atom c.requires.outside in
    record {
      some = omega arith;
      within = omega arith;
      outside = commented-atom bytes c.args.start c.requires.atom c.requires.outside;
      all = all_more (λ k. is_atom_at bytes k ≡ true) c.args.start c.args.start (λ k low high. absurd (omega arith)) here;
    }

pub loop-end-preserved : goal.loop-end-preserved
loop-end-preserved c =
    let bytes = c.args.bytes.now in
    let atom : is_atom_byte (slice_index bytes c.loop-end.end) ≡ true = sym c.is_atom_byte.ensures ∙ c.if-is_atom_byte.true in
    let here = atom_here bytes c.loop-end.end atom c.loop-end.invariant.outside in
    record {
      some = omega arith;
      within = omega arith;
      outside = commented-atom bytes c.loop-end.end atom c.loop-end.invariant.outside;
      all = all_more (λ k. is_atom_at bytes k ≡ true) c.args.start c.loop-end.end c.loop-end.invariant.all here;
    }
