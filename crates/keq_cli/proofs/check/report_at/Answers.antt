use Rattle.std.proofs.Common.{◌≡◌, ◌∷◌, [], ◌++◌, List, ℕ, slice_index_or, append_assoc, sym, ap, ◌∙◌}
use Rattle.std.specs.Prelude.{codes}
use Rattle.std.proofs.lemmas.Option.{same_Some}
use Rattle.sort_term.specs.declared.points.Point.{Point}
use Rattle.sort_term.proofs.Standing.{get-some}
use Rattle.keq_cli.specs.Reports.{point_line}
use Rattle.keq_cli.proofs.check.report_at.Goals as goal

-- the pieces of a report, one behind the other
joined : (line name first second third fourth : List ℕ) → first ≡ line → second ≡ first ++ codes "point " → third ≡ second ++ name → fourth ≡ third ++ 10 ∷ [] → fourth ≡ line ++ point_line name
joined line name first second third fourth e f g h =
    h ∙ ap (λ x. x ++ 10 ∷ []) (g ∙ ap (λ x. x ++ name) (f ∙ ap (λ x. x ++ codes "point ") e) ∙ append_assoc line (codes "point ") name) ∙ append_assoc line (codes "point " ++ name) (10 ∷ [])

pub returns : goal.returns
returns c = λ p there.
    let r = c.index-points-place.result in
    let points = c.args.points.now in
    let same : slice_index_or points c.args.place r ≡ p = same_Some (slice_index_or points c.args.place r) p (sym (get-some points c.args.place r c.requires) ∙ there) in
    c.from_vec.ensures
    ∙ joined c.args.line.now c.as_slice.result.now c.in_ok-report.report.items c.extend_from_slice.new.self.items c.extend_from_slice-2.new.self.items c.push.new.self.items
    (c.in_ok-report.ensures.items ∙ c.as_bytes.ensures.value) c.in_ok-extend_from_slice.ensures.items c.in_ok-extend_from_slice-2.ensures.items c.in_ok-push.ensures.items
    ∙ ap (λ x. c.args.line.now ++ point_line x) (c.as_slice.ensures.bytes ∙ ap (λ (x : Point). x.name) same)
