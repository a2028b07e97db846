use Rattle.std.proofs.Common.{ap, sym, ◌∙◌}
use Rattle.std.specs.Ordering.{int_cmp}
use Rattle.scattering.specs.Series.{Exp}
use Rattle.scattering.specs.SupportingLine.{offset, supporting_line}
use Rattle.plane_geom.specs.Shown.{point_of}
use Rattle.scatter_diagram.specs.Shown.{wall_of}
use Rattle.scatter_diagram.specs.Ordered.{exp_order}
use Rattle.scatter_diagram.proofs.Lines.{raised-read, place-decides, direction-decides}
use Rattle.scatter_diagram.proofs.supporting.compare_lines.Goals as goal

pub returns-in-Equal : goal.returns-in-Equal
returns-in-Equal c =
    let u = c.args.u.now in
    let v = c.args.v.now in
    let first = raised-read c.raised-first.result c.offset.result _ v.at.w c.offset.ensures.bound v.at.near.2 c.raised-first.ensures.bound (c.offset.ensures.value ∙ ap (λ (d : Exp). offset d (point_of u.at)) c.line_direction-d.ensures) c.raised-first.ensures.value in
    let second = raised-read c.raised-second.result c.offset-in-Equal.result _ u.at.w c.offset-in-Equal.ensures.bound u.at.near.2 c.raised-second.ensures.bound (c.offset-in-Equal.ensures.value ∙ ap (λ (d : Exp). offset d (point_of v.at)) c.line_direction-e.ensures) c.raised-second.ensures.value in
    let equal = c.in-Equal.ensures ∙ (λ i. exp_order (c.line_direction-d.ensures i) (c.line_direction-e.ensures i)) in
    c.cmp.ensures ∙ (λ i. int_cmp (first i) (second i)) ∙ place-decides (supporting_line (wall_of u)) (supporting_line (wall_of v)) (sym equal)

pub returns-in_default : goal.returns-in_default
returns-in_default c =
    let e = c.compare_directions.ensures ∙ (λ i. exp_order (c.line_direction-d.ensures i) (c.line_direction-e.ensures i)) in
    e ∙ direction-decides (supporting_line (wall_of c.args.u.now)) (supporting_line (wall_of c.args.v.now)) (λ h. c.in_default.not-Equal (e ∙ h))
