use Rattle.std.proofs.Common.{ap, sym, ◌∙◌}
use Rattle.scattering.specs.Wall.{walls}
use Rattle.scatter_diagram.specs.Listed.{SeenDiagram}
use Rattle.scatter_diagram.proofs.Stored.{same-parts}
use Rattle.scatter_diagram.proofs.diagram.Diagram.same.Goals as goal

pub returns : goal.returns
returns c =
    let n = sym c.order.ensures.value ∙ c.if-order.false ∙ c.order-2.ensures.value in
    let l = sym c.line_count.ensures ∙ c.if-line_count.false ∙ c.line_count-2.ensures in (
      λ h.
          let p = same-parts c.args.self.now.diagram.initial c.args.self.now.diagram.rays c.args.other.now.diagram.initial c.args.other.now.diagram.rays l (c.has_walls.ensures.0 h) in
          (λ i. record { order = n i; diagram = record { initial = p.0 i; rays = p.1 i } }),
      λ h. c.has_walls.ensures.1 (ap (λ (e : SeenDiagram). walls e.diagram) h),
    )
