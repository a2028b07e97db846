use Rattle.std.proofs.Common.{subst}
use Rattle.std.specs.Prelude.{IfOk, None}
use Rattle.scattering.specs.ThetaProduct.{IsProductFault}
use Rattle.scattering.specs.Wall.{walls}
use Rattle.plane_geom.specs.Shown.{point_of}
use Rattle.trunc_series.specs.Shown.{exp_of}
use Rattle.scatter_diagram.specs.Listed.{SeenDiagram}
use Rattle.theta_algebra.proofs.product.theta_product.Goals as goal

pub returns-clause-free : goal.returns-clause-free
returns-clause-free c =
    subst (λ (e : SeenDiagram). IfOk c.product_of.result (λ f. IsProductFault (walls e.diagram) c.args.limit (exp_of c.args.p) (exp_of c.args.q) (point_of c.args.at.now) None)) c.new-tracers.ensures c.product_of.ensures.free
