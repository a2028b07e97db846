use Rattle.std.proofs.Common.{sym, ◌∙◌}
use Rattle.std.specs.Prelude.{◌*ℤ◌}
use Rattle.std.specs.Ordering.{int_cmp}
use Rattle.plane_geom.proofs.Casts.{product-seen}
use Rattle.plane_geom.proofs.Ordered.{first-decides, second-decides, points-equal, points-ordered}
use Rattle.plane_geom.proofs.Point.compare.Goals as goal

pub returns-in-Equal-clause-value : goal.returns-in-Equal-clause-value
returns-in-Equal-clause-value c =
    let x = product-seen c.product.result c.args.self.now.x c.args.other.now.w c.args.self.now.near.0 c.args.other.now.near.2 c.product.ensures.value c.product.ensures.bound in
    let x' = product-seen c.product-2.result c.args.other.now.x c.args.self.now.w c.args.other.now.near.0 c.args.self.now.near.2 c.product-2.ensures.value c.product-2.ensures.bound in
    let y = product-seen c.product-in-Equal.result c.args.self.now.y c.args.other.now.w c.args.self.now.near.1 c.args.other.now.near.2 c.product-in-Equal.ensures.value c.product-in-Equal.ensures.bound in
    let y' = product-seen c.product-in-Equal-2.result c.args.other.now.y c.args.self.now.w c.args.other.now.near.1 c.args.self.now.near.2 c.product-in-Equal-2.ensures.value c.product-in-Equal-2.ensures.bound in
    c.cmp-in-Equal.ensures ∙ (λ i. int_cmp (y i) (y' i))
    ∙ second-decides (c.args.self.now.x *ℤ c.args.other.now.w) (c.args.other.now.x *ℤ c.args.self.now.w) (c.args.self.now.y *ℤ c.args.other.now.w) (c.args.other.now.y *ℤ c.args.self.now.w) ((λ i. int_cmp (sym x i) (sym x' i)) ∙ sym c.cmp.ensures ∙ c.in-Equal.is)

pub returns-in_default-clause-value : goal.returns-in_default-clause-value
returns-in_default-clause-value c =
    let x = product-seen c.product.result c.args.self.now.x c.args.other.now.w c.args.self.now.near.0 c.args.other.now.near.2 c.product.ensures.value c.product.ensures.bound in
    let x' = product-seen c.product-2.result c.args.other.now.x c.args.self.now.w c.args.other.now.near.0 c.args.self.now.near.2 c.product-2.ensures.value c.product-2.ensures.bound in
    c.cmp.ensures ∙ (λ i. int_cmp (x i) (x' i))
    ∙ first-decides (c.args.self.now.x *ℤ c.args.other.now.w) (c.args.other.now.x *ℤ c.args.self.now.w) (c.args.self.now.y *ℤ c.args.other.now.w) (c.args.other.now.y *ℤ c.args.self.now.w) (λ e. c.in_default.not-Equal (c.cmp.ensures ∙ (λ i. int_cmp (x i) (x' i)) ∙ e))

pub returns-in-Equal-clause-equal : goal.returns-in-Equal-clause-equal
returns-in-Equal-clause-equal c = points-equal c.args.self.now c.args.other.now c.cmp-in-Equal.result (returns-in-Equal-clause-value c)

pub returns-in-Equal-clause-total : goal.returns-in-Equal-clause-total
returns-in-Equal-clause-total c = points-ordered

pub returns-in_default-clause-equal : goal.returns-in_default-clause-equal
returns-in_default-clause-equal c = points-equal c.args.self.now c.args.other.now c.cmp.result (returns-in_default-clause-value c)

pub returns-in_default-clause-total : goal.returns-in_default-clause-total
returns-in_default-clause-total c = points-ordered
