use Rattle.std.proofs.Common.{◌≡◌, ◌∙◌, subst, ap, drop, arith, List}
use Rattle.std.proofs.lemmas.List.{drop_all}
use Rattle.scattering.specs.Series.{Sum}
use Rattle.wall_auto.specs.ByDegree.{IsMass}
use Rattle.wall_auto.specs.Gains.{sizes}
use Rattle.wall_auto.proofs.Parts.{mass-of-parts}
use Rattle.wall_auto.proofs.by_degree.SumByDegree.mass.Goals as goal

pub returns : goal.returns
returns c =
    let e : sizes (drop c.loop-part.part-index c.deref-part-items.result.now) ≡ 0 = ap sizes (drop_all c.loop-part.part-index c.deref-part-items.result.now (omega arith)) in
    let s = c.loop-part.invariant.sum in
    let k = c.loop-part.invariant.kept in
    subst (λ (ps : List Sum). IsMass ps c.loop-part.mass) (c.deref-part-items.ensures.value ∙ c.self.view_is)
    (mass-of-parts c.deref-part-items.result.now c.loop-part.mass (omega (arith, e, s, k)))
