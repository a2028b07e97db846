use Rattle.std.proofs.Common.{◌≡◌, ◌∙◌, ap, arith, replicate, suc, []}
use Rattle.scattering.specs.Series.{Sum}
use Rattle.wall_auto.proofs.by_degree.SumByDegree.new.Goals as goal

pub returns : goal.returns
returns c =
    let e : c.loop.counter ≡ suc c.args.order = omega arith in
    c.loop.invariant ∙ ap (λ n. replicate {A = Sum} n []) e
