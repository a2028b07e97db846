use Rattle.std.proofs.Common.{◌≡◌, ap, sym, subst, arith, false, List}
use Rattle.std.specs.Prelude.{pos}
use Rattle.std.proofs.lemmas.Int.{ints}
use Rattle.scattering.specs.Series.{Exp, origin, exp_eq}
use Rattle.scattering.proofs.Keys.{exp_eq-same}
use Rattle.scattering.proofs.Lists.{not-true}
use Rattle.plane_geom.specs.Shown.{point_of}
use Rattle.trunc_series.specs.Shown.{exp_of, IsSeriesOf}
use Rattle.bend_finder.specs.Ahead.{SeenFinder}
use Rattle.broken_lines.specs.declared.tail.Tail.{Tail as CodeTail}
use Rattle.theta_algebra.specs.LineValues.{traced_sum, AreFound}
use Rattle.theta_algebra.proofs.TracedSums.{moving-tails, theta-of-sum}
use Rattle.theta_algebra.proofs.thetas.weighed_theta.Goals as goal
use Rattle.theta_algebra.proofs.thetas.weighed_theta.Goals.{else-m-eq0-via-then-m-eq0+else-m-eq0-2, else-m-eq0-via-else-m-eq0}

pub sum_of_lines-requires-clause-tails : goal.sum_of_lines-requires-clause-tails
sum_of_lines-requires-clause-tails c =
    let f = c.args.tracer.now in
    let m = exp_of c.args.m in
    let q = point_of c.args.at.now in
    let t = c.in_ok-traced.traced in
    let moves : exp_eq m origin ≡ false = not-true (exp_eq m origin) (λ e.
    let a : c.args.m.a ≡ pos 0 = ap (λ (u : Exp). u.a) (exp_eq-same m origin e) in
    let b : c.args.m.b ≡ pos 0 = ap (λ (u : Exp). u.b) (exp_eq-same m origin e) in
    elim c.else-m-eq0.branch [
      | else-m-eq0-via-then-m-eq0+else-m-eq0-2 w ↦ omega (arith, ints, b)
      | else-m-eq0-via-else-m-eq0 w ↦ omega (arith, ints, a)
    ]) in
    subst (λ (g : SeenFinder). AreFound g.walls g.limit m c.as_slice.result.now) (sym c.in_ok-traced.ensures.same)
    (subst (λ (ts : List CodeTail). AreFound f.walls f.limit m ts) (sym c.as_slice.ensures.value) (q, t.weight, moving-tails f.walls f.limit m q t moves c.in_ok-traced.ensures.tails))

pub returns-clause-theta : goal.returns-clause-theta
returns-clause-theta c =
    let f = c.args.tracer.now in
    let m = exp_of c.args.m in
    let q = point_of c.args.at.now in
    let t = c.in_ok-traced.traced in
    let theta = c.in_ok-theta.theta in
    let proper = c.limit-limit.ensures.proper in
    let moves : exp_eq m origin ≡ false = not-true (exp_eq m origin) (λ e.
    let a : c.args.m.a ≡ pos 0 = ap (λ (u : Exp). u.a) (exp_eq-same m origin e) in
    let b : c.args.m.b ≡ pos 0 = ap (λ (u : Exp). u.b) (exp_eq-same m origin e) in
    elim c.else-m-eq0.branch [
      | else-m-eq0-via-then-m-eq0+else-m-eq0-2 w ↦ omega (arith, ints, b)
      | else-m-eq0-via-else-m-eq0 w ↦ omega (arith, ints, a)
    ]) in
    theta-of-sum f.walls f.limit proper.0 m q t.tails.items t.weight theta proper.1 c.args.at.now.reduced c.in_ok-traced.ensures.free moves
    (moving-tails f.walls f.limit m q t moves c.in_ok-traced.ensures.tails)
    (subst (λ (ts : List CodeTail). IsSeriesOf theta f.limit (traced_sum f.walls f.limit m ts)) c.as_slice.ensures.value
    (subst (λ (g : SeenFinder). IsSeriesOf theta g.limit (traced_sum g.walls g.limit m c.as_slice.result.now)) c.in_ok-traced.ensures.same c.in_ok-theta.ensures.sum))
