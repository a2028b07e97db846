use Rattle.std.proofs.Common.{◌≤◌, ◌∙◌, ℕ, refl, sym, subst}
use Rattle.scattering.specs.Series.{Sum, absolute, mul, mass_to}
use Rattle.limits.specs.Limits.{largest_weight}
use Rattle.plane_geom.specs.Shown.{point_of}
use Rattle.trunc_series.specs.Shown.{IsSeriesOf}
use Rattle.scatter_diagram.specs.Shown.{wall_of}
use Rattle.scatter_diagram.proofs.Walls.{function-cut}
use Rattle.bend_finder.proofs.PowerMajorants.{near-tame}
use Rattle.bend_finder.proofs.ExactPowers.{exactly-same, exactly-more}
use Rattle.bend_finder.proofs.series_powers.times_function.Goals as goal

pub returns-then-not-is_live_on : goal.returns-then-not-is_live_on
returns-then-not-is_live_on c = exactly-same c.args.most (wall_of c.args.w.now) (point_of c.args.q.now) c.args.product c.args.product (sym c.is_live_on.ensures ∙ c.if-not-is_live_on.true) refl

pub mul-requires-clause-near : goal.mul-requires-clause-near
mul-requires-clause-near c =
    near-tame c.args.most c.in_ok-low.low.terms c.requires.most (function-cut c.args.w.now c.args.most c.in_ok-low.low c.requires.function c.in_ok-low.ensures).0.tame c.in_ok-low.ensures.series.low

pub mul-requires-clause-mass : goal.mul-requires-clause-mass
mul-requires-clause-mass c =
    let s = c.in_ok-low.low in
    let p = c.args.product in
    let e = (function-cut c.args.w.now c.args.most s c.requires.function c.in_ok-low.ensures).1 in
    let l = c.requires.light (sym c.is_live_on.ensures ∙ c.if-not-is_live_on.false) in
    subst (λ (n : ℕ). mass_to n (mul n (absolute s.terms) (absolute p.terms)) ≤ largest_weight) (sym c.in_ok-low.ensures.order)
    (subst (λ (f : Sum). mass_to c.args.most (mul c.args.most (absolute f) (absolute p.terms)) ≤ largest_weight) (sym e) l)

pub returns : goal.returns
returns c =
    let s = c.in_ok-low.low in
    let h : IsSeriesOf c.in_ok-more.more c.args.most (mul c.args.most s.terms c.args.product.terms) =
    subst (λ (k : ℕ). IsSeriesOf c.in_ok-more.more k (mul k s.terms c.args.product.terms)) c.in_ok-low.ensures.order c.in_ok-more.ensures in
    exactly-more c.args.most (wall_of c.args.w.now) (point_of c.args.q.now) c.args.product c.in_ok-more.more (sym c.is_live_on.ensures ∙ c.if-not-is_live_on.false) s c.in_ok-low.ensures h
