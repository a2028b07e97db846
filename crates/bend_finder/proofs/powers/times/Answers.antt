use Rattle.std.proofs.Common.{◌∙◌, ℕ, refl, sym, subst}
use Rattle.scattering.specs.Series.{mul}
use Rattle.plane_geom.specs.Shown.{point_of}
use Rattle.trunc_series.specs.Capped.{IsMajorantOf}
use Rattle.scatter_diagram.specs.Shown.{wall_of}
use Rattle.bend_finder.proofs.PowerMajorants.{multiplied-same, multiplied-more, cut-near}
use Rattle.bend_finder.proofs.powers.times.Goals as goal

pub returns-then-not-is_live_on : goal.returns-then-not-is_live_on
returns-then-not-is_live_on c = multiplied-same c.args.most (wall_of c.args.w.now) (point_of c.args.q.now) c.args.product c.args.product (sym c.is_live_on.ensures ∙ c.if-not-is_live_on.true) refl

pub mul-requires-clause-near : goal.mul-requires-clause-near
mul-requires-clause-near c = cut-near c.args.w.now c.args.most c.in_ok-function.function c.requires.most c.in_ok-function.ensures

pub returns : goal.returns
returns c =
    let f = c.in_ok-function.function in
    let h : IsMajorantOf c.in_ok-more.more c.args.most (mul c.args.most f.terms c.args.product.terms) =
    subst (λ (k : ℕ). IsMajorantOf c.in_ok-more.more k (mul k f.terms c.args.product.terms)) c.in_ok-function.ensures.order c.in_ok-more.ensures in
    multiplied-more c.args.most (wall_of c.args.w.now) (point_of c.args.q.now) c.args.product c.in_ok-more.more (sym c.is_live_on.ensures ∙ c.if-not-is_live_on.false) f c.in_ok-function.ensures h
