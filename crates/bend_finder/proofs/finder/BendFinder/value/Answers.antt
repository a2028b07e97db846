use Rattle.std.proofs.Common.{◌≡◌, ◌≤◌, ◌∙◌, List, ap, sym, subst}
use Rattle.limits.specs.Limits.{largest_weight}
use Rattle.scattering.specs.Plane.{Point}
use Rattle.scattering.specs.Series.{degree, coef}
use Rattle.scattering.specs.Wall.{cut_walls}
use Rattle.scattering.specs.BrokenLine.{live_on, bend_series}
use Rattle.trunc_series.specs.Shown.{exp_of}
use Rattle.scatter_diagram.specs.declared.wall.Wall.{Wall as CodeWall}
use Rattle.scatter_diagram.specs.Shown.{walls_of}
use Rattle.bend_finder.specs.Ahead.{SeenFinder, bend_of, bend_weight}
use Rattle.bend_finder.specs.Live.{live_of}
use Rattle.bend_finder.specs.Powers.{AreAtLeast}
use Rattle.bend_finder.specs.Runs.{HasLiveOn}
use Rattle.bend_finder.proofs.Outcomes.{if-ok}
use Rattle.bend_finder.proofs.Found.{light-live, value-live}
use Rattle.bend_finder.proofs.PowerMajorants.{orders-at_least}
use Rattle.bend_finder.proofs.finder.BendFinder.value.Goals as goal

pub coefficient-requires-clause-light : goal.coefficient-requires-clause-light
coefficient-requires-clause-light c =
    let f = c.self.inside.live in
    let x = exp_of c.args.x in
    let b = bend_of c.args.bend.now in
    let l : degree b.key ≤ f.limit = rw (← c.self.view_is) at c.requires.degree in
    let h : bend_weight f.walls f.limit x b ≤ largest_weight = rw (← c.self.view_is) at c.requires.light in
    light-live f.walls f.limit c.self.invariant.proper largest_weight x b (walls_of c.in-Some.walls.now) c.in-Some.ensures.walls.1 l h

pub coefficient-requires-in-None-clause-order : goal.coefficient-requires-in-None-clause-order
coefficient-requires-in-None-clause-order c =
    let f = c.self.inside.live in
    let b = bend_of c.args.bend.now in
    let l : degree b.key ≤ f.limit = rw (← c.self.view_is) at c.requires.degree in
    subst (AreAtLeast (degree b.key)) (sym c.as_slice.ensures.value) (orders-at_least (degree b.key) f.limit c.in_ok-walls-in-None.walls.items l c.in_ok-walls-in-None.ensures.order)

listed-live : (f : SeenFinder) (q : Point) (ws us : List CodeWall) → us ≡ ws → walls_of ws ≡ live_of f → HasLiveOn (live_of f) q (walls_of us)
listed-live f q ws us e h = ap (λ vs. live_on vs q) (ap walls_of e ∙ h)

pub coefficient-requires-in-None-clause-light : goal.coefficient-requires-in-None-clause-light
coefficient-requires-in-None-clause-light c =
    let f = c.self.inside.live in
    let x = exp_of c.args.x in
    let b = bend_of c.args.bend.now in
    let l : degree b.key ≤ f.limit = rw (← c.self.view_is) at c.requires.degree in
    let h : bend_weight f.walls f.limit x b ≤ largest_weight = rw (← c.self.view_is) at c.requires.light in
    light-live f.walls f.limit c.self.invariant.proper largest_weight x b (walls_of c.as_slice.result.now) (listed-live f b.at c.in_ok-walls-in-None.walls.items c.as_slice.result.now c.as_slice.ensures.value c.in_ok-walls-in-None.ensures.walls) l h

pub returns-in-Some-clause-value : goal.returns-in-Some-clause-value
returns-in-Some-clause-value c =
    let f = c.self.inside.live in
    let x = exp_of c.args.x in
    let b = bend_of c.args.bend.now in
    let l : degree b.key ≤ f.limit = rw (← c.self.view_is) at c.requires.degree in
    rw (← c.self.view_is)
    (if-ok _ (λ v. v ≡ coef (bend_series f.limit (cut_walls f.limit f.walls) b.at x) b.key) c.coefficient.result
    (λ v h. h (live_of f) c.in-Some.ensures.walls.1 c.in-Some.ensures.run c.self.invariant.kept ∙ value-live f.walls f.limit c.self.invariant.proper x b l) c.coefficient.ensures.value)

pub returns-in_ok-walls-in-None-clause-value : goal.returns-in_ok-walls-in-None-clause-value
returns-in_ok-walls-in-None-clause-value c =
    let f = c.self.inside.live in
    let x = exp_of c.args.x in
    let b = bend_of c.args.bend.now in
    let l : degree b.key ≤ f.limit = rw (← c.self.view_is) at c.requires.degree in
    rw (← c.self.view_is)
    (if-ok _ (λ v. v ≡ coef (bend_series f.limit (cut_walls f.limit f.walls) b.at x) b.key) c.coefficient-in-None.result
    (λ v h. h (live_of f) (listed-live f b.at c.in_ok-walls-in-None.walls.items c.as_slice.result.now c.as_slice.ensures.value c.in_ok-walls-in-None.ensures.walls) (c.new.ensures (live_of f))
    ∙ value-live f.walls f.limit c.self.invariant.proper x b l) c.coefficient-in-None.ensures.value)

pub invariant_of-self : goal.invariant_of-self
invariant_of-self c = record {
  low = c.self.invariant.low;
  proper = c.self.invariant.proper;
  kept = c.coefficient.ensures.kept (live_of c.self.inside.live) c.in-Some.ensures.run c.self.invariant.kept;
}
