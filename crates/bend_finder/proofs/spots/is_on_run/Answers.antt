use Rattle.std.proofs.Common.{refl, sym, subst, List, take}
use Rattle.scattering.specs.Wall.{Wall}
use Rattle.plane_geom.specs.Shown.{point_of}
use Rattle.scatter_diagram.specs.Shown.{walls_of}
use Rattle.scatter_diagram.specs.declared.wall.Wall.{Wall as CodeWall}
use Rattle.joint_finder.proofs.Lists.{In-get}
use Rattle.bend_finder.specs.Runs.{IsOneLine, OnSome, all_walls}
use Rattle.bend_finder.proofs.Lines.{all-more, all-done, run-at}
use Rattle.bend_finder.proofs.FoundWalls.{neither, in-runs}
use Rattle.bend_finder.proofs.spots.is_on_run.Goals as goal

pub loop-run-init : goal.loop-run-init
loop-run-init c = λ o. absurd o.1

pub is_on_some-requires : goal.is_on_some-requires
is_on_some-requires c =
    subst (λ (ws : List CodeWall). IsOneLine (walls_of ws)) (sym c.as_slice.ensures.value)
    (run-at (λ r. IsOneLine (walls_of r.items)) c.args.runs.now c.loop-run.run-index c.run-item.result c.loop-run-test.true c.run-item.is c.requires)

pub loop-run-preserved : goal.loop-run-preserved
loop-run-preserved c = λ o.
    let rs = c.args.runs.now in
    let i = c.loop-run.run-index in
    let r = c.run-item.result in
    let q = point_of c.args.p.now in
    let none : OnSome (walls_of r.items) q → ⊥ = subst (λ (ws : List CodeWall). OnSome (walls_of ws) q → ⊥) c.as_slice.ensures.value (λ s. let t = c.is_on_some.ensures.1 s in let f = c.if-is_on_some.false in absurd (cc)) in
    neither (all_walls (take i rs)) (walls_of r.items) q c.loop-run.invariant none (subst (λ (us : List Wall). OnSome us q) (all-more rs i r c.loop-run-test.true c.run-item.is) o)

pub returns-then-is_on_some : goal.returns-then-is_on_some
returns-then-is_on_some c =
    let rs = c.args.runs.now in
    let r = c.run-item.result in
    let q = point_of c.args.p.now in
    let o : OnSome (walls_of r.items) q = subst (λ (ws : List CodeWall). OnSome (walls_of ws) q) c.as_slice.ensures.value (c.is_on_some.ensures.0 c.if-is_on_some.true) in
    (λ t. (o.0, in-runs rs r o.0 (In-get rs c.loop-run.run-index r c.loop-run-test.true c.run-item.is) o.1, o.2), λ s. refl)

pub returns : goal.returns
returns c = (
  λ t. absurd (cc),
  λ o. absurd (c.loop-run.invariant (subst (λ (us : List Wall). OnSome us (point_of c.args.p.now)) (sym (all-done c.args.runs.now c.loop-run.run-index c.loop-run-test.false)) o)),
)
