use Rattle.std.proofs.Common.{◌≡◌, refl, subst, take, ◌⊎◌, inl, inr}
use Rattle.scattering.specs.Collections.{In}
use Rattle.plane_geom.specs.Shown.{point_of, OnSupport}
use Rattle.joint_finder.specs.declared.live.LiveWall.{LiveWall}
use Rattle.joint_finder.proofs.Lists.{In-get, In-more}
use Rattle.joint_finder.proofs.facing.some_holds.Goals as goal

pub returns-then-on : goal.returns-then-on
returns-then-on c = (
  λ t. (c.wall-item.result, In-get c.args.walls.now c.loop-wall.wall-index c.wall-item.result c.loop-wall-test.true c.wall-item.is, c.on.ensures.0 c.if-on.true),
  λ h. refl,
)

pub loop-wall-preserved : goal.loop-wall-preserved
loop-wall-preserved c = λ k i o. go k o (In-more c.args.walls.now c.loop-wall.wall-index c.wall-item.result k c.loop-wall-test.true c.wall-item.is i)
  where
    go : (k : LiveWall) → OnSupport k.support (point_of c.args.p.now) → In k (take c.loop-wall.wall-index c.args.walls.now) ⊎ (k ≡ c.wall-item.result) → ⊥
    go k o (inl j) = c.loop-wall.invariant k j o
    go k o (inr e) = let t = c.on.ensures.1 (subst (λ (m : LiveWall). OnSupport m.support (point_of c.args.p.now)) e o) in let f = c.if-on.false in absurd (cc)
