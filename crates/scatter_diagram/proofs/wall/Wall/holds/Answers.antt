use Rattle.std.proofs.Common.{◌≡◌, refl, sym, Bool, true, false}
use Rattle.std.specs.Prelude.{IsTrue}
use Rattle.plane_theory.proofs.PlacesOnWalls.{on-is-decided}
use Rattle.plane_geom.specs.Shown.{point_of}
use Rattle.scatter_diagram.specs.Shown.{wall_of}
use Rattle.scatter_diagram.proofs.Walls.{is-wall}
use Rattle.scatter_diagram.proofs.wall.Wall.holds.Goals as goal

-- two tests of one fact
same-test : (a b : Bool) → (IsTrue a → IsTrue b) → (IsTrue b → IsTrue a) → a ≡ b
same-test true b f g = sym (f refl)
same-test false true f g = g refl
same-test false false f g = refl

pub returns : goal.returns
returns c =
    let w = wall_of c.args.self.now in
    let p = point_of c.args.p.now in
    let d = on-is-decided c.args.self.now.function.order w p (is-wall c.args.self.now) c.args.p.now.reduced in
    let s = c.support.ensures.points p c.args.p.now.reduced in
    same-test _ _ (λ h. d.1 (s.0 (c.on.ensures.0 h))) (λ h. c.on.ensures.1 (s.1 (d.0 h)))
