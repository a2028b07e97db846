use Rattle.plane_theory.proofs.PlacesOnWalls.{on-is-decided}
use Rattle.scatter_diagram.specs.Shown.{wall_of}
use Rattle.scatter_diagram.proofs.Walls.{is-wall}
use Rattle.joint_finder.proofs.LiveWalls.{support-dir}
use Rattle.joint_finder.proofs.live.live_wall.Goals as goal

pub returns : goal.returns
returns c =
    let w = wall_of c.args.w.now in
    record {
      degree = c.in_ok-degree.ensures;
      dir = support-dir w c.support.result c.support.ensures.form;
      points = λ p i. let d = on-is-decided c.args.w.now.function.order w p (is-wall c.args.w.now) i in let s = c.support.ensures.points p i in (λ h. d.1 (s.0 h), λ h. s.1 (d.0 h));
    }
