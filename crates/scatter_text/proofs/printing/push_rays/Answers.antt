-- One more of the rays.
use Rattle.std.proofs.Common.{arith}
use Rattle.std.specs.Prelude.{string_bytes, codes}
use Rattle.scatter_diagram.specs.Shown.{wall_of}
use Rattle.scatter_text.proofs.PrintedWalls.{written-more, all-written}
use Rattle.scatter_text.proofs.printing.push_rays.Goals as goal

pub loop-i-preserved : goal.loop-i-preserved
loop-i-preserved c =
    written-more (codes "ray") c.args.vars c.args.e.now.diagram.rays c.loop-i.i (wall_of c.ray.result.now) (string_bytes c.args.text.now) (string_bytes c.loop-i.text) (string_bytes c.push_wall.new.text)
    (omega (arith, c.loop-i-test.true, c.loop-i.auto.i-end, c.ray_count-i-end.ensures.count)) c.ray.ensures.wall c.loop-i.invariant c.in_ok-push_wall.ensures

pub returns : goal.returns
returns c = all-written (codes "ray") c.args.vars c.args.e.now.diagram.rays c.loop-i.i (string_bytes c.args.text.now) (string_bytes c.loop-i.text) (omega (arith, c.loop-i-test.false, c.loop-i.auto.i-end, c.ray_count-i-end.ensures.count)) c.loop-i.invariant
