use Rattle.std.proofs.Common.{arith, map}
use Rattle.serde_json.specs.View.{view}
use Rattle.scatter_diagram.specs.Shown.{wall_of}
use Rattle.scatter_json.specs.JsonText.{IsWallValue}
use Rattle.scatter_json.proofs.Zips.{zip-all}
use Rattle.scatter_json.proofs.WrittenValues.{walls-more}
use Rattle.scatter_json.proofs.values.line_values.Goals as goal

pub loop-i-preserved : goal.loop-i-preserved
loop-i-preserved c =
    walls-more c.args.vars c.args.e.now.diagram.initial c.loop-i.i (wall_of c.line.result.now) c.loop-i.values.items c.push.new.self.items _ (omega (arith, c.loop-i-test.true, c.loop-i.auto.i-end, c.line_count-i-end.ensures)) c.line.ensures.wall c.loop-i.invariant c.in_ok-push.ensures.items c.in_ok-wall_value.ensures

pub returns : goal.returns
returns c = zip-all (IsWallValue c.args.vars) c.args.e.now.diagram.initial (map view c.loop-i.values.items) c.loop-i.i (omega (arith, c.loop-i-test.false, c.loop-i.auto.i-end, c.line_count-i-end.ensures)) c.loop-i.invariant
