-- One more of the lines.
use Rattle.std.proofs.Common.{arith}
use Rattle.std.specs.Prelude.{string_bytes, codes}
use Rattle.scatter_diagram.specs.Shown.{wall_of}
use Rattle.scatter_text.proofs.PrintedWalls.{written-more, all-written}
use Rattle.scatter_text.proofs.printing.push_lines.Goals as goal

pub loop-i-preserved : goal.loop-i-preserved
loop-i-preserved c =
    written-more (codes "line") c.args.vars c.args.e.now.diagram.initial c.loop-i.i (wall_of c.line.result.now) (string_bytes c.args.text.now) (string_bytes c.loop-i.text) (string_bytes c.push_wall.new.text)
    (omega (arith, c.loop-i-test.true, c.loop-i.auto.i-end, c.line_count-i-end.ensures)) c.line.ensures.wall c.loop-i.invariant c.in_ok-push_wall.ensures

pub returns : goal.returns
returns c = all-written (codes "line") c.args.vars c.args.e.now.diagram.initial c.loop-i.i (string_bytes c.args.text.now) (string_bytes c.loop-i.text) (omega (arith, c.loop-i-test.false, c.loop-i.auto.i-end, c.line_count-i-end.ensures)) c.loop-i.invariant
