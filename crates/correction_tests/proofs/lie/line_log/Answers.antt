use Rattle.std.proofs.lemmas.Int.{to_z-of_z}
use mir.Syntax.{w128}
use Rattle.correction_tests.proofs.WorkedLines.{wall-line, near-line}
use Rattle.correction_tests.proofs.lie.line_log.Goals as goal

pub wall_log-requires-clause-function : goal.wall_log-requires-clause-function
wall_log-requires-clause-function c = rw (c.in_ok-function.ensures.order, c.in_ok-function.ensures.terms, c.in-Some.ensures.numbers, to_z-of_z w128 c.args.c c.ranges.c) (wall-line c.args.c c.requires.nonzero)

pub wall_log-requires-clause-near : goal.wall_log-requires-clause-near
wall_log-requires-clause-near c = rw c.in_ok-function.ensures.terms (near-line c.args.c)
