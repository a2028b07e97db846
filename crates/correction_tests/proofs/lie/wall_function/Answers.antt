use Rattle.std.proofs.lemmas.Int.{to_z-of_z}
use Rattle.std.proofs.lemmas.Result.{IfOk-weaker}
use mir.Syntax.{w128}
use Rattle.trunc_series.specs.Worked.{line_terms}
use Rattle.trunc_series.proofs.Unique.{series-terms}
use Rattle.correction_tests.proofs.WorkedLines.{wall-line}
use Rattle.correction_tests.proofs.lie.wall_function.Goals as goal

pub returns-clause-terms : goal.returns-clause-terms
returns-clause-terms c = IfOk-weaker c.from_terms.result _ _ (λ s h. series-terms s 2 2 (line_terms c.args.c) (rw (to_z-of_z w128 c.args.c c.ranges.c) at h) (wall-line c.args.c c.requires.nonzero).series) c.from_terms.ensures
