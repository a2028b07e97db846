-- A piece that was taken moves from the rest to what is held.
use Rattle.std.proofs.Common.{◌≤◌, arith}
use Rattle.std.proofs.lemmas.List.{length-take-le}
use Rattle.scatter_run.proofs.Written.{so_far-more}
use Rattle.scatter_run.proofs.writing.write_text.Goals as goal

pub loop-rest-preserved : goal.loop-rest-preserved
loop-rest-preserved g c =
    let within : c.in_ok-taken.taken ≤ c.line_end-end.result = omega (arith, c.in_ok-taken.ensures.within, length-take-le c.line_end-end.result c.loop-rest.rest.now c.line_end-end.ensures.within) in (
      so_far-more _ _ _ _ _ c.line_end-end.result c.in_ok-taken.taken within c.loop-rest.invariant.0 c.in_ok-taken.ensures.bytes,
      omega (arith, c.loop-rest.invariant.1, c.write.ensures.cause.later),
    )
