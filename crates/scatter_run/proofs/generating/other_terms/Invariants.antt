-- The terms so far.
use Rattle.std.proofs.Common.{◌≡◌, ◌≤◌, length, take}
use Rattle.scattering.specs.Series.{rest}
use Rattle.trunc_series.specs.Shown.{sum_of}
use Rattle.scatter_run.proofs.generating.other_terms.Given as goal

abbrev pub invariant-loop-t : goal.invariant-loop-t
invariant-loop-t l = (l.others ≡ length (rest (sum_of (take l.t-index l.terms)))) × (l.others ≤ l.t-index)
