-- What is left is appended.
use Rattle.std.proofs.Common.{◌≡◌, ◌++◌, map, drop}
use Rattle.scattering.specs.Series.{cut}
use Rattle.trunc_series.specs.Shown.{sum_of}
use Rattle.scatter_text.specs.GivenWalls.{term_given, sum_given, direction_of}
use Rattle.scatter_text.proofs.initial.terms_of.Given as goal

abbrev pub invariant-loop-term : goal.invariant-loop-term
invariant-loop-term l = sum_of l.out.items ++ cut 24 (map (term_given (direction_of l.line)) (drop l.term-index l.line.terms)) ≡ cut 24 (sum_given (direction_of l.line) l.line.terms)
