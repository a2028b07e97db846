use Rattle.std.proofs.Common.{◌≡◌, ℕ, ◌<◌}
use Rattle.trunc_series.specs.Shown.{term_of}
use Rattle.trunc_series.proofs.Terms.{at}
use Rattle.trunc_series.proofs.merge.same_terms.Given as goal

abbrev pub invariant-loop-i : goal.invariant-loop-i
invariant-loop-i l = (k : ℕ) → k < l.i → term_of (at l.a k) ≡ term_of (at l.b k)
