use Rattle.std.proofs.Common.{ℕ, suc, ◌<◌}
use Rattle.std.specs.Prelude.{IsTrue}
use Rattle.scattering.specs.Series.{key_before}
use Rattle.trunc_series.specs.Shown.{key_of}
use Rattle.trunc_series.proofs.Terms.{at}
use Rattle.trunc_series.proofs.merge.rises.Given as goal

abbrev pub invariant-loop-i : goal.invariant-loop-i
invariant-loop-i l = (k : ℕ) → suc k < l.i → IsTrue (key_before (key_of (at l.terms k).0) (key_of (at l.terms (suc k)).0))
