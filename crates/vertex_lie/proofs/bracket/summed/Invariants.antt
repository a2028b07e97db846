use Rattle.std.proofs.Common.{drop, get_or, length, ◌≡◌, ◌<◌, ◌++◌, ◌∷◌, [], false}
use Rattle.scattering.specs.Series.{key_before}
use Rattle.trunc_series.specs.Shown.{key_of}
use Rattle.vertex_lie.specs.Shown.{lie_of}
use Rattle.vertex_lie.proofs.Arranged.{Item}
use Rattle.vertex_lie.proofs.RunningSums.{IsRunning}
use Rattle.vertex_lie.proofs.bracket.summed.Given as goal

abbrev pub invariant-loop-i : goal.invariant-loop-i
invariant-loop-i l = record {
  running : IsRunning (lie_of (l.out.items ++ l.sum ∷ [])) (lie_of (drop l.i l.terms)) (lie_of l.terms);
  later : (d : Item) → l.i < length l.terms → key_before (key_of (get_or l.terms l.i d).0) (key_of l.sum.0) ≡ false;
}
