use Rattle.std.proofs.Common.{◌≡◌, length, take}
use Rattle.trunc_series.specs.Shown.{sum_of}
use Rattle.wall_auto.specs.ByDegree.{TakesWithin}
use Rattle.wall_auto.specs.Gains.{TakesParts}
use Rattle.wall_auto.proofs.by_degree.begin_with.Given as goal

abbrev pub invariant-loop-t : goal.invariant-loop-t
invariant-loop-t l = record {
  order : length l.parts ≡ length l.fn.parts;
  parts : TakesParts l.rule (sum_of (take l.t-index l.terms)) l.parts;
  within : TakesWithin (sum_of (take l.t-index l.terms)) l.parts;
}
