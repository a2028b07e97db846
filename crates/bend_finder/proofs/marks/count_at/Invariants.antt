use Rattle.std.proofs.Common.{◌≡◌, take}
use Rattle.scattering.specs.Collections.{Every}
use Rattle.plane_geom.specs.Shown.{point_of}
use Rattle.bend_finder.proofs.marks.count_at.Given as goal

abbrev pub invariant-loop-m : goal.invariant-loop-m
invariant-loop-m l = record {
  count : l.count ≡ l.m-index;
  same : Every (λ m. point_of m.at ≡ point_of l.at) (take l.m-index l.marks);
}
