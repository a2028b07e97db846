use Rattle.std.proofs.Common.{drop}
use Rattle.scattering.specs.Collections.{Every}
use Rattle.scatter_diagram.specs.Shown.{walls_of}
use Rattle.scatter_diagram.specs.Listed.{AreRays}
use Rattle.ray_merge.specs.Additions.{corrections_of}
use Rattle.ray_merge.specs.Rays.{HasNewTerms}
use Rattle.ray_merge.proofs.Collecting.{AddsUp, AreBefore}
use Rattle.ray_merge.proofs.merge.added_rays.Given as goal

abbrev pub invariant-loop-correction : goal.invariant-loop-correction
invariant-loop-correction l = record {
  rays : AreRays l.order l.out.items;
  before : AreBefore (walls_of l.out.items) (corrections_of (drop l.correction-index l.corrections));
  added : AddsUp (corrections_of l.corrections) (corrections_of (drop l.correction-index l.corrections)) (walls_of l.out.items);
  terms : Every (HasNewTerms l.order (corrections_of l.corrections)) (walls_of l.out.items);
}
