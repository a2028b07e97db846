use Rattle.std.proofs.Common.{◌≡◌, take}
use Rattle.scattering.specs.Collections.{Every}
use Rattle.local_product.specs.Majorants.{majorant_halves, HasMajorant}
use Rattle.local_product.specs.Shown.{halves_of}
use Rattle.local_product.proofs.majorants.all_bounding.Given as goal

abbrev pub invariant-loop-h : goal.invariant-loop-h
invariant-loop-h l = record {
  halves : majorant_halves l.out.items ≡ halves_of (take l.h-index l.halves);
  tables : Every (HasMajorant l.order) l.out.items;
}
