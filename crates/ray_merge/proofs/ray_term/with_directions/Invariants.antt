use Rattle.std.proofs.Common.{◌≡◌, take}
use Rattle.scattering.specs.Collections.{Every}
use Rattle.trunc_series.specs.Shown.{sum_of}
use Rattle.ray_merge.specs.RayTerms.{IsAlong, terms_of}
use Rattle.ray_merge.proofs.ray_term.with_directions.Given as goal

abbrev pub invariant-loop-t : goal.invariant-loop-t
invariant-loop-t l = record {
  terms : terms_of l.out.items ≡ sum_of (take l.t-index l.terms);
  along : Every IsAlong l.out.items;
}
