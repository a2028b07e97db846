use Rattle.trunc_series.proofs.laws.bounds_carry_over.Goals as goal
use Rattle.trunc_series.proofs.Products.{mass-append}
use Rattle.trunc_series.proofs.BoundLaws.{least-mass, stays-near, sums-near, masses-multiply}

pub returns : goal.returns
returns c = record {
  series_has_least_mass = least-mass;
  series_stays_near = stays-near;
  sums_stay_near = sums-near;
  masses_add = mass-append;
  masses_multiply = masses-multiply;
}
