use Rattle.std.proofs.Common.{arith}
use Rattle.std.proofs.lemmas.Int.{ints}
use Rattle.std.proofs.Math.Nat.{eq-one_of_dvd-one}
use Rattle.sample_walls.proofs.places.origin.Goals as goal

pub invariant_of-result : goal.invariant_of-result
invariant_of-result c = record {
  reduced = record { below = omega (arith, ints); lowest = λ d x y w. eq-one_of_dvd-one w };
  near = (omega arith, omega arith, omega arith);
}
