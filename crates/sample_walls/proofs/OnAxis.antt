-- Points on an axis.
use Rattle.std.proofs.Common.{◌≡◌, ℕ, arith}
use Rattle.std.specs.Prelude.{pos}
use Rattle.std.proofs.lemmas.Int.{ints}
use Rattle.std.proofs.Math.Nat.{eq-one_of_dvd-one}
use Rattle.std.specs.Int.{◌∣◌}
use Rattle.scattering.specs.Plane.{IsPoint}

pub on-axis : (m : ℕ) → IsPoint (record { x = pos m; y = pos 0; w = pos 1 })
on-axis m = record { below = omega (arith, ints); lowest = λ d p q r. one d r }
  where
    one : (d : ℕ) → d ∣ 1 → d ≡ 1
    one d h = eq-one_of_dvd-one h
