use Rattle.std.proofs.Common.{◌≡◌, ℕ, arith}
use Rattle.std.specs.Int.{◌∣◌}
use Rattle.std.proofs.lemmas.Int.{ints}
use Rattle.std.proofs.Math.Nat.{eq-one_of_dvd-one, dvd-sub, dvd-mul_left_of_dvd}
use Rattle.correction_tests.proofs.products.meeting.Goals as goal

-- 1 = 64 - 7·9
coprime : (d : ℕ) → d ∣ 9 → d ∣ 64 → d ≡ 1
coprime d h k = eq-one_of_dvd-one (dvd-sub d k (dvd-mul_left_of_dvd d h 7))

pub invariant_of-result : goal.invariant_of-result
invariant_of-result c = record {
  reduced = record { below = omega (arith, ints); lowest = λ d x y w. coprime d y w };
  near = (omega arith, omega arith, omega arith);
}
