-- The greatest common divisor is a whole combination.
use Rattle.std.proofs.Common.{◌≡◌, ℕ, zero, suc, refl, ap, ◌∙◌, ◌+◌, ◌*◌, ◌/◌, ◌%◌, ◌≤◌, ◌<◌, arith}
use Rattle.std.specs.Prelude.{ℤ, pos, ◌+ℤ◌, ◌-ℤ◌, ◌*ℤ◌}
use Rattle.std.specs.Int.{IsGcd}
use Rattle.std.proofs.lemmas.Nat.Gcd.{IsGcd-from_zero, IsGcd-from_mod}
use Rattle.std.proofs.lemmas.Int.{ints}
use Rattle.scattering.proofs.Ring.{dif-up, dif-pos, dif-add, dif-neg, dif-mul, dif-same}

pub record Bezout (a b : ℕ) : Type 0 where
  pub g : ℕ
  pub u : ℤ
  pub v : ℤ
  pub gcd : IsGcd a b g
  pub is : u *ℤ pos a +ℤ v *ℤ pos b ≡ pos g

at_zero : (a : ℕ) → pos 1 *ℤ pos a +ℤ pos 0 *ℤ pos 0 ≡ pos a
at_zero a = omega (arith, ints)

turn : (u v : ℤ) (q b r : ℕ) → v *ℤ pos (q * b + r) +ℤ (u -ℤ v *ℤ pos q) *ℤ pos b ≡ u *ℤ pos b +ℤ v *ℤ pos r
turn u v q b r = rw (dif-up u, dif-up v) (simp (dif-mul, dif-add, dif-neg, dif-pos) (dif-same _ _ _ _ (omega arith)))

split : (a b : ℕ) → a ≡ a / suc b * suc b + a % suc b
split a b = omega arith

below : (a b : ℕ) → a % suc b < suc b
below a b = omega arith

go : (fuel a b : ℕ) → b ≤ fuel → Bezout a b
go fuel a zero le = record { g = a; u = pos 1; v = pos 0; gcd = IsGcd-from_zero a 0 refl; is = at_zero a }
go zero a (suc b) le = absurd (omega (arith, le))
go (suc fuel) a (suc b) le =
    let h : Bezout (suc b) (a % suc b) = go fuel (suc b) (a % suc b) (let l = below a b in omega (arith, l, le)) in
    record { g = h.g; u = h.v; v = h.u -ℤ h.v *ℤ pos (a / suc b); gcd = IsGcd-from_mod a (suc b) h.g h.gcd; is = ap (λ n. h.v *ℤ pos n +ℤ (h.u -ℤ h.v *ℤ pos (a / suc b)) *ℤ pos (suc b)) (split a b) ∙ turn h.u h.v (a / suc b) (suc b) (a % suc b) ∙ h.is }

pub bezout : (a b : ℕ) → Bezout a b
bezout a b = go b a b (omega arith)
