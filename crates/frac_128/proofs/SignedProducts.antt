-- Products of signed numbers that fit, over variables.
use Rattle.std.proofs.Common.{◌≡◌, ap, ◌∙◌, ◌≤◌, ◌<◌, ◌*◌, ◌^◌, arith, to_z, of_z, FitsSigned, ◌*ℤ◌, ℤ, ℕ, nat_abs}
use Rattle.std.proofs.lemmas.Int.{to_z-of_z, fits_signed_mul, fits_signed_from_abs, unsigned_abs-mul}
use mir.Syntax.{Width}
use mir.Val.{hbits}
use Rattle.sum_algebra.proofs.Integers.{times-same}

pub widened : (v w : Width) (a : ℤ) → FitsSigned v a → FitsSigned w a → to_z w (of_z w (to_z v (of_z v a))) ≡ a
widened v w a p q = ap (λ z. to_z w (of_z w z)) (to_z-of_z v a p) ∙ to_z-of_z w a q

pub within : (w : Width) (a : ℤ) (m : ℕ) → nat_abs a ≤ m → m < 2 ^ hbits w → FitsSigned w a
within w a m h k = fits_signed_from_abs w a (omega (arith, h, k))

size : (a b : ℤ) (m n : ℕ) → nat_abs a ≤ m → nat_abs b ≤ n → nat_abs (a *ℤ b) ≤ m * n
size a b m n h k = let e = unsigned_abs-mul a b in grind (arith, e)

pub product-fits : (w : Width) (x y a b : ℤ) (m n : ℕ) → x ≡ a → y ≡ b → nat_abs a ≤ m → nat_abs b ≤ n → m * n < 2 ^ hbits w → FitsSigned w (x *ℤ y)
product-fits w x y a b m n e f h k l = rw (times-same x y a b e f) (fits_signed_mul w a b m n h k l)

pub product-is : (w : Width) (x y a b : ℤ) (m n : ℕ) → x ≡ a → y ≡ b → nat_abs a ≤ m → nat_abs b ≤ n → m * n < 2 ^ hbits w → to_z w (of_z w (x *ℤ y)) ≡ a *ℤ b
product-is w x y a b m n e f h k l = ap (λ z. to_z w (of_z w z)) (times-same x y a b e f) ∙ to_z-of_z w (a *ℤ b) (fits_signed_mul w a b m n h k l)

pub product-within : (w : Width) (x y a b : ℤ) (m n : ℕ) → x ≡ a → y ≡ b → nat_abs a ≤ m → nat_abs b ≤ n → m * n < 2 ^ hbits w → nat_abs (to_z w (of_z w (x *ℤ y))) ≤ m * n
product-within w x y a b m n e f h k l = rw (product-is w x y a b m n e f h k l) (size a b m n h k)
