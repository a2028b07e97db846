-- The worked images, and their leading part.
use Rattle.std.proofs.Common.{◌≡◌, ℕ, ◌+◌, refl, subst, ap, ◌∙◌, Bool, true, false, [], ◌∷◌, arith}
use Rattle.std.specs.Prelude.{ℤ, pos, negsuc, ◌+ℤ◌, ◌*ℤ◌, ◌==◌}
use Rattle.std.proofs.lemmas.Int.{ints}
use Rattle.std.proofs.Math.Nat.{one-dvd}
use Rattle.sum_algebra.proofs.Ring.{nought, unit, ring}
use Rattle.sum_algebra.proofs.IntegerRing.{ints_ring, ◌:*◌, X}
use Rattle.scattering.specs.Series.{Exp, Key, Sum, IsSeries, int_eq, key_eq, key_mul, z, degree, det, coef}
use Rattle.scattering.specs.LocalProduct.{axis_x, axis_y}
use Rattle.scattering.specs.Correction.{ratio_at}
use Rattle.scattering.proofs.Keys.{key_eq-same, key_eq-apart}
use Rattle.vertex_lie.specs.Leading.{IsLeading}
use Rattle.correction_tests.specs.WorkedImages.{mixed_at, worked_x, worked_y, worked_leading}

int_eq-both : (x y m : ℤ) → int_eq (x +ℤ m) (y +ℤ m) ≡ int_eq x y
int_eq-both x y m = grind (arith, ints)

eq-both : (x y : ℕ) → (x + 0 == y + 0) ≡ (x == y)
eq-both x y = grind arith

mul-eq : (k l : Key) (m : Exp) → key_eq (key_mul k (z m)) (key_mul l (z m)) ≡ key_eq k l
mul-eq k l m = simp (int_eq-both, eq-both)

-- a series with the terms 1·z^m and c·K·z^m, at a key of degree 2 times z^m
module _ (m : Exp) (c : ℤ) where
  abbrev two_terms : Sum
  two_terms = (z m, pos 1) ∷ (key_mul (mixed_at (pos 1) (pos 1)) (z m), c) ∷ []

  other-key : (k : Key) → degree k ≡ 2 → key_eq (mixed_at (pos 1) (pos 1)) k ≡ false → coef two_terms (key_mul k (z m)) ≡ pos 0
  other-key k d e =
      rw (key_eq-apart (z m, pos 1) (key_mul k (z m)) (λ q. let p : degree (key_mul k (z m)) ≡ degree k = omega arith in omega (arith, p, q, d)), mul-eq (mixed_at (pos 1) (pos 1)) k m, e) refl

none : (x y : ℤ) → x ≡ pos 0 → x *ℤ pos 1 ≡ pos 0 *ℤ y
none x y e = ap (λ v. v *ℤ pos 1) e ∙ ring ints_ring (y ∷ []) (nought :* unit) (nought :* X) refl

at-x : (k : Key) → degree k ≡ 2 → coef worked_x (key_mul k (z axis_x)) *ℤ (ratio_at worked_leading k).den ≡ (ratio_at worked_leading k).num *ℤ det k.exp axis_x
at-x k d = go (key_eq (mixed_at (pos 1) (pos 1)) k) refl
  where
    go : (b : Bool) → key_eq (mixed_at (pos 1) (pos 1)) k ≡ b → coef worked_x (key_mul k (z axis_x)) *ℤ (ratio_at worked_leading k).den ≡ (ratio_at worked_leading k).num *ℤ det k.exp axis_x
    go true e = subst (λ (l : Key). coef worked_x (key_mul l (z axis_x)) *ℤ (ratio_at worked_leading l).den ≡ (ratio_at worked_leading l).num *ℤ det l.exp axis_x) (key_eq-same (mixed_at (pos 1) (pos 1)) k e) refl
    go false e = rw e (none (coef worked_x (key_mul k (z axis_x))) (det k.exp axis_x) (other-key axis_x (pos 1) k d e))

at-y : (k : Key) → degree k ≡ 2 → coef worked_y (key_mul k (z axis_y)) *ℤ (ratio_at worked_leading k).den ≡ (ratio_at worked_leading k).num *ℤ det k.exp axis_y
at-y k d = go (key_eq (mixed_at (pos 1) (pos 1)) k) refl
  where
    go : (b : Bool) → key_eq (mixed_at (pos 1) (pos 1)) k ≡ b → coef worked_y (key_mul k (z axis_y)) *ℤ (ratio_at worked_leading k).den ≡ (ratio_at worked_leading k).num *ℤ det k.exp axis_y
    go true e = subst (λ (l : Key). coef worked_y (key_mul l (z axis_y)) *ℤ (ratio_at worked_leading l).den ≡ (ratio_at worked_leading l).num *ℤ det l.exp axis_y) (key_eq-same (mixed_at (pos 1) (pos 1)) k e) refl
    go false e = rw e (none (coef worked_y (key_mul k (z axis_y))) (det k.exp axis_y) (other-key axis_y (negsuc 0) k d e))

pub worked-leads : IsLeading worked_x worked_y 2 worked_leading
worked-leads = record {
  ratios = (record { below = omega (arith, ints); lowest = (one-dvd 1, one-dvd 1, λ d p q. p) }, tt);
  nonzero = ((λ e. cc), tt);
  distinct = (tt, tt);
  degrees = ((refl, λ e. let a : pos 1 ≡ pos 0 = ap (λ (x : Exp). x.a) e in cc), tt);
  at_x = at-x;
  at_y = at-y;
}

pub series-x : IsSeries 2 worked_x
series-x = record { rises = ((refl, tt), (tt, tt)); nonzero = ((λ e. cc), ((λ e. cc), tt)); low = (omega arith, (omega arith, tt)) }

pub series-y : IsSeries 2 worked_y
series-y = record { rises = ((refl, tt), (tt, tt)); nonzero = ((λ e. cc), ((λ e. cc), tt)); low = (omega arith, (omega arith, tt)) }
