-- The powers of a wall function are below those of 1/(2 - |f|), so a crossing is below its majorant.
use Rattle.std.proofs.Common.{◌≡◌, ℕ, zero, suc, ◌*◌, ◌≤◌, sym, subst, ap, ◌∙◌, ◌++◌, arith}
use Rattle.std.specs.Prelude.{ℤ, pos, negsuc, ◌+ℤ◌, ◌*ℤ◌, nat_abs}
use Rattle.std.proofs.lemmas.Int.{unsigned_abs-mul}
use Rattle.sum_algebra.proofs.Sums as S
use Rattle.sum_algebra.proofs.Sums.{pair, pair-zero}
use Rattle.sum_algebra.proofs.Support.{by_every}
use Rattle.scattering.specs.Series.{Exp, Key, Sum, unit, degree, det, rest, absolute, mul, inverse, power, pow, powers_to, one, geometric, IsMultiple, IsWallFunction}
use Rattle.scattering.specs.LocalProduct.{cross, cross_majorant}
use Rattle.scattering.proofs.Lists.{Every-implies}
use Rattle.crossing_theory.proofs.Keys.{keys}
use Rattle.crossing_theory.proofs.Translation.{Eq, rest-split, mul-same}
use Rattle.crossing_theory.proofs.HalfWalls.{every-keys}
use Rattle.weight_theory.specs.Laws.{IsNonnegative, PowerIsBelow, CrossingIsBelow, AbsoluteIsAbove, MajorantIsMonotone, MajorantStaysNonnegative}
use Rattle.weight_theory.proofs.Readings.{Bounds, to_Bounds, from_Bounds}
use Rattle.weight_theory.proofs.Bounds.{bounds-same, bounds-same_above, bounds-itself, bounds-more, bounds-absolute, bounds-minus, bounds-monomial, bounds-append, bounds-pow, bounds-powers_to, bounds-substitute, absolute-nonnegative, pow-nonnegative, powers_to-nonnegative, substitute-nonnegative}

-- ---- 1/(2 - |f|)

pub geometric-nonnegative : (k : ℕ) (f : Sum) → IsNonnegative (geometric k f)
geometric-nonnegative k f = powers_to-nonnegative k (absolute (rest f)) k (absolute-nonnegative k (rest f))

pub mul-one : (k : ℕ) (f : Sum) → Eq k f (mul k f one)
mul-one k f = record { at = λ φ v. sym ((mul-same k f one).at φ v ∙ S.mul_comm keys φ f one ∙ S.one_mul keys φ f) }

module _ (k m : ℕ) (d : Exp) (f : Sum) (w : IsWallFunction m d f) where
  -- f is 1 and the rest
  splits : Eq k f (one ++ rest f)
  splits = record { at = λ φ v. rest-split φ f ∙ ap (λ c. c *ℤ φ unit +ℤ pair φ (rest f)) w.constant }

  -- of which degree 0 has 1 alone
  low : Eq 0 f one
  low = record {
    at = λ φ v.
        rest-split φ f
        ∙ ap (λ c. c *ℤ φ unit +ℤ pair φ (rest f)) w.constant
        ∙ ap (λ r. pos 1 *ℤ φ unit +ℤ r)
        ((by_every (λ x. 1 ≤ degree x) (rest f) (every-keys (λ x. 1 ≤ degree x) (rest f) (Every-implies (λ t. (1 ≤ degree t.0) × IsMultiple d t.0.exp) (λ t. 1 ≤ degree t.0) (rest f) (λ t h. h.0) w.others))).at φ (λ _. pos 0) (λ x l. v x l)
        ∙ pair-zero (rest f));
  }

  first-powers : Bounds k (one ++ rest f) (powers_to k (absolute (rest f)) 1)
  first-powers =
      bounds-append k one one (rest f) (mul k (absolute (rest f)) one) (bounds-monomial k unit)
      (bounds-same_above k (rest f) (absolute (rest f)) (mul k (absolute (rest f)) one) (mul-one k (absolute (rest f))) (bounds-absolute k (rest f)))

  more-powers : (j : ℕ) → Bounds k (one ++ rest f) (powers_to k (absolute (rest f)) (suc j))
  more-powers zero = first-powers
  more-powers (suc j) =
      bounds-more k (one ++ rest f) (powers_to k (absolute (rest f)) (suc j)) (pow k (absolute (rest f)) (suc (suc j)))
      (pow-nonnegative k (absolute (rest f)) (suc (suc j)) (absolute-nonnegative k (rest f))) (more-powers j)

pub function-below : (k m : ℕ) (d : Exp) (f : Sum) → IsWallFunction m d f → Bounds k f (geometric k f)
function-below zero m d f w = bounds-same 0 f one one (low 0 m d f w) (bounds-monomial 0 unit)
function-below (suc j) m d f w = bounds-same (suc j) f (one ++ rest f) _ (splits (suc j) m d f w) (more-powers (suc j) m d f w j)

pub inverse-below : (k : ℕ) (f : Sum) → Bounds k (inverse k f) (geometric k f)
inverse-below k f = bounds-powers_to k _ (absolute (rest f)) k (bounds-minus k (rest f))

pub bounds-power : (k m : ℕ) (d : Exp) (f : Sum) (n : ℤ) → IsWallFunction m d f → Bounds k (power k f n) (pow k (geometric k f) (nat_abs n))
bounds-power k m d f (pos i) w = bounds-pow k f (geometric k f) i (function-below k m d f w)
bounds-power k m d f (negsuc i) w = bounds-pow k (inverse k f) (geometric k f) (suc i) (inverse-below k f)

-- ---- crossings

-- the power by which a key is multiplied
abbrev pub turned : ℕ → Exp → Sum → Key → Sum
turned k d f x = pow k (geometric k f) (nat_abs (det d x.exp))

pub turned-nonnegative : (k : ℕ) (d : Exp) (f : Sum) (x : Key) → IsNonnegative (turned k d f x)
turned-nonnegative k d f x = pow-nonnegative k (geometric k f) (nat_abs (det d x.exp)) (geometric-nonnegative k f)

pub bounds-cross : (k m : ℕ) (d : Exp) (f : Sum) (s : ℤ) (g G : Sum) → IsWallFunction m d f → nat_abs s ≡ 1 → Bounds k g G → Bounds k (cross k d f s g) (cross_majorant k d f G)
bounds-cross k m d f s g G w e h = bounds-substitute k (λ x. power k f (s *ℤ det d x.exp)) (turned k d f) g G each h
  where
    same : (n : ℤ) → nat_abs (s *ℤ n) ≡ nat_abs n
    same n = unsigned_abs-mul s n ∙ rw e (one-times (nat_abs n))
      where
        one-times : (i : ℕ) → 1 * i ≡ i
        one-times i = omega arith

    each : (x : Key) → Bounds k (power k f (s *ℤ det d x.exp)) (turned k d f x)
    each x = subst (λ (i : ℕ). Bounds k (power k f (s *ℤ det d x.exp)) (pow k (geometric k f) i)) (same (det d x.exp)) (bounds-power k m d f (s *ℤ det d x.exp) w)

pub bounds-majorant : (k : ℕ) (d : Exp) (f F G : Sum) → Bounds k F G → Bounds k (cross_majorant k d f F) (cross_majorant k d f G)
bounds-majorant k d f F G h = bounds-substitute k (turned k d f) (turned k d f) F G (λ x. bounds-itself k (turned k d f x) (turned-nonnegative k d f x)) h

-- ---- the laws

pub power-is-below : PowerIsBelow
power-is-below k m d f n w = from_Bounds k _ _ (bounds-power k m d f n w)

pub crossing-is-below : CrossingIsBelow
crossing-is-below k m d f s g G w e h = from_Bounds k _ _ (bounds-cross k m d f s g G w e (to_Bounds k g G h))

pub absolute-is-above : AbsoluteIsAbove
absolute-is-above k g = from_Bounds k g (absolute g) (bounds-absolute k g)

pub majorant-is-monotone : MajorantIsMonotone
majorant-is-monotone k d f F G h = from_Bounds k _ _ (bounds-majorant k d f F G (to_Bounds k F G h))

pub majorant-stays-nonnegative : MajorantStaysNonnegative
majorant-stays-nonnegative k d f F h = substitute-nonnegative k (turned k d f) F (turned-nonnegative k d f) h
