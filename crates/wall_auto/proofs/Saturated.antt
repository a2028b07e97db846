-- Majorants as they are kept: a crossing of what is kept gives what is kept of the crossing, and so does the mass.
use Rattle.std.proofs.Common.{◌≡◌, ℕ, ◌+◌, ◌^◌, sym, ap, ◌∙◌, length, min, arith}
use Rattle.std.specs.Prelude.{ℤ, pos, ◌≤ℤ◌, nat_le, cond, Bool, true, false}
use Rattle.std.specs.Int.{int_min}
use Rattle.std.proofs.lemmas.Int.{ints, clamps}
use Rattle.scattering.specs.Series.{Key, Exp, Sum, degree, coef, absolute, mass_to}
use Rattle.scattering.specs.LocalProduct.{cross_majorant}
use Rattle.scattering.proofs.Pairing.{pairing, pairing-is_pair}
use Rattle.trunc_series.specs.declared.arithmetic.Arithmetic.TheVariants.{Saturating}
use Rattle.trunc_series.specs.Shown.{Seen}
use Rattle.trunc_series.specs.Arithmetic.{kept, limit}
use Rattle.trunc_series.specs.Capped.{IsMajorantOf}
use Rattle.trunc_series.proofs.Coefficients.{apart-rising, has-coef, keepable-coef}
use Rattle.trunc_series.proofs.Congruence.{pairing-kept}
use Rattle.weight_theory.specs.Laws.{IsNonnegative}
use Rattle.weight_theory.proofs.Crossings.{turned, turned-nonnegative, majorant-stays-nonnegative}
use Rattle.weight_theory.proofs.Bounds.{absolute-nonnegative}
use Rattle.weight_theory.proofs.Masses.{counts, counted-exactly}
use Rattle.wall_auto.specs.Laws.{MajorantTestsCrossing}
use Rattle.wall_auto.proofs.Substituted.{substituted-kept}

-- ---- masses

counted : (k : ℕ) (f : Sum) → IsNonnegative f → pairing (counts k) f ≡ pos (mass_to k f)
counted k f q = pairing-is_pair (counts k) f ∙ counted-exactly k f q

-- what is kept of the mass depends on what is kept of the coefficients
pub same-mass : (k : ℕ) (F G : Sum) → IsNonnegative F → IsNonnegative G → ((x : Key) → kept Saturating (coef F x) ≡ kept Saturating (coef G x)) → min (mass_to k F) (2 ^ 126 + 1) ≡ min (mass_to k G) (2 ^ 126 + 1)
same-mass k F G p q s =
    whole (mass_to k F) (mass_to k G)
    (ap (kept Saturating) (sym (counted k F p))
    ∙ pairing-kept Saturating (counts k) (λ x. counts-keepable (nat_le (degree x) k)) (length F + length G) F G (omega arith) p q s
    ∙ ap (kept Saturating) (counted k G q))
  where
    counts-keepable : (b : Bool) → pos 0 ≤ℤ cond b (pos 1) (pos 0)
    counts-keepable true = omega (arith, ints)
    counts-keepable false = omega (arith, ints)

    whole : (a b : ℕ) → int_min (pos a) limit ≡ int_min (pos b) limit → min a (2 ^ 126 + 1) ≡ min b (2 ^ 126 + 1)
    whole a b e = omega (arith, ints, clamps, e)

-- ---- what is kept of a sum without coefficients below 0

module _ (k : ℕ) (m : Seen) (G : Sum) (h : IsMajorantOf m k G) (p : IsNonnegative G) where
  pub kept-nonnegative : IsNonnegative m.terms
  kept-nonnegative = has-coef (λ c. pos 0 ≤ℤ c) m.terms (omega (arith, ints)) (apart-rising m.terms h.series.rises) (λ x. rw (h.capped x) (least (coef G x) (keepable-coef Saturating G x p)))
    where
      least : (c : ℤ) → pos 0 ≤ℤ c → pos 0 ≤ℤ int_min c limit
      least c l = omega (arith, ints, clamps, l)

  same-kept : (x : Key) → kept Saturating (coef m.terms x) ≡ kept Saturating (coef G x)
  same-kept x = rw (h.capped x) (twice (coef G x))
    where
      twice : (c : ℤ) → int_min (int_min c limit) limit ≡ int_min c limit
      twice c = omega (arith, ints, clamps)

  -- a crossing of it
  pub crossed-majorant : (d : Exp) (f : Sum) (m' : Seen) → IsMajorantOf m' k (cross_majorant k d f m.terms) → IsMajorantOf m' k (cross_majorant k d f G)
  crossed-majorant d f m' h' = record {
    order = h'.order;
    series = h'.series;
    capped = λ x. h'.capped x ∙ substituted-kept Saturating k (turned k d f) m.terms G (turned-nonnegative k d f) kept-nonnegative p same-kept x;
  }

  -- its mass
  pub kept-mass : min (mass_to k m.terms) (2 ^ 126 + 1) ≡ min (mass_to k G) (2 ^ 126 + 1)
  kept-mass = same-mass k m.terms G kept-nonnegative p same-kept

-- ---- the condition of a crossing

pub cross-majorant-tests : MajorantTestsCrossing
cross-majorant-tests k m d f g a h w p q =
    let all : IsMajorantOf h k (cross_majorant k d f (absolute g)) = crossed-majorant k a (absolute g) p (absolute-nonnegative k g) d f h q in
    let e = kept-mass k h (cross_majorant k d f (absolute g)) all (majorant-stays-nonnegative k d f (absolute g) (absolute-nonnegative k g)) in
    (λ l. omega (arith, e, l), λ l. omega (arith, e, l))
