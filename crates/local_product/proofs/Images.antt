-- What is read of an image by degree, where its majorant is light: the whole image as a series, and its terms of the
-- highest degree as one; and the mass of a majorant.
use Rattle.std.proofs.Common.{◌≡◌, ◌≢◌, ℕ, ◌+◌, ◌<◌, ◌≤◌, ◌^◌, sym, subst, ap, ◌∙◌, List, ◌⊎◌, inl, inr, min, arith}
use Rattle.std.specs.Prelude.{nat_abs}
use native.Mathlib.Decide.{dec_le}
use Rattle.scattering.specs.Collections.{Every}
use Rattle.scattering.specs.Series.{Exp, Key, Sum, Same, degree, coef, cut, monomial, z, mass_to, IsSeries}
use Rattle.scattering.specs.ThetaProduct.{of_degree}
use Rattle.scattering.specs.LocalProduct.{carry, carry_majorant}
use Rattle.scattering.proofs.Coefficients.{coef-above, cut-low}
use Rattle.scattering.proofs.Tests.{nat_case}
use Rattle.degree_theory.proofs.PartLaws.{part-is-read}
use Rattle.weight_theory.proofs.Stages.{image-is-below}
use Rattle.weight_theory.proofs.Masses.{coefficient-is-below}
use Rattle.trunc_series.specs.declared.arithmetic.Arithmetic.TheVariants.{Wrapping, Saturating}
use Rattle.trunc_series.specs.Reduced.{IsKeptAs}
use Rattle.trunc_series.specs.Shown.{Seen, IsSeriesOf, IsValid}
use Rattle.trunc_series.proofs.Exact.{exact-valid, exact-same}
use Rattle.wall_auto.specs.ByDegree.{StandsByDegree, IsMass}
use Rattle.local_product.specs.declared.half_walls.HalfWall.{HalfWall}
use Rattle.local_product.specs.Shown.{halves_of}
use Rattle.local_product.specs.OneVariable.{in_one_variable}
use Rattle.local_product.proofs.OneVariable.{mass-one_variable}
use Rattle.local_product.proofs.Stages.{are-halves, carry-low}

-- ---- series

as-series : (k : ℕ) (r g : Sum) → IsSeries k r → Same r g → (s : Seen) → s.order ≡ k → s.terms ≡ r → IsSeriesOf s k g
as-series k r g h q s o e = record { order = o; series = subst (IsSeries k) (sym e) h; same = λ x. ap (λ f. coef f x) e ∙ q x }

-- ---- of a light image

module _ (k : ℕ) (low : k ≤ 24) (m : Exp) (hs : List HalfWall) (light : mass_to k (carry_majorant k (halves_of hs) (monomial (z m))) ≤ 2 ^ 126) where
  abbrev whole : Sum
  whole = carry k (halves_of hs) (monomial (z m))

  whole-low : Every (λ t. degree t.0 ≤ k) whole
  whole-low = carry-low k (halves_of hs) (monomial (z m)) (omega arith, tt)

  small : (x : Key) → nat_abs (coef whole x) < 2 ^ 127
  small x = go (dec_le (degree x) k)
    where
      go : Dec (degree x ≤ k) → nat_abs (coef whole x) < 2 ^ 127
      go (yes l) = let a = coefficient-is-below k whole (carry_majorant k (halves_of hs) (monomial (z m))) x l (image-is-below k (halves_of hs) m (are-halves hs)) in omega (arith, a, light)
      go (no l) = rw (coef-above k whole x whole-low (omega (arith, l))) (omega arith)

  module _ (r : Sum) (h : IsKeptAs Wrapping k r (cut k whole)) where
    kept-whole : IsKeptAs Wrapping k r whole
    kept-whole = subst (λ (f : Sum). IsKeptAs Wrapping k r f) (cut-low k whole whole-low) h

    pub whole-valid : IsValid k r
    whole-valid = exact-valid k r whole low kept-whole small

    pub whole-series : (s : Seen) → s.order ≡ k → s.terms ≡ r → IsSeriesOf s k whole
    whole-series = as-series k r whole kept-whole.series (exact-same k r whole kept-whole small)

  abbrev highest : Sum
  highest = of_degree k whole

  module _ (r : Sum) (h : IsKeptAs Wrapping k r highest) where
    small-highest : (x : Key) → nat_abs (coef highest x) < 2 ^ 127
    small-highest x = go (nat_case (degree x) k)
      where
        go : (degree x ≡ k) ⊎ (degree x ≢ k) → nat_abs (coef highest x) < 2 ^ 127
        go (inl q) = let s = small x in rw ((part-is-read k whole x).0 q) s
        go (inr o) = rw ((part-is-read k whole x).1 o) (omega arith)

    pub highest-valid : IsValid k r
    highest-valid = exact-valid k r highest low h small-highest

    pub highest-series : (s : Seen) → s.order ≡ k → s.terms ≡ r → IsSeriesOf s k highest
    highest-series = as-series k r highest h.series (exact-same k r highest h small-highest)

-- ---- the mass of a majorant

pub mass-counted : (k : ℕ) (G : Sum) (ps : List Sum) (w : ℕ) → StandsByDegree Saturating k ps (in_one_variable G) → IsMass ps w → w ≡ min (mass_to k G) (2 ^ 126 + 1)
mass-counted k G ps w s h = h k (in_one_variable G) s ∙ ap (λ n. min n (2 ^ 126 + 1)) (mass-one_variable k G)
