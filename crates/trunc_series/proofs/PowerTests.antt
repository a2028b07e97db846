-- The mass of a majorant's power, and of its geometric majorant's, tests the condition of a power.
use Rattle.std.proofs.Common.{min, ◌≡◌, ℕ, suc, ◌+◌, ◌≤◌, ◌^◌, subst, Bool, true, false, cond, not, refl, arith}
use Rattle.std.specs.Prelude.{pos, ◌≤ℤ◌, ◌↔◌}
use Rattle.scattering.specs.Series.{Key, Term, Sum, key_eq, unit, coef, rest, pow, powers_to, absolute, geometric, mass_to}
use Rattle.scattering.proofs.Lists.{Every-implies, Every-filter, pairs-filter}
use Rattle.scattering.proofs.Pairing.{coef-without}
use Rattle.scattering.proofs.Coefficients.{rest-absolute}
use Rattle.trunc_series.specs.declared.arithmetic.Arithmetic.TheVariants.{Saturating}
use Rattle.trunc_series.specs.Shown.{Seen}
use Rattle.trunc_series.specs.Arithmetic.{kept, IsKeepable, limit}
use Rattle.trunc_series.specs.Capped.{IsMajorantOf}
use Rattle.trunc_series.specs.Reduced.{IsKeptAs}
use Rattle.trunc_series.specs.Laws.{MajorantTestsPower, GeometricTestsNegativePower, MajorantHasGeometric}
use Rattle.trunc_series.proofs.Merging.{Keepable, whole}
use Rattle.trunc_series.proofs.PowerLaws.{pow-low, pow-keepable}
use Rattle.trunc_series.proofs.Majorants.{min-below, absolute-whole, reduced-capped}
use Rattle.trunc_series.proofs.MajorantLaws.{reduced-of, majorant-mass}
use Rattle.trunc_series.proofs.Inverses.{absolute-positive, powers-keepable, pow-reduced, powers-reduced}

-- what is kept of a power, of the factor as it is kept
pub majorant-power : (n i : ℕ) (f : Sum) (a p : Seen) → Keepable Saturating f → IsMajorantOf a n f → IsMajorantOf p n (pow n a.terms i) → IsMajorantOf p n (pow n f i)
majorant-power n i f a p k ha hp =
    let ra = reduced-of n a f ha k in
    let rp = reduced-of n p (pow n a.terms i) hp (pow-keepable Saturating n a.terms (whole Saturating a.terms ra.keeps) i) in
    record { order = hp.order; series = hp.series; capped = reduced-capped n p.terms (pow n f i) (pow-reduced Saturating n a.terms f ra i p.terms rp) }

tests : (x y : ℕ) → min x (2 ^ 126 + 1) ≡ min y (2 ^ 126 + 1) → (x ≤ 2 ^ 126) ↔ (y ≤ 2 ^ 126)
tests x y e = (λ h. omega (arith, e, h), λ h. omega (arith, e, h))

power-of : (n i : ℕ) (f : Sum) (a p : Seen) → Keepable Saturating f → IsMajorantOf a n f → IsMajorantOf p n (pow n a.terms i) → (mass_to n p.terms ≤ 2 ^ 126) ↔ (mass_to n (pow n f i) ≤ 2 ^ 126)
power-of n i f a p k ha hp = tests _ _ (majorant-mass n p (pow n f i) (majorant-power n i f a p k ha hp) (pow-keepable Saturating n f k i) (pow-low n f i))

pub power-tests : MajorantTestsPower
power-tests n i f a p ha hp = power-of n i (absolute f) a p (absolute-whole f) ha hp

geometric-keepable : (n : ℕ) (f : Sum) → Keepable Saturating (geometric n f)
geometric-keepable n f = powers-keepable Saturating n (absolute (rest f)) (absolute-whole (rest f)) n

pub negative-power-tests : GeometricTestsNegativePower
negative-power-tests n i f g p hg hp = power-of n (suc i) (geometric n f) g p (geometric-keepable n f) hg hp

-- ---- without the constant term

rest-reduced : (n : ℕ) (a f : Sum) → IsKeptAs Saturating n a f → IsKeptAs Saturating n (rest a) (rest f)
rest-reduced n a f h = record {
  series = record {
    rises = pairs-filter _ (λ t. not (key_eq t.0 unit)) a h.series.rises;
    nonzero = Every-filter _ (λ t. not (key_eq t.0 unit)) a h.series.nonzero;
    low = Every-filter _ (λ t. not (key_eq t.0 unit)) a h.series.low;
  };
  keeps = Every-filter _ (λ t. not (key_eq t.0 unit)) a h.keeps;
  keepable = Every-filter _ (λ t. not (key_eq t.0 unit)) f h.keepable;
  same = λ k. rw (coef-without unit k a, coef-without unit k f) (go k (key_eq unit k));
}
  where
    go : (k : Key) (b : Bool) → kept Saturating (cond b (pos 0) (coef a k)) ≡ kept Saturating (cond b (pos 0) (coef f k))
    go k true = refl
    go k false = h.same k

pub has-geometric : MajorantHasGeometric
has-geometric n f a g ha hg = record { order = hg.order; series = hg.series; capped = reduced-capped n g.terms (geometric n f) made }
  where
    ra : IsKeptAs Saturating n a.terms (absolute f)
    ra = reduced-of n a (absolute f) ha (absolute-whole f)

    own : absolute (rest a.terms) ≡ rest a.terms
    own = absolute-positive (rest a.terms)
        (Every-implies (λ (t : Term). (kept Saturating t.1 ≡ t.1) × IsKeepable Saturating t.1) (λ t. (pos 0 ≤ℤ t.1) × (t.1 ≤ℤ limit)) (rest a.terms) (λ t i. (i.1, min-below t.1 i.0)) (Every-filter _ (λ t. not (key_eq t.0 unit)) a.terms ra.keeps))

    others : IsKeptAs Saturating n (rest a.terms) (absolute (rest f))
    others = subst (IsKeptAs Saturating n (rest a.terms)) (rest-absolute f) (rest-reduced n a.terms (absolute f) ra)

    of-others : IsKeptAs Saturating n g.terms (powers_to n (rest a.terms) n)
    of-others = subst (λ (r : Sum). IsKeptAs Saturating n g.terms (powers_to n r n)) own (reduced-of n g (geometric n a.terms) hg (geometric-keepable n a.terms))

    made : IsKeptAs Saturating n g.terms (geometric n f)
    made = powers-reduced Saturating n (rest a.terms) (absolute (rest f)) others n g.terms of-others
