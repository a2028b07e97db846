-- What the lists of the program's crossings stand for: crossings, and their majorants.
use Rattle.std.proofs.Common.{◌≡◌, ℕ, suc, ◌<◌, ◌≤◌, ◌^◌, refl, sym, subst, List, [], ◌∷◌, length, arith}
use Rattle.std.specs.Prelude.{ℤ, ◌*ℤ◌, nat_abs}
use Rattle.std.proofs.Math.Decide.{dec_le}
use Rattle.scattering.specs.Collections.{Every}
use Rattle.scattering.specs.Series.{Exp, Key, Term, Sum, IsWallFunction, degree, coef, det, absolute, geometric, mul, pow, power, mass_to}
use Rattle.scattering.specs.LocalProduct.{cross, cross_majorant}
use Rattle.scattering.proofs.Lists.{Every-append, Every-implies}
use Rattle.scattering.proofs.Coefficients.{coef-above, cut-low}
use Rattle.weight_theory.proofs.Crossings.{crossing-is-below, absolute-is-above}
use Rattle.weight_theory.proofs.Masses.{coefficient-is-below}
use Rattle.trunc_series.specs.declared.arithmetic.Arithmetic.{Arithmetic}
use Rattle.trunc_series.specs.declared.arithmetic.Arithmetic.TheVariants.{Wrapping, Saturating}
use Rattle.trunc_series.specs.Shown.{HasNearTerms}
use Rattle.trunc_series.specs.Reduced.{IsKeptAs}
use Rattle.trunc_series.proofs.Exact.{Made, exact}
use Rattle.trunc_series.proofs.Products.{low-mul}
use Rattle.power_tables.specs.Tables.{SeenTable, IsTableOf}
use Rattle.wall_auto.specs.ByDegree.{KeyGrowsBy, AreNear, StandsByDegree, TakesTerms, TakesWithin, CrossesParts, IsSortedWhole, IsTable, crossing_of}

-- ---- a crossing has no terms above its order

module _ (k : ℕ) (d : Exp) (f : Sum) where
  cross-low : (s : ℤ) (g : Sum) → Every (λ t. degree t.0 ≤ k) (cross k d f s g)
  cross-low s [] = tt
  cross-low s (t ∷ g) = Every-append (λ u. degree u.0 ≤ k) (mul k (t ∷ []) (power k f (s *ℤ det d t.0.exp))) (cross k d f s g) (low-mul k (t ∷ []) (power k f (s *ℤ det d t.0.exp))) (cross-low s g)

  majorant-low : (g : Sum) → Every (λ t. degree t.0 ≤ k) (cross_majorant k d f g)
  majorant-low [] = tt
  majorant-low (t ∷ g) =
      Every-append (λ u. degree u.0 ≤ k) (mul k (t ∷ []) (pow k (geometric k f) (nat_abs (det d t.0.exp)))) (cross_majorant k d f g) (low-mul k (t ∷ []) (pow k (geometric k f) (nat_abs (det d t.0.exp)))) (majorant-low g)

  crossing-low : (rule : Arithmetic) (s : ℤ) (g : Sum) → Every (λ t. degree t.0 ≤ k) (crossing_of rule k d f s g)
  crossing-low Wrapping s g = cross-low s g
  crossing-low Saturating s g = majorant-low g

-- ---- from terms to parts, across, and back

-- terms that are near are within 2^16, whatever their degrees
pub near-parts : (ts : Sum) (parts : List Sum) → HasNearTerms ts → TakesWithin ts parts → AreNear parts
near-parts ts parts h w = w 65536 0 (Every-implies (λ (t : Term). (nat_abs t.0.exp.a ≤ 65536) × (nat_abs t.0.exp.b ≤ 65536)) (λ t. KeyGrowsBy 65536 0 (degree t.0) t.0) ts (λ t n. (refl, (let a = n.0 in omega (arith, a)), (let b = n.1 in omega (arith, b)))) h)

pub is-table : (rule : Arithmetic) (k : ℕ) (f : Sum) (t : SeenTable) → IsTableOf rule k f t → IsTable t
is-table rule k f t h = (f, own-table rule k f t h)
  where
    own-table : (rule : Arithmetic) (k : ℕ) (f : Sum) (t : SeenTable) → IsTableOf rule k f t → IsTableOf t.rule t.order f t
    own-table rule k f t h = subst (λ (n : ℕ). IsTableOf t.rule n f t) (sym h.reach) (subst (λ (r : Arithmetic). IsTableOf r k f t) (sym h.arithmetic) h)

pub sorted-crossing : (rule : Arithmetic) (k m : ℕ) (d : Exp) (f : Sum) (s : ℤ) (t : SeenTable) (ts r : Sum) (old new : List Sum) → IsWallFunction m d f → IsTableOf rule k f t
    → TakesTerms rule ts old → length old ≡ suc k
    → CrossesParts t d s old new → IsSortedWhole rule new r → IsKeptAs rule k r (crossing_of rule k d f s ts)
sorted-crossing rule k m d f s t ts r old new w h takes n crosses sorted =
    let e = h.arithmetic in
    let own = subst (λ (q : Arithmetic). IsTableOf q k f t) (sym e) h in
    let stands = subst (λ (q : Arithmetic). StandsByDegree q k old ts) (sym e) (takes k n) in
    let crossed = subst (λ (q : Arithmetic). StandsByDegree q k new (crossing_of q k d f s ts)) e (crosses k m f ts w own stands) in
    subst (λ (g : Sum). IsKeptAs rule k r g) (cut-low k (crossing_of rule k d f s ts) (crossing-low k d f rule s ts)) (sorted k (crossing_of rule k d f s ts) crossed)

-- ---- series

module _ (k : ℕ) (d : Exp) (f : Sum) (w : IsWallFunction k d f) where
  small : (s : ℤ) (g : Sum) → nat_abs s ≡ 1 → mass_to k (cross_majorant k d f (absolute g)) ≤ 2 ^ 126 → (x : Key) → nat_abs (coef (cross k d f s g) x) < 2 ^ 127
  small s g h m x = elim (dec_le (degree x) k) [
    | yes l ↦
        let b = coefficient-is-below k (cross k d f s g) (cross_majorant k d f (absolute g)) x l (crossing-is-below k k d f s g (absolute g) w h (absolute-is-above k g)) in
        omega (arith, b, m)
    | no l ↦ rw (coef-above k (cross k d f s g) x (cross-low k d f s g) (omega (arith, l))) (omega arith)
  ]

  pub made-crossing : (s : ℤ) (g r : Sum) → k ≤ 24 → nat_abs s ≡ 1 → mass_to k (cross_majorant k d f (absolute g)) ≤ 2 ^ 126 → IsKeptAs Wrapping k r (cross k d f s g) → Made k r (cross k d f s g)
  made-crossing s g r o h m i = exact k r (cross k d f s g) o i (small s g h m)
