-- Rays start at active points, and a point has one correction.
use Rattle.std.proofs.Common.{◌≡◌, ◌≢◌, ℕ, suc, refl, subst, sym, ◌∙◌, ap, List, [], ◌∷◌, ◌++◌, Bool, true, false, ◌+◌, arith, add-one, inl, inr, ◌⊎◌}
use Rattle.std.specs.Prelude.{ℤ, pos, ◌*ℤ◌}
use Rattle.std.proofs.lemmas.Int.{ints}
use Rattle.std.proofs.lemmas.Nat.Gcd.{dvd_refl, dvd-zero}
use Rattle.sum_algebra.proofs.Ring.{var, ring}
use Rattle.sum_algebra.proofs.IntegerRing.{ints_ring, ◌:*◌, X, Y, Z}
use Rattle.scattering.specs.Collections.{In, Every}
use Rattle.scattering.specs.Series.{Key, Exp, degree, det, z, key_mul, coef, key_eq, origin}
use Rattle.scattering.specs.Wall.{Outgoing, Wall, Diagram, IsWall, starts_at}
use Rattle.scattering.specs.LocalProduct.{image, axis_x, axis_y, IsConsistentAt}
use Rattle.scattering.specs.Completion.{IsCompletion}
use Rattle.scattering.specs.ActivePoint.{is_active}
use Rattle.scattering.specs.Correction.{Ratio, IsRatio, Lie, ratio_at}
use Rattle.scattering.proofs.Lists.{Every-at}
use Rattle.scattering.proofs.Keys.{key_eq-same, point_eq-refl, origin-case}
use Rattle.scattering.proofs.Tests.{nat_case}
use Rattle.plane_theory.proofs.Directions.{det-scale, cancel, positive-not, same-direction, as_multiple}
use Rattle.completion_theory.proofs.RaisedDiagram.{lifted, Given, givens, no-ray-starts}
use Rattle.correction_theory.proofs.RayGains.{starts-is}
use Rattle.completion_theory.proofs.UniqueCompletion.{by_axes}
use Rattle.completion_theory.specs.Laws.{RaysStartAtActivePoints, CorrectionIsUnique}

-- ---- rays

clash : (b : Bool) → b ≡ true → b ≡ false → ⊥
clash true p q = absurd (cc)
clash false p q = absurd (cc)

start-at : (given rays : List Wall) (n : ℕ) (r : Wall) → Every Given given → (e : Diagram) → e.rays ≡ rays → IsCompletion given n e → In r e.rays
    → (j : ℕ) → j ≡ suc n → is_active j (lifted n j given e.rays) r.at ≡ true
start-at given rays n r gs e same c i j q =
    subst (λ j. is_active j (lifted n j given e.rays) r.at ≡ true) (sym q) (go (is_active (suc n) (lifted n (suc n) given e.rays) r.at) refl)
  where
    own : starts_at r r.at ≡ true
    own = starts-is n r r.at (Every-at (λ r. r.kind ≡ Outgoing) e.rays r c.outgoing i) ∙ point_eq-refl r.at

    go : (b : Bool) → is_active (suc n) (lifted n (suc n) given e.rays) r.at ≡ b → is_active (suc n) (lifted n (suc n) given e.rays) r.at ≡ true
    go true f = f
    go false f =
        let no_start = no-ray-starts given e.rays n gs c.outgoing c.proper c.reduced r.at
        (subst (λ xs. IsConsistentAt (xs ++ e.rays) n r.at) c.initial (c.consistent r.at (Every-at (IsWall n) e.rays r c.proper i).point)) f r i in
        absurd (clash (starts_at r r.at) own no_start)

pub rays_start_at_active_points : RaysStartAtActivePoints
rays_start_at_active_points given n m e r le hg hk c i = start-at given e.rays n r (givens m given hg hk) e refl c i (n + 1) (add-one n)

-- ---- one correction

-- quotients in lowest terms that are equal
pub same-ratio : (r s : Ratio) → IsRatio r → IsRatio s → r.num *ℤ s.den ≡ s.num *ℤ r.den → r ≡ s
same-ratio r s p q e =
    let a : s.den *ℤ r.num ≡ r.den *ℤ s.num = ring ints_ring (s.den ∷ r.num ∷ []) (X :* Y) (Y :* X) refl ∙ e ∙ ring ints_ring (s.num ∷ r.den ∷ []) (X :* Y) (Y :* X) refl in
    let b : s.den *ℤ r.den ≡ r.den *ℤ s.den = ring ints_ring (s.den ∷ r.den ∷ []) (X :* Y) (Y :* X) refl in
    let f = same-direction (record { a = r.num; b = r.den }) (record { a = s.num; b = s.den }) p.lowest q.lowest s.den r.den q.below p.below (λ i. record { a = a i; b = b i }) in
    λ i. record { num = (f i).a; den = (f i).b }

pub ratio-is : (h : Lie) → Every (λ t. IsRatio t.1) h → (k : Key) → IsRatio (ratio_at h k)
ratio-is [] r k = record { below = omega (arith, ints); lowest = (dvd-zero 1, dvd_refl 1, λ d p q. q) }
ratio-is (t ∷ h) r k = go (key_eq t.0 k) refl (ratio-is h r.1 k)
  where
    go : (b : Bool) → key_eq t.0 k ≡ b → IsRatio (ratio_at h k) → IsRatio (ratio_at (t ∷ h) k)
    go true e f = rw e r.0
    go false e f = rw e f

pub ratio-off : (n : ℕ) (h : Lie) → Every (λ t. (degree t.0 ≡ n) × (t.0.exp ≢ origin)) h → (k : Key) → ((degree k ≡ n) → k.exp ≢ origin → ⊥) → ratio_at h k ≡ record { num = pos 0; den = pos 1 }
ratio-off n [] d k no_k = refl
ratio-off n (t ∷ h) d k no_k = go (key_eq t.0 k) refl (ratio-off n h d.1 k no_k)
  where
    go : (b : Bool) → key_eq t.0 k ≡ b → ratio_at h k ≡ record { num = pos 0; den = pos 1 } → ratio_at (t ∷ h) k ≡ record { num = pos 0; den = pos 1 }
    go true e f = let s = key_eq-same t.0 k e in absurd (no_k (sym (ap degree s) ∙ d.0.0) (λ o. d.0.1 (ap (λ (x : Key). x.exp) s ∙ o)))
    go false e f = rw e f

crossed : (c rn rd sn sd g t : ℤ) → c *ℤ rd ≡ rn *ℤ (g *ℤ t) → c *ℤ sd ≡ sn *ℤ (g *ℤ t) → g ≢ pos 0 → t *ℤ (rn *ℤ sd) ≡ t *ℤ (sn *ℤ rd)
crossed c rn rd sn sd g t e f n =
    cancel g (t *ℤ (rn *ℤ sd)) (t *ℤ (sn *ℤ rd)) n
    (ring ints_ring (rn ∷ sd ∷ g ∷ t ∷ []) (Z :* (var 3 :* (X :* Y))) (X :* (Z :* var 3) :* Y) refl ∙ ap (λ x. x *ℤ sd) (sym e)
    ∙ ring ints_ring (c ∷ rd ∷ sd ∷ []) ((X :* Y) :* Z) ((X :* Z) :* Y) refl ∙ ap (λ x. x *ℤ rd) f
    ∙ ring ints_ring (sn ∷ rd ∷ g ∷ t ∷ []) (X :* (Z :* var 3) :* Y) (Z :* (var 3 :* (X :* Y))) refl)

-- elements of degree n are one where their brackets with both axes are told by the same numbers
module _ (f : Exp → Key → ℤ) (n : ℕ) where
  abbrev pub IsTold : Lie → Type 0
  IsTold h = (m : Exp) (k : Key) → In m (axis_x ∷ axis_y ∷ []) → degree k ≡ n → f m k *ℤ (ratio_at h k).den ≡ (ratio_at h k).num *ℤ det k.exp m

  abbrev Low : Lie → Type 0
  Low h = Every (λ t. (degree t.0 ≡ n) × (t.0.exp ≢ origin)) h

  pub same-element : (h h' : Lie) → Every (λ t. IsRatio t.1) h → Every (λ t. IsRatio t.1) h' → Low h → Low h' → IsTold h → IsTold h' → (k : Key) → ratio_at h k ≡ ratio_at h' k
  same-element h h' r r' l l' a b k = go (nat_case (degree k) n) (origin-case k.exp)
    where
      go : (degree k ≡ n) ⊎ (degree k ≢ n) → (k.exp ≡ origin) ⊎ (k.exp ≢ origin) → ratio_at h k ≡ ratio_at h' k
      go (inr d) o = ratio-off n h l k (λ e _. d e) ∙ sym (ratio-off n h' l' k (λ e _. d e))
      go (inl d) (inl o) = ratio-off n h l k (λ _ q. q o) ∙ sym (ratio-off n h' l' k (λ _ q. q o))
      go (inl deg) (inr o) =
          let d = as_multiple k.exp o in
          same-ratio (ratio_at h k) (ratio_at h' k) (ratio-is h r k) (ratio-is h' r' k)
          (by_axes d.dir d.direction ((ratio_at h k).num *ℤ (ratio_at h' k).den) ((ratio_at h' k).num *ℤ (ratio_at h k).den)
          (λ m i. crossed (f m k) (ratio_at h k).num (ratio_at h k).den (ratio_at h' k).num (ratio_at h' k).den (pos d.g) (det d.dir m)
          (a m k i deg ∙ ap (λ (e : Exp). (ratio_at h k).num *ℤ det e m) d.is ∙ ap (λ x. (ratio_at h k).num *ℤ x) (det-scale (pos d.g) d.dir m))
          (b m k i deg ∙ ap (λ (e : Exp). (ratio_at h' k).num *ℤ det e m) d.is ∙ ap (λ x. (ratio_at h' k).num *ℤ x) (det-scale (pos d.g) d.dir m))
          (positive-not (pos d.g) d.positive)))

pub correction_is_unique : CorrectionIsUnique
correction_is_unique ws p n h h' a b k = same-element (λ m l. coef (image ws p n m) (key_mul l (z m))) n h h' a.ratios b.ratios a.degrees b.degrees a.bracket b.bracket k
