-- The correction at a point exists, and is whole.
use Rattle.std.proofs.Common.{◌≡◌, ℕ, suc, subst, sym, List, ◌++◌, arith, add-one, refl, ◌∙◌, [], ◌∷◌, Bool, true, false, ◌+◌}
use Rattle.std.specs.Prelude.{◌*ℤ◌, pos}
use Rattle.scattering.specs.Collections.{Every}
use Rattle.scattering.specs.Series.{Exp, det, z, key_mul, monomial, coef, SameTo, Key, key_eq}
use Rattle.scattering.specs.Plane.{Point}
use Rattle.scattering.specs.Wall.{Wall, IsWall, cut_walls, walls}
use Rattle.scattering.specs.LocalProduct.{image, carry, half_walls, axis_x, axis_y, IsConsistentAt}
use Rattle.scattering.specs.Correction.{Lie, ratio_at, IsCorrection, IsWhole, Ratio, raised}
use Rattle.crossing_theory.proofs.Translation.{Eq, Eq-trans, to_Eq}
use Rattle.crossing_theory.proofs.HalfWalls.{Proper, proper}
use Rattle.crossing_theory.proofs.OtherFunctions.{of_halves}
use Rattle.crossing_theory.proofs.LocalProductLaws.{carry-automorphism}
use Rattle.correction_theory.proofs.LogarithmicDerivative.{no-residue}
use Rattle.correction_theory.proofs.Correction.{built, right-everywhere}
use Rattle.completion_theory.proofs.RaisedDiagram.{lifted, cut-lifted, Given, givens, lifted-proper}
use Rattle.completion_theory.proofs.LowerOrders.{image-cut}
use Rattle.completion_theory.proofs.UniqueCompletion.{on_axis}
use Rattle.completion_theory.specs.Laws.{CorrectionExists, CorrectionIsWhole}
use Rattle.completion_theory.proofs.UniqueCorrection.{correction_is_unique}
use Rattle.sum_algebra.proofs.Ring.{nought, ring}
use Rattle.sum_algebra.proofs.Ring as E
use Rattle.sum_algebra.proofs.IntegerRing.{ints_ring, ◌:*◌, X}
use Rattle.scattering.proofs.Lists.{Every-from_In, Every-implies}
use Rattle.scattering.proofs.Keys.{key_eq-same}
use Rattle.scattering.proofs.Ratios.{ratio-own}

-- where both images are the identity below degree n + 1
pub correction : (n : ℕ) (ws : List Wall) (p : Point) → Every Proper ws → Eq n (image ws p (suc n) axis_x) (monomial (z axis_x)) → Eq n (image ws p (suc n) axis_y) (monomial (z axis_y)) → (h : Lie) × IsCorrection ws p (suc n) h × Every IsWhole h
correction n ws p pr ix iy =
    let hs = half_walls ws p in
    let q : Every (λ h. Proper h.wall) hs = of_halves Proper p ws pr in
    let b = built n (carry (suc n) hs) (carry-automorphism (suc n) hs q) (no-residue (suc n) hs q) ix iy in (
      b.h,
      record {
        ratios = b.ratios;
        nonzero = b.nonzero;
        distinct = b.distinct;
        degrees = b.degrees;
        bracket = λ m k i deg.
            let r = right-everywhere n (carry (suc n) hs) (carry-automorphism (suc n) hs q) (no-residue (suc n) hs q) ix iy k deg in
            on_axis (λ m. coef (image ws p (suc n) m) (key_mul k (z m)) *ℤ (ratio_at b.h k).den ≡ (ratio_at b.h k).num *ℤ det k.exp m) r.0 r.1 m i;
      },
      b.whole,
    )

at-next : (given rays : List Wall) (n : ℕ) (p : Point) → Every Given given → Every (IsWall n) rays → IsConsistentAt (cut_walls n given ++ rays) n p
    → (h : Lie) × IsCorrection (lifted n (suc n) given rays) p (suc n) h × Every IsWhole h
at-next given rays n p gs hr c = correction n ws p pr (low axis_x c.x) (low axis_y c.y)
  where
    ws : List Wall
    ws = lifted n (suc n) given rays

    pr : Every Proper (lifted n (suc n) given rays)
    pr = lifted-proper n (suc n) given rays gs (Every-implies _ Proper rays (λ r w. proper n r w) hr)

    low : (m : Exp) → SameTo n (image (cut_walls n given ++ rays) p n m) (monomial (z m)) → Eq n (image (lifted n (suc n) given rays) p (suc n) m) (monomial (z m))
    low m h =
        Eq-trans n _ (image (cut_walls n given ++ rays) p n m) _
        (subst (λ us. Eq n (image (lifted n (suc n) given rays) p (suc n) m) (image us p n m)) (cut-lifted n (suc n) (omega arith) given rays hr) (image-cut n (suc n) (omega arith) (lifted n (suc n) given rays) p m pr))
        (to_Eq n _ _ h)

pub correction_exists : CorrectionExists
correction_exists given n m e p le hg hk c ip =
    subst (λ j. (h : Lie) × IsCorrection (lifted n j given e.rays) p j h × Every IsWhole h) (sym (add-one n))
    (at-next given e.rays n p (givens m given hg hk) c.proper (subst (λ xs. IsConsistentAt (xs ++ e.rays) n p) c.initial (c.consistent p ip)))

-- ---- every correction is whole

pub whole-at : (h : Lie) → Every IsWhole h → (k : Key) → IsWhole (k, ratio_at h k)
whole-at [] w k = λ g _. (pos 0, ring ints_ring (pos g ∷ []) (nought :* E.unit) (nought :* X) refl)
whole-at (t ∷ h) w k = go (key_eq t.0 k) refl (whole-at h w.1 k)
  where
    go : (b : Bool) → key_eq t.0 k ≡ b → IsWhole (k, ratio_at h k) → IsWhole (k, ratio_at (t ∷ h) k)
    go true e ih = rw e (subst (λ (x : Key). IsWhole (x, t.1)) (key_eq-same t.0 k e) w.0)
    go false e ih = rw e ih

pub correction_is_whole : CorrectionIsWhole
correction_is_whole given n m e p h le hg hk c ip is =
    let r = correction_exists given n m e p le hg hk c ip in
    Every-from_In IsWhole h (λ t i.
    subst (λ (x : Ratio). IsWhole (t.0, x)) (correction_is_unique (walls (raised given n e)) p (n + 1) r.0 h r.1 is t.0 ∙ ratio-own h is.distinct t i) (whole-at r.0 r.2 t.0))
