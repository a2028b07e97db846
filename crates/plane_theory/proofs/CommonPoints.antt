-- Two lines that aren't parallel have one common point.
use Rattle.std.proofs.Common.{◌≡◌, ◌≢◌, ◌⊎◌, inl, inr, arith}
use Rattle.std.specs.Prelude.{ℤ, pos, ◌*ℤ◌, neg_ℤ, ◌≤ℤ◌}
use Rattle.std.proofs.lemmas.Int.{ints}
use Rattle.scattering.proofs.Ring.{dif-up, dif-neg, dif-mul, dif-same}
use Rattle.scattering.specs.Series.{Exp, det}
use Rattle.scattering.specs.Plane.{Point, IsPoint, difference}
use Rattle.plane_theory.proofs.WholeNumbers.{sign}
use Rattle.plane_theory.proofs.Meetings.{meet_w, meet_x, meet_y, IsMeeting, meets, formula-meets, meeting-first, meeting-second, one-meeting}
use Rattle.plane_theory.proofs.Reduction.{reduce}
use Rattle.sum_algebra.proofs.Integers.{positive-mul}

pub record IsCommon (p : Point) (d : Exp) (r : Point) (e : Exp) (q : Point) : Type 0 where
  pub point : IsPoint q
  pub first : det d (difference p q) ≡ pos 0
  pub second : det e (difference r q) ≡ pos 0

-- a·(-b) = (-c)·d gives a·b = c·d
unsign : (a b c d : ℤ) → a *ℤ neg_ℤ b ≡ neg_ℤ c *ℤ d → a *ℤ b ≡ c *ℤ d
unsign a b c d h = let x = minus a b in let y = minus' c d in omega (arith, ints, h, x, y)
  where
    minus : (a b : ℤ) → a *ℤ neg_ℤ b ≡ neg_ℤ (a *ℤ b)
    minus a b = rw (dif-up a, dif-up b) (simp (dif-mul, dif-neg) (dif-same _ _ _ _ (omega arith)))

    minus' : (a b : ℤ) → neg_ℤ a *ℤ b ≡ neg_ℤ (a *ℤ b)
    minus' a b = rw (dif-up a, dif-up b) (simp (dif-mul, dif-neg) (dif-same _ _ _ _ (omega arith)))

minus-right : (a b : ℤ) → a *ℤ neg_ℤ b ≡ neg_ℤ (a *ℤ b)
minus-right a b = rw (dif-up a, dif-up b) (simp (dif-mul, dif-neg) (dif-same _ _ _ _ (omega arith)))

pub common : (p : Point) (d : Exp) (r : Point) (e : Exp) → IsPoint p → IsPoint r → det d e ≢ pos 0 → (q : Point) × IsCommon p d r e q
common p d r e i j n = go (sign (det d e))
  where
    found : (q : Point) → IsPoint q → IsMeeting p d r e q → (s : Point) × IsCommon p d r e s
    found q k m = (q, record { point = k; first = meeting-first p d r e q j.below n m; second = meeting-second p d r e q i.below n m })

    go : (det d e ≡ pos 0) ⊎ ((pos 1 ≤ℤ det d e) ⊎ (pos 1 ≤ℤ neg_ℤ (det d e))) → (q : Point) × IsCommon p d r e q
    go (inl z) = absurd (n z)
    go (inr (inl l)) =
        let q = reduce (meet_x p d r e) (meet_y p d r e) (meet_w p d r e) (positive-mul (p.w *ℤ r.w) (det d e) (positive-mul p.w r.w i.below j.below) l) in
        found q.point q.is (formula-meets p d r e q.point q.first q.second)
    go (inr (inr l)) =
        let w : pos 1 ≤ℤ neg_ℤ (meet_w p d r e) = (let t = positive-mul (p.w *ℤ r.w) (neg_ℤ (det d e)) (positive-mul p.w r.w i.below j.below) l in let m = minus-right (p.w *ℤ r.w) (det d e) in omega (arith, ints, t, m)) in
        let q = reduce (neg_ℤ (meet_x p d r e)) (neg_ℤ (meet_y p d r e)) (neg_ℤ (meet_w p d r e)) w in
        found q.point q.is
        (formula-meets p d r e q.point (unsign q.point.x (meet_w p d r e) (meet_x p d r e) q.point.w q.first) (unsign q.point.y (meet_w p d r e) (meet_y p d r e) q.point.w q.second))

pub common-unique : (p : Point) (d : Exp) (r : Point) (e : Exp) (q s : Point) → IsPoint p → IsPoint r → det d e ≢ pos 0 → IsCommon p d r e q → IsCommon p d r e s → q ≡ s
common-unique p d r e q s i j n h k = one-meeting p d r e q s i j n h.point k.point (meets p d r e q h.first h.second) (meets p d r e s k.first k.second)
