-- Where two supports meet, by the formula of the common point of their lines.
use Rattle.std.proofs.Common.{◌≡◌, ◌≢◌, sym, subst, arith, ◌⊎◌, inl, inr, Option, Some, None}
use Rattle.std.specs.Prelude.{ℤ, pos, ◌-ℤ◌, neg_ℤ, ◌≤ℤ◌}
use Rattle.std.proofs.lemmas.Int.{ints}
use Rattle.scattering.proofs.Ring.{dif-up, dif-add, dif-neg, dif-mul, dif-same}
use Rattle.scattering.specs.Series.{Exp, origin, det}
use Rattle.scattering.specs.Plane.{Point, IsPoint, IsNear, difference}
use Rattle.plane_theory.proofs.Points.{line-test, from-test}
use Rattle.plane_theory.proofs.Directions.{direction-not_origin}
use Rattle.plane_theory.proofs.Reduction.{reduce}
use Rattle.plane_theory.proofs.Meetings.{numer, IsMeeting as IsCrossing, meets, meeting-first, meeting-second, meeting-ahead, formula-meets, meet_x, meet_y, meet_w}
use Rattle.plane_theory.proofs.WholeNumbers.{sign}
use Rattle.plane_geom.specs.declared.Point.{Point as CodePoint}
use Rattle.plane_geom.specs.declared.Support.{Support}
use Rattle.plane_geom.specs.declared.Support.TheVariants.{Line, Half}
use Rattle.plane_geom.specs.Shown.{point_of, vector_of, support_at, support_dir, OnSupport, HoldsAt, IsQuotient, IsCommon}
use Rattle.plane_geom.proofs.Quotients.{quotient-turned, not-zero}

pub weight : (s : Support) → pos 1 ≤ℤ (support_at s).w
weight (Line p d) = p.reduced.below
weight (Half p d) = p.reduced.below

pub moves : (s : Support) → support_dir s ≢ origin
moves (Line p d) = direction-not_origin (vector_of d) d.primitive
moves (Half p d) = direction-not_origin (vector_of d) d.primitive

-- a point of a support is on its line
pub flat : (s : Support) (q : Point) → pos 1 ≤ℤ q.w → OnSupport s q → det (support_dir s) (difference (support_at s) q) ≡ pos 0
flat (Line p d) q v h = (line-test (point_of p) (vector_of d) q p.reduced.below v (direction-not_origin (vector_of d) d.primitive)).1 h
flat (Half p d) q v h = (from-test (point_of p) (vector_of d) q p.reduced.below v h).0

-- the common point of a support's line and another is on the support where the support holds that place
module _ (r : Point) (e : Exp) (q : Point) (rw' : pos 1 ≤ℤ r.w) (qw : pos 1 ≤ℤ q.w) where
  pub on-place : (s : Support) → det (support_dir s) e ≢ pos 0 → IsCrossing (support_at s) (support_dir s) r e q → OnSupport s q → HoldsAt s (numer (support_at s) r e) (det (support_dir s) e)
  on-place (Line p d) n h o = tt
  on-place (Half p d) n h o = (meeting-ahead (point_of p) (vector_of d) r e q p.reduced.below rw' qw (direction-not_origin (vector_of d) d.primitive) n h).0 o

  pub place-on : (s : Support) → det (support_dir s) e ≢ pos 0 → IsCrossing (support_at s) (support_dir s) r e q → HoldsAt s (numer (support_at s) r e) (det (support_dir s) e) → OnSupport s q
  place-on (Line p d) n h k = (line-test (point_of p) (vector_of d) q p.reduced.below qw (direction-not_origin (vector_of d) d.primitive)).0 (meeting-first (point_of p) (vector_of d) r e q rw' n h)
  place-on (Half p d) n h k = (meeting-ahead (point_of p) (vector_of d) r e q p.reduced.below rw' qw (direction-not_origin (vector_of d) d.primitive) n h).1 k

pub det-back : (d e : Exp) → det e d ≡ neg_ℤ (det d e)
det-back d e = rw (dif-up d.a, dif-up d.b, dif-up e.a, dif-up e.b) (simp (dif-mul, dif-add, dif-neg) (dif-same _ _ _ _ (omega arith)))

module _ (s t : Support) (n : det (support_dir s) (support_dir t) ≢ pos 0) where
  back : det (support_dir t) (support_dir s) ≢ pos 0
  back e = n (let b = det-back (support_dir t) (support_dir s) in omega (arith, ints, b, e))

  -- the two places
  abbrev pub FirstHolds : Type 0
  FirstHolds = HoldsAt s (numer (support_at s) (support_at t) (support_dir t)) (det (support_dir s) (support_dir t))

  abbrev pub SecondHolds : Type 0
  SecondHolds = HoldsAt t (numer (support_at t) (support_at s) (support_dir s)) (neg_ℤ (det (support_dir s) (support_dir t)))

  module _ (q : Point) (i : IsPoint q) where
    pub first-holds : OnSupport s q → OnSupport t q → FirstHolds
    first-holds a b =
        on-place (support_at t) (support_dir t) q (weight t) i.below s n (meets (support_at s) (support_dir s) (support_at t) (support_dir t) q (flat s q i.below a) (flat t q i.below b)) a

    pub second-holds : OnSupport s q → OnSupport t q → SecondHolds
    second-holds a b =
        subst (λ (z : ℤ). HoldsAt t (numer (support_at t) (support_at s) (support_dir s)) z) (det-back (support_dir s) (support_dir t))
        (on-place (support_at s) (support_dir s) q (weight s) i.below t back (meets (support_at t) (support_dir t) (support_at s) (support_dir s) q (flat t q i.below b) (flat s q i.below a)) b)

    pub both-on : IsCrossing (support_at s) (support_dir s) (support_at t) (support_dir t) q → FirstHolds → SecondHolds → OnSupport s q × OnSupport t q
    both-on h a b =
        let u = meeting-first (support_at s) (support_dir s) (support_at t) (support_dir t) q (weight t) n h in
        let v = meeting-second (support_at s) (support_dir s) (support_at t) (support_dir t) q (weight s) n h in (
          place-on (support_at t) (support_dir t) q (weight t) i.below s n h a,
          place-on (support_at s) (support_dir s) q (weight s) i.below t back (meets (support_at t) (support_dir t) (support_at s) (support_dir s) q v u)
              (subst (λ (z : ℤ). HoldsAt t (numer (support_at t) (support_at s) (support_dir s)) z) (sym (det-back (support_dir s) (support_dir t))) b),
        )

  pub not-both : (FirstHolds → SecondHolds → ⊥) → (q : Point) → IsPoint q → OnSupport s q → OnSupport t q → ⊥
  not-both f q i a b = f (first-holds q i a b) (second-holds q i a b)

  -- the numbers of the common point
  abbrev pub IsMet : Point → Type 0
  IsMet q = IsQuotient (meet_x (support_at s) (support_dir s) (support_at t) (support_dir t)) (meet_y (support_at s) (support_dir s) (support_at t) (support_dir t)) (meet_w (support_at s) (support_dir s) (support_at t) (support_dir t)) q

  pub met-on : (q : Point) → IsMet q → FirstHolds → SecondHolds → OnSupport s q × OnSupport t q
  met-on q h a b = both-on q h.0 (formula-meets (support_at s) (support_dir s) (support_at t) (support_dir t) q h.1 h.2) a b

  exists : (x y w : ℤ) → w ≢ pos 0 → (q : Point) × IsQuotient x y w q
  exists x y w n = go (sign w)
    where
      go : (w ≡ pos 0) ⊎ ((pos 1 ≤ℤ w) ⊎ (pos 1 ≤ℤ neg_ℤ w)) → (q : Point) × IsQuotient x y w q
      go (inl e) = absurd (n e)
      go (inr (inl l)) = let r = reduce x y w l in (r.point, (r.is, r.first, r.second))
      go (inr (inr l)) = let r = reduce (pos 0 -ℤ x) (pos 0 -ℤ y) (pos 0 -ℤ w) (omega (arith, ints, l)) in (r.point, quotient-turned x y w r.point (r.is, r.first, r.second))

  pub met-somewhere : FirstHolds → SecondHolds → (q : Point) × IsPoint q × OnSupport s q × OnSupport t q
  met-somewhere a b =
      let e = exists (meet_x (support_at s) (support_dir s) (support_at t) (support_dir t)) (meet_y (support_at s) (support_dir s) (support_at t) (support_dir t)) (meet_w (support_at s) (support_dir s) (support_at t) (support_dir t)) (not-zero _ _ _ (weight s) (weight t) n) in
      let o = met-on e.0 e.1 a b in
      (e.0, e.1.0, o.0, o.1)

  pub far-on : ((q : Point) → IsMet q → IsNear q → ⊥) → FirstHolds → SecondHolds → (q : Point) × IsPoint q × OnSupport s q × OnSupport t q × (IsNear q → ⊥)
  far-on f a b =
      let e = exists (meet_x (support_at s) (support_dir s) (support_at t) (support_dir t)) (meet_y (support_at s) (support_dir s) (support_at t) (support_dir t)) (meet_w (support_at s) (support_dir s) (support_at t) (support_dir t)) (not-zero _ _ _ (weight s) (weight t) n) in
      let o = met-on e.0 e.1 a b in
      (e.0, e.1.0, o.0, o.1, f e.0 e.1)

  pub met-found : (o : Option CodePoint) (q : CodePoint) → o ≡ Some q → IsCommon (support_at s) (support_dir s) (support_at t) (numer (support_at s) (support_at t) (support_dir t)) (det (support_dir s) (support_dir t)) o → IsMet (point_of q)
  met-found o q e h = subst (λ (x : Option CodePoint). IsCommon (support_at s) (support_dir s) (support_at t) (numer (support_at s) (support_at t) (support_dir t)) (det (support_dir s) (support_dir t)) x) e h

  pub met-far : (o : Option CodePoint) → o ≡ None → IsCommon (support_at s) (support_dir s) (support_at t) (numer (support_at s) (support_at t) (support_dir t)) (det (support_dir s) (support_dir t)) o → (q : Point) → IsMet q → IsNear q → ⊥
  met-far o e h = subst (λ (x : Option CodePoint). IsCommon (support_at s) (support_dir s) (support_at t) (numer (support_at s) (support_at t) (support_dir t)) (det (support_dir s) (support_dir t)) x) e h

pub holds-along : (s : Support) (n t n' t' : ℤ) → n ≡ n' → t ≡ t' → HoldsAt s n t → HoldsAt s n' t'
holds-along s n t n' t' e f h = subst (λ (x : ℤ). HoldsAt s x t') e (subst (λ (y : ℤ). HoldsAt s n y) f h)

pub common-along : (p p' : Point) (d d' : Exp) (r r' : Point) (n n' t t' : ℤ) (o : Option CodePoint) → p ≡ p' → d ≡ d' → r ≡ r' → n ≡ n' → t ≡ t' → IsCommon p d r n t o → IsCommon p' d' r' n' t' o
common-along p p' d d' r r' n n' t t' o a b e f g h =
    subst (λ (x : Point). IsCommon x d' r' n' t' o) a (subst (λ (x : Exp). IsCommon p x r' n' t' o) b (subst (λ (x : Point). IsCommon p d x n' t' o) e
    (subst (λ (x : ℤ). IsCommon p d r x t' o) f (subst (λ (x : ℤ). IsCommon p d r n x o) g h))))
