-- The coefficients of rays in order: of the one ray at a place.
use Rattle.std.proofs.Common.{◌≡◌, ◌≢◌, refl, subst, sym, List, [], ◌∷◌, Bool, true, false, inl, inr, ◌⊎◌}
use Rattle.std.specs.Prelude.{pos, ◌&&◌, ◌||◌, IsTrue}
use Rattle.sum_algebra.proofs.Ring.{nought, ring}
use Rattle.sum_algebra.proofs.IntegerRing.{ints_ring, ◌:+◌, X}
use Rattle.scattering.specs.Collections.{In, Every, EveryPair}
use Rattle.scattering.specs.Series.{Key, Exp, rest, coef, exp_eq, exp_before}
use Rattle.scattering.specs.Plane.{Point, point_eq, point_before}
use Rattle.scattering.specs.Wall.{Wall}
use Rattle.scattering.specs.Completion.{ray_before}
use Rattle.scattering.specs.Correction.{ray_coef}
use Rattle.scattering.proofs.Lists.{Every-implies, Every-at, and-both}
use Rattle.scattering.proofs.Keys.{point_eq-refl, exp_eq-refl, point_eq-same, exp_eq-same}
use Rattle.scattering.proofs.Tests.{bool_cases}
use Rattle.plane_theory.proofs.StrictOrder.{ray_before-asym}

abbrev pub RaysRise : List Wall → Type 0
RaysRise rays = EveryPair (λ (r s : Wall). IsTrue (ray_before r s)) rays

abbrev matches : Wall → Point → Exp → Bool
matches r p d = point_eq r.at p && exp_eq r.dir d

ray_coef-none : (rays : List Wall) (p : Point) (d : Exp) (k : Key) → Every (λ r. matches r p d ≡ false) rays → ray_coef rays p d k ≡ pos 0
ray_coef-none [] p d k h = refl
ray_coef-none (r ∷ rays) p d k h = rw (h.0, ray_coef-none rays p d k h.1) refl

matches-same : (r s : Wall) → matches r s.at s.dir ≡ true → (r.at ≡ s.at) × (r.dir ≡ s.dir)
matches-same r s e = let b = and-both (point_eq r.at s.at) (exp_eq r.dir s.dir) e in (point_eq-same r.at s.at b.0, exp_eq-same r.dir s.dir b.1)

irreflexive : (r s : Wall) → IsTrue (ray_before r s) → r.at ≡ s.at → r.dir ≡ s.dir → ⊥
irreflexive r s h e q =
    let a : ray_before s s ≡ true = subst (λ (p : Point). (point_before p s.at || (point_eq p s.at && exp_before s.dir s.dir)) ≡ true) e (subst (λ (d : Exp). (point_before r.at s.at || (point_eq r.at s.at && exp_before d s.dir)) ≡ true) q h) in
    ray_before-asym s s a a

later : (r s : Wall) → IsTrue (ray_before r s) → matches s r.at r.dir ≡ false
later r s h = go (bool_cases (matches s r.at r.dir))
  where
    go : (matches s r.at r.dir ≡ true) ⊎ (matches s r.at r.dir ≡ false) → matches s r.at r.dir ≡ false
    go (inr e) = e
    go (inl e) = let q = matches-same s r e in absurd (irreflexive r s h (sym q.0) (sym q.1))

earlier : (r s : Wall) → IsTrue (ray_before r s) → matches r s.at s.dir ≡ false
earlier r s h = go (bool_cases (matches r s.at s.dir))
  where
    go : (matches r s.at s.dir ≡ true) ⊎ (matches r s.at s.dir ≡ false) → matches r s.at s.dir ≡ false
    go (inr e) = e
    go (inl e) = let q = matches-same r s e in absurd (irreflexive r s h q.0 q.1)

matches-own : (p : Point) (d : Exp) → (point_eq p p && exp_eq d d) ≡ true
matches-own p d = rw (point_eq-refl p, exp_eq-refl d) refl

pub ray_coef-own : (rays : List Wall) → RaysRise rays → (r : Wall) → In r rays → (k : Key) → ray_coef rays r.at r.dir k ≡ coef (rest r.function) k
ray_coef-own [] h r i k = absurd i
ray_coef-own (s ∷ rays) h r (inl e) k =
    subst (λ (w : Wall). ray_coef (s ∷ rays) w.at w.dir k ≡ coef (rest w.function) k) (sym e)
    (rw (matches-own s.at s.dir, ray_coef-none rays s.at s.dir k (Every-implies _ (λ w. matches w s.at s.dir ≡ false) rays (λ w b. later s w b) h.0)) (ring ints_ring (coef (rest s.function) k ∷ []) (X :+ nought) X refl))
ray_coef-own (s ∷ rays) h r (inr i) k =
    rw (earlier s r (Every-at (λ w. IsTrue (ray_before s w)) rays r h.0 i), ray_coef-own rays h.1 r i k) (ring ints_ring (coef (rest r.function) k ∷ []) (nought :+ X) X refl)

pub ray_coef-find : (rays : List Wall) (p : Point) (d : Exp) (k : Key) → ray_coef rays p d k ≢ pos 0 → (r : Wall) × In r rays × (r.at ≡ p) × (r.dir ≡ d)
ray_coef-find [] p d k h = absurd (h refl)
ray_coef-find (r ∷ rays) p d k h = go (matches r p d) refl (ray_coef-find rays p d k)
  where
    go : (b : Bool) → matches r p d ≡ b → (ray_coef rays p d k ≢ pos 0 → (s : Wall) × In s rays × (s.at ≡ p) × (s.dir ≡ d)) → (s : Wall) × In s (r ∷ rays) × (s.at ≡ p) × (s.dir ≡ d)
    go true e f = let b = and-both (point_eq r.at p) (exp_eq r.dir d) e in (r, inl refl, point_eq-same r.at p b.0, exp_eq-same r.dir d b.1)
    go false e f = let s = f (λ z. h (rw e (rw z refl))) in (s.0, inr s.1, s.2, s.3)
