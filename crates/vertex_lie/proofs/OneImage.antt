-- What is read of the image of one axis' monomial.
use Rattle.std.proofs.Common.{◌≡◌, ◌≢◌, ℕ, ◌<◌, ◌^◌, refl, sym, ap, ◌∙◌, Bool, true, false, cond, [], ◌∷◌, arith}
use Rattle.std.specs.Prelude.{ℤ, pos, ◌-ℤ◌, ◌*ℤ◌, neg_ℤ, not, ◌&&◌, ◌==◌, nat_abs}
use Rattle.std.proofs.lemmas.Int.{ints}
use Rattle.sum_algebra.proofs.Ring.{minus, nought, unit, ring}
use Rattle.sum_algebra.proofs.IntegerRing.{ints_ring, ◌:*◌, ◌:-◌, X, Y, Z}
use Rattle.scattering.specs.Collections.{Every}
use Rattle.scattering.specs.Series.{Key, Term, Sum, key_mul, z, degree, det, origin, int_eq, coef}
use Rattle.scattering.specs.LocalProduct.{axis_x, axis_y}
use Rattle.scattering.specs.Correction.{IsRatio, Lie, ratio_at}
use Rattle.scattering.proofs.Lists.{Every-implies, and-right}
use Rattle.trunc_series.proofs.Coefficients.{apart-rising}
use Rattle.trunc_series.specs.Shown.{IsValid}
use Rattle.vertex_lie.specs.declared.leading_part.Axis.{Axis}
use Rattle.vertex_lie.specs.declared.leading_part.Axis.TheVariants as axes
use Rattle.vertex_lie.specs.declared.leading_part.Reading.TheVariants as reading
use Rattle.vertex_lie.specs.Shown.{IsElement}
use Rattle.vertex_lie.specs.Leading.{axis_of, reading_of, is_read, turn, read_from, AreQuotients, IsDividend, IsLeadingAlong, HasNothingAlong}
use Rattle.vertex_lie.proofs.OfKey.{distinct-rising}
use Rattle.vertex_lie.proofs.ReadTerms.{degree-is, read-every, read-series, read-small, read-keys, read-coef}
use Rattle.vertex_lie.proofs.Divided.{quotients-keys, quotients-rise, quotients-nonzero, quotients-ratio}
use Rattle.vertex_lie.proofs.LeadingParts.{nothing}

-- ---- one coefficient

along-x : (a b x num den : ℤ) (p : Bool) → int_eq b (pos 0) ≡ p → (a *ℤ pos 0 -ℤ b *ℤ pos 1 ≡ pos 0 → x ≡ pos 0) → num *ℤ cond p a (neg_ℤ b) ≡ cond (not p) x (pos 0) *ℤ den
    → x *ℤ den ≡ num *ℤ (a *ℤ pos 0 -ℤ b *ℤ pos 1)
along-x a b x num den true e h q =
    let s : b ≡ pos 0 = grind (arith, ints) in
    let u : a *ℤ pos 0 -ℤ b *ℤ pos 1 ≡ pos 0 = omega (arith, ints, s) in
    nothing x den num _ (h u) u
along-x a b x num den false e h q = sym q ∙ ring ints_ring (num ∷ a ∷ b ∷ []) (X :* minus Z) (X :* (Y :* nought :- Z :* unit)) refl

along-y : (a b x num den : ℤ) (p : Bool) → int_eq a (pos 0) ≡ p → (a *ℤ pos 1 -ℤ b *ℤ pos 0 ≡ pos 0 → x ≡ pos 0) → num *ℤ cond p (neg_ℤ b) a ≡ cond (not p) x (pos 0) *ℤ den
    → x *ℤ den ≡ num *ℤ (a *ℤ pos 1 -ℤ b *ℤ pos 0)
along-y a b x num den true e h q =
    let s : a ≡ pos 0 = grind (arith, ints) in
    let u : a *ℤ pos 1 -ℤ b *ℤ pos 0 ≡ pos 0 = omega (arith, ints, s) in
    nothing x den num _ (h u) u
along-y a b x num den false e h q = sym q ∙ ring ints_ring (num ∷ a ∷ b ∷ []) (X :* Y) (X :* (Y :* unit :- Z :* nought)) refl

told-along : (axis : Axis) (k : Key) (x num den : ℤ) → (det k.exp (axis_of axis) ≡ pos 0 → x ≡ pos 0) → num *ℤ turn axis k.exp ≡ cond (is_read (reading_of axis) k) x (pos 0) *ℤ den
    → x *ℤ den ≡ num *ℤ det k.exp (axis_of axis)
told-along axes.X k x num den h q = along-x k.exp.a k.exp.b x num den (int_eq k.exp.b (pos 0)) refl h q
told-along axes.Y k x num den h q = along-y k.exp.a k.exp.b x num den (int_eq k.exp.a (pos 0)) refl h q

read-turns : (axis : Axis) (k : Key) → is_read (reading_of axis) k ≡ true → det (axis_of axis) k.exp ≢ pos 0
read-turns axes.X k h d = absurd (grind (arith, ints))
read-turns axes.Y k h d = absurd (grind (arith, ints))

-- ---- all of them

module _ (axis : Axis) (l n : ℕ) (x : Sum) (v : IsValid l x) where
  any : (f : Sum) → Every (λ t. Unit {0}) f
  any [] = tt
  any (t ∷ f) = (tt, any f)

  r : Sum
  r = read_from n (reading_of axis) x

  pub dividends : Every IsDividend (read_from n (reading_of axis) x)
  dividends = both_of (read_from n (reading_of axis) x) (read-keys n (reading_of axis) x (any x)) (read-small n (reading_of axis) x v.small)
    where
      both_of : (f : Sum) → Every (λ t. (degree t.0 ≡ n) × (t.0.exp ≢ origin)) f → Every (λ t. nat_abs t.1 < 2 ^ 127) f → Every IsDividend f
      both_of [] k s = tt
      both_of (t ∷ f) k s = ((k.0.1, s.0), both_of f k.1 s.1)

  module _ (h : Lie) (q : AreQuotients (turn axis) (read_from n (reading_of axis) x) h) (ratios : Every (λ t. IsRatio t.1) h) where
    pub along-element : IsElement h
    along-element =
        let s = read-series n (reading_of axis) l x v.series in
        let keys = read-keys n (reading_of axis) x (any x) in
        record {
          rises = quotients-rise (turn axis) _ h q s.rises;
          exponents = quotients-keys (turn axis) (λ k. k.exp ≢ origin) _ h q (Every-implies (λ (t : Term). (degree t.0 ≡ n) × (t.0.exp ≢ origin)) (λ t. t.0.exp ≢ origin) _ (λ t e. e.1) keys);
          nonzero = quotients-nonzero (turn axis) _ h q ratios s.nonzero;
          ratios = ratios;
        }

    turns : Every (λ t. (degree t.0 ≡ n) × (det (axis_of axis) t.0.exp ≢ pos 0)) (read_from n (reading_of axis) x)
    turns =
        read-every n (reading_of axis) (λ t. Unit {0}) (λ t. (degree t.0 ≡ n) × (det (axis_of axis) t.0.exp ≢ pos 0))
        (λ t e s. (degree-is (degree t.0) n _ e, read-turns axis _ (and-right _ _ e))) x (any x)

    pub leading-along : HasNothingAlong x n (axis_of axis) → IsLeadingAlong x n (axis_of axis) h
    leading-along edge = record {
      ratios = ratios;
      nonzero = along-element.nonzero;
      distinct = distinct-rising h along-element.rises;
      degrees = quotients-keys (turn axis) (λ k. (degree k ≡ n) × (det (axis_of axis) k.exp ≢ pos 0)) _ h q turns;
      bracket = λ k d. told-along axis k (coef x (key_mul k (z (axis_of axis)))) (ratio_at h k).num (ratio_at h k).den (edge k d)
          (quotients-ratio (turn axis) _ h q (apart-rising _ (read-series n (reading_of axis) l x v.series).rises) k
          ∙ ap (λ c. c *ℤ (ratio_at h k).den) (read k d));
    }
      where
        equal : (k : Key) → degree k ≡ n → (degree k == n) ≡ true
        equal k d = grind arith

        read : (k : Key) → degree k ≡ n → coef (read_from n (reading_of axis) x) k ≡ cond (is_read (reading_of axis) k) (coef x (key_mul k (z (axis_of axis)))) (pos 0)
        read k d = go axis
          where
            go : (a : Axis) → coef (read_from n (reading_of a) x) k ≡ cond (is_read (reading_of a) k) (coef x (key_mul k (z (axis_of a)))) (pos 0)
            go axes.X = read-coef n reading.X x k ∙ ap (λ (t : Bool). cond (t && not (int_eq k.exp.b (pos 0))) (coef x (key_mul k (z axis_x))) (pos 0)) (equal k d)
            go axes.Y = read-coef n reading.Y x k ∙ ap (λ (t : Bool). cond (t && not (int_eq k.exp.a (pos 0))) (coef x (key_mul k (z axis_y))) (pos 0)) (equal k d)
