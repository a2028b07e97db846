-- The leading part of a pair of images is what is read from them, and is one.
use Rattle.std.proofs.Common.{◌≡◌, ◌≢◌, ℕ, ◌<◌, ◌^◌, refl, sym, subst, ap, ◌∙◌, Bool, true, false, cond, [], ◌∷◌, ◌++◌, arith, inl, inr}
use Rattle.std.specs.Prelude.{ℤ, pos, ◌+ℤ◌, ◌-ℤ◌, ◌*ℤ◌, neg_ℤ, not, ◌&&◌, ◌==◌, nat_abs}
use Rattle.std.proofs.lemmas.Int.{ints}
use Rattle.sum_algebra.proofs.Ring.{minus, nought, unit, ring}
use Rattle.sum_algebra.proofs.IntegerRing.{ints_ring, ◌:+◌, ◌:*◌, ◌:-◌, X, Y, Z, W}
use Rattle.scattering.specs.Collections.{Every}
use Rattle.scattering.specs.Series.{Exp, Key, Term, Sum, Same, key_mul, z, degree, det, origin, int_eq, exp_eq, coef}
use Rattle.scattering.specs.LocalProduct.{axis_x, axis_y}
use Rattle.scattering.specs.Correction.{IsRatio, Lie, ratio_at}
use Rattle.scattering.proofs.Lists.{Every-implies, Every-append}
use Rattle.scattering.proofs.Pairing.{coef-append}
use Rattle.plane_theory.proofs.Directions.{cancel, positive-not}
use Rattle.completion_theory.proofs.UniqueCorrection.{same-element, IsTold, ratio-is}
use Rattle.trunc_series.specs.declared.arithmetic.Arithmetic.TheVariants.{Wrapping}
use Rattle.trunc_series.specs.Shown.{IsValid}
use Rattle.trunc_series.specs.Reduced.{IsKeptAs}
use Rattle.trunc_series.proofs.Coefficients.{coef-has, has-coef, apart-rising}
use Rattle.trunc_series.proofs.Exact.{own, exact-same}
use Rattle.trunc_series.proofs.PowerLaws.{reduced-keys}
use Rattle.vertex_lie.specs.declared.leading_part.Axis.TheVariants as axis
use Rattle.vertex_lie.specs.declared.leading_part.Reading.TheVariants.{X as OfX, RestOfY}
use Rattle.vertex_lie.specs.Shown.{IsElement}
use Rattle.vertex_lie.specs.Leading.{turn, IsLeading, IsLeadingPart, read_from, AreQuotients, IsDividend}
use Rattle.vertex_lie.proofs.OfKey.{distinct-rising}
use Rattle.vertex_lie.proofs.ReadTerms.{is_shown, read-series, read-small, read-keys, read-coef}
use Rattle.vertex_lie.proofs.Divided.{quotients-keys, quotients-rise, quotients-nonzero, quotients-ratio}

-- ---- one coefficient

vanishes : (x den num e : ℤ) → den ≢ pos 0 → x *ℤ den ≡ num *ℤ e → e ≡ pos 0 → x ≡ pos 0
vanishes x den num e n h q =
    cancel den x (pos 0) n
    (ring ints_ring (den ∷ x ∷ []) (X :* Y) (Y :* X) refl ∙ h ∙ ap (λ y. num *ℤ y) q ∙ ring ints_ring (num ∷ den ∷ []) (X :* nought) (Y :* nought) refl)

pub nothing : (x den num e : ℤ) → x ≡ pos 0 → e ≡ pos 0 → x *ℤ den ≡ num *ℤ e
nothing x den num e p q = ap (λ y. y *ℤ den) p ∙ ring ints_ring (den ∷ num ∷ []) (nought :* X) (Y :* nought) refl ∙ ap (λ y. num *ℤ y) (sym q)

-- what is read from the image of one axis tells that of the other
module _ (a b x y num den num0 den0 : ℤ) (below : den0 ≢ pos 0) (at_x : x *ℤ den0 ≡ num0 *ℤ (a *ℤ pos 0 -ℤ b *ℤ pos 1)) (at_y : y *ℤ den0 ≡ num0 *ℤ (a *ℤ pos 1 -ℤ b *ℤ pos 0)) where
  other : x *ℤ den ≡ num *ℤ (a *ℤ pos 0 -ℤ b *ℤ pos 1) → b ≢ pos 0 → y *ℤ den ≡ num *ℤ (a *ℤ pos 1 -ℤ b *ℤ pos 0)
  other e n =
      cancel b (y *ℤ den) (num *ℤ (a *ℤ pos 1 -ℤ b *ℤ pos 0)) n
      (cancel den0 (b *ℤ (y *ℤ den)) (b *ℤ (num *ℤ (a *ℤ pos 1 -ℤ b *ℤ pos 0))) below
      (ring ints_ring (b ∷ y ∷ den ∷ den0 ∷ []) (W :* (X :* (Y :* Z))) (X :* Z :* (Y :* W)) refl
      ∙ ap (λ v. b *ℤ den *ℤ v) at_y
      ∙ ring ints_ring (a ∷ b ∷ den ∷ num0 ∷ []) (Y :* Z :* (W :* (X :* unit :- Y :* nought))) (minus (X :* Z) :* (W :* (X :* nought :- Y :* unit))) refl
      ∙ ap (λ v. neg_ℤ (a *ℤ den) *ℤ v) (sym at_x)
      ∙ ring ints_ring (a ∷ x ∷ den ∷ den0 ∷ []) (minus (X :* Z) :* (Y :* W)) (minus (X :* W) :* (Y :* Z)) refl
      ∙ ap (λ v. neg_ℤ (a *ℤ den0) *ℤ v) e
      ∙ ring ints_ring (a ∷ b ∷ num ∷ den0 ∷ []) (minus (X :* W) :* (Z :* (X :* nought :- Y :* unit))) (W :* (Y :* (Z :* (X :* unit :- Y :* nought)))) refl))

  told : (p q : Bool) → int_eq b (pos 0) ≡ p → int_eq a (pos 0) ≡ q → num *ℤ cond p a (neg_ℤ b) ≡ (cond (not p) x (pos 0) +ℤ cond (p && not q) y (pos 0)) *ℤ den
      → (x *ℤ den ≡ num *ℤ (a *ℤ pos 0 -ℤ b *ℤ pos 1)) × (y *ℤ den ≡ num *ℤ (a *ℤ pos 1 -ℤ b *ℤ pos 0))
  told true true d e h =
      let s : a ≡ pos 0 = grind (arith, ints) in
      let r : b ≡ pos 0 = grind (arith, ints) in
      let u : a *ℤ pos 0 -ℤ b *ℤ pos 1 ≡ pos 0 = omega (arith, ints, r) in
      let v : a *ℤ pos 1 -ℤ b *ℤ pos 0 ≡ pos 0 = omega (arith, ints, s) in
      (nothing x den num _ (vanishes x den0 num0 _ below at_x u) u, nothing y den num _ (vanishes y den0 num0 _ below at_y v) v)
  told true false d e h =
      let r : b ≡ pos 0 = grind (arith, ints) in
      let u : a *ℤ pos 0 -ℤ b *ℤ pos 1 ≡ pos 0 = omega (arith, ints, r) in (
        nothing x den num _ (vanishes x den0 num0 _ below at_x u) u,
        ring ints_ring (y ∷ den ∷ []) (X :* Y) ((nought :+ X) :* Y) refl ∙ sym h ∙ ring ints_ring (num ∷ a ∷ b ∷ []) (X :* Y) (X :* (Y :* unit :- Z :* nought)) refl,
      )
  told false q d e h =
      let u : x *ℤ den ≡ num *ℤ (a *ℤ pos 0 -ℤ b *ℤ pos 1) = ring ints_ring (x ∷ den ∷ []) (X :* Y) ((X :+ nought) :* Y) refl ∙ sym h ∙ ring ints_ring (num ∷ a ∷ b ∷ []) (X :* minus Z) (X :* (Y :* nought :- Z :* unit)) refl in
      (u, other u (λ z. let w : int_eq b (pos 0) ≡ true = subst (λ (c : ℤ). int_eq c (pos 0) ≡ true) (sym z) refl in absurd (cc)))

-- ---- the terms that are read

picked : (d p q : Bool) (x y : ℤ) → nat_abs x < 2 ^ 127 → nat_abs y < 2 ^ 127 → nat_abs (cond (d && not p) x (pos 0) +ℤ cond (d && (p && not q)) y (pos 0)) < 2 ^ 127
picked false p q x y h k = omega arith
picked true true true x y h k = omega arith
picked true true false x y h k = omega (arith, ints, k)
picked true false q x y h k = omega (arith, ints, h)

module _ (l m : ℕ) (x y : Sum) (v : IsValid l x) (w : IsValid m y) (n : ℕ) (r : Sum) (h : Lie)
    (made : (o : ℕ) (f g : Sum) → IsKeptAs Wrapping o (read_from n OfX x) f → IsKeptAs Wrapping o (read_from n RestOfY y) g → IsKeptAs Wrapping o r (f ++ g)) where
  read : Sum
  read = read_from n OfX x ++ read_from n RestOfY y

  reduced : IsKeptAs Wrapping n r (read_from n OfX x ++ read_from n RestOfY y)
  reduced = made n _ _ (own n _ (read-series n OfX l x v.series) (read-small n OfX x v.small)) (own n _ (read-series n RestOfY m y w.series) (read-small n RestOfY y w.small))

  both : (k : Key) → coef (read_from n OfX x ++ read_from n RestOfY y) k ≡ cond (is_shown n OfX k) (coef x (key_mul k (z axis_x))) (pos 0) +ℤ cond (is_shown n RestOfY k) (coef y (key_mul k (z axis_y))) (pos 0)
  both k = coef-append (read_from n OfX x) (read_from n RestOfY y) k ∙ ap (λ c. c +ℤ coef (read_from n RestOfY y) k) (read-coef n OfX x k) ∙ ap (λ c. cond (is_shown n OfX k) (coef x (key_mul k (z axis_x))) (pos 0) +ℤ c) (read-coef n RestOfY y k)

  small-coef : (o : ℕ) (f : Sum) → IsValid o f → (k : Key) → nat_abs (coef f k) < 2 ^ 127
  small-coef o f u k = coef-has (λ c. nat_abs c < 2 ^ 127) f (omega arith) (apart-rising f u.series.rises) u.small k

  small : (k : Key) → nat_abs (coef (read_from n OfX x ++ read_from n RestOfY y) k) < 2 ^ 127
  small k = rw (both k) (picked (degree k == n) (int_eq k.exp.b (pos 0)) (int_eq k.exp.a (pos 0)) (coef x (key_mul k (z axis_x))) (coef y (key_mul k (z axis_y))) (small-coef l x v _) (small-coef m y w _))

  same : Same r (read_from n OfX x ++ read_from n RestOfY y)
  same = exact-same n r _ reduced small

  any : (f : Sum) → Every (λ t. Unit {0}) f
  any [] = tt
  any (t ∷ f) = (tt, any f)

  keys : Every (λ t. (degree t.0 ≡ n) × (t.0.exp ≢ origin)) r
  keys = reduced-keys Wrapping (λ k. (degree k ≡ n) × (k.exp ≢ origin)) n r _ reduced (Every-append (λ t. (degree t.0 ≡ n) × (t.0.exp ≢ origin)) _ _ (read-keys n OfX x (any x)) (read-keys n RestOfY y (any y)))

  smalls : Every (λ t. nat_abs t.1 < 2 ^ 127) r
  smalls = has-coef (λ c. nat_abs c < 2 ^ 127) r (omega arith) (apart-rising r reduced.series.rises) (λ k. rw (same k) (small k))

  pub dividends : Every IsDividend r
  dividends = both_of r keys smalls
    where
      both_of : (f : Sum) → Every (λ t. (degree t.0 ≡ n) × (t.0.exp ≢ origin)) f → Every (λ t. nat_abs t.1 < 2 ^ 127) f → Every IsDividend f
      both_of [] k s = tt
      both_of (t ∷ f) k s = ((k.0.1, s.0), both_of f k.1 s.1)

  module _ (q : AreQuotients (turn axis.X) r h) (ratios : Every (λ t. IsRatio t.1) h) where
    pub part-element : IsElement h
    part-element = record {
      rises = quotients-rise (turn axis.X) r h q reduced.series.rises;
      exponents = quotients-keys (turn axis.X) (λ k. k.exp ≢ origin) r h q (Every-implies (λ (t : Term). (degree t.0 ≡ n) × (t.0.exp ≢ origin)) (λ t. t.0.exp ≢ origin) r (λ t e. e.1) keys);
      nonzero = quotients-nonzero (turn axis.X) r h q ratios reduced.series.nonzero;
      ratios = ratios;
    }

    module _ (h0 : Lie) (e : IsLeading x y n h0) where
      at_both : (k : Key) → degree k ≡ n → (coef x (key_mul k (z axis_x)) *ℤ (ratio_at h k).den ≡ (ratio_at h k).num *ℤ det k.exp axis_x) × (coef y (key_mul k (z axis_y)) *ℤ (ratio_at h k).den ≡ (ratio_at h k).num *ℤ det k.exp axis_y)
      at_both k d =
          told k.exp.a k.exp.b (coef x (key_mul k (z axis_x))) (coef y (key_mul k (z axis_y))) (ratio_at h k).num (ratio_at h k).den (ratio_at h0 k).num (ratio_at h0 k).den
          (positive-not (ratio_at h0 k).den (ratio-is h0 e.ratios k).below) (e.at_x k d) (e.at_y k d) (int_eq k.exp.b (pos 0)) (int_eq k.exp.a (pos 0)) refl refl
          (quotients-ratio (turn axis.X) r h q (apart-rising r reduced.series.rises) k
          ∙ ap (λ c. c *ℤ (ratio_at h k).den) (same k ∙ both k ∙ ap (λ (t : Bool). cond (t && not (int_eq k.exp.b (pos 0))) (coef x (key_mul k (z axis_x))) (pos 0) +ℤ cond (t && (int_eq k.exp.b (pos 0) && not (int_eq k.exp.a (pos 0)))) (coef y (key_mul k (z axis_y))) (pos 0)) (equal d)))
        where
          equal : degree k ≡ n → (degree k == n) ≡ true
          equal d = grind arith

      pub part-leading : IsLeading x y n h
      part-leading = record {
        ratios = ratios;
        nonzero = part-element.nonzero;
        distinct = distinct-rising h part-element.rises;
        degrees = quotients-keys (turn axis.X) (λ k. (degree k ≡ n) × (k.exp ≢ origin)) r h q keys;
        at_x = λ k d. (at_both k d).0;
        at_y = λ k d. (at_both k d).1;
      }

-- ---- it is one

abbrev told_by : Sum → Sum → Exp → Key → ℤ
told_by x y m k = cond (exp_eq m axis_x) (coef x (key_mul k (z m))) (coef y (key_mul k (z m)))

is-told : (x y : Sum) (n : ℕ) (h : Lie) → IsLeading x y n h → IsTold (told_by x y) n h
is-told x y n h e m k (inl i) d = subst (λ (o : Exp). told_by x y o k *ℤ (ratio_at h k).den ≡ (ratio_at h k).num *ℤ det k.exp o) (sym i) (e.at_x k d)
is-told x y n h e m k (inr (inl i)) d = subst (λ (o : Exp). told_by x y o k *ℤ (ratio_at h k).den ≡ (ratio_at h k).num *ℤ det k.exp o) (sym i) (e.at_y k d)
is-told x y n h e m k (inr (inr i)) d = absurd i

pub leading-one : (x y : Sum) (n : ℕ) (h h' : Lie) → IsLeading x y n h → IsLeading x y n h' → (k : Key) → ratio_at h k ≡ ratio_at h' k
leading-one x y n h h' a b = same-element (told_by x y) n h h' a.ratios b.ratios a.degrees b.degrees (is-told x y n h a) (is-told x y n h' b)

pub leading-part : (x y : Sum) (n : ℕ) (h : Lie) → IsLeading x y n h → IsLeadingPart x y n h
leading-part x y n h e = record { leading = e; only = λ h' f k. leading-one x y n h' h f e k }
