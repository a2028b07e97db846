-- A local product that is the identity below degree n + 1 has one correction, and it is whole.
use Rattle.std.proofs.Common.{◌≡◌, ◌≢◌, ℕ, suc, refl, subst, sym, ◌∙◌, ap, List, [], ◌∷◌, ◌++◌, map, Bool, true, false, cond, ◌≤◌, ◌+◌, arith, inl, inr, ◌⊎◌}
use Rattle.std.specs.Prelude.{ℤ, pos, ◌+ℤ◌, ◌-ℤ◌, ◌*ℤ◌, neg_ℤ, ◌≤ℤ◌, nat_abs, ◌||◌}
use Rattle.std.specs.List.{list_any}
use Rattle.std.proofs.lemmas.Nat.Gcd.{same_from_IsGcd, dvd_refl, dvd-zero}
use Rattle.std.specs.Int.{IsGcd}
use Rattle.std.proofs.lemmas.Int.{ints}
use mathlib.Core.Quot.{mk, sound}
use Rattle.sum_algebra.proofs.Ring.{var, plus, times, minus, nought, ring}
use Rattle.sum_algebra.proofs.Ring as E
use Rattle.sum_algebra.proofs.IntegerRing.{ints_ring, ◌:+◌, ◌:*◌, ◌:-◌, X, Y, Z, inverse_unique}
use Rattle.sum_algebra.proofs.Sums as S
use Rattle.sum_algebra.proofs.Sums.{Same, pair, pair-ext, pair-factor}
use Rattle.sum_algebra.proofs.Quotient.{modulo_ring, exact}
use Rattle.sum_algebra.proofs.SmallCrossings.{Same-lower}
use Rattle.sum_algebra.proofs.Coefficients.{indicator}
use Rattle.sum_algebra.proofs.Bracket.{pair-theta}
use Rattle.scattering.specs.Collections.{In, Every, EveryPair}
use Rattle.scattering.specs.Series.{Key, Sum, Exp, Powers, Term, degree, det, z, key_mul, key_eq, powers_add, origin, monomial, coef, scale, int_eq}
use Rattle.scattering.specs.Series as D
use Rattle.scattering.specs.LocalProduct.{axis_x, axis_y}
use Rattle.scattering.specs.Correction.{Ratio, IsRatio, Lie, ratio_at}
use Rattle.scattering.proofs.Lists.{any-none, Every-from_In, or-left, or-right, In-mapped, In-left, In-right}
use Rattle.scattering.proofs.Keys.{key_eq-same, key_eq-refl, origin-case, int_eq-same}
use Rattle.scattering.proofs.Determined.{coef-find}
use Rattle.scattering.proofs.Tests.{nat_case}
use Rattle.plane_theory.proofs.Directions.{det-scale, zero-factor, positive-not, as_multiple}
use Rattle.crossing_theory.proofs.Keys.{keys}
use Rattle.crossing_theory.proofs.Translation.{Eq, Eq-refl, Eq-trans, Eq-sym, key_test}
use Rattle.crossing_theory.proofs.CutFunctions.{above}
use Rattle.correction_theory.proofs.RayGains.{less, less-forth}
use Rattle.crossing_theory.proofs.LocalProductLaws.{mul, IsAutomorphism, Vanishes, Central, Eq-mul}
use Rattle.correction_theory.proofs.LeadingDegree.{two-parts, weighted-right, coef-high, indicator-vanishes, orthogonal}
use Rattle.correction_theory.proofs.LogarithmicDerivative.{HasNoResidue, euler, opp}
use Rattle.correction_theory.proofs.Ratios.{reduce, one_number}

-- ---- units

module _ (k : ℕ) (θ : Sum → Sum) (auto : IsAutomorphism k θ) where
  unit-left : (f : Sum) → Eq k (mul D.one f) f
  unit-left f = record { at = λ φ v. S.one_mul keys φ f }

  unit-right : (f : Sum) → Eq k (mul f D.one) f
  unit-right f = record { at = λ φ v. S.mul_comm keys φ f D.one ∙ S.one_mul keys φ f }

  one-kept : Eq k (θ D.one) D.one
  one-kept =
      let u = auto.onto D.one in
      Eq-trans k _ (mul (θ D.one) D.one) _ (Eq-sym k _ _ (unit-right (θ D.one)))
      (Eq-trans k _ (mul (θ D.one) (θ u.0)) _ (Eq-mul k _ _ _ _ (Eq-refl k (θ D.one)) (Eq-sym k _ _ u.1))
      (Eq-trans k _ (θ (mul D.one u.0)) _ (Eq-sym k _ _ (auto.products D.one u.0))
      (Eq-trans k _ (θ u.0) _ (auto.respects _ _ (unit-left u.0)) u.1)))

  none : (m : Exp) → key_mul (z m) (z (opp m)) ≡ D.unit
  none m =
      let a : m.a +ℤ neg_ℤ m.a ≡ pos 0 = ring ints_ring (m.a ∷ []) (X :- X) nought refl in
      let b : m.b +ℤ neg_ℤ m.b ≡ pos 0 = ring ints_ring (m.b ∷ []) (X :- X) nought refl in
      λ i. record { powers = D.no_powers; exp = record { a = a i; b = b i } }

  cancels-out : (m : Exp) → Eq k (mul (monomial (z m)) (monomial (z (opp m)))) D.one
  cancels-out m = record { at = λ φ v. ap (λ (x : Key). pos 1 *ℤ φ x +ℤ pos 0) (none m) }

  images-cancel : (m : Exp) → Eq k (mul (θ (monomial (z m))) (θ (monomial (z (opp m))))) D.one
  images-cancel m =
      Eq-trans k _ (θ (mul (monomial (z m)) (monomial (z (opp m))))) _ (Eq-sym k _ _ (auto.products (monomial (z m)) (monomial (z (opp m)))))
      (Eq-trans k _ (θ D.one) _ (auto.respects _ _ (cancels-out m)) one-kept)

-- ---- exponent (0, 0)

module _ (n : ℕ) (θ : Sum → Sum) (auto : IsAutomorphism (suc n) θ) (no-residue : HasNoResidue (suc n) θ) (m : Exp) (low : Eq n (θ (monomial (z m))) (monomial (z m))) where
  low-opposite : Eq n (θ (monomial (z (opp m)))) (monomial (z (opp m)))
  low-opposite =
      exact keys n _ _
      (inverse_unique (modulo_ring keys n) (mk (monomial (z m))) (mk (θ (monomial (z (opp m))))) (mk (monomial (z (opp m))))
      (ap (λ o. (modulo_ring keys n).◌⊗◌ o (mk (θ (monomial (z (opp m)))))) (sym (sound low)) ∙ sound (Same-lower keys n (suc n) _ _ (omega arith) (images-cancel (suc n) θ auto m)))
      (sound (Same-lower keys n (suc n) _ _ (omega arith) (cancels-out (suc n) θ auto m))))

  module _ (q : Key) (deg : degree q ≡ suc n) (o : q.exp ≡ origin) where
    van : Vanishes (suc n) (indicator key_test q)
    van = indicator-vanishes (suc n) q (omega (arith, deg))

    central : Central (indicator key_test q)
    central y no_origin = go (key_eq y q) refl
      where
        go : (b : Bool) → key_eq y q ≡ b → cond (key_eq y q) (pos 1) (pos 0) ≡ pos 0
        go true e = absurd (no_origin (ap (λ (x : Key). x.exp) (key_eq-same y q e) ∙ o))
        go false e = rw e refl

    weighed : pos (degree (less q (opp m))) *ℤ coef (θ (monomial (z m))) (less q (opp m)) ≡ pos 0
    weighed =
        ap (λ c. pos (degree (less q (opp m))) *ℤ c) (sym (coef-high n (θ (monomial (z m))) (less q (opp m)) (omega (arith, deg))))
        ∙ sym (weighted-right (λ u. pos (degree u)) (opp m) q (above n (θ (monomial (z m)))))
        ∙ ring ints_ring (pair (λ u. pos (degree u) *ℤ indicator key_test q (key_mul u (z (opp m)))) (above n (θ (monomial (z m)))) ∷ indicator key_test q (key_mul (z m) (z (opp m))) ∷ []) X (nought :* Y :+ nought :+ X) refl
        ∙ ap (λ c. pos 0 *ℤ indicator key_test q (key_mul (z m) (z (opp m))) +ℤ c +ℤ pair (λ u. pos (degree u) *ℤ indicator key_test q (key_mul u (z (opp m)))) (above n (θ (monomial (z m)))))
        (sym (pair-factor (pos 0) (λ w. indicator key_test q (key_mul (z m) w)) (above n (θ (monomial (z (opp m))))) ∙ ring ints_ring (pair (λ w. indicator key_test q (key_mul (z m) w)) (above n (θ (monomial (z (opp m))))) ∷ []) (nought :* X) nought refl))
        ∙ sym (two-parts n (z m) (z (opp m)) (omega arith) (omega arith) (θ (monomial (z m))) (θ (monomial (z (opp m)))) low low-opposite (λ u w. pos (degree u)) (indicator key_test q) van (omega arith))
        ∙ pair-ext _ _ (θ (monomial (z m))) (λ u. pair-factor (pos (degree u)) (λ w. indicator key_test q (key_mul u w)) (θ (monomial (z (opp m)))))
        ∙ sym (S.pair-mul keys (indicator key_test q) (euler (θ (monomial (z m)))) (θ (monomial (z (opp m)))) ∙ pair-theta (λ u. pair (λ w. indicator key_test q (key_mul u w)) (θ (monomial (z (opp m))))) (λ u. pos (degree u)) (θ (monomial (z m))))
        ∙ no-residue.no-residue m (indicator key_test q) van central

    pub central-zero : coef (θ (monomial (z m))) (less q (opp m)) ≡ pos 0
    central-zero = zero-factor (pos (degree (less q (opp m)))) _ (not_zero (degree (less q (opp m))) (let e : degree (less q (opp m)) ≡ degree q = refl in omega (arith, e, deg))) weighed
      where
        not_zero : (d : ℕ) → 1 ≤ d → pos d ≢ pos 0
        not_zero d l e = omega (arith, ints, l, e)

-- ---- at each key of degree n + 1

key-powers : (p : Powers) → powers_add p D.no_powers ≡ p
key-powers p =
    let a : p.t1 + 0 ≡ p.t1 = omega arith in let b : p.t2 + 0 ≡ p.t2 = omega arith in let c : p.t3 + 0 ≡ p.t3 = omega arith in let d : p.t4 + 0 ≡ p.t4 = omega arith in
    let e : p.t5 + 0 ≡ p.t5 = omega arith in let f : p.t6 + 0 ≡ p.t6 = omega arith in let g : p.t7 + 0 ≡ p.t7 = omega arith in let h : p.t8 + 0 ≡ p.t8 = omega arith in
    λ i. record { t1 = a i; t2 = b i; t3 = c i; t4 = d i; t5 = e i; t6 = f i; t7 = g i; t8 = h i }

less-opp : (k : Key) (m : Exp) → less k (opp m) ≡ key_mul k (z m)
less-opp k m =
    let a : k.exp.a -ℤ neg_ℤ m.a ≡ k.exp.a +ℤ m.a = ring ints_ring (k.exp.a ∷ m.a ∷ []) (X :- minus Y) (X :+ Y) refl in
    let b : k.exp.b -ℤ neg_ℤ m.b ≡ k.exp.b +ℤ m.b = ring ints_ring (k.exp.b ∷ m.b ∷ []) (X :- minus Y) (X :+ Y) refl in
    let p = sym (key-powers k.powers) in
    λ i. record { powers = p i; exp = record { a = a i; b = b i } }

module _ (n : ℕ) (θ : Sum → Sum) (auto : IsAutomorphism (suc n) θ) (no-residue : HasNoResidue (suc n) θ) (ix : Eq n (θ (monomial (z axis_x))) (monomial (z axis_x))) (iy : Eq n (θ (monomial (z axis_y))) (monomial (z axis_y))) where
  abbrev at_x : Key → ℤ
  at_x k = coef (θ (monomial (z axis_x))) (key_mul k (z axis_x))

  abbrev at_y : Key → ℤ
  at_y k = coef (θ (monomial (z axis_y))) (key_mul k (z axis_y))

  at_origin : (k : Key) → degree k ≡ suc n → k.exp ≡ origin → (at_x k ≡ pos 0) × (at_y k ≡ pos 0)
  at_origin k deg o = (
    ap (coef (θ (monomial (z axis_x)))) (sym (less-opp k axis_x)) ∙ central-zero n θ auto no-residue axis_x ix k deg o,
    ap (coef (θ (monomial (z axis_y)))) (sym (less-opp k axis_y)) ∙ central-zero n θ auto no-residue axis_y iy k deg o,
  )

  abbrev whole_key : Key → Key
  whole_key k = record { powers = k.powers; exp = record { a = k.exp.a +ℤ pos 1; b = k.exp.b +ℤ pos 1 } }

  lessened_y : (k : Key) → less (whole_key k) axis_y ≡ key_mul k (z axis_x)
  lessened_y k =
      let a : (k.exp.a +ℤ pos 1) -ℤ pos 0 ≡ k.exp.a +ℤ pos 1 = ring ints_ring (k.exp.a ∷ []) ((X :+ E.unit) :- nought) (X :+ E.unit) refl in
      let b : (k.exp.b +ℤ pos 1) -ℤ pos 1 ≡ k.exp.b +ℤ pos 0 = ring ints_ring (k.exp.b ∷ []) ((X :+ E.unit) :- E.unit) (X :+ nought) refl in
      let p = sym (key-powers k.powers) in
      λ i. record { powers = p i; exp = record { a = a i; b = b i } }

  lessened_x : (k : Key) → less (whole_key k) axis_x ≡ key_mul k (z axis_y)
  lessened_x k =
      let a : (k.exp.a +ℤ pos 1) -ℤ pos 1 ≡ k.exp.a +ℤ pos 0 = ring ints_ring (k.exp.a ∷ []) ((X :+ E.unit) :- E.unit) (X :+ nought) refl in
      let b : (k.exp.b +ℤ pos 1) -ℤ pos 0 ≡ k.exp.b +ℤ pos 1 = ring ints_ring (k.exp.b ∷ []) ((X :+ E.unit) :- nought) (X :+ E.unit) refl in
      let p = sym (key-powers k.powers) in
      λ i. record { powers = p i; exp = record { a = a i; b = b i } }

  pub killed : (k : Key) → degree k ≡ suc n → k.exp.a *ℤ at_x k +ℤ k.exp.b *ℤ at_y k ≡ pos 0
  killed k deg =
      ring ints_ring (k.exp.a ∷ k.exp.b ∷ at_x k ∷ at_y k ∷ []) (X :* Z :+ Y :* var 3) ((X :+ E.unit :- E.unit) :* Z :+ (Y :+ E.unit :- E.unit) :* var 3) refl
      ∙ ap (λ (q : Key). (k.exp.a +ℤ pos 1 -ℤ pos 1) *ℤ coef (θ (monomial (z axis_x))) q +ℤ (k.exp.b +ℤ pos 1 -ℤ pos 1) *ℤ at_y k) (sym (lessened_y k))
      ∙ ap (λ (q : Key). (k.exp.a +ℤ pos 1 -ℤ pos 1) *ℤ coef (θ (monomial (z axis_x))) (less (whole_key k) axis_y) +ℤ (k.exp.b +ℤ pos 1 -ℤ pos 1) *ℤ coef (θ (monomial (z axis_y))) q) (sym (lessened_x k))
      ∙ orthogonal n θ auto ix iy (whole_key k) deg

  -- the correction's coefficient at k, as a quotient in lowest terms
  pub record Piece (k : Key) : Type 0 where
    pub ratio : Ratio
    pub is_ratio : IsRatio ratio
    pub x : at_x k *ℤ ratio.den ≡ ratio.num *ℤ det k.exp axis_x
    pub y : at_y k *ℤ ratio.den ≡ ratio.num *ℤ det k.exp axis_y
    pub whole : (g : ℕ) → IsGcd (nat_abs k.exp.a) (nat_abs k.exp.b) g → (v : ℤ) × (v *ℤ ratio.den ≡ ratio.num *ℤ pos g)

  no_ratio : Ratio
  no_ratio = record { num = pos 0; den = pos 1 }

  no_is_ratio : IsRatio (record { num = pos 0; den = pos 1 })
  no_is_ratio = record { below = omega (arith, ints); lowest = (dvd-zero 1, dvd_refl 1, λ d p q. q) }

  zero-right : (a t : ℤ) → a ≡ pos 0 → a *ℤ pos 1 ≡ pos 0 *ℤ t
  zero-right a t e = ap (λ x. x *ℤ pos 1) e ∙ ring ints_ring (t ∷ []) (nought :* E.unit) (nought :* X) refl

  scaled : (a den num t g r : ℤ) → a ≡ t *ℤ r → t *ℤ den ≡ num *ℤ g → a *ℤ den ≡ num *ℤ (g *ℤ r)
  scaled a den num t g r e f = ap (λ x. x *ℤ den) e ∙ ring ints_ring (t ∷ r ∷ den ∷ []) ((X :* Y) :* Z) ((X :* Z) :* Y) refl ∙ ap (λ x. x *ℤ r) f ∙ ring ints_ring (num ∷ g ∷ r ∷ []) ((X :* Y) :* Z) (X :* (Y :* Z)) refl

  pub piece : (k : Key) → degree k ≡ suc n → Piece k
  piece k deg = go (origin-case k.exp)
    where
      go : (k.exp ≡ origin) ⊎ (k.exp ≢ origin) → Piece k
      go (inl o) =
          let e = at_origin k deg o in
          record {
            ratio = record { num = pos 0; den = pos 1 };
            is_ratio = no_is_ratio;
            x = zero-right (at_x k) (det k.exp axis_x) e.0;
            y = zero-right (at_y k) (det k.exp axis_y) e.1;
            whole = λ g h. (pos 0, ring ints_ring (pos g ∷ []) (nought :* E.unit) (nought :* X) refl);
          }
      go (inr o) =
          let d = as_multiple k.exp o in
          let q : d.dir.a *ℤ at_x k +ℤ d.dir.b *ℤ at_y k ≡ pos 0 =
          zero-factor (pos d.g) (d.dir.a *ℤ at_x k +ℤ d.dir.b *ℤ at_y k) (positive-not (pos d.g) d.positive)
          (ring ints_ring (pos d.g ∷ d.dir.a ∷ d.dir.b ∷ at_x k ∷ at_y k ∷ []) (X :* (Y :* var 3 :+ Z :* var 4)) ((X :* Y) :* var 3 :+ (X :* Z) :* var 4) refl
          ∙ sym (ap (λ (e : Exp). e.a *ℤ at_x k +ℤ e.b *ℤ at_y k) d.is) ∙ killed k deg) in
          let t = one_number d.dir d.direction (at_x k) (at_y k) q in
          let r = reduce t.0 d.g (one-of d.g d.positive) in
          record {
            ratio = r.ratio;
            is_ratio = r.is_ratio;
            x = scaled (at_x k) r.ratio.den r.ratio.num t.0 (pos d.g) (det d.dir axis_x) t.1 r.same ∙ ap (λ y. r.ratio.num *ℤ y) (sym (ap (λ (e : Exp). det e axis_x) d.is ∙ det-scale (pos d.g) d.dir axis_x));
            y = scaled (at_y k) r.ratio.den r.ratio.num t.0 (pos d.g) (det d.dir axis_y) t.2 r.same ∙ ap (λ y. r.ratio.num *ℤ y) (sym (ap (λ (e : Exp). det e axis_y) d.is ∙ det-scale (pos d.g) d.dir axis_y));
            whole = λ g h. let e : d.g ≡ g = same_from_IsGcd (nat_abs k.exp.a) (nat_abs k.exp.b) d.g g d.gcd h in (t.0, r.same ∙ ap (λ (g : ℕ). r.ratio.num *ℤ pos g) e);
          }
        where
          one-of : (g : ℕ) → pos 1 ≤ℤ pos g → 1 ≤ g
          one-of g h = omega (arith, ints, h)

  -- ---- the correction, from a list of keys

  abbrev listed : Key → Lie → Bool
  listed k h = list_any (λ (t : Key × Ratio). key_eq t.0 k) h

  abbrev Right : Ratio → Key → Type 0
  Right r k = (at_x k *ℤ r.den ≡ r.num *ℤ det k.exp axis_x) × (at_y k *ℤ r.den ≡ r.num *ℤ det k.exp axis_y)

  abbrev Zero : Key → Type 0
  Zero k = (at_x k ≡ pos 0) × (at_y k ≡ pos 0)

  -- gcd times the coefficient is whole
  abbrev pub IsWhole : Key × Ratio → Type 0
  IsWhole t = (g : ℕ) → IsGcd (nat_abs t.0.exp.a) (nat_abs t.0.exp.b) g → (v : ℤ) × (v *ℤ t.1.den ≡ t.1.num *ℤ pos g)

  pub record Built (ks : List Key) : Type 0 where
    pub h : Lie
    pub ratios : Every (λ t. IsRatio t.1) h
    pub nonzero : Every (λ t. t.1.num ≢ pos 0) h
    pub distinct : EveryPair (λ t u. t.0 ≢ u.0) h
    pub degrees : Every (λ t. (degree t.0 ≡ suc n) × (t.0.exp ≢ origin)) h
    pub whole : Every IsWhole h
    pub right : (k : Key) → listed k h ≡ true → Right (ratio_at h k) k
    pub covers : (k : Key) → In k ks → degree k ≡ suc n → (listed k h ≡ true) ⊎ Zero k

  zero-num : (a den t : ℤ) (num : ℤ) → pos 1 ≤ℤ den → num ≡ pos 0 → a *ℤ den ≡ num *ℤ t → a ≡ pos 0
  zero-num a den t num l z e = zero-factor den a (positive-not den l) (ring ints_ring (a ∷ den ∷ []) (Y :* X) (X :* Y) refl ∙ e ∙ ap (λ x. x *ℤ t) z ∙ ring ints_ring (t ∷ []) (nought :* X) nought refl)

  same-built : (k : Key) (ks : List Key) (b : Built ks) → (degree k ≡ suc n → (listed k b.h ≡ true) ⊎ Zero k) → Built (k ∷ ks)
  same-built k ks b f = record {
    h = b.h;
    ratios = b.ratios;
    nonzero = b.nonzero;
    distinct = b.distinct;
    degrees = b.degrees;
    whole = b.whole;
    right = b.right;
    covers = λ q i d. go q i d;
  }
    where
      go : (q : Key) → In q (k ∷ ks) → degree q ≡ suc n → (listed q b.h ≡ true) ⊎ Zero q
      go q (inl e) d = subst (λ (x : Key). (listed x b.h ≡ true) ⊎ Zero x) (sym e) (f (sym (ap degree e) ∙ d))
      go q (inr i) d = b.covers q i d

  more-built : (k : Key) (ks : List Key) (b : Built ks) → degree k ≡ suc n → k.exp ≢ origin → listed k b.h ≡ false → (p : Piece k) → p.ratio.num ≢ pos 0 → Built (k ∷ ks)
  more-built k ks b deg o new p nz = record {
    h = (k, p.ratio) ∷ b.h;
    ratios = (p.is_ratio, b.ratios);
    nonzero = (nz, b.nonzero);
    distinct = (Every-from_In _ b.h (λ u i e. let f : key_eq u.0 k ≡ false = any-none (λ (t : Key × Ratio). key_eq t.0 k) b.h new u i in let g : key_eq u.0 k ≡ true = subst (λ (x : Key). key_eq x k ≡ true) e (key_eq-refl k) in absurd (cc)), b.distinct);
    degrees = ((deg, o), b.degrees);
    whole = (p.whole, b.whole);
    right = λ q e. go q (key_eq k q) refl e;
    covers = λ q i d. cov q i d;
  }
    where
      go : (q : Key) (c : Bool) → key_eq k q ≡ c → listed q ((k, p.ratio) ∷ b.h) ≡ true → Right (ratio_at ((k, p.ratio) ∷ b.h) q) q
      go q true e l = rw e (subst (Right p.ratio) (key_eq-same k q e) (p.x, p.y))
      go q false e l = rw e (b.right q (rw e at l))

      cov : (q : Key) → In q (k ∷ ks) → degree q ≡ suc n → (listed q ((k, p.ratio) ∷ b.h) ≡ true) ⊎ Zero q
      cov q (inl e) d = inl (let f : key_eq k q ≡ true = subst (λ (x : Key). key_eq k x ≡ true) (sym e) (key_eq-refl k) in rw f refl)
      cov q (inr i) d = old (b.covers q i d)
        where
          either : (c : Bool) → (c || true) ≡ true
          either true = refl
          either false = refl

          old : (listed q b.h ≡ true) ⊎ Zero q → (listed q ((k, p.ratio) ∷ b.h) ≡ true) ⊎ Zero q
          old (inl l) = inl (rw l (either (key_eq k q)))
          old (inr z) = inr z

  build : (ks : List Key) → Built ks
  build [] = record { h = []; ratios = tt; nonzero = tt; distinct = tt; degrees = tt; whole = tt; right = λ k e. absurd (cc); covers = λ k i d. absurd i }
  build (k ∷ ks) = go (build ks) (nat_case (degree k) (suc n)) (origin-case k.exp)
    where
      go : Built ks → (degree k ≡ suc n) ⊎ (degree k ≢ suc n) → (k.exp ≡ origin) ⊎ (k.exp ≢ origin) → Built (k ∷ ks)
      go b (inr other) o = same-built k ks b (λ d. absurd (other d))
      go b (inl deg) (inl o) = same-built k ks b (λ d. inr (at_origin k deg o))
      go b (inl deg) (inr o) = by_listed (listed k b.h) refl
        where
          by_num : listed k b.h ≡ false → (p : Piece k) → (c : Bool) → int_eq p.ratio.num (pos 0) ≡ c → Built (k ∷ ks)
          by_num new p true e = same-built k ks b (λ d. let z = int_eq-same p.ratio.num (pos 0) e in
              inr (zero-num (at_x k) p.ratio.den (det k.exp axis_x) p.ratio.num p.is_ratio.below z p.x, zero-num (at_y k) p.ratio.den (det k.exp axis_y) p.ratio.num p.is_ratio.below z p.y))
          by_num new p false e = more-built k ks b deg o new p (λ z. let t : int_eq p.ratio.num (pos 0) ≡ true = subst (λ (x : ℤ). int_eq x (pos 0) ≡ true) (sym z) refl in absurd (cc))

          by_listed : (c : Bool) → listed k b.h ≡ c → Built (k ∷ ks)
          by_listed true e = same-built k ks b (λ d. inl e)
          by_listed false e = let p = piece k deg in by_num e p (int_eq p.ratio.num (pos 0)) refl

  -- ---- all keys at which the images have a term

  abbrev all_keys : List Key
  all_keys = map (λ (t : Term). less t.0 axis_x) (θ (monomial (z axis_x))) ++ map (λ (t : Term). less t.0 axis_y) (θ (monomial (z axis_y)))

  less-key : (k : Key) (m : Exp) → less (key_mul k (z m)) m ≡ k
  less-key k m = ap (λ (x : Key). less x m) (keys.comm k (z m)) ∙ less-forth k m

  stands : (m : Exp) (f : Sum) (k : Key) → coef f (key_mul k (z m)) ≢ pos 0 → In k (map (λ (t : Term). less t.0 m) f)
  stands m f k h =
      let t = coef-find f (key_mul k (z m)) h in
      subst (λ (x : Key). In x (map (λ (t : Term). less t.0 m) f)) (ap (λ (x : Key). less x m) t.2 ∙ less-key k m) (In-mapped (λ (t : Term). less t.0 m) f t.0 t.1)

  int-case : (x : ℤ) → (x ≡ pos 0) ⊎ (x ≢ pos 0)
  int-case x = go (int_eq x (pos 0)) refl
    where
      go : (b : Bool) → int_eq x (pos 0) ≡ b → (x ≡ pos 0) ⊎ (x ≢ pos 0)
      go true e = inl (int_eq-same x (pos 0) e)
      go false e = inr (λ q. let t : int_eq x (pos 0) ≡ true = subst (λ (y : ℤ). int_eq y (pos 0) ≡ true) (sym q) refl in absurd (cc))

  ratio-missing : (h : Lie) (k : Key) → listed k h ≡ false → ratio_at h k ≡ record { num = pos 0; den = pos 1 }
  ratio-missing [] k e = refl
  ratio-missing (t ∷ h) k e = rw (or-left (key_eq t.0 k) _ e) (ratio-missing h k (or-right (key_eq t.0 k) _ e))

  pub built : Built all_keys
  built = build all_keys

  zero-unless : (k : Key) → degree k ≡ suc n → listed k built.h ≡ false → Zero k
  zero-unless k deg no_k = (of (at_x k) (int-case (at_x k)) (λ q. In-left _ _ k (stands axis_x (θ (monomial (z axis_x))) k q)) (λ z. z.0), of (at_y k) (int-case (at_y k)) (λ q. In-right _ _ k (stands axis_y (θ (monomial (z axis_y))) k q)) (λ z. z.1))
    where
      of : (x : ℤ) → (x ≡ pos 0) ⊎ (x ≢ pos 0) → (x ≢ pos 0 → In k all_keys) → (Zero k → x ≡ pos 0) → x ≡ pos 0
      of x (inl e) f g = e
      of x (inr e) f g = known (built.covers k (f e) deg)
        where
          known : (listed k built.h ≡ true) ⊎ Zero k → x ≡ pos 0
          known (inl l) = absurd (cc)
          known (inr z) = g z

  pub right-everywhere : (k : Key) → degree k ≡ suc n → Right (ratio_at built.h k) k
  right-everywhere k deg = go (listed k built.h) refl
    where
      go : (c : Bool) → listed k built.h ≡ c → Right (ratio_at built.h k) k
      go true e = built.right k e
      go false e = let z = zero-unless k deg e in subst (λ (r : Ratio). Right r k) (sym (ratio-missing built.h k e)) (zero-right (at_x k) (det k.exp axis_x) z.0, zero-right (at_y k) (det k.exp axis_y) z.1)
