-- A local product that is the identity below degree n + 1, at degree n + 1.
use Rattle.std.proofs.Common.{◌≡◌, ℕ, suc, refl, sym, ◌∙◌, ap, [], ◌∷◌, Bool, true, false, cond, ◌≤◌, ◌<◌, ◌+◌, arith}
use Rattle.std.specs.Prelude.{ℤ, pos, ◌+ℤ◌, ◌-ℤ◌, ◌*ℤ◌, nat_le}
use Rattle.sum_algebra.proofs.Ring.{var, plus, times, minus, nought, ring}
use Rattle.sum_algebra.proofs.Ring as E
use Rattle.sum_algebra.proofs.IntegerRing.{ints_ring, ◌:+◌, ◌:*◌, ◌:-◌, X, Y, Z}
use Rattle.sum_algebra.proofs.Sums as S
use Rattle.sum_algebra.proofs.Sums.{Same, pair, pair-append, pair-zero, pair-ext, pair-plus, pair-factor}
use Rattle.sum_algebra.proofs.Support.{Supported, by_every}
use Rattle.sum_algebra.proofs.Crossing.{mono}
use Rattle.sum_algebra.proofs.Coefficients.{indicator}
use Rattle.sum_algebra.proofs.Bracket.{pair-bracket}
use Rattle.scattering.specs.Series.{Key, Sum, Exp, degree, det, z, key_mul, key_eq, cut, coef, origin, monomial}
use Rattle.scattering.specs.Series as D
use Rattle.scattering.specs.LocalProduct.{axis_x, axis_y}
use Rattle.scattering.proofs.Keys.{key_eq-same, key_eq-apart}
use Rattle.scattering.proofs.Coefficients.{coef-rest}
use Rattle.crossing_theory.proofs.Keys.{keys, key_det}
use Rattle.crossing_theory.proofs.Translation.{Eq, Eq-trans, Eq-sym, cut-same, key_test, coef-is}
use Rattle.crossing_theory.proofs.HalfWalls.{every-keys}
use Rattle.crossing_theory.proofs.CutFunctions.{above, above-high, split-above}
use Rattle.correction_theory.proofs.RayGains.{less, coef-above, moved-test}
use Rattle.crossing_theory.proofs.LocalProductLaws.{mul, brace, IsAutomorphism, Vanishes}

-- ---- a sum that is a key below degree n + 1

module _ (n : ℕ) (x : Key) (low : degree x ≤ n) (g : Sum) (e : Eq n g (mono keys x)) where
  high_is : Supported (λ y. suc n ≤ degree y) (above n g)
  high_is = by_every (λ y. suc n ≤ degree y) (above n g) (every-keys (λ y. suc n ≤ degree y) (above n g) (above-high n g))

  cut-is : (φ : Key → ℤ) → pair φ (cut n g) ≡ φ x
  cut-is φ =
      below.at φ φ' (λ y l. sym (kept y l))
      ∙ (cut-same n g).at φ' van ∙ e.at φ' van
      ∙ ap (λ c. pos 1 *ℤ c +ℤ pos 0) (kept x low) ∙ ring ints_ring (φ x ∷ []) (E.unit :* X :+ nought) X refl
    where
      φ' : Key → ℤ
      φ' y = cond (nat_le (degree y) n) (φ y) (pos 0)

      yes_le : (d : ℕ) → d ≤ n → nat_le d n ≡ true
      yes_le d l = grind arith

      no_le : (d : ℕ) → n < d → nat_le d n ≡ false
      no_le d l = grind arith

      kept : (y : Key) → degree y ≤ n → cond (nat_le (degree y) n) (φ y) (pos 0) ≡ φ y
      kept y l = rw (yes_le (degree y) l) refl

      van : (y : Key) → n < degree y → cond (nat_le (degree y) n) (φ y) (pos 0) ≡ pos 0
      van y l = rw (no_le (degree y) l) refl

      below : Supported (λ y. degree y ≤ n) (cut n g)
      below = by_every (λ y. degree y ≤ n) (cut n g) (lows g)
        where
          le_of : (d : ℕ) → nat_le d n ≡ true → d ≤ n
          le_of d q = grind arith

          lows : (g : Sum) → Rattle.sum_algebra.proofs.Support.Every (λ y. degree y ≤ n) (cut n g)
          lows [] = tt
          lows (t ∷ g) = go (nat_le (degree t.0) n) refl (lows g)
            where
              go : (b : Bool) → nat_le (degree t.0) n ≡ b → Rattle.sum_algebra.proofs.Support.Every (λ y. degree y ≤ n) (cut n g) → Rattle.sum_algebra.proofs.Support.Every (λ y. degree y ≤ n) (cut n (t ∷ g))
              go true q h = rw q (le_of (degree t.0) q, h)
              go false q h = rw q h

  -- the key, and terms of degree n + 1 and more
  pub parts : (φ : Key → ℤ) → pair φ g ≡ φ x +ℤ pair φ (above n g)
  parts φ = split-above φ n g ∙ ap (λ y. y +ℤ pair φ (above n g)) (cut-is φ)

  pub high-zero : (φ : Key → ℤ) → ((y : Key) → suc n ≤ degree y → φ y ≡ pos 0) → pair φ (above n g) ≡ pos 0
  high-zero φ h = high_is.at φ (λ _. pos 0) h ∙ pair-zero (above n g)

-- of two of them, a weighted product
module _ (n : ℕ) (x y : Key) (lx : degree x ≤ n) (ly : degree y ≤ n) (g h : Sum) (e : Eq n g (mono keys x)) (f : Eq n h (mono keys y)) (J : Key → Key → ℤ) (φ : Key → ℤ) (v : Vanishes (suc n) φ) (positive : 1 ≤ n + degree x + degree y + 1) where
  double : (u : Key) → suc n ≤ degree u → 1 ≤ suc n → pair (λ w. J u w *ℤ φ (key_mul u w)) (above n h) ≡ pos 0
  double u l p = high-zero n y ly h f (λ w. J u w *ℤ φ (key_mul u w)) (λ w m. ap (λ c. J u w *ℤ c) (v (key_mul u w) (let q = keys.deg_mul u w in omega (arith, q, l, m))) ∙ ring ints_ring (J u w ∷ []) (X :* nought) nought refl)

  pub two-parts : pair (λ u. pair (λ w. J u w *ℤ φ (key_mul u w)) h) g ≡ J x y *ℤ φ (key_mul x y) +ℤ pair (λ w. J x w *ℤ φ (key_mul x w)) (above n h) +ℤ pair (λ u. J u y *ℤ φ (key_mul u y)) (above n g)
  two-parts =
      parts n x lx g e (λ u. pair (λ w. J u w *ℤ φ (key_mul u w)) h)
      ∙ ap (λ c. c +ℤ pair (λ u. pair (λ w. J u w *ℤ φ (key_mul u w)) h) (above n g)) (parts n y ly h f (λ w. J x w *ℤ φ (key_mul x w)))
      ∙ ap (λ c. J x y *ℤ φ (key_mul x y) +ℤ pair (λ w. J x w *ℤ φ (key_mul x w)) (above n h) +ℤ c)
      ((high_is n x lx g e).at (λ u. pair (λ w. J u w *ℤ φ (key_mul u w)) h) (λ u. J u y *ℤ φ (key_mul u y))
      (λ u l. parts n y ly h f (λ w. J u w *ℤ φ (key_mul u w)) ∙ ap (λ c. J u y *ℤ φ (key_mul u y) +ℤ c) (double u l (omega arith)) ∙ ring ints_ring ((J u y *ℤ φ (key_mul u y)) ∷ []) (X :+ nought) X refl))

-- ---- coefficients

pub coef-high : (n : ℕ) (f : Sum) (q : Key) → suc n ≤ degree q → coef (above n f) q ≡ coef f q
coef-high n f q le = coef-above n f q le ∙ coef-rest f q (key_eq-apart (q, pos 1) D.unit (λ e. let d : degree q ≡ 0 = e in omega (arith, d, le)))

-- a weight is that of the key which the test finds
pub weighted : (J : Key → ℤ) (m : Exp) (q : Key) (f : Sum) → pair (λ w. J w *ℤ indicator key_test q (key_mul (z m) w)) f ≡ J (less q m) *ℤ coef f (less q m)
weighted J m q f =
    pair-ext _ (λ w. J (less q m) *ℤ indicator key_test (less q m) w) f (λ w. one w (key_eq (key_mul (z m) w) q) refl)
    ∙ pair-factor (J (less q m)) (indicator key_test (less q m)) f ∙ ap (λ c. J (less q m) *ℤ c) (sym (coef-is f (less q m)))
  where
    one : (w : Key) (b : Bool) → key_eq (key_mul (z m) w) q ≡ b → J w *ℤ cond (key_eq (key_mul (z m) w) q) (pos 1) (pos 0) ≡ J (less q m) *ℤ cond (key_eq w (less q m)) (pos 1) (pos 0)
    one w true e = let s : key_eq w (less q m) ≡ true = sym (moved-test q w m) ∙ e in rw (e, s) (ap (λ (y : Key). J y *ℤ pos 1) (key_eq-same w (less q m) s))
    one w false e = let s : key_eq w (less q m) ≡ false = sym (moved-test q w m) ∙ e in rw (e, s) (ring ints_ring (J w ∷ J (less q m) ∷ []) (X :* nought) (Y :* nought) refl)

pub weighted-right : (J : Key → ℤ) (m : Exp) (q : Key) (f : Sum) → pair (λ w. J w *ℤ indicator key_test q (key_mul w (z m))) f ≡ J (less q m) *ℤ coef f (less q m)
weighted-right J m q f = pair-ext _ _ f (λ w. ap (λ (y : Key). J w *ℤ indicator key_test q y) (keys.comm w (z m))) ∙ weighted J m q f

pub indicator-vanishes : (k : ℕ) (q : Key) → degree q ≤ k → Vanishes k (indicator key_test q)
indicator-vanishes k q le y d = go (key_eq y q) refl
  where
    go : (b : Bool) → key_eq y q ≡ b → cond (key_eq y q) (pos 1) (pos 0) ≡ pos 0
    go true e = let s : degree y ≡ degree q = ap degree (key_eq-same y q e) in absurd (omega (arith, s, d, le))
    go false e = rw e refl

-- ---- the two images

module _ (n : ℕ) (θ : Sum → Sum) (auto : IsAutomorphism (suc n) θ) (ix : Eq n (θ (monomial (z axis_x))) (monomial (z axis_x))) (iy : Eq n (θ (monomial (z axis_y))) (monomial (z axis_y))) where
  same-products : Eq (suc n) (brace (θ (monomial (z axis_x))) (θ (monomial (z axis_y)))) (mul (θ (monomial (z axis_x))) (θ (monomial (z axis_y))))
  same-products =
      Eq-trans (suc n) _ (θ (brace (monomial (z axis_x)) (monomial (z axis_y)))) _ (Eq-sym (suc n) _ _ (auto.brackets (monomial (z axis_x)) (monomial (z axis_y))))
      (Eq-trans (suc n) _ (θ (mul (monomial (z axis_x)) (monomial (z axis_y)))) _
      (auto.respects _ _ (record { at = λ φ v. refl }))
      (auto.products (monomial (z axis_x)) (monomial (z axis_y))))

  module _ (q : Key) (deg : degree q ≡ suc n) where
    a : ℤ
    a = coef (θ (monomial (z axis_x))) (less q axis_y)

    b : ℤ
    b = coef (θ (monomial (z axis_y))) (less q axis_x)

    van : Vanishes (suc n) (indicator key_test q)
    van = indicator-vanishes (suc n) q (omega (arith, deg))

    pub of_both : (J : Key → Key → ℤ) → pair (λ u. pair (λ w. J u w *ℤ indicator key_test q (key_mul u w)) (θ (monomial (z axis_y)))) (θ (monomial (z axis_x)))
        ≡ J (z axis_x) (z axis_y) *ℤ indicator key_test q (key_mul (z axis_x) (z axis_y)) +ℤ J (z axis_x) (less q axis_x) *ℤ coef (θ (monomial (z axis_y))) (less q axis_x) +ℤ J (less q axis_y) (z axis_y) *ℤ coef (θ (monomial (z axis_x))) (less q axis_y)
    of_both J =
        two-parts n (z axis_x) (z axis_y) (omega arith) (omega arith) (θ (monomial (z axis_x))) (θ (monomial (z axis_y))) ix iy J (indicator key_test q) van (omega arith)
        ∙ ap (λ c. J (z axis_x) (z axis_y) *ℤ indicator key_test q (key_mul (z axis_x) (z axis_y)) +ℤ c +ℤ pair (λ u. J u (z axis_y) *ℤ indicator key_test q (key_mul u (z axis_y))) (above n (θ (monomial (z axis_x)))))
        (weighted (J (z axis_x)) axis_x q (above n (θ (monomial (z axis_y)))) ∙ ap (λ c. J (z axis_x) (less q axis_x) *ℤ c) (coef-high n (θ (monomial (z axis_y))) (less q axis_x) (omega (arith, deg))))
        ∙ ap (λ c. J (z axis_x) (z axis_y) *ℤ indicator key_test q (key_mul (z axis_x) (z axis_y)) +ℤ J (z axis_x) (less q axis_x) *ℤ coef (θ (monomial (z axis_y))) (less q axis_x) +ℤ c)
        (weighted-right (λ u. J u (z axis_y)) axis_y q (above n (θ (monomial (z axis_x)))) ∙ ap (λ c. J (less q axis_y) (z axis_y) *ℤ c) (coef-high n (θ (monomial (z axis_x))) (less q axis_y) (omega (arith, deg))))

    -- the exponent's numbers kill the two coefficients' sum
    pub orthogonal : (q.exp.a -ℤ pos 1) *ℤ coef (θ (monomial (z axis_x))) (less q axis_y) +ℤ (q.exp.b -ℤ pos 1) *ℤ coef (θ (monomial (z axis_y))) (less q axis_x) ≡ pos 0
    orthogonal =
        let A = coef (θ (monomial (z axis_x))) (less q axis_y) in
        let B = coef (θ (monomial (z axis_y))) (less q axis_x) in
        let i = indicator key_test q (key_mul (z axis_x) (z axis_y)) in
        let m = pair-mul-one ∙ of_both (λ _ _. pos 1) in
        let w = pair-bracket keys key_det (indicator key_test q) (θ (monomial (z axis_x))) (θ (monomial (z axis_y))) ∙ of_both key_det in
        let e : pos 1 *ℤ i +ℤ key_det (z axis_x) (less q axis_x) *ℤ B +ℤ key_det (less q axis_y) (z axis_y) *ℤ A ≡ pos 1 *ℤ i +ℤ pos 1 *ℤ B +ℤ pos 1 *ℤ A = sym w ∙ same-products.at (indicator key_test q) van ∙ m in
        ring ints_ring (q.exp.a ∷ q.exp.b ∷ A ∷ B ∷ i ∷ [])
        ((X :- E.unit) :* Z :+ (Y :- E.unit) :* var 3)
        ((E.unit :* var 4 :+ (E.unit :* (Y :- nought) :- nought :* (X :- E.unit)) :* var 3 :+ ((X :- nought) :* E.unit :- (Y :- E.unit) :* nought) :* Z) :- (E.unit :* var 4 :+ E.unit :* var 3 :+ E.unit :* Z)) refl
        ∙ ap (λ c. c -ℤ (pos 1 *ℤ i +ℤ pos 1 *ℤ B +ℤ pos 1 *ℤ A)) e ∙ ring ints_ring ((pos 1 *ℤ i +ℤ pos 1 *ℤ B +ℤ pos 1 *ℤ A) ∷ []) (X :- X) nought refl
      where
        pair-mul-one : pair (indicator key_test q) (mul (θ (monomial (z axis_x))) (θ (monomial (z axis_y)))) ≡ pair (λ u. pair (λ w. pos 1 *ℤ indicator key_test q (key_mul u w)) (θ (monomial (z axis_y)))) (θ (monomial (z axis_x)))
        pair-mul-one =
            S.pair-mul keys (indicator key_test q) (θ (monomial (z axis_x))) (θ (monomial (z axis_y)))
            ∙ pair-ext _ _ (θ (monomial (z axis_x))) (λ u. pair-ext _ _ (θ (monomial (z axis_y))) (λ w. ring ints_ring (indicator key_test q (key_mul u w) ∷ []) X (E.unit :* X) refl))
