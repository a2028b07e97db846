-- The definitions' sums, products, powers and crossings are the algebra's, modulo degree.
use Rattle.std.specs.Prelude.{◌≡◌, refl, ℕ, [], ◌∷◌, ◌<◌, Bool, true, false, map, nat_le}
use Rattle.std.proofs.Common.{sym, ◌∙◌, ap, arith, zero, suc}
use lib.IntN.{ℤ, pos, negsuc, ◌+ℤ◌, ◌*ℤ◌, neg_ℤ}
use mathlib.Core.Quot.{sound}
use Rattle.sum_algebra.proofs.Ring.{var, plus, times, minus, nought, ring}
use Rattle.sum_algebra.proofs.Ring as E
use Rattle.sum_algebra.proofs.IntegerRing.{ints_ring, ◌:+◌, ◌:*◌, X, Y, Z}
use Rattle.sum_algebra.proofs.Sums as S
use Rattle.sum_algebra.proofs.Sums.{Same, pair, bind, multiple, pair-append, pair-multiple, pair-bind, pair-ext}
use Rattle.sum_algebra.proofs.Quotient.{modulo_ring, same, exact, Same-mul_right}
use Rattle.sum_algebra.proofs.Coefficients.{Test, coefficient, by_coefficients, coefficients}
use Rattle.sum_algebra.proofs.Powers.{powers}
use Rattle.sum_algebra.proofs.Powers as W
use Rattle.sum_algebra.proofs.Support.{one_minus, list_power, list_powers, inverse, class-power, class-powers}
use Rattle.sum_algebra.proofs.Crossing.{mono, list_int_power, image}
use Rattle.scattering.specs.Series.{Key, Sum, Exp, key_eq, key_mul, degree, coef, SameTo, cut, term_mul, rest, det, IsWallFunction}
use Rattle.scattering.specs.Series as D
use Rattle.scattering.specs.LocalProduct as P
use Rattle.scattering.proofs.Keys.{key_eq-same, key_eq-refl}
use Rattle.crossing_theory.proofs.Keys.{keys, turn, crossing}

-- ---- coefficients

abbrev pub key_test : Test Key
key_test = record { is = λ x y. key_eq y x; sure = λ x y e. sym (key_eq-same y x e); itself = λ x. key_eq-refl x }

abbrev pub Eq : ℕ → Sum → Sum → Type 0
Eq k f g = Same keys k f g

pub coef-is : (f : Sum) (x : Key) → coef f x ≡ coefficient key_test x f
coef-is [] x = refl
coef-is (t ∷ f) x = go (key_eq t.0 x) refl (coef-is f x)
  where
    go : (b : Bool) → key_eq t.0 x ≡ b → coef f x ≡ coefficient key_test x f → coef (t ∷ f) x ≡ coefficient key_test x (t ∷ f)
    go true e h = rw (e, h) (ring ints_ring (t.1 ∷ coefficient key_test x f ∷ []) (X :+ Y) (X :* E.unit :+ Y) refl)
    go false e h = rw (e, h) (ring ints_ring (t.1 ∷ coefficient key_test x f ∷ []) (nought :+ Y) (X :* nought :+ Y) refl)

-- the two ways to say that sums are equal to degree k
pub to_Eq : (k : ℕ) (f g : Sum) → SameTo k f g → Eq k f g
to_Eq k f g h = by_coefficients key_test keys k f g (λ x d. sym (coef-is f x) ∙ h x d ∙ coef-is g x)

pub from_Eq : (k : ℕ) (f g : Sum) → Eq k f g → SameTo k f g
from_Eq k f g h x d = coef-is f x ∙ coefficients key_test keys k f g h x d ∙ sym (coef-is g x)

pub Eq-refl : (k : ℕ) (f : Sum) → Eq k f f
Eq-refl k f = record { at = λ φ v. refl }

pub Eq-trans : (k : ℕ) (f g h : Sum) → Eq k f g → Eq k g h → Eq k f h
Eq-trans k f g h p q = record { at = λ φ v. p.at φ v ∙ q.at φ v }

pub Eq-sym : (k : ℕ) (f g : Sum) → Eq k f g → Eq k g f
Eq-sym k f g p = record { at = λ φ v. sym (p.at φ v) }

-- ---- products and powers

pub cut-same : (n : ℕ) (f : Sum) → Eq n (cut n f) f
cut-same n [] = Eq-refl n []
cut-same n (t ∷ f) = record { at = λ φ v. go φ v (nat_le (degree t.0) n) refl ((cut-same n f).at φ v) }
  where
    high : (d : ℕ) → nat_le d n ≡ false → n < d
    high d e = grind arith

    go : (φ : Key → ℤ) → ((x : Key) → n < degree x → φ x ≡ pos 0) → (b : Bool) → nat_le (degree t.0) n ≡ b → pair φ (cut n f) ≡ pair φ f → pair φ (cut n (t ∷ f)) ≡ pair φ (t ∷ f)
    go φ v true e h = rw (e, h)
    go φ v false e h = rw (e, h, v t.0 (high (degree t.0) e)) (ring ints_ring (t.1 ∷ pair φ f ∷ []) Y (X :* nought :+ Y) refl)

pub pair-term : (φ : Key → ℤ) (t : D.Term) (g : Sum) → pair φ (map (term_mul t) g) ≡ t.1 *ℤ pair (λ y. φ (key_mul t.0 y)) g
pair-term φ t [] = ring ints_ring (t.1 ∷ []) nought (X :* nought) refl
pair-term φ t (u ∷ g) =
    rw (pair-term φ t g)
    (ring ints_ring (t.1 ∷ u.1 ∷ φ (key_mul t.0 u.0) ∷ pair (λ y. φ (key_mul t.0 y)) g ∷ []) (X :* Y :* Z :+ X :* var 3) (X :* (Y :* Z :+ var 3)) refl)

pub pair-mul : (n : ℕ) (f g : Sum) (φ : Key → ℤ) → ((x : Key) → n < degree x → φ x ≡ pos 0) → pair φ (D.mul n f g) ≡ pair (λ x. pair (λ y. φ (key_mul x y)) g) f
pair-mul n [] g φ v = refl
pair-mul n (t ∷ f) g φ v =
    pair-append φ (cut n (map (term_mul t) g)) (D.mul n f g)
    ∙ rw (pair-mul n f g φ v, (cut-same n (map (term_mul t) g)).at φ v, pair-term φ t g)

pub mul-same : (n : ℕ) (f g : Sum) → Eq n (D.mul n f g) (S.mul keys f g)
mul-same n f g = record { at = λ φ v. pair-mul n f g φ v ∙ sym (S.pair-mul keys φ f g) }

pub pow-same : (n : ℕ) (f : Sum) (i : ℕ) → Eq n (D.pow n f i) (list_power keys f i)
pow-same n f zero = Eq-refl n D.one
pow-same n f (suc i) = Eq-trans n _ (S.mul keys f (D.pow n f i)) _ (mul-same n f (D.pow n f i)) (Same-mul_right keys n f (D.pow n f i) (list_power keys f i) (pow-same n f i))

powers_to-same : (n : ℕ) (f : Sum) (i : ℕ) → Eq n (D.powers_to n f i) (list_powers keys f (suc i))
powers_to-same n f zero = Eq-refl n D.one
powers_to-same n f (suc i) = record {
  at = λ φ v.
      pair-append φ (D.powers_to n f i) (D.pow n f (suc i))
      ∙ rw ((powers_to-same n f i).at φ v, (pow-same n f (suc i)).at φ v) (sym (pair-append φ (list_powers keys f (suc i)) (list_power keys f (suc i))));
}

pub rest-split : (φ : Key → ℤ) (f : Sum) → pair φ f ≡ coef f D.unit *ℤ φ D.unit +ℤ pair φ (rest f)
rest-split φ [] = ring ints_ring (φ D.unit ∷ []) nought (nought :* X :+ nought) refl
rest-split φ (t ∷ f) = go (key_eq t.0 D.unit) refl (rest-split φ f)
  where
    go : (b : Bool) → key_eq t.0 D.unit ≡ b → pair φ f ≡ coef f D.unit *ℤ φ D.unit +ℤ pair φ (rest f) → pair φ (t ∷ f) ≡ coef (t ∷ f) D.unit *ℤ φ D.unit +ℤ pair φ (rest (t ∷ f))
    go true e h = rw (e, h, key_eq-same t.0 D.unit e) (ring ints_ring (t.1 ∷ φ D.unit ∷ coef f D.unit ∷ pair φ (rest f) ∷ []) (X :* Y :+ (Z :* Y :+ var 3)) ((X :+ Z) :* Y :+ var 3) refl)
    go false e h = rw (e, h) (ring ints_ring (t.1 ∷ φ D.unit ∷ coef f D.unit ∷ pair φ (rest f) ∷ φ t.0 ∷ []) (X :* var 4 :+ (Z :* Y :+ var 3)) ((nought :+ Z) :* Y :+ (X :* var 4 :+ var 3)) refl)

pub pair-minus : (φ : Key → ℤ) (f : Sum) → pair φ (D.minus f) ≡ neg_ℤ (pair φ f)
pair-minus φ [] = refl
pair-minus φ (t ∷ f) = rw (pair-minus φ f) (ring ints_ring (t.1 ∷ φ t.0 ∷ pair φ f ∷ []) (minus X :* Y :+ minus Z) (minus (X :* Y :+ Z)) refl)

-- f is 1 and terms other than 1
pub one_minus-rest : (f : Sum) → coef f D.unit ≡ pos 1 → (φ : Key → ℤ) → pair φ (one_minus keys f) ≡ neg_ℤ (pair φ (rest f))
one_minus-rest f c φ =
    ap (λ z. pos 1 *ℤ φ D.unit +ℤ z) (pair-multiple φ (neg_ℤ (pos 1)) f ∙ ap (λ z. negsuc 0 *ℤ z) (rest-split φ f ∙ ap (λ z. z *ℤ φ D.unit +ℤ pair φ (rest f)) c))
    ∙ ring ints_ring (φ D.unit ∷ pair φ (rest f) ∷ []) (E.unit :* X :+ minus E.unit :* (E.unit :* X :+ Y)) (minus Y) refl

module _ (k : ℕ) (f : Sum) (constant : coef f D.unit ≡ pos 1) where
  inverse-same : Eq k (D.inverse k f) (inverse keys k f)
  inverse-same =
      Eq-trans k _ (list_powers keys (D.minus (rest f)) (suc k)) _ (powers_to-same k (D.minus (rest f)) k)
      (exact keys k _ _
      (class-powers keys k (D.minus (rest f)) (suc k)
      ∙ ap (λ u. powers (modulo_ring keys k) u (suc k)) (same keys k (D.minus (rest f)) (one_minus keys f) (λ φ. pair-minus φ (rest f) ∙ sym (one_minus-rest f constant φ)))
      ∙ sym (class-powers keys k (one_minus keys f) (suc k))))

  power-of_inverse : (i : ℕ) → Eq k (D.pow k (D.inverse k f) i) (list_power keys (inverse keys k f) i)
  power-of_inverse i =
      Eq-trans k _ (list_power keys (D.inverse k f) i) _ (pow-same k (D.inverse k f) i)
      (exact keys k _ _ (class-power keys k (D.inverse k f) i ∙ ap (λ u. W.power (modulo_ring keys k) u i) (sound inverse-same) ∙ sym (class-power keys k (inverse keys k f) i)))

  pub power-same : (a : ℤ) → Eq k (D.power k f a) (list_int_power keys f (inverse keys k f) a)
  power-same (pos i) = pow-same k f i
  power-same (negsuc i) = power-of_inverse (suc i)

  -- a crossing of the definitions is one of the algebra
  pub cross-same : (dir : Exp) (s : ℤ) (g : Sum) → Eq k (P.cross k dir f s g) (crossing k dir s f g)
  cross-same dir s [] = Eq-refl k []
  cross-same dir s (t ∷ g) = record {
    at = λ φ v.
        pair-append φ (D.mul k (t ∷ []) (D.power k f (s *ℤ det dir t.0.exp))) (P.cross k dir f s g)
        ∙ rw (
          (cross-same dir s g).at φ v,
          pair-append φ (multiple t.1 (image keys k f (inverse keys k f) (turn dir s) t.0)) (crossing k dir s f g),
          pair-mul k (t ∷ []) (D.power k f (s *ℤ det dir t.0.exp)) φ v,
          pair-multiple φ t.1 (image keys k f (inverse keys k f) (turn dir s) t.0),
          S.pair-mul keys φ (mono keys t.0) (list_int_power keys f (inverse keys k f) (turn dir s t.0)),
        )
        (rw ((power-same (s *ℤ det dir t.0.exp)).at (λ y. φ (key_mul t.0 y)) (λ y d. v (key_mul t.0 y) (omega (arith, d))))
        (ring ints_ring (t.1 ∷ pair (λ y. φ (key_mul t.0 y)) (list_int_power keys f (inverse keys k f) (turn dir s t.0)) ∷ pair φ (crossing k dir s f g) ∷ [])
        ((X :* Y :+ nought) :+ Z) (X :* (E.unit :* Y :+ nought) :+ Z) refl));
  }
