-- The degree derivation of an image, divided by the image, has no term of exponent (0, 0).
use Rattle.std.proofs.Common.{◌≡◌, ◌≢◌, ℕ, refl, sym, ◌∙◌, ap, List, [], ◌∷◌, ◌<◌, ◌+◌, arith, inl, inr, ◌⊎◌}
use Rattle.std.specs.Prelude.{ℤ, pos, ◌+ℤ◌, ◌-ℤ◌, ◌*ℤ◌, neg_ℤ, ◌≤ℤ◌}
use Rattle.std.proofs.lemmas.Int.{ints}
use mathlib.Core.Quot.{mk, sound}
use Rattle.sum_algebra.proofs.Ring.{CommRing, var, plus, times, minus, nought, ring}
use Rattle.sum_algebra.proofs.Ring as E
use Rattle.sum_algebra.proofs.IntegerRing.{ints_ring, ◌:+◌, ◌:*◌, ◌:-◌, X, Y, Z}
use Rattle.sum_algebra.proofs.Sums as S
use Rattle.sum_algebra.proofs.Sums.{Same, pair, bind, multiple, pair-append, pair-multiple, pair-bind, pair-zero, pair-ext, pair-plus, pair-factor}
use Rattle.sum_algebra.proofs.Quotient.{Modulo, modulo_ring, exact}
use Rattle.sum_algebra.proofs.Powers.{int_power}
use Rattle.sum_algebra.proofs.Support.{Supported, Supported-mul, by_every, inverse, weaken}
use Rattle.sum_algebra.proofs.Crossing.{mono, list_int_power, image, class-int_power}
use Rattle.sum_algebra.proofs.CrossingLaws.{on_inverse}
use Rattle.sum_algebra.proofs.Derivation.{D-power}
use Rattle.sum_algebra.proofs.Bracket.{theta, pair-theta, theta-same, pair-bracket, derive, leibniz, whole, whole-zero, whole-suc, whole-pred, whole-times}
use Rattle.scattering.specs.Collections.{Every}
use Rattle.scattering.specs.Series.{Key, Sum, Exp, degree, det, z, key_mul, origin, monomial}
use Rattle.scattering.specs.Series as D
use Rattle.scattering.specs.LocalProduct.{Half, carry, cross_half}
use Rattle.scattering.proofs.Lists.{Every-implies}
use Rattle.scattering.proofs.Keys.{origin-case}
use Rattle.plane_theory.proofs.Directions.{zero-factor, positive-not}
use Rattle.crossing_theory.proofs.Keys.{keys, key_det, turn, crossing, wall-inverse, crossing-mul}
use Rattle.crossing_theory.proofs.Translation.{Eq, Eq-refl, Eq-trans, Eq-sym, rest-split}
use Rattle.crossing_theory.proofs.HalfWalls.{Proper, sign, as_crossing, every-keys}
use Rattle.crossing_theory.proofs.LocalProductLaws.{mul, brace, IsAutomorphism, Vanishes, Central, Eq-mul, Eq-brace, crossing-center, crossing-still, identity, after, half-automorphism}

abbrev pub euler : Sum → Sum
euler s = theta (λ x. pos (degree x)) s

pos-add : (a b c : ℕ) → a ≡ b + c → pos a ≡ pos b +ℤ pos c
pos-add a b c e = omega (arith, ints, e)

degree-add : (x y : Key) → pos (degree (key_mul x y)) ≡ pos (degree x) +ℤ pos (degree y)
degree-add x y = pos-add (degree (key_mul x y)) (degree x) (degree y) (keys.deg_mul x y)

abbrev pub opp : Exp → Exp
opp d = record { a = neg_ℤ d.a; b = neg_ℤ d.b }

module _ (k : ℕ) (h : Half) (p : Proper h.wall) where
  abbrev R : CommRing (Modulo keys k)
  R = modulo_ring keys k

  abbrev f : Sum
  f = h.wall.function

  abbrev d : Exp
  d = h.wall.dir

  abbrev s : ℤ
  s = sign h

  abbrev g : Sum
  g = inverse keys k f

  abbrev δ : Key → ℤ
  δ = turn d s

  abbrev C : Sum → Sum
  C u = crossing k d s f u

  inv : Eq k (mul f g) D.one
  inv = wall-inverse d s k f p.along

  -- the logarithmic derivative of f
  abbrev log_derivative : Sum
  log_derivative = mul (euler f) g

  abbrev DP : ℤ → Modulo keys k
  DP a = derive keys key_det k (λ x. pos (degree x)) (int_power (modulo_ring keys k) (mk f) (mk g) a)

  -- of a power
  power-derivative : (a : ℤ) → Eq k (euler (list_int_power keys f g a)) (multiple a (mul log_derivative (list_int_power keys f g a)))
  power-derivative a =
      exact keys k _ _
      (ap (derive keys key_det k (λ x. pos (degree x))) cls
      ∙ ring R (DP a ∷ []) X (E.unit :* X) refl ∙ ap (λ o. R.◌⊗◌ o (DP a)) (sym (sound inv)) ∙ ring R (mk f ∷ mk g ∷ DP a ∷ []) ((X :* Y) :* Z) (Y :* (X :* Z)) refl
      ∙ ap (λ o. R.◌⊗◌ (mk g) o) (D-power R (derive keys key_det k (λ x. pos (degree x))) (leibniz keys key_det k (λ x. pos (degree x)) degree-add) (whole keys key_det k) (whole-zero keys key_det k) (whole-suc keys key_det k) (whole-pred keys key_det k) (mk f) (mk g) (sound inv) a)
      ∙ ring R (mk g ∷ whole keys key_det k a ∷ int_power R (mk f) (mk g) a ∷ mk (euler f) ∷ []) (X :* (Y :* (Z :* var 3))) (Y :* ((var 3 :* X) :* Z)) refl
      ∙ ap (λ o. R.◌⊗◌ (whole keys key_det k a) (R.◌⊗◌ (mk log_derivative) o)) (sym cls)
      ∙ whole-times keys key_det k a (mul log_derivative (list_int_power keys f g a)))
    where
      cls : ◌≡◌ {A = Modulo keys k} (mk (list_int_power keys f g a)) (int_power (modulo_ring keys k) (mk f) (mk g) a)
      cls = class-int_power keys k f g (λ _. pos 0) inv (λ _ _. refl) a

  pair-image : (φ : Key → ℤ) (x : Key) → pair φ (image keys k f g δ x) ≡ pair (λ b. φ (key_mul x b)) (list_int_power keys f g (δ x))
  pair-image φ x = S.pair-mul keys φ (mono keys x) (list_int_power keys f g (δ x)) ∙ ring ints_ring (pair (λ b. φ (key_mul x b)) (list_int_power keys f g (δ x)) ∷ []) (E.unit :* X :+ nought) X refl

  -- a test, after multiplication with the logarithmic derivative
  abbrev logged : (Key → ℤ) → Key → ℤ
  logged φ b = pair (λ y. φ (key_mul y b)) log_derivative

  shuffle : (x y b : Key) → key_mul x (key_mul y b) ≡ key_mul y (key_mul x b)
  shuffle x y b = sym (keys.assoc x y b) ∙ ap (λ (u : Key). key_mul u b) (keys.comm x y) ∙ keys.assoc y x b

  image-derivative : (φ : Key → ℤ) → Vanishes k φ → (x : Key) → pair (λ y. pos (degree y) *ℤ φ y) (image keys k f g δ x) ≡ pos (degree x) *ℤ pair φ (image keys k f g δ x) +ℤ δ x *ℤ pair (logged φ) (image keys k f g δ x)
  image-derivative φ v x =
      pair-image (λ y. pos (degree y) *ℤ φ y) x
      ∙ pair-ext _ (λ b. pos (degree x) *ℤ φ (key_mul x b) +ℤ pos (degree b) *ℤ φ (key_mul x b)) P (λ b. rw (degree-add x b) (ring ints_ring (pos (degree x) ∷ pos (degree b) ∷ φ (key_mul x b) ∷ []) ((X :+ Y) :* Z) (X :* Z :+ Y :* Z) refl))
      ∙ pair-plus (λ b. pos (degree x) *ℤ φ (key_mul x b)) (λ b. pos (degree b) *ℤ φ (key_mul x b)) P
      ∙ rw (pair-factor (pos (degree x)) (λ b. φ (key_mul x b)) P, ← pair-image φ x)
      (ap (λ c. pos (degree x) *ℤ pair φ (image keys k f g δ x) +ℤ c)
      (sym (pair-theta (λ b. φ (key_mul x b)) (λ b. pos (degree b)) P)
      ∙ (power-derivative (δ x)).at (λ b. φ (key_mul x b)) (λ b l. v (key_mul x b) (let q = keys.deg_mul x b in omega (arith, q, l)))
      ∙ pair-multiple (λ b. φ (key_mul x b)) (δ x) (mul log_derivative P)
      ∙ ap (λ c. δ x *ℤ c)
      (S.pair-mul keys (λ b. φ (key_mul x b)) log_derivative P
      ∙ pair-ext _ _ log_derivative (λ y. pair-ext _ _ P (λ b. ap φ (shuffle x y b)))
      ∙ S.pair-swap (λ y b. φ (key_mul y (key_mul x b))) log_derivative P
      ∙ sym (pair-image (logged φ) x))))
    where
      P : Sum
      P = list_int_power keys h.wall.function (inverse keys k h.wall.function) (turn h.wall.dir (sign h) x)

  crossing-derivative : (φ : Key → ℤ) → Vanishes k φ → (u : Sum) → pair (λ y. pos (degree y) *ℤ φ y) (C u) ≡ pair φ (C (euler u)) +ℤ pair (logged φ) (C (theta δ u))
  crossing-derivative φ v u =
      pair-bind (λ y. pos (degree y) *ℤ φ y) u (image keys k f g δ)
      ∙ pair-ext _ _ u (image-derivative φ v)
      ∙ pair-plus (λ x. pos (degree x) *ℤ pair φ (image keys k f g δ x)) (λ x. δ x *ℤ pair (logged φ) (image keys k f g δ x)) u
      ∙ rw (pair-bind φ (euler u) (image keys k f g δ), pair-theta (λ x. pair φ (image keys k f g δ x)) (λ x. pos (degree x)) u, pair-bind (logged φ) (theta δ u) (image keys k f g δ), pair-theta (λ x. pair (logged φ) (image keys k f g δ x)) δ u) refl

  -- ---- where the logarithmic derivative stands

  abbrev Ahead : ℤ → Key → Type 0
  Ahead l y = (i : ℤ) × (l ≤ℤ i) × (y.exp.a ≡ i *ℤ h.wall.dir.a) × (y.exp.b ≡ i *ℤ h.wall.dir.b)

  sum-le : (l m i j : ℤ) → l ≤ℤ i → m ≤ℤ j → (l +ℤ m) ≤ℤ (i +ℤ j)
  sum-le l m i j p q = omega (arith, ints, p, q)

  ahead-mul : (l m : ℤ) (x y : Key) → Ahead l x → Ahead m y → Ahead (l +ℤ m) (key_mul x y)
  ahead-mul l m x y a b = (
    a.0 +ℤ b.0,
    sum-le l m a.0 b.0 a.1 b.1,
    rw (a.2, b.2) (ring ints_ring (a.0 ∷ b.0 ∷ h.wall.dir.a ∷ []) (X :* Z :+ Y :* Z) ((X :+ Y) :* Z) refl),
    rw (a.3, b.3) (ring ints_ring (a.0 ∷ b.0 ∷ h.wall.dir.b ∷ []) (X :* Z :+ Y :* Z) ((X :+ Y) :* Z) refl),
  )

  ahead-unit : Ahead (pos 0) D.unit
  ahead-unit = (pos 0, omega (arith, ints), ring ints_ring (h.wall.dir.a ∷ []) nought (nought :* X) refl, ring ints_ring (h.wall.dir.b ∷ []) nought (nought :* X) refl)

  rest-ahead : Supported (Ahead (pos 1)) (D.rest h.wall.function)
  rest-ahead = by_every (Ahead (pos 1)) (D.rest h.wall.function) (every-keys (Ahead (pos 1)) (D.rest h.wall.function) (Every-implies _ (λ t. Ahead (pos 1) t.0) (D.rest h.wall.function) (λ t q. (q.1.0, q.1.1, ap (λ (m : Exp). m.a) q.1.2, ap (λ (m : Exp). m.b) q.1.2)) p.others))

  weaker : (y : Key) → Ahead (pos 1) y → Ahead (pos 0) y
  weaker y a = (a.0, low a.0 a.1, a.2, a.3)
    where
      low : (i : ℤ) → pos 1 ≤ℤ i → pos 0 ≤ℤ i
      low i l = omega (arith, ints, l)

  f-ahead : Supported (Ahead (pos 0)) h.wall.function
  f-ahead = record {
    at = λ φ ψ e.
        rest-split φ h.wall.function
        ∙ rw (e D.unit ahead-unit, (weaken (Ahead (pos 1)) (Ahead (pos 0)) (D.rest h.wall.function) weaker rest-ahead).at φ ψ e) (sym (rest-split ψ h.wall.function));
  }

  g-ahead : Supported (Ahead (pos 0)) (inverse keys k h.wall.function)
  g-ahead = on_inverse keys (Ahead (pos 0)) ahead-unit (λ x y a b. ahead-mul (pos 0) (pos 0) x y a b) k h.wall.function f-ahead

  euler-ahead : Supported (Ahead (pos 1)) (euler h.wall.function)
  euler-ahead = record {
    at = λ φ ψ e.
        pair-theta φ (λ x. pos (degree x)) h.wall.function ∙ rest-split (λ x. pos (degree x) *ℤ φ x) h.wall.function
        ∙ ap (λ c. D.coef h.wall.function D.unit *ℤ c +ℤ pair (λ x. pos (degree x) *ℤ φ x) (D.rest h.wall.function)) (ring ints_ring (φ D.unit ∷ []) (nought :* X) nought refl)
        ∙ ap (λ c. D.coef h.wall.function D.unit *ℤ pos 0 +ℤ c) (rest-ahead.at (λ x. pos (degree x) *ℤ φ x) (λ x. pos (degree x) *ℤ ψ x) (λ x a. ap (λ c. pos (degree x) *ℤ c) (e x a)))
        ∙ sym (pair-theta ψ (λ x. pos (degree x)) h.wall.function ∙ rest-split (λ x. pos (degree x) *ℤ ψ x) h.wall.function
        ∙ ap (λ c. D.coef h.wall.function D.unit *ℤ c +ℤ pair (λ x. pos (degree x) *ℤ ψ x) (D.rest h.wall.function)) (ring ints_ring (ψ D.unit ∷ []) (nought :* X) nought refl));
  }

  log-ahead : Supported (Ahead (pos 1)) log_derivative
  log-ahead = Supported-mul keys (Ahead (pos 1)) (Ahead (pos 0)) (Ahead (pos 1)) (euler h.wall.function) (inverse keys k h.wall.function) (λ x y a b. ahead-mul (pos 1) (pos 0) x y a b) euler-ahead g-ahead

-- ---- an image, bracketed and divided by itself

module _ (k : ℕ) (θ : Sum → Sum) (auto : IsAutomorphism k θ) (m : Exp) where
  abbrev G : Sum
  G = θ (monomial (z m))

  abbrev G' : Sum
  G' = θ (monomial (z (opp m)))

  bracket-zero : (φ : Key → ℤ) → Vanishes k φ → Central φ → (y : Sum) → pair φ (mul (brace y G) G') ≡ pos 0
  bracket-zero φ v c y =
      (Eq-mul k _ _ G' G' (Eq-trans k _ (brace (θ u) G) _ (Eq-brace k y (θ u) G G (Eq-sym k _ _ (auto.onto y).1) (Eq-refl k G)) (Eq-sym k _ _ (auto.brackets u (monomial (z m))))) (Eq-refl k G')).at φ v
      ∙ sym ((auto.products (brace u (monomial (z m))) (monomial (z (opp m)))).at φ v)
      ∙ auto.center φ v c (mul (brace u (monomial (z m))) (monomial (z (opp m))))
      ∙ S.pair-mul keys φ (brace u (monomial (z m))) (monomial (z (opp m)))
      ∙ pair-bracket keys key_det (λ x. pair (λ b. φ (key_mul x b)) (monomial (z (opp m)))) u (monomial (z m))
      ∙ pair-ext _ (λ _. pos 0) u one ∙ pair-zero u
    where
      u : Sum
      u = (auto.onto y).0

      shifted : (x : Key) → (key_mul (key_mul x (z m)) (z (opp m))).exp ≡ x.exp
      shifted x =
          let a : (x.exp.a +ℤ m.a) +ℤ neg_ℤ m.a ≡ x.exp.a = ring ints_ring (x.exp.a ∷ m.a ∷ []) (X :+ Y :- Y) X refl in
          let b : (x.exp.b +ℤ m.b) +ℤ neg_ℤ m.b ≡ x.exp.b = ring ints_ring (x.exp.b ∷ m.b ∷ []) (X :+ Y :- Y) X refl in
          λ i. record { a = a i; b = b i }

      one : (x : Key) → pair (λ w. key_det x w *ℤ pair (λ b. φ (key_mul (key_mul x w) b)) (monomial (z (opp m)))) (monomial (z m)) ≡ pos 0
      one x = go (origin-case x.exp)
        where
          tidy : (t u : ℤ) → t *ℤ u ≡ pos 0 → pos 1 *ℤ (t *ℤ (pos 1 *ℤ u +ℤ pos 0)) +ℤ pos 0 ≡ pos 0
          tidy t u e = ring ints_ring (t ∷ u ∷ []) (E.unit :* (X :* (E.unit :* Y :+ nought)) :+ nought) (X :* Y) refl ∙ e

          go : (x.exp ≡ origin) ⊎ (x.exp ≢ origin) → pair (λ w. key_det x w *ℤ pair (λ b. φ (key_mul (key_mul x w) b)) (monomial (z (opp m)))) (monomial (z m)) ≡ pos 0
          go (inl o) = tidy (key_det x (z m)) (φ (key_mul (key_mul x (z m)) (z (opp m)))) (ap (λ (e : Exp). det e m *ℤ φ (key_mul (key_mul x (z m)) (z (opp m)))) o ∙ ring ints_ring (m.a ∷ m.b ∷ φ (key_mul (key_mul x (z m)) (z (opp m))) ∷ []) ((nought :* Y :- nought :* X) :* Z) nought refl)
          go (inr n) = tidy (key_det x (z m)) (φ (key_mul (key_mul x (z m)) (z (opp m)))) (ap (λ c. key_det x (z m) *ℤ c) (c _ (λ e. n (sym (shifted x) ∙ e))) ∙ ring ints_ring (key_det x (z m) ∷ []) (X :* nought) nought refl)

-- ---- the degree derivation of an image, divided by the image

pub record HasNoResidue (k : ℕ) (θ : Sum → Sum) : Type 0 where
  pub no-residue : (m : Exp) (φ : Key → ℤ) → Vanishes k φ → Central φ → pair φ (mul (euler (θ (monomial (z m)))) (θ (monomial (z (opp m))))) ≡ pos 0

module _ (k : ℕ) (θ : Sum → Sum) (auto : IsAutomorphism k θ) (known : HasNoResidue k θ) (h : Half) (p : Proper h.wall) (m : Exp) (φ : Key → ℤ) (v : Vanishes k φ) (c : Central φ) where
  abbrev A : Sum
  A = θ (monomial (z m))

  abbrev B : Sum
  B = θ (monomial (z (opp m)))

  abbrev cr : Sum → Sum
  cr u = crossing k h.wall.dir (sign h) h.wall.function u

  abbrev turned : Sum
  turned = theta (turn h.wall.dir (sign h)) A

  times-vanish : (x w : Key) → k < degree w → φ (key_mul x w) ≡ pos 0
  times-vanish x w l = v (key_mul x w) (let q = keys.deg_mul x w in omega (arith, q, l))

  abbrev χ : Key → ℤ
  χ u = pair (λ w. φ (key_mul u w)) (cr B)

  χ-vanishes : Vanishes k χ
  χ-vanishes u l = pair-ext _ (λ _. pos 0) (cr B) (λ w. v (key_mul u w) (let q = keys.deg_mul u w in omega (arith, q, l))) ∙ pair-zero (cr B)

  first-part : pair χ (cr (euler A)) ≡ pos 0
  first-part =
      sym (S.pair-mul keys φ (cr (euler A)) (cr B))
      ∙ sym ((crossing-mul h.wall.dir (sign h) k h.wall.function p.along (euler A) B).at φ v)
      ∙ crossing-center k h.wall.dir (sign h) h.wall.function p.along φ v c (mul (euler A) B)
      ∙ known.no-residue m φ v c

  module _ (y : Key) (a : Ahead k h p (pos 1) y) where
    abbrev K : Key → ℤ
    K u = pair (λ w. φ (key_mul y (key_mul u w))) B

    det-ahead : (u : Key) → key_det y u ≡ a.0 *ℤ det h.wall.dir u.exp
    det-ahead u = rw (a.2, a.3) (ring ints_ring (a.0 ∷ h.wall.dir.a ∷ h.wall.dir.b ∷ u.exp.a ∷ u.exp.b ∷ []) ((X :* Y) :* var 4 :- (X :* Z) :* var 3) (X :* (Y :* var 4 :- Z :* var 3)) refl)

    -- y times a key of exponent (0, 0) isn't turned
    turned-zero : (x : Key) → (key_mul y x).exp ≡ origin → turn h.wall.dir (sign h) x ≡ pos 0
    turned-zero x o =
        ring ints_ring (sign h ∷ h.wall.dir.a ∷ h.wall.dir.b ∷ x.exp.a ∷ x.exp.b ∷ a.0 ∷ [])
        (X :* (Y :* var 4 :- Z :* var 3)) (X :* (Y :* (var 5 :* Z :+ var 4) :- Z :* (var 5 :* Y :+ var 3))) refl
        ∙ ap (λ (e : Exp). sign h *ℤ (h.wall.dir.a *ℤ e.b -ℤ h.wall.dir.b *ℤ e.a)) same-exp
        ∙ ring ints_ring (sign h ∷ h.wall.dir.a ∷ h.wall.dir.b ∷ []) (X :* (Y :* nought :- Z :* nought)) nought refl
      where
        same-exp : ◌≡◌ {A = Exp} (record { a = a.0 *ℤ h.wall.dir.a +ℤ x.exp.a; b = a.0 *ℤ h.wall.dir.b +ℤ x.exp.b }) origin
        same-exp =
            let q : a.0 *ℤ h.wall.dir.a +ℤ x.exp.a ≡ pos 0 = ap (λ n. n +ℤ x.exp.a) (sym a.2) ∙ ap (λ (e : Exp). e.a) o in
            let r : a.0 *ℤ h.wall.dir.b +ℤ x.exp.b ≡ pos 0 = ap (λ n. n +ℤ x.exp.b) (sym a.3) ∙ ap (λ (e : Exp). e.b) o in
            λ i. record { a = q i; b = r i }

    plain : pair (λ b. χ (key_mul y b)) (cr turned) ≡ pair (λ u. turn h.wall.dir (sign h) u *ℤ K u) A
    plain =
        pair-ext _ _ (cr turned) (λ b. pair-ext _ _ (cr B) (λ w. ap φ (keys.assoc y b w)))
        ∙ sym (S.pair-mul keys (λ x. φ (key_mul y x)) (cr turned) (cr B))
        ∙ sym ((crossing-mul h.wall.dir (sign h) k h.wall.function p.along turned B).at (λ x. φ (key_mul y x)) (λ x l. times-vanish y x l))
        ∙ crossing-still k h.wall.dir (sign h) h.wall.function p.along (λ x. φ (key_mul y x)) (λ x l. times-vanish y x l) (λ x n. c (key_mul y x) (λ o. n (turned-zero x o))) (mul turned B)
        ∙ S.pair-mul keys (λ x. φ (key_mul y x)) turned B
        ∙ pair-theta (λ u. pair (λ w. φ (key_mul y (key_mul u w))) B) (turn h.wall.dir (sign h)) A

    bracketed : pair (λ u. key_det y u *ℤ K u) A ≡ pos 0
    bracketed =
        ring ints_ring (pair (λ u. key_det y u *ℤ K u) A ∷ []) X (E.unit :* X :+ nought) refl
        ∙ sym (S.pair-mul keys φ (brace (mono keys y) A) B
        ∙ pair-bracket keys key_det (λ x. pair (λ w. φ (key_mul x w)) B) (mono keys y) A
        ∙ ap (λ n. pos 1 *ℤ n +ℤ pos 0) (pair-ext _ _ A (λ u. ap (λ n. key_det y u *ℤ n) (pair-ext _ _ B (λ w. ap φ (keys.assoc y u w))))))
        ∙ bracket-zero k θ auto m φ v c (mono keys y)

    second-key : pair (λ b. χ (key_mul y b)) (cr turned) ≡ pos 0
    second-key =
        plain ∙ zero-factor a.0 (pair (λ u. turn h.wall.dir (sign h) u *ℤ K u) A) (positive-not a.0 a.1)
        (sym (pair-factor a.0 (λ u. turn h.wall.dir (sign h) u *ℤ K u) A)
        ∙ pair-ext _ (λ u. sign h *ℤ (key_det y u *ℤ K u)) A (λ u. ring ints_ring (a.0 ∷ sign h ∷ det h.wall.dir u.exp ∷ K u ∷ []) (X :* ((Y :* Z) :* var 3)) (Y :* ((X :* Z) :* var 3)) refl ∙ ap (λ n. sign h *ℤ (n *ℤ K u)) (sym (det-ahead u)))
        ∙ pair-factor (sign h) (λ u. key_det y u *ℤ K u) A ∙ ap (λ n. sign h *ℤ n) bracketed ∙ ring ints_ring (sign h ∷ []) (X :* nought) nought refl)

  second-part : pair (logged k h p χ) (cr turned) ≡ pos 0
  second-part =
      S.pair-swap (λ b y. χ (key_mul y b)) (cr turned) (log_derivative k h p)
      ∙ (log-ahead k h p).at _ (λ _. pos 0) second-key ∙ pair-zero (log_derivative k h p)

  pub no-residue-after : pair φ (mul (euler (cross_half k h A)) (cross_half k h B)) ≡ pos 0
  no-residue-after =
      (Eq-mul k _ (euler (cr A)) _ (cr B) (theta-same keys key_det k (λ x. pos (degree x)) _ _ (as_crossing k h p A)) (as_crossing k h p B)).at φ v
      ∙ S.pair-mul keys φ (euler (cr A)) (cr B) ∙ pair-theta χ (λ x. pos (degree x)) (cr A)
      ∙ crossing-derivative k h p χ χ-vanishes A ∙ rw (first-part, second-part) refl

pub no-residue-half : (k : ℕ) (θ : Sum → Sum) → IsAutomorphism k θ → HasNoResidue k θ → (h : Half) → Proper h.wall → HasNoResidue k (λ u. cross_half k h (θ u))
no-residue-half k θ auto known h p = record { no-residue = λ m φ v c. no-residue-after k θ auto known h p m φ v c }

pub no-residue-carry : (k : ℕ) (hs : List Half) → Every (λ h. Proper h.wall) hs → (θ : Sum → Sum) → IsAutomorphism k θ → HasNoResidue k θ → HasNoResidue k (λ u. carry k hs (θ u))
no-residue-carry k [] q θ auto known = known
no-residue-carry k (h ∷ hs) q θ auto known = no-residue-carry k hs q.1 (λ u. cross_half k h (θ u)) (after k θ (cross_half k h) auto (half-automorphism k h q.0)) (no-residue-half k θ auto known h q.0)

pub no-residue : (k : ℕ) (hs : List Half) → Every (λ h. Proper h.wall) hs → HasNoResidue k (carry k hs)
no-residue k hs q = no-residue-carry k hs q (λ u. u) (identity k) (record { no-residue = λ m φ v c. S.pair-mul keys φ (euler (monomial (z m))) (monomial (z (opp m))) ∙ ring ints_ring (pair (λ w. φ (key_mul (z m) w)) (monomial (z (opp m))) ∷ []) (nought :* E.unit :* X :+ nought) nought refl })
