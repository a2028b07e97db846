-- A crossing keeps the Poisson bracket.
use Rattle.std.specs.Prelude.{◌≡◌, refl, ℕ, List, [], ◌∷◌, ◌++◌, ◌<◌}
use Rattle.std.proofs.Common.{sym, ◌∙◌, ap, arith}
use mathlib.Core.Quot.{mk, sound, lift, Quot-set}
use lib.IntN.{ℤ, pos, negsuc, suc_ℤ, pred_ℤ, ◌+ℤ◌, ◌-ℤ◌, ◌*ℤ◌, neg_ℤ, suc_ℤ-*ℤ, pred_ℤ-*ℤ, *ℤ-zero}
use Rattle.sum_algebra.proofs.Ring.{CommRing, minus, nought, unit, ring}
use Rattle.sum_algebra.proofs.IntegerRing.{ints_ring, ◌:+◌, ◌:*◌, ◌:-◌, X, Y, Z, W}
use Rattle.sum_algebra.proofs.Sums as S
use Rattle.sum_algebra.proofs.Sums.{Keys, Same, pair, bind, multiple, pair-append, pair-multiple, pair-bind, pair-zero, pair-ext, pair-swap, pair-plus, pair-factor}
use Rattle.sum_algebra.proofs.Quotient.{Modulo, modulo_ring, same, exact, by_two}
use Rattle.sum_algebra.proofs.Powers.{int_power}
use Rattle.sum_algebra.proofs.Support.{Supported}
use Rattle.sum_algebra.proofs.Crossing.{mono, list_int_power, image, cross, class-int_power, power-add}
use Rattle.sum_algebra.proofs.Derivation.{D-power, cancel}

-- each coefficient times a number of its key
abbrev pub theta : {K : Type 0} → (K → ℤ) → List (K × ℤ) → List (K × ℤ)
theta J [] = []
theta J (u ∷ s) = (u.0, J u.0 *ℤ u.1) ∷ theta J s

pub pair-theta : {K : Type 0} (φ J : K → ℤ) (s : List (K × ℤ)) → pair φ (theta J s) ≡ pair (λ x. J x *ℤ φ x) s
pair-theta φ J [] = refl
pair-theta φ J (u ∷ s) = rw (pair-theta φ J s) (ring ints_ring (J u.0 ∷ u.1 ∷ φ u.0 ∷ pair (λ x. J x *ℤ φ x) s ∷ []) (X :* Y :* Z :+ W) (Y :* (X :* Z) :+ W) refl)

-- two derivations on powers of a unit
module _ {R : Type 0} (𝓡 : CommRing R) where
  open 𝓡 use {◌⊕◌, ◌⊗◌, ⊖◌, 𝟘, 𝟙}

  infixl 6 ◌⊕◌
  infixl 7 ◌⊗◌
  pub two_derivations : (D E : R → R) (ld : (a b : R) → D (a ⊗ b) ≡ D a ⊗ b ⊕ a ⊗ D b) (le : (a b : R) → E (a ⊗ b) ≡ E a ⊗ b ⊕ a ⊗ E b) (ι : ℤ → R) (z : ι (pos 0) ≡ 𝟘) (s : (a : ℤ) → ι (suc_ℤ a) ≡ ι a ⊕ 𝟙) (p : (a : ℤ) → ι (pred_ℤ a) ≡ ι a ⊕ ⊖◌ 𝟙) (f g : R) (inv : f ⊗ g ≡ 𝟙) (a b : ℤ) → ι a ⊗ D f ≡ ι b ⊗ E f → D (int_power 𝓡 f g a) ⊗ int_power 𝓡 f g b ≡ int_power 𝓡 f g a ⊗ E (int_power 𝓡 f g b)
  two_derivations D E ld le ι z s p f g inv a b h =
      cancel 𝓡 D ld ι z s p f g inv _ _
      (ring 𝓡 (f ∷ D (int_power 𝓡 f g a) ∷ int_power 𝓡 f g b ∷ []) (X :* (Y :* Z)) (X :* Y :* Z) refl
      ∙ ap (λ o. o ⊗ int_power 𝓡 f g b) (D-power 𝓡 D ld ι z s p f g inv a)
      ∙ ring 𝓡 (ι a ∷ int_power 𝓡 f g a ∷ D f ∷ int_power 𝓡 f g b ∷ []) (X :* (Y :* Z) :* W) (X :* Z :* (Y :* W)) refl
      ∙ ap (λ o. o ⊗ (int_power 𝓡 f g a ⊗ int_power 𝓡 f g b)) h
      ∙ ring 𝓡 (ι b ∷ int_power 𝓡 f g a ∷ E f ∷ int_power 𝓡 f g b ∷ []) (X :* Z :* (Y :* W)) (Y :* (X :* (W :* Z))) refl
      ∙ ap (λ o. int_power 𝓡 f g a ⊗ o) (sym (D-power 𝓡 E le ι z s p f g inv b))
      ∙ ring 𝓡 (f ∷ int_power 𝓡 f g a ∷ E (int_power 𝓡 f g b) ∷ []) (Y :* (X :* Z)) (X :* (Y :* Z)) refl)

module _ {K : Type 0} (𝓚 : Keys K) (det : K → K → ℤ) where
  open 𝓚 use {◌·◌, e, deg, deg_mul}

  infixl 7 ◌·◌
  abbrev pub bracket : List (K × ℤ) → List (K × ℤ) → List (K × ℤ)
  bracket s t = bind s (λ u. bind t (λ v. (u · v, det u v) ∷ []))

  pub pair-bracket : (φ : K → ℤ) (s t : List (K × ℤ)) → pair φ (bracket s t) ≡ pair (λ u. pair (λ v. det u v *ℤ φ (u · v)) t) s
  pair-bracket φ s t =
      pair-bind φ s (λ u. bind t (λ v. (u · v, det u v) ∷ []))
      ∙ pair-ext _ _ s (λ u. pair-bind φ t (λ v. (u · v, det u v) ∷ []) ∙ pair-ext _ _ t (λ v. ring ints_ring ((det u v *ℤ φ (u · v)) ∷ []) (X :+ nought) X refl))

  module _ (k : ℕ) where
    abbrev pub R : CommRing (Modulo 𝓚 k)
    R = modulo_ring 𝓚 k

    pub theta-same : (J : K → ℤ) (s t : List (K × ℤ)) → Same 𝓚 k s t → Same 𝓚 k (theta J s) (theta J t)
    theta-same J s t h = record { at = λ φ v. rw (pair-theta φ J s, pair-theta φ J t) (h.at (λ x. J x *ℤ φ x) (λ x d. rw (v x d) (*ℤ-zero (J x)))) }

    abbrev pub derive : (K → ℤ) → Modulo 𝓚 k → Modulo 𝓚 k
    derive J = lift Quot-set (λ s. mk (theta J s)) (λ s t h. sound (theta-same J s t h))

    pub leibniz : (J : K → ℤ) → ((x y : K) → J (x · y) ≡ J x +ℤ J y) → (a b : Modulo 𝓚 k) → derive J (R.◌⊗◌ a b) ≡ R.◌⊕◌ (R.◌⊗◌ (derive J a) b) (R.◌⊗◌ a (derive J b))
    leibniz J add =
        by_two 𝓚 k (λ a b. derive J (R.◌⊗◌ a b)) (λ a b. R.◌⊕◌ (R.◌⊗◌ (derive J a) b) (R.◌⊗◌ a (derive J b)))
        (λ s t. same 𝓚 k (theta J (S.mul 𝓚 s t)) (S.mul 𝓚 (theta J s) t ++ S.mul 𝓚 s (theta J t)) (λ φ.
        pair-theta φ J (S.mul 𝓚 s t) ∙ S.pair-mul 𝓚 (λ z. J z *ℤ φ z) s t
        ∙ pair-ext _ _ s (λ x.
        pair-ext _ _ t (λ y. rw (add x y) (ring ints_ring (J x ∷ J y ∷ φ (x · y) ∷ []) ((X :+ Y) :* Z) (X :* Z :+ Y :* Z) refl))
        ∙ pair-plus (λ y. J x *ℤ φ (x · y)) (λ y. J y *ℤ φ (x · y)) t ∙ rw (pair-factor (J x) (λ y. φ (x · y)) t))
        ∙ pair-plus (λ x. J x *ℤ pair (λ y. φ (x · y)) t) (λ x. pair (λ y. J y *ℤ φ (x · y)) t) s
        ∙ sym (pair-append φ (S.mul 𝓚 (theta J s) t) (S.mul 𝓚 s (theta J t))
        ∙ rw (S.pair-mul 𝓚 φ (theta J s) t, pair-theta (λ x. pair (λ y. φ (x · y)) t) J s, S.pair-mul 𝓚 φ s (theta J t))
        (ap (λ z. pair (λ x. J x *ℤ pair (λ y. φ (x · y)) t) s +ℤ z) (pair-ext _ _ s (λ x. pair-theta (λ y. φ (x · y)) J t))))))

    abbrev pub whole : ℤ → Modulo 𝓚 k
    whole a = mk ((e, a) ∷ [])

    pub whole-zero : whole (pos 0) ≡ R.𝟘
    whole-zero = same 𝓚 k ((e, pos 0) ∷ []) [] (λ φ. ring ints_ring (φ e ∷ []) (nought :* X :+ nought) nought refl)

    pub whole-suc : (a : ℤ) → whole (suc_ℤ a) ≡ R.◌⊕◌ (whole a) R.𝟙
    whole-suc a = same 𝓚 k ((e, suc_ℤ a) ∷ []) ((e, a) ∷ (e, pos 1) ∷ []) (λ φ. rw (suc_ℤ-*ℤ a (φ e)) (ring ints_ring (a ∷ φ e ∷ []) ((X :* Y :+ Y) :+ nought) (X :* Y :+ (unit :* Y :+ nought)) refl))

    pub whole-pred : (a : ℤ) → whole (pred_ℤ a) ≡ R.◌⊕◌ (whole a) (R.⊖◌ R.𝟙)
    whole-pred a = same 𝓚 k ((e, pred_ℤ a) ∷ []) ((e, a) ∷ (e, negsuc 0) ∷ []) (λ φ. rw (pred_ℤ-*ℤ a (φ e)) (ring ints_ring (a ∷ φ e ∷ []) ((X :* Y :- Y) :+ nought) (X :* Y :+ (minus unit :* Y :+ nought)) refl))

    pub whole-times : (a : ℤ) (s : List (K × ℤ)) → ◌≡◌ {A = Modulo 𝓚 k} (R.◌⊗◌ (whole a) (mk s)) (mk (multiple a s))
    whole-times a s = same 𝓚 k (S.mul 𝓚 ((e, a) ∷ []) s) (multiple a s) (λ φ. S.pair-mul 𝓚 φ ((e, a) ∷ []) s ∙ rw (pair-multiple φ a s, pair-ext (λ y. φ (e · y)) φ s (λ y. ap φ (𝓚.unit_left y))) (ring ints_ring (a ∷ pair φ s ∷ []) (X :* Y :+ nought) (X :* Y) refl))

    module _ (f g : List (K × ℤ)) (δ : K → ℤ) (inv : Same 𝓚 k (S.mul 𝓚 f g) (S.one 𝓚)) (additive : (x y : K) → δ (x · y) ≡ δ x +ℤ δ y)
        (det_left : (x y z : K) → det (x · y) z ≡ det x z +ℤ det y z) (det_right : (x y z : K) → det x (y · z) ≡ det x y +ℤ det x z) (det_swap : (x y : K) → det x y ≡ neg_ℤ (det y x))
        (P : K → Type 0) (aligned : (p x y : K) → P p → δ x *ℤ det p y ≡ δ y *ℤ det p x) (flat : (p q : K) → P p → P q → det p q ≡ pos 0)
        (f_on : Supported P f) (powers_on : (a : ℤ) → Supported P (list_int_power 𝓚 f g a)) where
      abbrev power : ℤ → List (K × ℤ)
      power a = list_int_power 𝓚 f g a

      -- the derivations of two keys balance on the powers of f
      aligned_f : (x y : K) → ◌≡◌ {A = Modulo 𝓚 k} (R.◌⊗◌ (whole (δ x)) (mk (theta (λ p. det p y) f))) (R.◌⊗◌ (whole (δ y)) (mk (theta (λ p. det p x) f)))
      aligned_f x y =
          whole-times (δ x) (theta (λ p. det p y) f)
          ∙ same 𝓚 k (multiple (δ x) (theta (λ p. det p y) f)) (multiple (δ y) (theta (λ p. det p x) f)) (λ φ.
          rw (pair-multiple φ (δ x) (theta (λ p. det p y) f), pair-multiple φ (δ y) (theta (λ p. det p x) f), pair-theta φ (λ p. det p y) f, pair-theta φ (λ p. det p x) f, ← pair-factor (δ x) (λ p. det p y *ℤ φ p) f, ← pair-factor (δ y) (λ p. det p x *ℤ φ p) f)
          (f_on.at (λ p. δ x *ℤ (det p y *ℤ φ p)) (λ p. δ y *ℤ (det p x *ℤ φ p)) (λ p h.
          ring ints_ring (δ x ∷ det p y ∷ φ p ∷ []) (X :* (Y :* Z)) (X :* Y :* Z) refl ∙ ap (λ n. n *ℤ φ p) (aligned p x y h) ∙ ring ints_ring (δ y ∷ det p x ∷ φ p ∷ []) (X :* Y :* Z) (X :* (Y :* Z)) refl)))
          ∙ sym (whole-times (δ y) (theta (λ p. det p x) f))

      balanced : (x y : K) → ◌≡◌ {A = Modulo 𝓚 k} (mk (S.mul 𝓚 (theta (λ p. det p y) (power (δ x))) (power (δ y)))) (mk (S.mul 𝓚 (power (δ x)) (theta (λ p. det p x) (power (δ y)))))
      balanced x y =
          let cx = class-int_power 𝓚 k f g δ inv additive (δ x) in
          let cy = class-int_power 𝓚 k f g δ inv additive (δ y) in
          ap (λ o. R.◌⊗◌ (derive (λ p. det p y) o) (mk (power (δ y)))) cx
          ∙ ap (R.◌⊗◌ (derive (λ p. det p y) (int_power R (mk f) (mk g) (δ x)))) cy
          ∙ two_derivations R (derive (λ p. det p y)) (derive (λ p. det p x)) (leibniz (λ p. det p y) (λ a b. det_left a b y)) (leibniz (λ p. det p x) (λ a b. det_left a b x)) whole whole-zero whole-suc whole-pred (mk f) (mk g) (sound inv) (δ x) (δ y) (aligned_f x y)
          ∙ ap (λ o. R.◌⊗◌ o (derive (λ p. det p x) (int_power R (mk f) (mk g) (δ y)))) (sym cx)
          ∙ ap (λ o. R.◌⊗◌ (mk (power (δ x))) (derive (λ p. det p x) o)) (sym cy)

      -- the bracket of two images
      four : (x p y q : K) → (x · p) · (y · q) ≡ (x · y) · (p · q)
      four x p y q = 𝓚.assoc x p (y · q) ∙ ap (λ z. x · z) (sym (𝓚.assoc p y q) ∙ ap (λ z. z · q) (𝓚.comm p y) ∙ 𝓚.assoc y p q) ∙ sym (𝓚.assoc x y (p · q))

      det_four : (x p y q : K) → P p → P q → det (x · p) (y · q) ≡ det x y +ℤ (det p y -ℤ det q x)
      det_four x p y q hp hq =
          det_left x p (y · q) ∙ rw (det_right x y q, det_right p y q, flat p q hp hq, det_swap x q)
          (ring ints_ring (det x y ∷ det q x ∷ det p y ∷ []) ((X :+ minus Y) :+ (Z :+ nought)) (X :+ (Z :- Y)) refl)

      pair-image : (φ : K → ℤ) (x : K) → pair φ (image 𝓚 k f g δ x) ≡ pair (λ p. φ (x · p)) (power (δ x))
      pair-image φ x = S.pair-mul 𝓚 φ (mono 𝓚 x) (power (δ x)) ∙ ring ints_ring (pair (λ p. φ (x · p)) (power (δ x)) ∷ []) (unit :* X :+ nought) X refl

      module _ (φ : K → ℤ) (v : (x : K) → k < deg x → φ x ≡ pos 0) (x y : K) where
        abbrev A : List (K × ℤ)
        A = power (δ x)

        abbrev B : List (K × ℤ)
        B = power (δ y)

        abbrev test : K → ℤ
        test z = φ ((x · y) · z)

        abbrev ψ : K → K → ℤ
        ψ p q = test (p · q)

        test-vanishes : (z : K) → k < deg z → test z ≡ pos 0
        test-vanishes z h = v ((x · y) · z) (omega (arith, deg_mul (x · y) z))

        left : pair φ (image 𝓚 k f g δ (x · y)) ≡ pair (λ p. pair (λ q. ψ p q) B) A
        left =
            pair-image φ (x · y) ∙ rw (additive x y) ((exact 𝓚 k _ _ (power-add 𝓚 k f g δ inv additive (δ x) (δ y))).at test test-vanishes)
            ∙ S.pair-mul 𝓚 test A B

        even : pair (λ p. det p y *ℤ pair (λ q. ψ p q) B) A ≡ pair (λ p. pair (λ q. det q x *ℤ ψ p q) B) A
        even =
            sym (S.pair-mul 𝓚 test (theta (λ p. det p y) A) B ∙ pair-theta (λ p. pair (λ q. ψ p q) B) (λ p. det p y) A)
            ∙ (exact 𝓚 k _ _ (balanced x y)).at test test-vanishes
            ∙ S.pair-mul 𝓚 test A (theta (λ q. det q x) B) ∙ pair-ext _ _ A (λ p. pair-theta (λ q. ψ p q) (λ q. det q x) B)

        term : (p q : K) → P p → P q → det (x · p) (y · q) *ℤ φ ((x · p) · (y · q)) ≡ (det x y *ℤ ψ p q +ℤ det p y *ℤ ψ p q) +ℤ negsuc 0 *ℤ (det q x *ℤ ψ p q)
        term p q hp hq =
            rw (det_four x p y q hp hq, four x p y q)
            (ring ints_ring (det x y ∷ det p y ∷ det q x ∷ ψ p q ∷ []) ((X :+ (Y :- Z)) :* W) ((X :* W :+ Y :* W) :+ minus unit :* (Z :* W)) refl)

        inner : (p : K) → pair (λ q. (det x y *ℤ ψ p q +ℤ det p y *ℤ ψ p q) +ℤ negsuc 0 *ℤ (det q x *ℤ ψ p q)) B ≡ (det x y *ℤ pair (λ q. ψ p q) B +ℤ det p y *ℤ pair (λ q. ψ p q) B) +ℤ negsuc 0 *ℤ pair (λ q. det q x *ℤ ψ p q) B
        inner p =
            pair-plus (λ q. det x y *ℤ ψ p q +ℤ det p y *ℤ ψ p q) (λ q. negsuc 0 *ℤ (det q x *ℤ ψ p q)) B
            ∙ rw (pair-plus (λ q. det x y *ℤ ψ p q) (λ q. det p y *ℤ ψ p q) B, pair-factor (det x y) (λ q. ψ p q) B, pair-factor (det p y) (λ q. ψ p q) B, pair-factor (negsuc 0) (λ q. det q x *ℤ ψ p q) B)

        right : pair φ (bracket (image 𝓚 k f g δ x) (image 𝓚 k f g δ y)) ≡ det x y *ℤ pair (λ p. pair (λ q. ψ p q) B) A
        right =
            pair-bracket φ (image 𝓚 k f g δ x) (image 𝓚 k f g δ y)
            ∙ pair-image (λ u. pair (λ v. det u v *ℤ φ (u · v)) (image 𝓚 k f g δ y)) x
            ∙ pair-ext _ _ A (λ p. pair-image (λ v. det (x · p) v *ℤ φ ((x · p) · v)) y)
            ∙ (powers_on (δ x)).at (λ p. pair (λ q. det (x · p) (y · q) *ℤ φ ((x · p) · (y · q))) B) (λ p. (det x y *ℤ pair (λ q. ψ p q) B +ℤ det p y *ℤ pair (λ q. ψ p q) B) +ℤ negsuc 0 *ℤ pair (λ q. det q x *ℤ ψ p q) B)
            (λ p hp. (powers_on (δ y)).at (λ q. det (x · p) (y · q) *ℤ φ ((x · p) · (y · q))) (λ q. (det x y *ℤ ψ p q +ℤ det p y *ℤ ψ p q) +ℤ negsuc 0 *ℤ (det q x *ℤ ψ p q)) (λ q hq. term p q hp hq) ∙ inner p)
            ∙ pair-plus (λ p. det x y *ℤ pair (λ q. ψ p q) B +ℤ det p y *ℤ pair (λ q. ψ p q) B) (λ p. negsuc 0 *ℤ pair (λ q. det q x *ℤ ψ p q) B) A
            ∙ rw (pair-plus (λ p. det x y *ℤ pair (λ q. ψ p q) B) (λ p. det p y *ℤ pair (λ q. ψ p q) B) A, pair-factor (det x y) (λ p. pair (λ q. ψ p q) B) A, pair-factor (negsuc 0) (λ p. pair (λ q. det q x *ℤ ψ p q) B) A, even)
            (ring ints_ring ((det x y *ℤ pair (λ p. pair (λ q. ψ p q) B) A) ∷ pair (λ p. pair (λ q. det q x *ℤ ψ p q) B) A ∷ []) ((X :+ Y) :+ minus unit :* Y) X refl)

        pub bracket-images : det x y *ℤ pair φ (image 𝓚 k f g δ (x · y)) ≡ pair φ (bracket (image 𝓚 k f g δ x) (image 𝓚 k f g δ y))
        bracket-images = ap (λ n. det x y *ℤ n) left ∙ sym right

      pub cross-bracket : (s t : List (K × ℤ)) → Same 𝓚 k (cross 𝓚 k f g δ (bracket s t)) (bracket (cross 𝓚 k f g δ s) (cross 𝓚 k f g δ t))
      cross-bracket s t = record {
        at = λ φ v.
            pair-bind φ (bracket s t) (image 𝓚 k f g δ) ∙ pair-bracket (λ z. pair φ (image 𝓚 k f g δ z)) s t
            ∙ pair-ext _ _ s (λ x.
            pair-ext _ _ t (λ y. bracket-images φ v x y ∙ pair-bracket φ (image 𝓚 k f g δ x) (image 𝓚 k f g δ y))
            ∙ pair-swap (λ y a. pair (λ b. det a b *ℤ φ (a · b)) (image 𝓚 k f g δ y)) t (image 𝓚 k f g δ x)
            ∙ pair-ext _ _ (image 𝓚 k f g δ x) (λ a. sym (pair-bind (λ b. det a b *ℤ φ (a · b)) t (image 𝓚 k f g δ))))
            ∙ sym (pair-bind (λ a. pair (λ b. det a b *ℤ φ (a · b)) (cross 𝓚 k f g δ t)) s (image 𝓚 k f g δ))
            ∙ sym (pair-bracket φ (cross 𝓚 k f g δ s) (cross 𝓚 k f g δ t));
      }
