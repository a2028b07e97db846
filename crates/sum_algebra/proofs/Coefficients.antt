-- The coefficient at a key; equal coefficients up to degree k are equality modulo degree above k.
use Rattle.std.specs.Prelude.{◌≡◌, refl, ℕ, List, [], ◌∷◌, ◌++◌, ◌<◌, ◌≤◌, Bool, true, false, cond, length}
use Rattle.std.proofs.Common.{sym, ◌∙◌, ap, arith, zero, suc}
use Rattle.std.proofs.Math.Decide.{dec_le}
use lib.IntN.{ℤ, pos, ◌+ℤ◌, ◌*ℤ◌, neg_ℤ, *ℤ-zero, zero-*ℤ}
use Rattle.sum_algebra.proofs.Ring.{var, minus, nought, unit, ring}
use Rattle.sum_algebra.proofs.IntegerRing.{ints_ring, ◌:+◌, ◌:*◌, X, Y, Z, W}
use Rattle.sum_algebra.proofs.Sums as S
use Rattle.sum_algebra.proofs.Sums.{Keys, Same, pair, multiple, pair-append, pair-multiple}

-- whether two keys are one
pub record Test (K : Type 0) : Type 0 where
  pub is : K → K → Bool
  pub sure : (x y : K) → is x y ≡ true → x ≡ y
  pub itself : (x : K) → is x x ≡ true

module _ {K : Type 0} (𝓣 : Test K) where
  abbrev pub indicator : K → K → ℤ
  indicator x y = cond (𝓣.is x y) (pos 1) (pos 0)

  -- the sum of the coefficients at x
  abbrev pub coefficient : K → List (K × ℤ) → ℤ
  coefficient x s = pair (indicator x) s

  abbrev without : K → List (K × ℤ) → List (K × ℤ)
  without x [] = []
  without x (u ∷ s) = cond (𝓣.is x u.0) (without x s) (u ∷ without x s)

  length-without-cons : (x : K) (u : K × ℤ) (s : List (K × ℤ)) (b : Bool) → length (without x s) ≤ length s → length (cond b (without x s) (u ∷ without x s)) ≤ suc (length s)
  length-without-cons x u s true h = omega arith
  length-without-cons x u s false h = omega arith

  length-without : (x : K) (s : List (K × ℤ)) → length (without x s) ≤ length s
  length-without x [] = omega arith
  length-without x (u ∷ s) = length-without-cons x u s (𝓣.is x u.0) (length-without x s)

  split-cons : (φ : K → ℤ) (x : K) (u : K × ℤ) (s : List (K × ℤ)) (b : Bool) → 𝓣.is x u.0 ≡ b → pair φ s ≡ coefficient x s *ℤ φ x +ℤ pair φ (without x s) → u.1 *ℤ φ u.0 +ℤ pair φ s ≡ (u.1 *ℤ cond b (pos 1) (pos 0) +ℤ coefficient x s) *ℤ φ x +ℤ pair φ (cond b (without x s) (u ∷ without x s))
  split-cons φ x u s true e h =
      ap (λ y. u.1 *ℤ φ y +ℤ pair φ s) (sym (𝓣.sure x u.0 e)) ∙ ap (λ z. u.1 *ℤ φ x +ℤ z) h
      ∙ ring ints_ring (u.1 ∷ φ x ∷ coefficient x s ∷ pair φ (without x s) ∷ []) (X :* Y :+ (Z :* Y :+ W)) ((X :* unit :+ Z) :* Y :+ W) refl
  split-cons φ x u s false e h =
      ap (λ z. u.1 *ℤ φ u.0 +ℤ z) h
      ∙ ring ints_ring (u.1 ∷ φ x ∷ coefficient x s ∷ pair φ (without x s) ∷ φ u.0 ∷ []) (X :* var 4 :+ (Z :* Y :+ W)) ((X :* nought :+ Z) :* Y :+ (X :* var 4 :+ W)) refl

  -- the terms at x, and the others
  pub split : (φ : K → ℤ) (x : K) (s : List (K × ℤ)) → pair φ s ≡ coefficient x s *ℤ φ x +ℤ pair φ (without x s)
  split φ x [] = sym (ring ints_ring (φ x ∷ []) (nought :* X :+ nought) nought refl)
  split φ x (u ∷ s) = split-cons φ x u s (𝓣.is x u.0) refl (split φ x s)

  gone : (a b c d : ℤ) → a ≡ d *ℤ b +ℤ c → a ≡ pos 0 → d ≡ pos 0 → c ≡ pos 0
  gone a b c d h z w = ring ints_ring (b ∷ c ∷ []) Y (nought :* X :+ Y) refl ∙ ap (λ n. n *ℤ b +ℤ c) (sym w) ∙ sym h ∙ z

  module _ (deg : K → ℕ) (k : ℕ) where
    -- the coefficient of x is 0, or x is not seen
    abbrev Zero : List (K × ℤ) → Type 0
    Zero s = (x : K) → deg x ≤ k → coefficient x s ≡ pos 0

    tests-case : (x y : K) (b : Bool) → 𝓣.is y x ≡ b → (s : List (K × ℤ)) → Zero s → deg y ≤ k → coefficient y (without x s) ≡ pos 0
    tests-case x y true e s z d =
        let q : y ≡ x = 𝓣.sure y x e in
        gone (coefficient y s) (indicator y x) (coefficient y (without x s)) (coefficient x s) (split (indicator y) x s) (z y d) (z x (subst-le y x q d))
      where
        subst-le : (y x : K) → y ≡ x → deg y ≤ k → deg x ≤ k
        subst-le y x q d = rw (← q) d
    tests-case x y false e s z d =
        sym (split (indicator y) x s ∙ rw e (ring ints_ring (coefficient x s ∷ coefficient y (without x s) ∷ []) (X :* nought :+ Y) Y refl)) ∙ z y d

    zero-without : (x : K) (s : List (K × ℤ)) → Zero s → Zero (without x s)
    zero-without x s z y d = tests-case x y (𝓣.is y x) refl s z d

    first-gone : (u : K × ℤ) (s : List (K × ℤ)) → without u.0 (u ∷ s) ≡ without u.0 s
    first-gone u s = rw (𝓣.itself u.0)

    product-zero : (φ : K → ℤ) (x : K) (s : List (K × ℤ)) → ((y : K) → k < deg y → φ y ≡ pos 0) → Zero s → coefficient x s *ℤ φ x ≡ pos 0
    product-zero φ x s v z = by_order (dec_le (deg x) k)
      where
        by_order : Dec (deg x ≤ k) → coefficient x s *ℤ φ x ≡ pos 0
        by_order (yes h) = rw (z x h) (zero-*ℤ (φ x))
        by_order (no h) = let l : k < deg x = omega arith in rw (v x l) (*ℤ-zero (coefficient x s))

    pairs-zero : (φ : K → ℤ) → ((y : K) → k < deg y → φ y ≡ pos 0) → (n : ℕ) (s : List (K × ℤ)) → length s ≤ n → Zero s → pair φ s ≡ pos 0
    pairs-zero φ v n [] h z = refl
    pairs-zero φ v zero (u ∷ s) h z = absurd (omega arith)
    pairs-zero φ v (suc n) (u ∷ s) h z =
        split φ u.0 (u ∷ s)
        ∙ rw (product-zero φ u.0 (u ∷ s) v z, first-gone u s, pairs-zero φ v n (without u.0 s) (omega (arith, length-without u.0 s)) (rw first-gone at (zero-without u.0 (u ∷ s) z)))

module _ {K : Type 0} (𝓣 : Test K) (𝓚 : Keys K) (k : ℕ) where
  pub by_coefficients : (s t : List (K × ℤ)) → ((x : K) → 𝓚.deg x ≤ k → coefficient 𝓣 x s ≡ coefficient 𝓣 x t) → Same 𝓚 k s t
  by_coefficients s t h = record {
    at = λ φ v.
        let z = pairs-zero 𝓣 𝓚.deg k φ v (length (s ++ S.neg 𝓚 t)) (s ++ S.neg 𝓚 t) (omega arith)
        (λ x d. pair-append (indicator 𝓣 x) s (S.neg 𝓚 t) ∙ rw (pair-multiple (indicator 𝓣 x) (neg_ℤ (pos 1)) t, h x d) (ring ints_ring (coefficient 𝓣 x t ∷ []) (X :+ minus unit :* X) nought refl)) in
        ring ints_ring (pair φ s ∷ pair φ t ∷ []) X ((X :+ minus unit :* Y) :+ Y) refl
        ∙ ap (λ n. n +ℤ pair φ t) (sym (pair-append φ s (S.neg 𝓚 t) ∙ rw (pair-multiple φ (neg_ℤ (pos 1)) t)) ∙ z)
        ∙ ring ints_ring (pair φ t ∷ []) (nought :+ X) X refl;
  }

  pub coefficients : (s t : List (K × ℤ)) → Same 𝓚 k s t → (x : K) → 𝓚.deg x ≤ k → coefficient 𝓣 x s ≡ coefficient 𝓣 x t
  coefficients s t h x d = h.at (indicator 𝓣 x) (λ y e. unseen y (𝓣.is x y) refl e)
    where
      unseen : (y : K) (b : Bool) → 𝓣.is x y ≡ b → k < 𝓚.deg y → cond b (pos 1) (pos 0) ≡ pos 0
      unseen y true q e = absurd (omega (arith, ap 𝓚.deg (𝓣.sure x y q)))
      unseen y false q e = refl
