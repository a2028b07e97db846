-- Crossings that change little: two commute modulo high degree, and a term more in f adds one term.
use Rattle.std.specs.Prelude.{◌≡◌, refl, ℕ, List, [], ◌∷◌, ◌+◌, ◌-◌, ◌<◌, ◌≤◌}
use Rattle.std.proofs.Common.{sym, ◌∙◌, ap, arith, zero, suc}
use lib.IntN.{ℤ, pos, negsuc, suc_ℤ, pred_ℤ, ◌+ℤ◌, ◌-ℤ◌}
use Rattle.sum_algebra.proofs.Integers.{ℤ-induction}
use Rattle.sum_algebra.proofs.Ring.{CommRing, nought, unit, ring}
use Rattle.sum_algebra.proofs.IntegerRing.{ints_ring, ◌:+◌, ◌:*◌, ◌:-◌, X, Y, Z, W}
use Rattle.sum_algebra.proofs.Sums as S
use Rattle.sum_algebra.proofs.Sums.{Keys, Same, pair, bind, multiple, pair-append, pair-multiple, pair-bind, pair-zero, pair-ext, pair-swap, pair-plus}
use Rattle.sum_algebra.proofs.Quotient.{modulo_ring, exact}
use Rattle.sum_algebra.proofs.Powers.{power, int_power, int_power-suc, int_power-pred}
use Rattle.sum_algebra.proofs.Crossing.{mono, list_int_power, image, cross, class-int_power}
use mathlib.Core.Quot.{mk, sound}

-- a power of 1 is 1
module _ {R : Type 0} (𝓡 : CommRing R) where
  open 𝓡 use {◌⊕◌, ◌⊗◌, ⊖◌, 𝟘, 𝟙}

  infixl 6 ◌⊕◌
  infixl 7 ◌⊗◌
  power-one : (f : R) → f ≡ 𝟙 → (n : ℕ) → power 𝓡 f n ≡ 𝟙
  power-one f h zero = refl
  power-one f h (suc n) = ap (λ x. x ⊗ power 𝓡 f n) h ∙ ring 𝓡 (power 𝓡 f n ∷ []) (unit :* X) X refl ∙ power-one f h n

  pub int_power-one : (f g : R) → f ⊗ g ≡ 𝟙 → f ≡ 𝟙 → (a : ℤ) → int_power 𝓡 f g a ≡ 𝟙
  int_power-one f g i h (pos n) = power-one f h n
  int_power-one f g i h (negsuc n) = power-one g (ring 𝓡 (g ∷ []) X (unit :* X) refl ∙ ap (λ x. x ⊗ g) (sym h) ∙ i) (suc n)

  -- t is killed by t and kept by f: a power of f + t
  module _ (f g f' g' t : R) (inv : f ⊗ g ≡ 𝟙) (inv' : f' ⊗ g' ≡ 𝟙) (sum : f' ≡ f ⊕ t) (square : t ⊗ t ≡ 𝟘) (keeps : f ⊗ t ≡ t) (m : ℤ → R) (m_zero : m (pos 0) ≡ 𝟘) (m_suc : (a : ℤ) → m (suc_ℤ a) ≡ m a ⊕ t) (m_pred : (a : ℤ) → m (pred_ℤ a) ≡ m a ⊕ ⊖◌ t) where
    keeps_g : g ⊗ t ≡ t
    keeps_g =
        ap (λ x. g ⊗ x) (sym keeps) ∙ ring 𝓡 (f ∷ g ∷ t ∷ []) (Y :* (X :* Z)) (X :* Y :* Z) refl
        ∙ ap (λ x. x ⊗ t) inv ∙ ring 𝓡 (t ∷ []) (unit :* X) X refl

    -- the inverse of f + t
    inverse-is : g' ≡ g ⊕ ⊖◌ t
    inverse-is =
        ring 𝓡 (g' ∷ []) X (X :* unit) refl
        ∙ ap (λ x. g' ⊗ x) (sym (ring 𝓡 (f ∷ g ∷ t ∷ []) ((X :+ Z) :* (Y :- Z)) (X :* Y :- X :* Z :+ Y :* Z :- Z :* Z) refl ∙ rw (inv, keeps, keeps_g, square) (ring 𝓡 (t ∷ []) (unit :- X :+ X :- nought) unit refl)))
        ∙ ap (λ x. g' ⊗ (x ⊗ (g ⊕ ⊖◌ t))) (sym sum)
        ∙ ring 𝓡 (f' ∷ g' ∷ (g ⊕ ⊖◌ t) ∷ []) (Y :* (X :* Z)) (X :* Y :* Z) refl
        ∙ ap (λ x. x ⊗ (g ⊕ ⊖◌ t)) inv' ∙ ring 𝓡 ((g ⊕ ⊖◌ t) ∷ []) (unit :* X) X refl

    m-f : (a : ℤ) → f ⊗ m a ≡ m a
    m-f a =
        ℤ-induction (λ a. f ⊗ m a ≡ m a)
        (rw m_zero (ring 𝓡 (f ∷ []) (X :* nought) nought refl))
        (λ a i. rw (m_suc a) (ring 𝓡 (f ∷ m a ∷ t ∷ []) (X :* (Y :+ Z)) (X :* Y :+ X :* Z) refl ∙ rw (i, keeps)))
        (λ a i. rw (m_pred a) (ring 𝓡 (f ∷ m a ∷ t ∷ []) (X :* (Y :- Z)) (X :* Y :- X :* Z) refl ∙ rw (i, keeps))) a

    m-g : (a : ℤ) → g ⊗ m a ≡ m a
    m-g a = ap (λ x. g ⊗ x) (sym (m-f a)) ∙ ring 𝓡 (f ∷ g ∷ m a ∷ []) (Y :* (X :* Z)) (X :* Y :* Z) refl ∙ ap (λ x. x ⊗ m a) inv ∙ ring 𝓡 (m a ∷ []) (unit :* X) X refl

    m-t : (a : ℤ) → t ⊗ m a ≡ 𝟘
    m-t a =
        ℤ-induction (λ a. t ⊗ m a ≡ 𝟘)
        (rw m_zero (ring 𝓡 (t ∷ []) (X :* nought) nought refl))
        (λ a i. rw (m_suc a) (ring 𝓡 (m a ∷ t ∷ []) (Y :* (X :+ Y)) (Y :* X :+ Y :* Y) refl ∙ rw (i, square) (ring 𝓡 [] (nought :+ nought) nought refl)))
        (λ a i. rw (m_pred a) (ring 𝓡 (m a ∷ t ∷ []) (Y :* (X :- Y)) (Y :* X :- Y :* Y) refl ∙ rw (i, square) (ring 𝓡 [] (nought :- nought) nought refl))) a

    p-t : (a : ℤ) → t ⊗ int_power 𝓡 f g a ≡ t
    p-t a =
        ℤ-induction (λ a. t ⊗ int_power 𝓡 f g a ≡ t)
        (ring 𝓡 (t ∷ []) (X :* unit) X refl)
        (λ a i. ap (λ x. t ⊗ x) (int_power-suc 𝓡 f g inv a) ∙ ring 𝓡 (f ∷ t ∷ int_power 𝓡 f g a ∷ []) (Y :* (X :* Z)) (X :* (Y :* Z)) refl ∙ ap (λ x. f ⊗ x) i ∙ keeps)
        (λ a i. ap (λ x. t ⊗ x) (int_power-pred 𝓡 f g inv a) ∙ ring 𝓡 (g ∷ t ∷ int_power 𝓡 f g a ∷ []) (Y :* (X :* Z)) (X :* (Y :* Z)) refl ∙ ap (λ x. g ⊗ x) i ∙ keeps_g) a

    pub int_power-near : (a : ℤ) → int_power 𝓡 f' g' a ≡ int_power 𝓡 f g a ⊕ m a
    int_power-near a =
        ℤ-induction (λ a. int_power 𝓡 f' g' a ≡ int_power 𝓡 f g a ⊕ m a)
        (rw m_zero (ring 𝓡 [] unit (unit :+ nought) refl))
        (λ a i.
        int_power-suc 𝓡 f' g' inv' a ∙ ap (λ x. f' ⊗ x) i ∙ ap (λ x. x ⊗ (int_power 𝓡 f g a ⊕ m a)) sum
        ∙ ring 𝓡 (f ∷ t ∷ int_power 𝓡 f g a ∷ m a ∷ []) ((X :+ Y) :* (Z :+ W)) (X :* Z :+ (X :* W :+ Y :* Z) :+ Y :* W) refl
        ∙ rw (m-f a, p-t a, m-t a, int_power-suc 𝓡 f g inv a, m_suc a) (ring 𝓡 ((f ⊗ int_power 𝓡 f g a) ∷ m a ∷ t ∷ []) (X :+ (Y :+ Z) :+ nought) (X :+ (Y :+ Z)) refl))
        (λ a i.
        int_power-pred 𝓡 f' g' inv' a ∙ ap (λ x. g' ⊗ x) i ∙ ap (λ x. x ⊗ (int_power 𝓡 f g a ⊕ m a)) inverse-is
        ∙ ring 𝓡 (g ∷ t ∷ int_power 𝓡 f g a ∷ m a ∷ []) ((X :- Y) :* (Z :+ W)) (X :* Z :+ (X :* W :- Y :* Z) :- Y :* W) refl
        ∙ rw (m-g a, p-t a, m-t a, int_power-pred 𝓡 f g inv a, m_pred a) (ring 𝓡 ((g ⊗ int_power 𝓡 f g a) ∷ m a ∷ t ∷ []) (X :+ (Y :- Z) :- nought) (X :+ (Y :- Z)) refl)) a

module _ {K : Type 0} (𝓚 : Keys K) where
  open 𝓚 use {◌·◌, e, deg, deg_mul}

  infixl 7 ◌·◌
  pub Same-lower : (c k : ℕ) (s t : List (K × ℤ)) → c ≤ k → Same 𝓚 k s t → Same 𝓚 c s t
  Same-lower c k s t le h = record { at = λ φ v. h.at φ (λ x d. v x (omega arith)) }

  comm-e : (x : K) → x · e ≡ x
  comm-e x = 𝓚.comm x e ∙ 𝓚.unit_left x

  -- f is 1 up to degree c
  module _ (c : ℕ) (f g : List (K × ℤ)) (δ : K → ℤ) (inv : Same 𝓚 c (S.mul 𝓚 f g) (S.one 𝓚)) (small : Same 𝓚 c f (S.one 𝓚)) where
    pub power-small : (a : ℤ) → Same 𝓚 c (list_int_power 𝓚 f g a) (S.one 𝓚)
    power-small a =
        exact 𝓚 c (list_int_power 𝓚 f g a) (S.one 𝓚)
        (class-int_power 𝓚 c f g (λ _. pos 0) inv (λ _ _. refl) a
        ∙ int_power-one (modulo_ring 𝓚 c) (mk f) (mk g) (sound inv) (sound small) a)

    -- a test that vanishes above j does not see the change at keys of degree j - c and more
    pub unseen : (j : ℕ) (φ : K → ℤ) → ((x : K) → j < deg x → φ x ≡ pos 0) → (x : K) → j ≤ c + deg x → pair φ (image 𝓚 j f g δ x) ≡ φ x
    unseen j φ v x le =
        S.pair-mul 𝓚 φ (mono 𝓚 x) (list_int_power 𝓚 f g (δ x))
        ∙ rw ((power-small (δ x)).at (λ y. φ (x · y)) (λ y d. v (x · y) (omega (arith, deg_mul x y))), comm-e x)
        (ring ints_ring (φ x ∷ []) (unit :* (unit :* X :+ nought) :+ nought) X refl)

  -- ---- two crossings whose least degrees c + 1 and c' + 1 sum to more than j
  module _ (j c c' : ℕ) (f g f' g' : List (K × ℤ)) (δ δ' : K → ℤ)
      (inv : Same 𝓚 c (S.mul 𝓚 f g) (S.one 𝓚)) (small : Same 𝓚 c f (S.one 𝓚))
      (inv' : Same 𝓚 c' (S.mul 𝓚 f' g') (S.one 𝓚)) (small' : Same 𝓚 c' f' (S.one 𝓚))
      (high : j ≤ c + c' + 1) where
    both : (φ : K → ℤ) → ((x : K) → j < deg x → φ x ≡ pos 0) → (x : K) → pair (λ y. pair φ (image 𝓚 j f' g' δ' y)) (image 𝓚 j f g δ x) ≡ pair φ (image 𝓚 j f g δ x) +ℤ (pair φ (image 𝓚 j f' g' δ' x) -ℤ φ x)
    both φ v x =
        let ν : K → ℤ = λ y. pair φ (image 𝓚 j f' g' δ' y) -ℤ φ y in
        pair-ext (λ y. pair φ (image 𝓚 j f' g' δ' y)) (λ y. φ y +ℤ ν y) (image 𝓚 j f g δ x) (λ y. ring ints_ring (pair φ (image 𝓚 j f' g' δ' y) ∷ φ y ∷ []) X (Y :+ (X :- Y)) refl)
        ∙ pair-plus φ ν (image 𝓚 j f g δ x)
        ∙ ap (λ z. pair φ (image 𝓚 j f g δ x) +ℤ z)
        (unseen c f g δ inv small (j - c' - 1) ν (λ y d. rw (unseen c' f' g' δ' inv' small' j φ v y (omega arith)) (ring ints_ring (φ y ∷ []) (X :- X) nought refl)) x (omega arith))

  module _ (j c c' : ℕ) (f g f' g' : List (K × ℤ)) (δ δ' : K → ℤ)
      (inv : Same 𝓚 c (S.mul 𝓚 f g) (S.one 𝓚)) (small : Same 𝓚 c f (S.one 𝓚))
      (inv' : Same 𝓚 c' (S.mul 𝓚 f' g') (S.one 𝓚)) (small' : Same 𝓚 c' f' (S.one 𝓚))
      (high : j ≤ c + c' + 1) where
    pub commute-high : (s : List (K × ℤ)) → Same 𝓚 j (cross 𝓚 j f' g' δ' (cross 𝓚 j f g δ s)) (cross 𝓚 j f g δ (cross 𝓚 j f' g' δ' s))
    commute-high s = record {
      at = λ φ v.
          pair-bind φ (cross 𝓚 j f g δ s) (image 𝓚 j f' g' δ') ∙ pair-bind (λ y. pair φ (image 𝓚 j f' g' δ' y)) s (image 𝓚 j f g δ)
          ∙ pair-ext _ _ s (λ x.
          both j c c' f g f' g' δ δ' inv small inv' small' high φ v x
          ∙ ring ints_ring (pair φ (image 𝓚 j f g δ x) ∷ pair φ (image 𝓚 j f' g' δ' x) ∷ φ x ∷ []) (X :+ (Y :- Z)) (Y :+ (X :- Z)) refl
          ∙ sym (both j c' c f' g' f g δ' δ inv' small' inv small (omega arith) φ v x))
          ∙ sym (pair-bind (λ y. pair φ (image 𝓚 j f g δ y)) s (image 𝓚 j f' g' δ')) ∙ sym (pair-bind φ (cross 𝓚 j f' g' δ' s) (image 𝓚 j f g δ));
    }
