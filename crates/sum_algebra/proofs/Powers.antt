-- Powers, the geometric inverse and powers by any whole number, in any commutative ring.
use Rattle.std.specs.Prelude.{◌≡◌, refl, ℕ, [], ◌∷◌}
use Rattle.std.proofs.Common.{sym, ◌∙◌, ap, zero, suc}
use lib.IntN.{ℤ, pos, negsuc, suc_ℤ, pred_ℤ, ◌+ℤ◌, +ℤ_idl, suc_ℤ-+ℤ, pred_ℤ-+ℤ}
use Rattle.sum_algebra.proofs.Integers.{ℤ-induction}
use Rattle.sum_algebra.proofs.Ring.{CommRing, nought, unit, ring}
use Rattle.sum_algebra.proofs.IntegerRing.{◌:+◌, ◌:*◌, ◌:-◌, X, Y, Z}

module _ {R : Type 0} (𝓡 : CommRing R) where
  open 𝓡 use {◌⊕◌, ◌⊗◌, ⊖◌, 𝟘, 𝟙, mul_comm, mul_one, mul_assoc}

  infixl 6 ◌⊕◌
  infixl 7 ◌⊗◌
  abbrev pub power : R → ℕ → R
  power x zero = 𝟙
  power x (suc n) = x ⊗ power x n

  -- the sum of the first n powers
  abbrev pub powers : R → ℕ → R
  powers x zero = 𝟘
  powers x (suc n) = powers x n ⊕ power x n

  pub telescope : (u : R) (n : ℕ) → (𝟙 ⊕ ⊖◌ u) ⊗ powers u n ≡ 𝟙 ⊕ ⊖◌ (power u n)
  telescope u zero = ring 𝓡 (u ∷ []) ((unit :- X) :* nought) (unit :- unit) refl
  telescope u (suc n) =
      ring 𝓡 (u ∷ powers u n ∷ power u n ∷ []) ((unit :- X) :* (Y :+ Z)) ((unit :- X) :* Y :+ (Z :- X :* Z)) refl
      ∙ rw (telescope u n) (ring 𝓡 (u ∷ power u n ∷ []) ((unit :- Y) :+ (Y :- X :* Y)) (unit :- X :* Y) refl)

  -- f times the sum of the powers of 1 - f, where a power of 1 - f is 0
  pub geometric : (f : R) (n : ℕ) → power (𝟙 ⊕ ⊖◌ f) n ≡ 𝟘 → f ⊗ powers (𝟙 ⊕ ⊖◌ f) n ≡ 𝟙
  geometric f n h =
      ap (λ x. x ⊗ powers (𝟙 ⊕ ⊖◌ f) n) (ring 𝓡 (f ∷ []) X (unit :- (unit :- X)) refl)
      ∙ telescope (𝟙 ⊕ ⊖◌ f) n ∙ rw h (ring 𝓡 [] (unit :- nought) unit refl)

  -- f to the power a, where g is the inverse of f
  abbrev pub int_power : R → R → ℤ → R
  int_power f g (pos n) = power f n
  int_power f g (negsuc n) = power g (suc n)

  module _ (f g : R) (h : f ⊗ g ≡ 𝟙) where
    pub int_power-suc : (a : ℤ) → int_power f g (suc_ℤ a) ≡ f ⊗ int_power f g a
    int_power-suc (pos n) = refl
    int_power-suc (negsuc zero) = sym h ∙ ring 𝓡 (f ∷ g ∷ []) (X :* Y) (X :* (Y :* unit)) refl
    int_power-suc (negsuc (suc n)) =
        ring 𝓡 ((g ⊗ power g n) ∷ []) X (unit :* X) refl ∙ ap (λ o. o ⊗ (g ⊗ power g n)) (sym h)
        ∙ mul_assoc f g (g ⊗ power g n)

    pub int_power-pred : (a : ℤ) → int_power f g (pred_ℤ a) ≡ g ⊗ int_power f g a
    int_power-pred (pos zero) = refl
    int_power-pred (pos (suc n)) =
        ring 𝓡 (power f n ∷ []) X (unit :* X) refl ∙ ap (λ o. o ⊗ power f n) (sym h)
        ∙ (ring 𝓡 (f ∷ g ∷ power f n ∷ []) (X :* Y :* Z) (Y :* (X :* Z)) refl)
    int_power-pred (negsuc n) = refl

    pub int_power-add : (a b : ℤ) → int_power f g (a +ℤ b) ≡ int_power f g a ⊗ int_power f g b
    int_power-add a b =
        ℤ-induction (λ a. int_power f g (a +ℤ b) ≡ int_power f g a ⊗ int_power f g b)
        (rw (+ℤ_idl b) (ring 𝓡 (int_power f g b ∷ []) X (unit :* X) refl))
        (λ a i. rw (suc_ℤ-+ℤ a b, int_power-suc (a +ℤ b), i, int_power-suc a) (sym (mul_assoc f (int_power f g a) (int_power f g b))))
        (λ a i. rw (pred_ℤ-+ℤ a b, int_power-pred (a +ℤ b), i, int_power-pred a) (sym (mul_assoc g (int_power f g a) (int_power f g b)))) a
