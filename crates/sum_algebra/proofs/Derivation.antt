-- A derivation on the powers of a unit, in a commutative ring with the integers in it.
use Rattle.std.specs.Prelude.{◌≡◌, refl, [], ◌∷◌}
use Rattle.std.proofs.Common.{sym, ◌∙◌, ap}
use lib.IntN.{ℤ, pos, suc_ℤ, pred_ℤ}
use Rattle.sum_algebra.proofs.Integers.{ℤ-induction}
use Rattle.sum_algebra.proofs.Ring.{CommRing, var, minus, nought, unit, ring}
use Rattle.sum_algebra.proofs.IntegerRing.{◌:+◌, ◌:*◌, ◌:-◌, X, Y, Z, W}
use Rattle.sum_algebra.proofs.Powers.{int_power, int_power-suc, int_power-pred}

module _ {R : Type 0} (𝓡 : CommRing R) where
  open 𝓡 use {◌⊕◌, ◌⊗◌, ⊖◌, 𝟘, 𝟙}

  infixl 6 ◌⊕◌
  infixl 7 ◌⊗◌
  module _ (D : R → R) (leibniz : (a b : R) → D (a ⊗ b) ≡ D a ⊗ b ⊕ a ⊗ D b) (ι : ℤ → R) (ι-zero : ι (pos 0) ≡ 𝟘) (ι-suc : (a : ℤ) → ι (suc_ℤ a) ≡ ι a ⊕ 𝟙) (ι-pred : (a : ℤ) → ι (pred_ℤ a) ≡ ι a ⊕ ⊖◌ 𝟙) (f g : R) (inv : f ⊗ g ≡ 𝟙) where
    D-one : D 𝟙 ≡ 𝟘
    D-one =
        ring 𝓡 (D 𝟙 ∷ []) X ((X :* unit :+ unit :* X) :- X) refl
        ∙ ap (λ x. x ⊕ ⊖◌ (D 𝟙)) (sym (leibniz 𝟙 𝟙) ∙ ap D (ring 𝓡 [] (unit :* unit) unit refl))
        ∙ ring 𝓡 (D 𝟙 ∷ []) (X :- X) nought refl

    -- D g, times f
    D-inverse : f ⊗ D g ≡ ⊖◌ (D f ⊗ g)
    D-inverse =
        ring 𝓡 ((f ⊗ D g) ∷ (D f ⊗ g) ∷ []) X ((Y :+ X) :- Y) refl
        ∙ ap (λ x. x ⊕ ⊖◌ (D f ⊗ g)) (sym (leibniz f g) ∙ ap D inv ∙ D-one)
        ∙ ring 𝓡 ((D f ⊗ g) ∷ []) (nought :- X) (minus X) refl

    pub D-power : (a : ℤ) → f ⊗ D (int_power 𝓡 f g a) ≡ ι a ⊗ (int_power 𝓡 f g a ⊗ D f)
    D-power a =
        ℤ-induction (λ a. f ⊗ D (int_power 𝓡 f g a) ≡ ι a ⊗ (int_power 𝓡 f g a ⊗ D f))
        (rw (D-one, ι-zero) (ring 𝓡 (f ∷ D f ∷ []) (X :* nought) (nought :* (unit :* Y)) refl))
        (λ a i.
        ap (λ x. f ⊗ x) (ap D (int_power-suc 𝓡 f g inv a) ∙ leibniz f (int_power 𝓡 f g a))
        ∙ ring 𝓡 (f ∷ D f ∷ int_power 𝓡 f g a ∷ D (int_power 𝓡 f g a) ∷ []) (X :* (Y :* Z :+ X :* W)) (X :* Z :* Y :+ X :* (X :* W)) refl
        ∙ rw (i, int_power-suc 𝓡 f g inv a, ι-suc a)
        (ring 𝓡 (f ∷ D f ∷ int_power 𝓡 f g a ∷ ι a ∷ []) (X :* Z :* Y :+ X :* (W :* (Z :* Y))) ((W :+ unit) :* (X :* Z :* Y)) refl))
        (λ a i.
        ap (λ x. f ⊗ x) (ap D (int_power-pred 𝓡 f g inv a) ∙ leibniz g (int_power 𝓡 f g a))
        ∙ ring 𝓡 (f ∷ g ∷ D g ∷ int_power 𝓡 f g a ∷ D (int_power 𝓡 f g a) ∷ []) (X :* (Z :* W :+ Y :* var 4)) (X :* Z :* W :+ Y :* (X :* var 4)) refl
        ∙ rw (i, D-inverse, int_power-pred 𝓡 f g inv a, ι-pred a)
        (ring 𝓡 (g ∷ D f ∷ int_power 𝓡 f g a ∷ ι a ∷ []) (minus (Y :* X) :* Z :+ X :* (W :* (Z :* Y))) ((W :- unit) :* (X :* Z :* Y)) refl)) a

    -- f a unit: from f x = f y follows x = y
    pub cancel : (x y : R) → f ⊗ x ≡ f ⊗ y → x ≡ y
    cancel x y h =
        ring 𝓡 (x ∷ []) X (unit :* X) refl ∙ ap (λ o. o ⊗ x) (sym inv) ∙ ring 𝓡 (f ∷ g ∷ x ∷ []) (X :* Y :* Z) (Y :* (X :* Z)) refl
        ∙ ap (λ o. g ⊗ o) h ∙ ring 𝓡 (f ∷ g ∷ y ∷ []) (Y :* (X :* Z)) (X :* Y :* Z) refl ∙ ap (λ o. o ⊗ y) inv ∙ ring 𝓡 (y ∷ []) (unit :* X) X refl

    -- what makes a crossing keep the bracket: p D(f^a) f^b = q f^a D(f^b) where p a = q b
    pub balance : (p q : R) (a b : ℤ) → p ⊗ ι a ≡ q ⊗ ι b → p ⊗ (D (int_power 𝓡 f g a) ⊗ int_power 𝓡 f g b) ≡ q ⊗ (int_power 𝓡 f g a ⊗ D (int_power 𝓡 f g b))
    balance p q a b h =
        cancel _ _
        (ring 𝓡 (f ∷ p ∷ D (int_power 𝓡 f g a) ∷ int_power 𝓡 f g b ∷ []) (X :* (Y :* (Z :* W))) (Y :* ((X :* Z) :* W)) refl
        ∙ ap (λ o. p ⊗ (o ⊗ int_power 𝓡 f g b)) (D-power a)
        ∙ ring 𝓡 (p ∷ ι a ∷ int_power 𝓡 f g a ∷ D f ∷ int_power 𝓡 f g b ∷ []) (X :* ((Y :* (Z :* W)) :* var 4)) ((X :* Y) :* (Z :* W :* var 4)) refl
        ∙ ap (λ o. o ⊗ (int_power 𝓡 f g a ⊗ D f ⊗ int_power 𝓡 f g b)) h
        ∙ ring 𝓡 (q ∷ ι b ∷ int_power 𝓡 f g a ∷ D f ∷ int_power 𝓡 f g b ∷ []) ((X :* Y) :* (Z :* W :* var 4)) (X :* (Z :* (Y :* (var 4 :* W)))) refl
        ∙ ap (λ o. q ⊗ (int_power 𝓡 f g a ⊗ o)) (sym (D-power b))
        ∙ ring 𝓡 (f ∷ q ∷ int_power 𝓡 f g a ∷ D (int_power 𝓡 f g b) ∷ []) (Y :* (Z :* (X :* W))) (X :* (Y :* (Z :* W))) refl)
