-- A crossing: each key x is replaced by x times a power of f, whose exponent is additive in x.
use Rattle.std.specs.Prelude.{◌≡◌, refl, ℕ, List, [], ◌∷◌}
use Rattle.std.proofs.Common.{sym, ◌∙◌, ap, suc}
use lib.IntN.{ℤ, pos, negsuc, ◌+ℤ◌}
use Rattle.sum_algebra.proofs.Ring.{ring}
use Rattle.sum_algebra.proofs.IntegerRing.{◌:*◌, X, Y, Z, W}
use Rattle.sum_algebra.proofs.Sums as S
use Rattle.sum_algebra.proofs.Sums.{Keys, Same, pair, bind, multiple, pair-append, pair-multiple, pair-bind, pair-zero, pair-ext, pair-swap}
use Rattle.sum_algebra.proofs.Quotient.{Modulo, modulo_ring, exact}
use Rattle.sum_algebra.proofs.Powers.{int_power, int_power-add}
use Rattle.sum_algebra.proofs.Support.{list_power, class-power}
use mathlib.Core.Quot.{mk, sound}

module _ {K : Type 0} (𝓚 : Keys K) where
  open 𝓚 use {◌·◌, e, deg, deg_mul}

  infixl 7 ◌·◌
  -- where keys multiply, so do the sums
  pub bind-mul : (k : ℕ) (E : K → List (K × ℤ)) → ((x y : K) → Same 𝓚 k (E (x · y)) (S.mul 𝓚 (E x) (E y))) → (s t : List (K × ℤ)) → Same 𝓚 k (bind (S.mul 𝓚 s t) E) (S.mul 𝓚 (bind s E) (bind t E))
  bind-mul k E m s t = record {
    at = λ φ v.
        pair-bind φ (S.mul 𝓚 s t) E ∙ S.pair-mul 𝓚 (λ z. pair φ (E z)) s t
        ∙ pair-ext _ _ s (λ x.
        pair-ext _ _ t (λ y. (m x y).at φ v ∙ S.pair-mul 𝓚 φ (E x) (E y))
        ∙ pair-swap (λ y a. pair (λ b. φ (a · b)) (E y)) t (E x)
        ∙ pair-ext _ _ (E x) (λ a. sym (pair-bind (λ b. φ (a · b)) t E)))
        ∙ sym (pair-bind (λ a. pair (λ b. φ (a · b)) (bind t E)) s E)
        ∙ sym (S.pair-mul 𝓚 φ (bind s E) (bind t E));
  }

  abbrev pub mono : K → List (K × ℤ)
  mono x = (x, pos 1) ∷ []

  -- f to the power a, where g stands for 1 / f
  abbrev pub list_int_power : List (K × ℤ) → List (K × ℤ) → ℤ → List (K × ℤ)
  list_int_power f g (pos n) = list_power 𝓚 f n
  list_int_power f g (negsuc n) = list_power 𝓚 g (suc n)

  module _ (k : ℕ) (f g : List (K × ℤ)) (δ : K → ℤ) where
    abbrev pub image : K → List (K × ℤ)
    image x = S.mul 𝓚 (mono x) (list_int_power f g (δ x))

    abbrev pub cross : List (K × ℤ) → List (K × ℤ)
    cross s = bind s image

    module _ (inv : Same 𝓚 k (S.mul 𝓚 f g) (S.one 𝓚)) (additive : (x y : K) → δ (x · y) ≡ δ x +ℤ δ y) where
      pub class-int_power : (a : ℤ) → ◌≡◌ {A = Modulo 𝓚 k} (mk (list_int_power f g a)) (int_power (modulo_ring 𝓚 k) (mk f) (mk g) a)
      class-int_power (pos n) = class-power 𝓚 k f n
      class-int_power (negsuc n) = class-power 𝓚 k g (suc n)

      pub class-mono : (x y : K) → ◌≡◌ {A = Modulo 𝓚 k} (mk (mono (x · y))) (mk (S.mul 𝓚 (mono x) (mono y)))
      class-mono x y = refl

      pub power-add : (a b : ℤ) → ◌≡◌ {A = Modulo 𝓚 k} (mk (list_int_power f g (a +ℤ b))) (mk (S.mul 𝓚 (list_int_power f g a) (list_int_power f g b)))
      power-add a b =
          class-int_power (a +ℤ b) ∙ int_power-add (modulo_ring 𝓚 k) (mk f) (mk g) (sound inv) a b
          ∙ rw (← class-int_power a, ← class-int_power b)

      pub image-mul : (x y : K) → Same 𝓚 k (image (x · y)) (S.mul 𝓚 (image x) (image y))
      image-mul x y =
          exact 𝓚 k (image (x · y)) (S.mul 𝓚 (image x) (image y))
          (ap (λ a. (modulo_ring 𝓚 k).◌⊗◌ (mk (mono (x · y))) (mk (list_int_power f g a))) (additive x y)
          ∙ ap ((modulo_ring 𝓚 k).◌⊗◌ (mk (mono (x · y)))) (power-add (δ x) (δ y))
          ∙ ring (modulo_ring 𝓚 k) (mk (mono x) ∷ mk (mono y) ∷ mk (list_int_power f g (δ x)) ∷ mk (list_int_power f g (δ y)) ∷ [])
          ((X :* Y) :* (Z :* W)) ((X :* Z) :* (Y :* W)) refl)

      pub cross-mul : (s t : List (K × ℤ)) → Same 𝓚 k (cross (S.mul 𝓚 s t)) (S.mul 𝓚 (cross s) (cross t))
      cross-mul s t = bind-mul k image image-mul s t
