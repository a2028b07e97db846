-- A term of degree j more in f changes a crossing modulo degree j + 1 by one term.
use Rattle.std.specs.Prelude.{◌≡◌, refl, ℕ, List, [], ◌∷◌, ◌++◌, ◌<◌, ◌≤◌}
use Rattle.std.proofs.Common.{sym, ◌∙◌, ap, arith}
use lib.IntN.{ℤ, pos, suc_ℤ, pred_ℤ, ◌*ℤ◌, neg_ℤ, zero-*ℤ, suc_ℤ-*ℤ, pred_ℤ-*ℤ}
use Rattle.sum_algebra.proofs.Ring.{CommRing, minus, nought, unit, ring}
use Rattle.sum_algebra.proofs.IntegerRing.{ints_ring, ◌:+◌, ◌:*◌, ◌:-◌, X, Y, Z}
use Rattle.sum_algebra.proofs.Sums as S
use Rattle.sum_algebra.proofs.Sums.{Keys, Same, pair, bind, multiple, pair-append, pair-multiple, pair-bind, pair-zero, pair-ext, pair-plus}
use Rattle.sum_algebra.proofs.Quotient.{Modulo, modulo_ring, same, exact}
use Rattle.sum_algebra.proofs.Support.{Supported, Supported-mul, vanishes}
use Rattle.sum_algebra.proofs.Crossing.{mono, list_int_power, image, cross, class-int_power}
use Rattle.sum_algebra.proofs.SmallCrossings.{int_power-near}
use mathlib.Core.Quot.{mk, sound}

module _ {K : Type 0} (𝓚 : Keys K) where
  open 𝓚 use {◌·◌, e, deg, deg_mul}

  infixl 7 ◌·◌
  module _ (j : ℕ) (f g f' g' t : List (K × ℤ)) (δ : K → ℤ)
      (inv : Same 𝓚 j (S.mul 𝓚 f g) (S.one 𝓚)) (inv' : Same 𝓚 j (S.mul 𝓚 f' g') (S.one 𝓚))
      (sum : Same 𝓚 j f' (f ++ t)) (positive : 1 ≤ j)
      (high : Supported (λ x. j ≤ deg x) t) (starts : Supported (λ x. 1 ≤ deg x) (f ++ S.neg 𝓚 (S.one 𝓚))) where
    abbrev pub R : CommRing (Modulo 𝓚 j)
    R = modulo_ring 𝓚 j

    square : Same 𝓚 j (S.mul 𝓚 t t) []
    square = vanishes 𝓚 j (S.mul 𝓚 t t) (Supported-mul 𝓚 (λ x. j ≤ deg x) (λ x. j ≤ deg x) (λ x. j < deg x) t t (λ x y p q. omega (arith, deg_mul x y)) high high)

    rest : Same 𝓚 j (S.mul 𝓚 (f ++ S.neg 𝓚 (S.one 𝓚)) t) []
    rest = vanishes 𝓚 j (S.mul 𝓚 (f ++ S.neg 𝓚 (S.one 𝓚)) t) (Supported-mul 𝓚 (λ x. 1 ≤ deg x) (λ x. j ≤ deg x) (λ x. j < deg x) (f ++ S.neg 𝓚 (S.one 𝓚)) t (λ x y p q. omega (arith, deg_mul x y)) starts high)

    kept : ◌≡◌ {A = Modulo 𝓚 j} (mk (S.mul 𝓚 f t)) (mk t)
    kept =
        ring R (mk f ∷ mk t ∷ []) (X :* Y) ((X :- unit) :* Y :+ Y) refl
        ∙ ap (λ y. R.◌⊕◌ y (mk t)) (sound rest) ∙ ring R (mk t ∷ []) (nought :+ X) X refl

    multiple-zero : ◌≡◌ {A = Modulo 𝓚 j} (mk (multiple (pos 0) t)) (mk [])
    multiple-zero = same 𝓚 j _ _ (λ φ. pair-multiple φ (pos 0) t ∙ zero-*ℤ (pair φ t))

    multiple-suc : (a : ℤ) → ◌≡◌ {A = Modulo 𝓚 j} (mk (multiple (suc_ℤ a) t)) (mk (multiple a t ++ t))
    multiple-suc a = same 𝓚 j _ _ (λ φ. pair-multiple φ (suc_ℤ a) t ∙ suc_ℤ-*ℤ a (pair φ t) ∙ rw (pair-append φ (multiple a t) t, pair-multiple φ a t))

    multiple-pred : (a : ℤ) → ◌≡◌ {A = Modulo 𝓚 j} (mk (multiple (pred_ℤ a) t)) (mk (multiple a t ++ S.neg 𝓚 t))
    multiple-pred a = same 𝓚 j _ _ (λ φ. pair-multiple φ (pred_ℤ a) t ∙ pred_ℤ-*ℤ a (pair φ t) ∙ rw (pair-append φ (multiple a t) (S.neg 𝓚 t), pair-multiple φ a t, pair-multiple φ (neg_ℤ (pos 1)) t) (ring ints_ring ((a *ℤ pair φ t) ∷ pair φ t ∷ []) (X :- Y) (X :+ minus unit :* Y) refl))

    pub power-perturbed : (a : ℤ) → ◌≡◌ {A = Modulo 𝓚 j} (mk (list_int_power 𝓚 f' g' a)) (mk (list_int_power 𝓚 f g a ++ multiple a t))
    power-perturbed a =
        class-int_power 𝓚 j f' g' (λ _. pos 0) inv' (λ _ _. refl) a
        ∙ int_power-near R (mk f) (mk g) (mk f') (mk g') (mk t) (sound inv) (sound inv') (sound sum) (sound square) kept (λ a. mk (multiple a t)) multiple-zero multiple-suc multiple-pred a
        ∙ ap (λ y. R.◌⊕◌ y (mk (multiple a t))) (sym (class-int_power 𝓚 j f g (λ _. pos 0) inv (λ _ _. refl) a))

    -- what is added at a key
    abbrev pub change : K → List (K × ℤ)
    change x = S.mul 𝓚 (mono 𝓚 x) (multiple (δ x) t)

    image-perturbed : (x : K) → Same 𝓚 j (image 𝓚 j f' g' δ x) (image 𝓚 j f g δ x ++ change x)
    image-perturbed x =
        exact 𝓚 j (image 𝓚 j f' g' δ x) (image 𝓚 j f g δ x ++ change x)
        (ap (R.◌⊗◌ (mk (mono 𝓚 x))) (power-perturbed (δ x))
        ∙ ring R (mk (mono 𝓚 x) ∷ mk (list_int_power 𝓚 f g (δ x)) ∷ mk (multiple (δ x) t) ∷ []) (X :* (Y :+ Z)) (X :* Y :+ X :* Z) refl)

    pub cross-perturbed : (s : List (K × ℤ)) → Same 𝓚 j (cross 𝓚 j f' g' δ s) (cross 𝓚 j f g δ s ++ bind s change)
    cross-perturbed s = record {
      at = λ φ v.
          pair-bind φ s (image 𝓚 j f' g' δ)
          ∙ pair-ext _ _ s (λ x. (image-perturbed x).at φ v ∙ pair-append φ (image 𝓚 j f g δ x) (change x))
          ∙ pair-plus (λ x. pair φ (image 𝓚 j f g δ x)) (λ x. pair φ (change x)) s
          ∙ rw (← pair-bind φ s (image 𝓚 j f g δ), ← pair-bind φ s change) (sym (pair-append φ (cross 𝓚 j f g δ s) (bind s change)));
    }
