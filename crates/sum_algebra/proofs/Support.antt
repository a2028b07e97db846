-- Where the terms of a formal sum may stand, up to what cancels.
use Rattle.std.specs.Prelude.{◌≡◌, refl, ℕ, List, [], ◌∷◌, ◌++◌, ◌<◌, ◌≤◌}
use Rattle.std.proofs.Common.{sym, ◌∙◌, ap, arith, zero, suc}
use lib.IntN.{ℤ, pos}
use Rattle.sum_algebra.proofs.Sums as S
use Rattle.sum_algebra.proofs.Sums.{Keys, Same, pair, bind, multiple, pair-append, pair-multiple, pair-bind, pair-zero}
use Rattle.sum_algebra.proofs.Quotient.{Modulo, modulo_ring, exact}
use Rattle.sum_algebra.proofs.Powers.{power, powers, geometric}
use mathlib.Core.Quot.{mk, sound}

-- tests that agree on P cannot tell the sum apart
pub record Supported {K : Type 0} (P : K → Type 0) (s : List (K × ℤ)) : Type 0 where
  pub at : (φ ψ : K → ℤ) → ((x : K) → P x → φ x ≡ ψ x) → pair φ s ≡ pair ψ s

-- each term's key is in P
abbrev pub Every : {K : Type 0} → (K → Type 0) → List (K × ℤ) → Type 0
Every P [] = Unit {0}
Every P (u ∷ s) = P u.0 × Every P s

module _ {K : Type 0} where
  pub by_every : (P : K → Type 0) (s : List (K × ℤ)) → Every P s → Supported P s
  by_every P [] h = record { at = λ φ ψ g. refl }
  by_every P (u ∷ s) h = record { at = λ φ ψ g. rw (g u.0 h.0, (by_every P s h.1).at φ ψ g) }

  pub weaken : (P Q : K → Type 0) (s : List (K × ℤ)) → ((x : K) → P x → Q x) → Supported P s → Supported Q s
  weaken P Q s i h = record { at = λ φ ψ g. h.at φ ψ (λ x p. g x (i x p)) }

  pub Supported-append : (P : K → Type 0) (s t : List (K × ℤ)) → Supported P s → Supported P t → Supported P (s ++ t)
  Supported-append P s t h i = record { at = λ φ ψ g. rw (pair-append φ s t, pair-append ψ s t, h.at φ ψ g, i.at φ ψ g) }

module _ {K L : Type 0} where
  pub Supported-bind : (P : K → Type 0) (Q : L → Type 0) (s : List (K × ℤ)) (E : K → List (L × ℤ)) → Supported P s → ((x : K) → P x → Supported Q (E x)) → Supported Q (bind s E)
  Supported-bind P Q s E h i = record { at = λ φ ψ g. rw (pair-bind φ s E, pair-bind ψ s E) (h.at (λ x. pair φ (E x)) (λ x. pair ψ (E x)) (λ x p. (i x p).at φ ψ g)) }

  pub bind-same : (𝓛 : Keys L) (k : ℕ) (P : K → Type 0) (s : List (K × ℤ)) (E F : K → List (L × ℤ)) → Supported P s → ((x : K) → P x → Same 𝓛 k (E x) (F x)) → Same 𝓛 k (bind s E) (bind s F)
  bind-same 𝓛 k P s E F h i = record { at = λ φ v. rw (pair-bind φ s E, pair-bind φ s F) (h.at (λ x. pair φ (E x)) (λ x. pair φ (F x)) (λ x p. (i x p).at φ v)) }

  -- replacing does not lower degrees, so it respects equality modulo degree above k
  pub bind-same_left : (𝓚 : Keys K) (𝓛 : Keys L) (k : ℕ) (s s' : List (K × ℤ)) (E : K → List (L × ℤ)) → ((x : K) → Supported (λ y. 𝓚.deg x ≤ 𝓛.deg y) (E x)) → Same 𝓚 k s s' → Same 𝓛 k (bind s E) (bind s' E)
  bind-same_left 𝓚 𝓛 k s s' E r h = record { at = λ φ v. rw (pair-bind φ s E, pair-bind φ s' E) (h.at (λ x. pair φ (E x)) (λ x d. (r x).at φ (λ _. pos 0) (λ y le. v y (omega arith)) ∙ pair-zero (E x))) }

module _ {K : Type 0} (𝓚 : Keys K) where
  open 𝓚 use {◌·◌, e, deg, deg_mul}

  infixl 7 ◌·◌
  pub Supported-mul : (P Q M : K → Type 0) (s t : List (K × ℤ)) → ((x y : K) → P x → Q y → M (x · y)) → Supported P s → Supported Q t → Supported M (S.mul 𝓚 s t)
  Supported-mul P Q M s t m h i = record { at = λ φ ψ g. rw (S.pair-mul 𝓚 φ s t, S.pair-mul 𝓚 ψ s t) (h.at (λ x. pair (λ y. φ (x · y)) t) (λ x. pair (λ y. ψ (x · y)) t) (λ x p. i.at (λ y. φ (x · y)) (λ y. ψ (x · y)) (λ y q. g (x · y) (m x y p q)))) }

  pub vanishes : (k : ℕ) (s : List (K × ℤ)) → Supported (λ x. k < deg x) s → Same 𝓚 k s []
  vanishes k s h = record { at = λ φ v. h.at φ (λ _. pos 0) v ∙ pair-zero s }

  abbrev pub list_power : List (K × ℤ) → ℕ → List (K × ℤ)
  list_power u zero = S.one 𝓚
  list_power u (suc n) = S.mul 𝓚 u (list_power u n)

  abbrev pub list_powers : List (K × ℤ) → ℕ → List (K × ℤ)
  list_powers u zero = []
  list_powers u (suc n) = list_powers u n ++ list_power u n

  abbrev pub one_minus : List (K × ℤ) → List (K × ℤ)
  one_minus f = S.one 𝓚 ++ S.neg 𝓚 f

  -- 1 / f is the sum of the powers of 1 - f up to the k-th
  abbrev pub inverse : ℕ → List (K × ℤ) → List (K × ℤ)
  inverse k f = list_powers (one_minus f) (suc k)

  pub power-low : (u : List (K × ℤ)) → Supported (λ x. 1 ≤ deg x) u → (n : ℕ) → Supported (λ x. n ≤ deg x) (list_power u n)
  power-low u h zero = by_every (λ x. 0 ≤ deg x) (S.one 𝓚) (omega arith, tt)
  power-low u h (suc n) =
      Supported-mul (λ x. 1 ≤ deg x) (λ x. n ≤ deg x) (λ x. suc n ≤ deg x) u (list_power u n)
      (λ x y p q. omega (arith, deg_mul x y)) h (power-low u h n)

  module _ (k : ℕ) where
    pub class-power : (u : List (K × ℤ)) (n : ℕ) → ◌≡◌ {A = Modulo 𝓚 k} (mk (list_power u n)) (power (modulo_ring 𝓚 k) (mk u) n)
    class-power u zero = refl
    class-power u (suc n) = ap ((modulo_ring 𝓚 k).◌⊗◌ (mk u)) (class-power u n)

    pub class-powers : (u : List (K × ℤ)) (n : ℕ) → ◌≡◌ {A = Modulo 𝓚 k} (mk (list_powers u n)) (powers (modulo_ring 𝓚 k) (mk u) n)
    class-powers u zero = refl
    class-powers u (suc n) = rw (← class-powers u n, ← class-power u n)

    -- f is 1 and terms of degree at least 1
    pub Starts : List (K × ℤ) → Type 0
    Starts f = Supported (λ x. 1 ≤ deg x) (one_minus f)

    pub inverse-right : (f : List (K × ℤ)) → Supported (λ x. 1 ≤ deg x) (one_minus f) → Same 𝓚 k (S.mul 𝓚 f (inverse k f)) (S.one 𝓚)
    inverse-right f h =
        exact 𝓚 k (S.mul 𝓚 f (inverse k f)) (S.one 𝓚)
        (ap ((modulo_ring 𝓚 k).◌⊗◌ (mk f)) (class-powers (one_minus f) (suc k))
        ∙ geometric (modulo_ring 𝓚 k) (mk f) (suc k)
        (sym (class-power (one_minus f) (suc k)) ∙ sound (vanishes k (list_power (one_minus f) (suc k)) (power-low (one_minus f) h (suc k)))))
