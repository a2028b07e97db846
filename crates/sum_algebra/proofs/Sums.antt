-- Formal sums: lists of a key and a whole coefficient, read by what they pair to.
use Rattle.std.specs.Prelude.{◌≡◌, refl, ℕ, List, [], ◌∷◌, ◌++◌, ◌+◌, ◌<◌}
use Rattle.std.proofs.Common.{sym, ◌∙◌, ap, arith}
use mathlib.Core.Path.{fun_ext}
use lib.IntN.{ℤ, pos, ◌+ℤ◌, ◌*ℤ◌, neg_ℤ, +ℤ_assoc, +ℤ_idl, *ℤ-zero}
use Rattle.sum_algebra.proofs.Integers.{*ℤ_assoc, *ℤ-+ℤ}
use Rattle.sum_algebra.proofs.Ring.{var, nought, unit, ring}
use Rattle.sum_algebra.proofs.IntegerRing.{ints_ring, ◌:+◌, ◌:*◌, X, Y, Z, W}

-- keys: a commutative monoid with an additive degree
pub record Keys (K : Type 0) : Type 0 where
  pub ◌·◌ : K → K → K
  pub e : K
  pub deg : K → ℕ
  infixl 7 ◌·◌
  pub assoc : (a b c : K) → (a · b) · c ≡ a · (b · c)
  pub comm : (a b : K) → a · b ≡ b · a
  pub unit_left : (a : K) → e · a ≡ a
  pub deg_mul : (a b : K) → deg (a · b) ≡ deg a + deg b

abbrev pub Sum : Type 0 → Type 0
Sum K = List (K × ℤ)

-- the sum of c * φ(key) over the terms
abbrev pub pair : {K : Type 0} → (K → ℤ) → List (K × ℤ) → ℤ
pair φ [] = pos 0
pair φ (u ∷ s) = u.1 *ℤ φ u.0 +ℤ pair φ s

abbrev pub multiple : {K : Type 0} → ℤ → List (K × ℤ) → List (K × ℤ)
multiple c [] = []
multiple c (u ∷ s) = (u.0, c *ℤ u.1) ∷ multiple c s

-- replaces each key by a sum
abbrev pub bind : {K L : Type 0} → List (K × ℤ) → (K → List (L × ℤ)) → List (L × ℤ)
bind [] E = []
bind (u ∷ s) E = multiple u.1 (E u.0) ++ bind s E

module _ {K : Type 0} where
  pub pair-append : (φ : K → ℤ) (s t : List (K × ℤ)) → pair φ (s ++ t) ≡ pair φ s +ℤ pair φ t
  pair-append φ [] t = sym (+ℤ_idl (pair φ t))
  pair-append φ (u ∷ s) t = rw (pair-append φ s t, +ℤ_assoc)

  pub pair-multiple : (φ : K → ℤ) (c : ℤ) (s : List (K × ℤ)) → pair φ (multiple c s) ≡ c *ℤ pair φ s
  pair-multiple φ c [] = sym (*ℤ-zero c)
  pair-multiple φ c (u ∷ s) = rw (pair-multiple φ c s, *ℤ_assoc, *ℤ-+ℤ)

  pub pair-zero : (s : List (K × ℤ)) → pair (λ _. pos 0) s ≡ pos 0
  pair-zero [] = refl
  pair-zero (u ∷ s) = rw (pair-zero s, *ℤ-zero u.1)

  pub pair-plus : (φ ψ : K → ℤ) (s : List (K × ℤ)) → pair (λ x. φ x +ℤ ψ x) s ≡ pair φ s +ℤ pair ψ s
  pair-plus φ ψ [] = refl
  pair-plus φ ψ (u ∷ s) =
      rw (pair-plus φ ψ s)
      (ring ints_ring (u.1 ∷ φ u.0 ∷ ψ u.0 ∷ pair φ s ∷ pair ψ s ∷ [])
      (X :* (Y :+ Z) :+ (W :+ var 4)) ((X :* Y :+ W) :+ (X :* Z :+ var 4)) refl)

  pub pair-factor : (c : ℤ) (φ : K → ℤ) (s : List (K × ℤ)) → pair (λ x. c *ℤ φ x) s ≡ c *ℤ pair φ s
  pair-factor c φ [] = sym (*ℤ-zero c)
  pair-factor c φ (u ∷ s) =
      rw (pair-factor c φ s)
      (ring ints_ring (c ∷ u.1 ∷ φ u.0 ∷ pair φ s ∷ []) (Y :* (X :* Z) :+ X :* W) (X :* (Y :* Z :+ W)) refl)

  pub pair-ext : (φ ψ : K → ℤ) (s : List (K × ℤ)) → ((x : K) → φ x ≡ ψ x) → pair φ s ≡ pair ψ s
  pair-ext φ ψ s h = ap (λ f. pair f s) (fun_ext h)

module _ {K L : Type 0} where
  pub pair-bind : (φ : L → ℤ) (s : List (K × ℤ)) (E : K → List (L × ℤ)) → pair φ (bind s E) ≡ pair (λ x. pair φ (E x)) s
  pair-bind φ [] E = refl
  pair-bind φ (u ∷ s) E = rw (pair-append φ (multiple u.1 (E u.0)) (bind s E), pair-bind φ s E, pair-multiple φ u.1 (E u.0))

  -- Fubini
  pub pair-swap : (ψ : K → L → ℤ) (s : List (K × ℤ)) (t : List (L × ℤ)) → pair (λ x. pair (λ y. ψ x y) t) s ≡ pair (λ y. pair (λ x. ψ x y) s) t
  pair-swap ψ [] t = sym (pair-zero t)
  pair-swap ψ (u ∷ s) t =
      rw (pair-swap ψ s t, pair-plus (λ y. u.1 *ℤ ψ u.0 y) (λ y. pair (λ x. ψ x y) s) t, pair-factor u.1 (ψ u.0) t)

module _ {K : Type 0} (𝓚 : Keys K) where
  open 𝓚 use {◌·◌, e, deg, assoc, comm, unit_left, deg_mul}

  infixl 7 ◌·◌
  abbrev pub shift : K → List (K × ℤ) → List (K × ℤ)
  shift x [] = []
  shift x (u ∷ s) = (x · u.0, u.1) ∷ shift x s

  -- all pairs of terms
  abbrev pub mul : List (K × ℤ) → List (K × ℤ) → List (K × ℤ)
  mul s t = bind s (λ x. shift x t)

  abbrev pub neg : List (K × ℤ) → List (K × ℤ)
  neg s = multiple (neg_ℤ (pos 1)) s

  abbrev pub one : List (K × ℤ)
  one = (e, pos 1) ∷ []

  pub pair-shift : (φ : K → ℤ) (x : K) (s : List (K × ℤ)) → pair φ (shift x s) ≡ pair (λ y. φ (x · y)) s
  pair-shift φ x [] = refl
  pair-shift φ x (u ∷ s) = rw (pair-shift φ x s)

  pub pair-mul : (φ : K → ℤ) (s t : List (K × ℤ)) → pair φ (mul s t) ≡ pair (λ x. pair (λ y. φ (x · y)) t) s
  pair-mul φ s t = pair-bind φ s (λ x. shift x t) ∙ pair-ext _ _ s (λ x. pair-shift φ x t)

  pub mul_comm : (φ : K → ℤ) (s t : List (K × ℤ)) → pair φ (mul s t) ≡ pair φ (mul t s)
  mul_comm φ s t =
      pair-mul φ s t ∙ pair-swap (λ x y. φ (x · y)) s t
      ∙ pair-ext _ _ t (λ y. pair-ext _ _ s (λ x. ap φ (comm x y))) ∙ sym (pair-mul φ t s)

  pub mul_assoc : (φ : K → ℤ) (s t u : List (K × ℤ)) → pair φ (mul (mul s t) u) ≡ pair φ (mul s (mul t u))
  mul_assoc φ s t u =
      pair-mul φ (mul s t) u ∙ pair-mul (λ x. pair (λ y. φ (x · y)) u) s t
      ∙ pair-ext _ _ s (λ x. pair-ext _ _ t (λ y. pair-ext _ _ u (λ z. ap φ (assoc x y z))) ∙ sym (pair-mul (λ w. φ (x · w)) t u))
      ∙ sym (pair-mul φ s (mul t u))

  pub mul_append : (φ : K → ℤ) (s t u : List (K × ℤ)) → pair φ (mul (s ++ t) u) ≡ pair φ (mul s u ++ mul t u)
  mul_append φ s t u =
      pair-mul φ (s ++ t) u ∙ pair-append (λ x. pair (λ y. φ (x · y)) u) s t
      ∙ rw (← pair-mul φ s u, ← pair-mul φ t u) (sym (pair-append φ (mul s u) (mul t u)))

  pub one_mul : (φ : K → ℤ) (s : List (K × ℤ)) → pair φ (mul one s) ≡ pair φ s
  one_mul φ s =
      pair-mul φ one s
      ∙ rw (pair-ext (λ y. φ (e · y)) φ s (λ y. ap φ (unit_left y)))
      (ring ints_ring (pair φ s ∷ []) (unit :* X :+ nought) X refl)

  -- equal up to terms of degree above k: no test that vanishes there tells them apart
  pub record Same (k : ℕ) (s t : List (K × ℤ)) : Type 0 where
    pub at : (φ : K → ℤ) → ((x : K) → k < deg x → φ x ≡ pos 0) → pair φ s ≡ pair φ t

  pub vanish : (k : ℕ) (φ : K → ℤ) (t : List (K × ℤ)) → ((x : K) → k < deg x → φ x ≡ pos 0) → (x : K) → k < deg x → pair (λ y. φ (x · y)) t ≡ pos 0
  vanish k φ t v x h =
      pair-ext (λ y. φ (x · y)) (λ _. pos 0) t (λ y. v (x · y) (omega (arith, deg_mul x y))) ∙ pair-zero t

  pub Same-mul_left : (k : ℕ) (s s' t : List (K × ℤ)) → Same k s s' → Same k (mul s t) (mul s' t)
  Same-mul_left k s s' t h = record { at = λ φ v. pair-mul φ s t ∙ h.at (λ x. pair (λ y. φ (x · y)) t) (vanish k φ t v) ∙ sym (pair-mul φ s' t) }
