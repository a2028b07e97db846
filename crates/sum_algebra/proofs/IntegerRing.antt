-- The integers as a ring, and the variables in which its terms are written.
use Rattle.std.specs.Prelude.{◌≡◌, refl, [], ◌∷◌}
use Rattle.std.proofs.Common.{sym, ◌∙◌, ap}
use lib.IntN.{ℤ, pos, one, ◌+ℤ◌, ◌*ℤ◌, neg_ℤ, *ℤ_comm, *ℤ-one, +ℤ_assoc, +ℤ_comm, +ℤ_idr, +ℤ_invr}
use Rattle.sum_algebra.proofs.Integers.{*ℤ_assoc, +ℤ-*ℤ}
use Rattle.sum_algebra.proofs.Ring.{CommRing, Expr, var, plus, times, minus, unit, ring}

pub *ℤ_one : (m : ℤ) → m *ℤ pos 1 ≡ m
unfolding one
*ℤ_one m = *ℤ-one m

abbrev pub ints_ring : CommRing ℤ
ints_ring = record {
  ◌⊕◌ = ◌+ℤ◌;
  ◌⊗◌ = ◌*ℤ◌;
  ⊖◌ = neg_ℤ;
  𝟘 = pos 0;
  𝟙 = pos 1;
  add_assoc = +ℤ_assoc;
  add_comm = +ℤ_comm;
  add_zero = +ℤ_idr;
  add_neg = +ℤ_invr;
  mul_assoc = *ℤ_assoc;
  mul_comm = *ℤ_comm;
  mul_one = *ℤ_one;
  dist = +ℤ-*ℤ;
}

infixl 6 ◌:+◌
infixl 7 ◌:*◌
abbrev pub ◌:+◌ : Expr → Expr → Expr
a :+ b = plus a b

abbrev pub ◌:*◌ : Expr → Expr → Expr
a :* b = times a b

abbrev pub ◌:-◌ : Expr → Expr → Expr
a :- b = plus a (minus b)

infixl 6 ◌:-◌
-- with the two sides as functions of the variables
abbrev pub X : Expr
X = var 0

abbrev pub Y : Expr
Y = var 1

abbrev pub Z : Expr
Z = var 2

abbrev pub W : Expr
W = var 3

-- in any ring, with a hypothesis
module _ {R : Type 0} (𝓡 : CommRing R) where
  open 𝓡 use {◌⊕◌, ◌⊗◌, ⊖◌, 𝟘, 𝟙}

  infixl 6 ◌⊕◌
  infixl 7 ◌⊗◌
  -- if f g = 1 and f h = 1 then g = h
  pub inverse_unique : (f g h : R) → f ⊗ g ≡ 𝟙 → f ⊗ h ≡ 𝟙 → g ≡ h
  inverse_unique f g h p q =
      ring 𝓡 (g ∷ []) X (unit :* X) refl ∙ ap (λ o. o ⊗ g) (sym q)
      ∙ ring 𝓡 (f ∷ g ∷ h ∷ []) ((X :* Z) :* Y) ((X :* Y) :* Z) refl ∙ ap (λ o. o ⊗ h) p
      ∙ ring 𝓡 (h ∷ []) (unit :* X) X refl
