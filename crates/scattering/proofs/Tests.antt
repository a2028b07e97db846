-- What tests say: those of natural numbers, and any.
use Rattle.std.proofs.Common.{◌≡◌, ℕ, ◌<◌, ◌≤◌, ◌⊎◌, inl, inr, refl, Bool, true, false, arith, ◌≢◌}
use native.Mathlib.Decide.{dec_le}
use Rattle.std.specs.Prelude.{nat_le, nat_lt, ◌==◌, IsTrue}

pub is-true : (b : Bool) → IsTrue b → b ≡ true
is-true b h = search

pub bool_cases : (b : Bool) → (b ≡ true) ⊎ (b ≡ false)
bool_cases true = inl refl
bool_cases false = inr refl

pub nat_le-yes : (a b : ℕ) → nat_le a b ≡ true → a ≤ b
nat_le-yes a b e = grind arith

pub nat_le-is : (a b : ℕ) → a ≤ b → nat_le a b ≡ true
nat_le-is a b h = grind arith

pub nat_le-no : (a b : ℕ) → nat_le a b ≡ false → b < a
nat_le-no a b e = grind arith

pub nat_le-not : (a b : ℕ) → b < a → nat_le a b ≡ false
nat_le-not a b h = grind arith

pub nat_lt-asym : (a b : ℕ) → nat_lt a b ≡ true → nat_lt b a ≡ true → ⊥
nat_lt-asym a b h k = grind arith

pub nat_lt-trans : (a b c : ℕ) → nat_lt a b ≡ true → nat_lt b c ≡ true → nat_lt a c ≡ true
nat_lt-trans a b c h k = grind arith

pub nat_eq-same : (a b : ℕ) → (a == b) ≡ true → a ≡ b
nat_eq-same a b e = grind arith

pub nat_case : (a b : ℕ) → (a ≡ b) ⊎ (a ≢ b)
nat_case a b = elim (dec_le a b) [
  | yes p ↦ elim (dec_le b a) [ yes q ↦ inl (omega (arith, p, q)) | no q ↦ inr (λ e. q (omega (arith, e))) ]
  | no p ↦ inr (λ e. p (omega (arith, e)))
]
