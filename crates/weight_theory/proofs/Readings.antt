-- A bound of the coefficients bounds each reading of a sum, and the other way round.
use Rattle.std.proofs.Common.{◌≡◌, ℕ, zero, suc, ◌+◌, ◌*◌, ◌<◌, ◌≤◌, refl, ap, Bool, true, false, cond, [], ◌∷◌, length, arith}
use Rattle.std.specs.Prelude.{ℤ, pos, negsuc, ◌+ℤ◌, ◌*ℤ◌, ◌≤ℤ◌, nat_abs}
use Rattle.std.proofs.lemmas.Int.{ints, unsigned_abs-mul}
use native.Mathlib.Decide.{dec_le}
use native.Mathlib.Nat.{mul-le-mul}
use lib.IntN.{*ℤ-zero}
use Rattle.sum_algebra.proofs.Sums.{pair}
use Rattle.sum_algebra.proofs.Coefficients.{indicator}
use Rattle.scattering.specs.Series.{Key, Sum, degree, key_eq, coef}
use Rattle.scattering.proofs.Keys.{key_eq-same, key_eq-refl}
use Rattle.scattering.proofs.Pairing.{pairing, pairing-split, without, coef-without, length-without}
use Rattle.crossing_theory.proofs.Translation.{key_test, coef-is}
use Rattle.weight_theory.specs.Laws.{IsBelow}

-- ---- whole numbers

pub triangle : (a b c d : ℤ) → pos (nat_abs a) ≤ℤ b → pos (nat_abs c) ≤ℤ d → pos (nat_abs (a +ℤ c)) ≤ℤ (b +ℤ d)
triangle a b c d h k = omega (arith, ints, h, k)

pub product : (a b c d : ℤ) → pos (nat_abs a) ≤ℤ b → pos (nat_abs c) ≤ℤ d → pos (nat_abs (a *ℤ c)) ≤ℤ (b *ℤ d)
product a (pos b) c (pos d) h k =
    let p : nat_abs a ≤ b = omega (arith, ints, h) in
    let q : nat_abs c ≤ d = omega (arith, ints, k) in
    let r : nat_abs a * nat_abs c ≤ b * d = mul-le-mul p q in
    rw (unsigned_abs-mul a c) (omega (arith, ints, r))
product a (pos b) c (negsuc d) h k = absurd (omega (arith, ints, k))
product a (negsuc b) c d h k = absurd (omega (arith, ints, h))

-- ---- readings

-- ψ bounds φ, and sees no degree above k
pub record Covers (k : ℕ) (φ ψ : Key → ℤ) : Type 0 where
  pub each : (x : Key) → pos (nat_abs (φ x)) ≤ℤ ψ x
  pub high : (x : Key) → k < degree x → ψ x ≡ pos 0

pub unseen : (k : ℕ) (φ ψ : Key → ℤ) → Covers k φ ψ → (x : Key) → k < degree x → φ x ≡ pos 0
unseen k φ ψ c x d = let e = c.each x in let z = c.high x d in omega (arith, ints, e, z)

-- each reading of f is bounded by that of F
pub record Bounds (k : ℕ) (f F : Sum) : Type 0 where
  pub at : (φ ψ : Key → ℤ) → Covers k φ ψ → pos (nat_abs (pair φ f)) ≤ℤ pair ψ F

-- ---- from coefficients to readings

read : (φ : Key → ℤ) (f : Sum) → pair φ f ≡ pairing φ f
read φ [] = refl
read φ (t ∷ f) = ap (λ r. t.1 *ℤ φ t.0 +ℤ r) (read φ f)

below-without : (k : ℕ) (x : Key) (f F : Sum) → IsBelow k f F → IsBelow k (without x f) (without x F)
below-without k x f F h y d = rw (coef-without x y f, coef-without x y F) (go (key_eq x y) (h y d))
  where
    go : (b : Bool) → pos (nat_abs (coef f y)) ≤ℤ coef F y → pos (nat_abs (cond b (pos 0) (coef f y))) ≤ℤ cond b (pos 0) (coef F y)
    go true e = omega (arith, ints)
    go false e = e

module _ (k : ℕ) (φ ψ : Key → ℤ) (c : Covers k φ ψ) where
  at-key : (x : Key) (f F : Sum) → IsBelow k f F → pos (nat_abs (coef f x *ℤ φ x)) ≤ℤ (coef F x *ℤ ψ x)
  at-key x f F h = go (dec_le (degree x) k)
    where
      go : Dec (degree x ≤ k) → pos (nat_abs (coef f x *ℤ φ x)) ≤ℤ (coef F x *ℤ ψ x)
      go (yes d) = product (coef f x) (coef F x) (φ x) (ψ x) (h x d) (c.each x)
      go (no d) = let l : k < degree x = omega arith in rw (unseen k φ ψ c x l, c.high x l, *ℤ-zero (coef f x), *ℤ-zero (coef F x)) (omega (arith, ints))

  by-key : (x : Key) (f F : Sum) → IsBelow k f F → pos (nat_abs (pairing φ (without x f))) ≤ℤ pairing ψ (without x F) → pos (nat_abs (pairing φ f)) ≤ℤ pairing ψ F
  by-key x f F h i =
      rw (pairing-split φ x f, pairing-split ψ x F)
      (triangle (coef f x *ℤ φ x) (coef F x *ℤ ψ x) (pairing φ (without x f)) (pairing ψ (without x F)) (at-key x f F h) i)

  -- with the terms of one key taken out of both
  read-below : (n : ℕ) (f F : Sum) → length f + length F ≤ n → IsBelow k f F → pos (nat_abs (pairing φ f)) ≤ℤ pairing ψ F
  read-below n [] [] l h = omega (arith, ints)
  read-below zero [] (u ∷ F) l h = absurd (omega (arith, l))
  read-below zero (t ∷ f) F l h = absurd (omega (arith, l))
  read-below (suc n) [] (u ∷ F) l h =
      by-key u.0 [] (u ∷ F) h
      (rw key_eq-refl (read-below n [] (without u.0 F) (omega (arith, length-without u.0 F, l)) (rw key_eq-refl at (below-without k u.0 [] (u ∷ F) h))))
  read-below (suc n) (t ∷ f) F l h =
      by-key t.0 (t ∷ f) F h
      (rw key_eq-refl (read-below n (without t.0 f) (without t.0 F) (omega (arith, length-without t.0 f, length-without t.0 F, l)) (rw key_eq-refl at (below-without k t.0 (t ∷ f) F h))))

pub to_Bounds : (k : ℕ) (f F : Sum) → IsBelow k f F → Bounds k f F
to_Bounds k f F h = record { at = λ φ ψ c. rw (read φ f, read ψ F) (read-below k φ ψ c (length f + length F) f F (omega arith) h) }

-- ---- and back

pub from_Bounds : (k : ℕ) (f F : Sum) → Bounds k f F → IsBelow k f F
from_Bounds k f F h x d = rw (coef-is f x, coef-is F x) (h.at (indicator key_test x) (indicator key_test x) (record { each = λ y. each (key_eq y x); high = λ y l. high y l (key_eq y x) refl }))
  where
    each : (b : Bool) → pos (nat_abs (cond b (pos 1) (pos 0))) ≤ℤ cond b (pos 1) (pos 0)
    each true = omega (arith, ints)
    each false = omega (arith, ints)

    high : (y : Key) → k < degree y → (b : Bool) → key_eq y x ≡ b → cond b (pos 1) (pos 0) ≡ pos 0
    high y l true e = absurd (omega (arith, ap degree (key_eq-same y x e), d, l))
    high y l false e = refl
