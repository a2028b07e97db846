-- A crossing as a reading of each coefficient, which depends on coefficients alone, also as they are kept.
use Rattle.std.proofs.Common.{◌≡◌, ℕ, ◌+◌, refl, sym, ap, ◌∙◌, [], ◌∷◌, ◌++◌, length, arith}
use Rattle.std.specs.Prelude.{ℤ, pos, ◌+ℤ◌, ◌*ℤ◌, neg_ℤ, flat_map, nat_le}
use Rattle.std.proofs.lemmas.Int.{ints}
use Rattle.scattering.proofs.Lists.{Every-filter}
use Rattle.scattering.specs.Series.{Key, Sum, Same, degree, coef, cut, mul, minus}
use Rattle.scattering.proofs.Pairing.{pairing, pairing-zero, pairing-append, pairing-minus, coef-append, coef-minus}
use Rattle.trunc_series.specs.declared.arithmetic.Arithmetic.{Arithmetic}
use Rattle.trunc_series.specs.Arithmetic.{kept, IsKeepable}
use Rattle.trunc_series.proofs.Congruence.{weight, mul-weight, pairing-kept}
use Rattle.trunc_series.proofs.Coefficients.{keepable-coef}
use Rattle.trunc_series.proofs.Kept.{keepable-one}
use Rattle.trunc_series.proofs.Merging.{Keepable}
use Rattle.trunc_series.proofs.Rows.{row_sum, sum-keepable}

-- each key replaced by its product with a sum of its own
abbrev pub substituted : ℕ → (Key → Sum) → Sum → Sum
substituted k P g = flat_map (λ t. mul k (t ∷ []) (P t.0)) g

pub substituted-coef : (k : ℕ) (P : Key → Sum) (g : Sum) (x : Key) → coef (substituted k P g) x ≡ pairing (λ y. weight k (P y) x y) g
substituted-coef k P [] x = refl
substituted-coef k P (t ∷ g) x =
    coef-append (mul k (t ∷ []) (P t.0)) (substituted k P g) x
    ∙ rw (mul-weight k (t ∷ []) (P t.0) x, substituted-coef k P g x) (ap (λ c. c +ℤ pairing (λ y. weight k (P y) x y) g) (add-none (t.1 *ℤ weight k (P t.0) x t.0)))
  where
    add-none : (c : ℤ) → c +ℤ pos 0 ≡ c
    add-none c = omega (arith, ints)

pub pairing-equal : (φ : Key → ℤ) (f g : Sum) → Same f g → pairing φ f ≡ pairing φ g
pairing-equal φ f g s =
    equal (pairing φ f) (pairing φ g)
    (sym (ap (λ c. pairing φ f +ℤ c) (pairing-minus φ g)) ∙ sym (pairing-append φ f (minus g)) ∙ pairing-zero φ (length (f ++ minus g)) (f ++ minus g) (omega arith) (λ x. ap (λ c. c *ℤ φ x) (none x) ∙ zero-mul (φ x)))
  where
    equal : (a b : ℤ) → a +ℤ neg_ℤ b ≡ pos 0 → a ≡ b
    equal a b e = omega (arith, ints, e)

    zero-mul : (c : ℤ) → pos 0 *ℤ c ≡ pos 0
    zero-mul c = omega (arith, ints)

    none : (x : Key) → coef (f ++ minus g) x ≡ pos 0
    none x = coef-append f (minus g) x ∙ rw (coef-minus g x, s x) (cancel (coef g x))
      where
        cancel : (c : ℤ) → c +ℤ neg_ℤ c ≡ pos 0
        cancel c = omega (arith, ints)

pub substituted-same : (k : ℕ) (P : Key → Sum) (f g : Sum) → Same f g → Same (substituted k P f) (substituted k P g)
substituted-same k P f g s x = substituted-coef k P f x ∙ pairing-equal (λ y. weight k (P y) x y) f g s ∙ sym (substituted-coef k P g x)

-- ---- as they are kept

module _ (rule : Arithmetic) (k : ℕ) where
  keepable-reading : (g : Sum) (x y : Key) → Keepable rule g → IsKeepable rule (weight k g x y)
  keepable-reading g x y h = keepable-coef rule (cut k (row_sum (y, pos 1) g)) x (Every-filter (λ u. IsKeepable rule u.1) (λ u. nat_le (degree u.0) k) (row_sum (y, pos 1) g) (sum-keepable rule (y, pos 1) g (keepable-one rule) h))

  pub substituted-kept : (P : Key → Sum) (f g : Sum) → ((y : Key) → Keepable rule (P y)) → Keepable rule f → Keepable rule g → ((x : Key) → kept rule (coef f x) ≡ kept rule (coef g x))
      → (x : Key) → kept rule (coef (substituted k P f) x) ≡ kept rule (coef (substituted k P g) x)
  substituted-kept P f g hp hf hg s x =
      ap (kept rule) (substituted-coef k P f x)
      ∙ pairing-kept rule (λ y. weight k (P y) x y) (λ y. keepable-reading (P y) x y (hp y)) (length f + length g) f g (omega arith) hf hg s
      ∙ ap (kept rule) (sym (substituted-coef k P g x))
