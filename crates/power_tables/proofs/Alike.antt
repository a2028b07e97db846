-- Sums of which the same is kept: what is kept of sums, products and powers depends on that of their parts.
use Rattle.std.proofs.Common.{◌≡◌, ℕ, zero, suc, refl, sym, ap, ◌∙◌, [], ◌++◌}
use Rattle.scattering.specs.Collections.{Every}
use Rattle.scattering.specs.Series.{Key, Sum, Same, coef, one, mul, pow, powers_to}
use Rattle.scattering.proofs.Lists.{Every-append}
use Rattle.scattering.proofs.Pairing.{coef-append}
use Rattle.trunc_series.specs.declared.arithmetic.Arithmetic.{Arithmetic}
use Rattle.trunc_series.specs.Arithmetic.{kept, IsKeepable}
use Rattle.trunc_series.specs.Reduced.{IsKeptAs}
use Rattle.trunc_series.proofs.Kept.{keepable-one, kept-same_left, kept-same_right}
use Rattle.trunc_series.proofs.Coefficients.{keepable-coef}
use Rattle.trunc_series.proofs.Rows.{mul-keepable}
use Rattle.trunc_series.proofs.Congruence.{left-kept, mul-comm}
use Rattle.trunc_series.proofs.Merging.{whole}

-- both may be kept, and the same is kept of both
pub record Alike (rule : Arithmetic) (f g : Sum) : Type 0 where
  pub left : Every (λ t. IsKeepable rule t.1) f
  pub right : Every (λ t. IsKeepable rule t.1) g
  pub same : (k : Key) → kept rule (coef f k) ≡ kept rule (coef g k)

module _ (rule : Arithmetic) where
  abbrev pub Keepable : Sum → Type 0
  Keepable f = Every (λ t. IsKeepable rule t.1) f

  pub alike-refl : (f : Sum) → Keepable f → Alike rule f f
  alike-refl f h = record { left = h; right = h; same = λ k. refl }

  pub alike-sym : (f g : Sum) → Alike rule f g → Alike rule g f
  alike-sym f g h = record { left = h.right; right = h.left; same = λ k. sym (h.same k) }

  pub alike-trans : (f g h : Sum) → Alike rule f g → Alike rule g h → Alike rule f h
  alike-trans f g h a b = record { left = a.left; right = b.right; same = λ k. a.same k ∙ b.same k }

  pub alike-same : (f g : Sum) → Keepable f → Keepable g → Same f g → Alike rule f g
  alike-same f g h i s = record { left = h; right = i; same = λ k. ap (kept rule) (s k) }

  -- with the coefficients of a third
  pub alike-then : (f g h : Sum) → Alike rule f g → Keepable h → Same g h → Alike rule f h
  alike-then f g h a i s = alike-trans f g h a (alike-same g h a.right i s)

  pub alike-append : (f f' g g' : Sum) → Alike rule f f' → Alike rule g g' → Alike rule (f ++ g) (f' ++ g')
  alike-append f f' g g' a b = record {
    left = Every-append (λ t. IsKeepable rule t.1) f g a.left b.left;
    right = Every-append (λ t. IsKeepable rule t.1) f' g' a.right b.right;
    same = λ k.
        ap (kept rule) (coef-append f g k)
        ∙ kept-same_left rule (coef f k) (coef f' k) (coef g k) (keepable-coef rule f k a.left) (keepable-coef rule f' k a.right) (keepable-coef rule g k b.left) (a.same k)
        ∙ kept-same_right rule (coef f' k) (coef g k) (coef g' k) (keepable-coef rule f' k a.right) (keepable-coef rule g k b.left) (keepable-coef rule g' k b.right) (b.same k)
        ∙ ap (kept rule) (sym (coef-append f' g' k));
  }

  pub alike-mul : (n : ℕ) (f f' g g' : Sum) → Alike rule f f' → Alike rule g g' → Alike rule (mul n f g) (mul n f' g')
  alike-mul n f f' g g' a b = record {
    left = mul-keepable rule n f g a.left b.left;
    right = mul-keepable rule n f' g' a.right b.right;
    same = λ k.
        left-kept rule n f f' g k a.left a.right b.left a.same
        ∙ ap (kept rule) (mul-comm n f' g k)
        ∙ left-kept rule n g g' f' k b.left b.right a.right b.same
        ∙ ap (kept rule) (mul-comm n g' f' k);
  }

  pub alike-pow : (n : ℕ) (f g : Sum) → Alike rule f g → (i : ℕ) → Alike rule (pow n f i) (pow n g i)
  alike-pow n f g a zero = alike-refl one (keepable-one rule, tt)
  alike-pow n f g a (suc i) = alike-mul n f g (pow n f i) (pow n g i) a (alike-pow n f g a i)

  pub alike-powers : (n : ℕ) (f g : Sum) → Alike rule f g → (i : ℕ) → Alike rule (powers_to n f i) (powers_to n g i)
  alike-powers n f g a zero = alike-refl one (keepable-one rule, tt)
  alike-powers n f g a (suc i) = alike-append (powers_to n f i) (powers_to n g i) (pow n f (suc i)) (pow n g (suc i)) (alike-powers n f g a i) (alike-pow n f g a (suc i))

  -- a product by what is kept as 0
  pub nothing-mul : (n : ℕ) (f g : Sum) → Alike rule f [] → Keepable g → Alike rule (mul n f g) []
  nothing-mul n f g a h = alike-mul n f [] g g a (alike-refl g h)

  -- ---- lists that stand for sums

  pub reduced-alike : (n : ℕ) (r f : Sum) → IsKeptAs rule n r f → Alike rule r f
  reduced-alike n r f h = record { left = whole rule r h.keeps; right = h.keepable; same = h.same }

  pub alike-reduced : (n : ℕ) (r f g : Sum) → IsKeptAs rule n r f → Alike rule f g → IsKeptAs rule n r g
  alike-reduced n r f g h a = record { series = h.series; keeps = h.keeps; keepable = a.right; same = λ k. h.same k ∙ a.same k }
