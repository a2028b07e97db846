-- Powers modulo a lower degree: they are what is left of those modulo a higher one.
use Rattle.std.proofs.Common.{◌≡◌, ℕ, zero, suc, ◌<◌, ◌≤◌, refl, sym, ap, ◌∙◌, Bool, true, false, [], ◌∷◌, arith}
use Rattle.std.specs.Prelude.{◌+ℤ◌, nat_le}
use Rattle.std.proofs.Math.Decide.{dec_le}
use Rattle.scattering.specs.Collections.{Every}
use Rattle.scattering.specs.Series.{Key, Term, Sum, Same, SameTo, degree, key_eq, coef, cut, mul, pow}
use Rattle.scattering.proofs.Keys.{key_eq-same}
use Rattle.scattering.proofs.Pairing.{coef-append}
use Rattle.scattering.proofs.Coefficients.{coef-cut, coef-above}
use Rattle.trunc_series.proofs.Rows.{row_sum}
use Rattle.trunc_series.proofs.Congruence.{mul-comm}
use Rattle.trunc_series.proofs.PowerLaws.{mul-same_to}

-- ---- coefficients of low and of high degree

-- a key of another degree is another key
other-degree : (n : ℕ) (t : Term) (x : Key) → degree x ≤ n → nat_le (degree t.0) n ≡ false → key_eq t.0 x ≡ false
other-degree n t x l h = go (key_eq t.0 x) refl
  where
    above : (d : ℕ) → nat_le d n ≡ false → n < d
    above d e = grind arith

    go : (b : Bool) → key_eq t.0 x ≡ b → b ≡ false
    go false e = refl
    go true e = let d : degree t.0 ≡ degree x = ap degree (key_eq-same t.0 x e) in let a = above (degree t.0) h in absurd (omega (arith, d, a, l))

-- by degree: up to n, or above it, where both sums have no terms
pub by-degree : (n : ℕ) (f g : Sum) → Every (λ t. degree t.0 ≤ n) f → Every (λ t. degree t.0 ≤ n) g → SameTo n f g → Same f g
by-degree n f g hf hg s x = elim (dec_le (degree x) n) [
  | yes l ↦ s x l
  | no l ↦ let a : n < degree x = omega (arith, l) in coef-above n f x hf a ∙ sym (coef-above n g x hg a)
]

-- ---- products

mul-cut : (e k : ℕ) (f g : Sum) → e ≤ k → SameTo e (mul k f g) (mul e f g)
mul-cut e k [] g h x l = refl
mul-cut e k (t ∷ f) g h x l =
    coef-append (cut k (row_sum t g)) (mul k f g) x
    ∙ ap (λ c. c +ℤ coef (mul k f g) x) (coef-cut k (row_sum t g) x (omega (arith, h, l)) ∙ sym (coef-cut e (row_sum t g) x l))
    ∙ ap (λ c. coef (cut e (row_sum t g)) x +ℤ c) (mul-cut e k f g h x l)
    ∙ sym (coef-append (cut e (row_sum t g)) (mul e f g) x)

pub mul-to : (e k : ℕ) (f f' g g' : Sum) → e ≤ k → SameTo e f f' → SameTo e g g' → SameTo e (mul k f g) (mul e f' g')
mul-to e k f f' g g' h s t x l =
    mul-cut e k f g h x l ∙ mul-same_to e f f' g s x ∙ mul-comm e f' g x ∙ mul-same_to e g g' f' t x ∙ mul-comm e g' f' x

-- ---- powers

pub pow-to : (e k : ℕ) (f f' : Sum) → e ≤ k → SameTo e f f' → (i : ℕ) → SameTo e (pow k f i) (pow e f' i)
pow-to e k f f' h s zero x l = refl
pow-to e k f f' h s (suc i) x l = mul-to e k f f' (pow k f i) (pow e f' i) h s (pow-to e k f f' h s i) x l
