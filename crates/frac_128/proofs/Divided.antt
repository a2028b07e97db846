-- Whole numbers divided by a common divisor, as the code's `/` does it.
use Rattle.std.proofs.Common.{◌≡◌, ℕ, zero, suc, sym, ap, subst, ◌∙◌, ◌≤◌, ◌<◌, ◌^◌, arith, to_z, of_z, FitsSigned}
use Rattle.std.specs.Prelude.{ℤ, pos, negsuc, neg_ℤ, ◌*ℤ◌, ◌≤ℤ◌, nat_abs, int_div, int_rem}
use Rattle.std.specs.Int.{w128, ◌∣◌, IsGcd}
use Rattle.std.proofs.Math.Nat.{eq-zero_of_zero-dvd}
use Rattle.std.proofs.lemmas.Int.{ints, to_z-of_z, to_z_pos, quot-rem, quot_fits}
use Rattle.std.proofs.lemmas.Nat.Gcd.{le_of_dvd, mod-eq-zero_of_dvd}
use Rattle.frac_128.specs.Quotient.{AreReduced}

-- the least number above 0 that is divided has its divisors below it
pub divisor-range : (b : ℤ) (g : ℕ) → pos 1 ≤ℤ b → FitsSigned w128 b → g ∣ nat_abs b → (1 ≤ g) × (g < 2 ^ 127)
divisor-range b g h f d = (above g d, let k = le_of_dvd {m = g} {n = nat_abs b} (omega (arith, ints, h)) d in let s = f.sfits in omega (arith, ints, k, h, s))
  where
    above : (g : ℕ) → g ∣ nat_abs b → 1 ≤ g
    above zero d = let z = eq-zero_of_zero-dvd d in absurd (omega (arith, ints, h, z))
    above (suc g) d = omega arith

pub no-rest : (a : ℤ) (g : ℕ) → g ∣ nat_abs a → int_rem a (pos g) ≡ pos 0
no-rest (pos a) g d = ap pos (mod-eq-zero_of_dvd g d)
no-rest (negsuc a) g d = ap (λ n. neg_ℤ (pos n)) (mod-eq-zero_of_dvd g d)

pub divided : (a : ℤ) (g : ℕ) → g ∣ nat_abs a → a ≡ int_div a (pos g) *ℤ pos g
divided a g d = let e = quot-rem a (pos g) in let z = no-rest a g d in omega (arith, ints, e, z)

-- the quotients that the code computes
pub small-quotient : (a : ℤ) (g : ℕ) → FitsSigned w128 a → 1 ≤ g → FitsSigned w128 (int_div a (pos g))
small-quotient a g f l = quot_fits w128 a (pos g) f (omega (arith, ints, l))

module _ (a b : ℤ) (u v g : ℕ) (fa : FitsSigned w128 a) (fb : FitsSigned w128 b) (h : pos 1 ≤ℤ b) (ua : u ≡ nat_abs (to_z w128 (of_z w128 a))) (vb : v ≡ nat_abs (to_z w128 (of_z w128 b))) (common : IsGcd u v g) where
  gcd : IsGcd (nat_abs a) (nat_abs b) g
  gcd = subst (λ (n : ℕ). IsGcd n (nat_abs b) g) (ua ∙ ap nat_abs (to_z-of_z w128 a fa)) (subst (λ (n : ℕ). IsGcd u n g) (vb ∙ ap nat_abs (to_z-of_z w128 b fb)) common)

  range : (1 ≤ g) × (g < 2 ^ 127)
  range = divisor-range b g h fb gcd.1

  same : to_z w128 g ≡ pos g
  same = to_z_pos w128 g range.1

  pub common-fits : FitsSigned w128 (pos g)
  common-fits = record { sfits = range.1 }

  pub common-positive : 0 < g
  common-positive = range.0

  pub quotient-fits : (x : ℤ) → FitsSigned w128 x → FitsSigned w128 (int_div (to_z w128 (of_z w128 x)) (to_z w128 g))
  quotient-fits x f = subst (λ (z : ℤ). FitsSigned w128 (int_div z (to_z w128 g))) (sym (to_z-of_z w128 x f)) (subst (λ (z : ℤ). FitsSigned w128 (int_div x z)) (sym same) (small-quotient x g f range.0))

  quotient : (x : ℤ) → FitsSigned w128 x → g ∣ nat_abs x → x ≡ to_z w128 (of_z w128 (int_div (to_z w128 (of_z w128 x)) (to_z w128 g))) *ℤ pos g
  quotient x f d =
      divided x g d ∙ ap (λ z. int_div z (pos g) *ℤ pos g) (sym (to_z-of_z w128 x f)) ∙ ap (λ z. int_div (to_z w128 (of_z w128 x)) z *ℤ pos g) (sym same)
      ∙ ap (λ z. z *ℤ pos g) (sym (to_z-of_z w128 _ (quotient-fits x f)))

  pub reduced : AreReduced a b (to_z w128 (of_z w128 (int_div (to_z w128 (of_z w128 a)) (to_z w128 g)))) (to_z w128 (of_z w128 (int_div (to_z w128 (of_z w128 b)) (to_z w128 g))))
  reduced = record { g = g; gcd = gcd; first = quotient a fa gcd.0; second = quotient b fb gcd.1 }
