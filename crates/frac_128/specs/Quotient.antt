-- Quotients of two whole numbers, exactly.
use Rattle.std.specs.Prelude.{◌≡◌, ℕ, ℤ, pos, ◌+ℤ◌, ◌*ℤ◌, ◌≤ℤ◌, nat_abs, int_div, FitsSigned}
use Rattle.std.specs.Int.{IsGcd, w128}

-- num/den is in lowest terms, its sign at num
pub record IsLowest (num den : ℤ) : Type 0 where
  pub positive : pos 1 ≤ℤ den
  pub coprime : IsGcd (nat_abs num) (nat_abs den) 1

-- a/b = c/d, for b and d other than 0
abbrev pub AreEqual : ℤ → ℤ → ℤ → ℤ → Type 0
AreEqual a b c d = a *ℤ d ≡ c *ℤ b

-- num/den = a/b + c/d
abbrev pub IsFractionSum : ℤ → ℤ → ℤ → ℤ → ℤ → ℤ → Type 0
IsFractionSum a b c d num den = AreEqual num den (a *ℤ d +ℤ c *ℤ b) (b *ℤ d)

-- num/den = a/b · c/d
abbrev pub IsFractionProduct : ℤ → ℤ → ℤ → ℤ → ℤ → ℤ → Type 0
IsFractionProduct a b c d num den = AreEqual num den (a *ℤ c) (b *ℤ d)

-- the numbers of a/b + c/d over the common denominator b·(d/g) are within 128 bits, for a common divisor g of b and d
pub record SumFitsOver (a b c d : ℤ) (g : ℕ) : Type 0 where
  pub left : FitsSigned w128 (a *ℤ int_div d (pos g))
  pub right : FitsSigned w128 (c *ℤ int_div b (pos g))
  pub numerator : FitsSigned w128 (a *ℤ int_div d (pos g) +ℤ c *ℤ int_div b (pos g))
  pub denominator : FitsSigned w128 (b *ℤ int_div d (pos g))

-- the same over the least common denominator
abbrev pub SumFits : ℤ → ℤ → ℤ → ℤ → Type 0
SumFits a b c d = (g : ℕ) → IsGcd (nat_abs b) (nat_abs d) g → SumFitsOver a b c d g

-- both numbers of a/b in lowest terms are within 128 bits
abbrev pub LowestFits : ℤ → ℤ → Type 0
LowestFits a b = (num den : ℤ) → IsLowest num den → AreEqual num den a b → FitsSigned w128 num × FitsSigned w128 den

-- p and q are a and b, each divided by their greatest common divisor g
pub record AreReduced (a b p q : ℤ) : Type 0 where
  pub g : ℕ
  pub gcd : IsGcd (nat_abs a) (nat_abs b) g
  pub first : a ≡ p *ℤ pos g
  pub second : b ≡ q *ℤ pos g
