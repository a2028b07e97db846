-- A sum over the least common denominator.
use Rattle.std.proofs.Common.{◌≡◌, ℕ, refl, sym, ap, subst, ◌∙◌, [], ◌∷◌, FitsSigned, arith}
use Rattle.std.specs.Prelude.{ℤ, pos, ◌+ℤ◌, ◌*ℤ◌, ◌≤ℤ◌, nat_abs, int_div}
use Rattle.std.specs.Int.{IsGcd, w128}
use Rattle.std.proofs.lemmas.Int.{ints}
use Rattle.std.proofs.lemmas.Nat.Gcd.{same_from_IsGcd}
use Rattle.sum_algebra.proofs.Ring.{var, ring}
use Rattle.sum_algebra.proofs.IntegerRing.{ints_ring, ◌:*◌, ◌:+◌}
use Rattle.sum_algebra.proofs.Integers.{positive-mul}
use Rattle.frac_128.specs.Quotient.{IsLowest, AreEqual, AreReduced, SumFitsOver}
use Rattle.frac_128.proofs.Lowest.{nonzero, above, cancel, across}
use Rattle.frac_128.proofs.Divided.{divided}

common-factor : (a b c d g : ℤ) → (a *ℤ d +ℤ c *ℤ b) *ℤ ((b *ℤ g) *ℤ (d *ℤ g)) ≡ (a *ℤ (d *ℤ g) +ℤ c *ℤ (b *ℤ g)) *ℤ ((b *ℤ g) *ℤ d)
common-factor a b c d g =
    ring ints_ring (a ∷ b ∷ c ∷ d ∷ g ∷ [])
    ((var 0 :* var 3 :+ var 2 :* var 1) :* ((var 1 :* var 4) :* (var 3 :* var 4))) ((var 0 :* (var 3 :* var 4) :+ var 2 :* (var 1 :* var 4)) :* ((var 1 :* var 4) :* var 3)) refl

-- the four numbers that the sum passes through are within 128 bits
pub record Passes (a b c b' d' : ℤ) : Type 0 where
  pub left : FitsSigned w128 (a *ℤ d')
  pub right : FitsSigned w128 (c *ℤ b')
  pub numerator : FitsSigned w128 (a *ℤ d' +ℤ c *ℤ b')
  pub denominator : FitsSigned w128 (b *ℤ d')

module _ (a b c d b' d' : ℤ) (h : IsLowest a b) (k : IsLowest c d) (r : AreReduced b d b' d') where
  pub sum-positive : pos 1 ≤ℤ (b *ℤ d')
  sum-positive = positive-mul b d' h.positive (above d d' r.g k.positive r.second)

  sum-equal : AreEqual (a *ℤ d' +ℤ c *ℤ b') (b *ℤ d') (a *ℤ d +ℤ c *ℤ b) (b *ℤ d)
  sum-equal =
      ap (λ z. (a *ℤ d' +ℤ c *ℤ b') *ℤ (z *ℤ d)) r.first ∙ ap (λ z. (a *ℤ d' +ℤ c *ℤ b') *ℤ ((b' *ℤ pos r.g) *ℤ z)) r.second
      ∙ common-factor a b' c d' (pos r.g)
      ∙ ap (λ z. (a *ℤ z +ℤ c *ℤ (b' *ℤ pos r.g)) *ℤ ((b' *ℤ pos r.g) *ℤ d')) (sym r.second) ∙ ap (λ z. (a *ℤ d +ℤ c *ℤ z) *ℤ (z *ℤ d')) (sym r.first)

  pub sum-reduced : (p q : ℤ) → AreEqual p q (a *ℤ d' +ℤ c *ℤ b') (b *ℤ d') → AreEqual p q (a *ℤ d +ℤ c *ℤ b) (b *ℤ d)
  sum-reduced p q e = across p q (a *ℤ d +ℤ c *ℤ b) (b *ℤ d) (a *ℤ d' +ℤ c *ℤ b') (b *ℤ d') sum-positive e (sym sum-equal)

  divisor : pos 1 ≤ℤ pos r.g
  divisor = let n = nonzero d d' r.g k.positive r.second in omega (arith, ints, n)

  first : int_div b (pos r.g) ≡ b'
  first = cancel (int_div b (pos r.g)) b' (pos r.g) divisor (sym (divided b r.g r.gcd.0) ∙ r.first)

  second : int_div d (pos r.g) ≡ d'
  second = cancel (int_div d (pos r.g)) d' (pos r.g) divisor (sym (divided d r.g r.gcd.1) ∙ r.second)

  pub sum-needs : ((g : ℕ) → IsGcd (nat_abs b) (nat_abs d) g → SumFitsOver a b c d g) → Passes a b c b' d'
  sum-needs f =
      let s = f r.g r.gcd in record {
        left = subst (λ (z : ℤ). FitsSigned w128 (a *ℤ z)) second s.left;
        right = subst (λ (z : ℤ). FitsSigned w128 (c *ℤ z)) first s.right;
        numerator = subst (λ (z : ℤ). FitsSigned w128 (a *ℤ d' +ℤ c *ℤ z)) first (subst (λ (z : ℤ). FitsSigned w128 (a *ℤ z +ℤ c *ℤ int_div b (pos r.g))) second s.numerator);
        denominator = subst (λ (z : ℤ). FitsSigned w128 (b *ℤ z)) second s.denominator;
      }

  pub sum-suffices : Passes a b c b' d' → (g : ℕ) → IsGcd (nat_abs b) (nat_abs d) g → SumFitsOver a b c d g
  sum-suffices p g i = subst (λ (n : ℕ). SumFitsOver a b c d n) (same_from_IsGcd (nat_abs b) (nat_abs d) r.g g r.gcd i) (record {
    left = subst (λ (z : ℤ). FitsSigned w128 (a *ℤ z)) (sym second) p.left;
    right = subst (λ (z : ℤ). FitsSigned w128 (c *ℤ z)) (sym first) p.right;
    numerator = subst (λ (z : ℤ). FitsSigned w128 (a *ℤ int_div d (pos r.g) +ℤ c *ℤ z)) (sym first) (subst (λ (z : ℤ). FitsSigned w128 (a *ℤ z +ℤ c *ℤ b')) (sym second) p.numerator);
    denominator = subst (λ (z : ℤ). FitsSigned w128 (b *ℤ z)) (sym second) p.denominator;
  })
