-- The greatest common divisor of the specifications is one, and tells coprime numbers.
use Rattle.std.proofs.Common.{◌≡◌, ℕ, zero, suc, ◌≤◌, ◌<◌, ◌%◌, ◌==◌, Bool, true, false, refl, arith, subst}
use Rattle.std.proofs.Math.Nat.{mod-lt, eq-zero_of_zero-dvd}
use Rattle.std.specs.Int.{◌∣◌, IsGcd}
use Rattle.std.specs.Prelude.{◌↔◌, IsTrue}
use Rattle.std.proofs.lemmas.Nat.Gcd.{IsGcd-from_zero, IsGcd-from_mod, same_from_IsGcd}
use Rattle.std.proofs.lemmas.Bool.Decides.{Decides-eqb}
use Rattle.scatter_text.specs.Limits.{gcd, gcd_within}
use Rattle.scatter_text.specs.Values.{AreCoprime}

pub gcd_within-is : (steps a b : ℕ) → b ≤ steps → IsGcd a b (gcd_within steps a b)
gcd_within-is zero a b h = IsGcd-from_zero a b (omega arith)
gcd_within-is (suc steps) a b h = go (b == 0) refl (λ positive. gcd_within-is steps b (a % b) (omega (arith, mod-lt a positive)))
  where
    go : (t : Bool) → (b == 0) ≡ t → (0 < b → IsGcd b (a % b) (gcd_within steps b (a % b))) → IsGcd a b (elim t [ true ↦ a | false ↦ gcd_within steps b (a % b) ])
    go true e more = IsGcd-from_zero a b (grind arith)
    go false e more = IsGcd-from_mod a b (gcd_within steps b (a % b)) (more (grind arith))

pub gcd-is : (a b : ℕ) → IsGcd a b (gcd a b)
unfolding gcd
gcd-is a b = gcd_within-is b a b (omega arith)

pub gcd-positive : (a b : ℕ) → 0 < a → 0 < gcd a b
gcd-positive a b positive = at (gcd a b) (gcd-is a b).0
  where
    at : (g : ℕ) → g ∣ a → 0 < g
    at zero h = let none : a ≡ 0 = eq-zero_of_zero-dvd h in absurd (omega arith)
    at (suc g) h = omega arith

-- numbers are coprime where their greatest common divisor is 1
pub coprime-decided : (a b p q g : ℕ) → p ≡ a → q ≡ b → IsGcd p q g → IsTrue (g == 1) ↔ AreCoprime a b
coprime-decided a b p q g e f h =
    let there : IsGcd a b g = subst (λ (n : ℕ). IsGcd n b g) e (subst (λ (n : ℕ). IsGcd p n g) f h) in
    let decides = Decides-eqb g 1 in
    (λ one. subst (IsGcd a b) (decides.0 one) there, λ coprime. decides.1 (same_from_IsGcd a b g 1 there coprime))
