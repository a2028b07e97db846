-- Laws of binomial coefficients.
use Rattle.std.proofs.Common.{◌≡◌, ℕ, zero, suc, ◌≤◌, ◌<◌, ◌+◌, ◌-◌, ◌*◌, ◌/◌, ◌^◌, refl, arith, sym, ◌∙◌, ap, subst, true}
use Rattle.std.specs.Prelude.{nat_lt}
use Rattle.std.proofs.lemmas.Bool.Decides.{nat_tests}
use Rattle.std.proofs.Math.Nat.{mul-div_cancel_left, mul-le-mul_right}
use Rattle.scatter_text.specs.Limits.{binomial}

binomial-one : (n : ℕ) → binomial n 1 ≡ n
binomial-one zero = refl
binomial-one (suc n) = omega (arith, binomial-one n)

-- k + 1 times n + 1 over k + 1 is n + 1 times n over k
pub binomial-absorbs : (n k : ℕ) → suc k * binomial (suc n) (suc k) ≡ suc n * binomial n k
binomial-absorbs zero zero = refl
binomial-absorbs zero (suc k) = omega arith
binomial-absorbs (suc n) zero = omega (arith, binomial-one n)
binomial-absorbs (suc n) (suc k) = omega (arith, binomial-absorbs n k, binomial-absorbs n (suc k))

-- they grow with both numbers
pub binomial-grows : (n i k : ℕ) → binomial (n + i) i ≤ binomial (n + (i + k)) (i + k)
binomial-grows n i zero = let e : i + 0 ≡ i = omega arith in rw e (omega arith)
binomial-grows n i (suc k) =
    let top : n + (i + suc k) ≡ suc (n + (i + k)) = omega arith in
    let below : i + suc k ≡ suc (i + k) = omega arith in
    let more : binomial (n + (i + k)) (i + k) ≤ binomial (suc (n + (i + k))) (suc (i + k)) = omega arith in
    rw (top, below) (omega (arith, binomial-grows n i k, more))

-- one step of the product
pub binomial-next : (n i : ℕ) → binomial (n + i) i * (n + i + 1) / (i + 1) ≡ binomial (n + (i + 1)) (i + 1)
binomial-next n i =
    let next : binomial (n + (i + 1)) (i + 1) ≡ binomial (suc (n + i)) (suc i) =
    let top : n + (i + 1) ≡ suc (n + i) = omega arith in
    let below : i + 1 ≡ suc i = omega arith in
    ap (λ m. binomial m (i + 1)) top ∙ ap (binomial (suc (n + i))) below in
    let product : binomial (n + i) i * (n + i + 1) ≡ (i + 1) * binomial (n + (i + 1)) (i + 1) =
    let absorbed : binomial (n + i) i * (n + i + 1) ≡ (i + 1) * binomial (suc (n + i)) (suc i) = omega (arith, binomial-absorbs (n + i) i) in
    absorbed ∙ ap (λ b. (i + 1) * b) (sym next) in
    ap (λ m. m / (i + 1)) product ∙ mul-div_cancel_left (binomial (n + (i + 1)) (i + 1)) (omega arith)

-- the numbers on the way are small
pub binomial-step-lt : (n i count : ℕ) → n < 2 ^ 32 → i < 8 → count ≤ 131072 → count * (n + i + 1) < 2 ^ 64
binomial-step-lt n i count small few bound =
    let sum : n + i + 1 ≤ 2 ^ 33 = omega arith in
    let grown : count * (n + i + 1) ≤ 131072 * (n + i + 1) = mul-le-mul_right (n + i + 1) bound in
    omega arith

passes : (m n : ℕ) → m < n → true ≡ nat_lt m n
passes m n h = grind (arith, nat_tests)

-- one above a limit is enough
pub binomial-large : (n i vars limit count : ℕ) → i < vars → count ≡ binomial (n + (i + 1)) (i + 1) → limit < count → true ≡ nat_lt limit (binomial (n + vars) vars)
binomial-large n i vars limit count l e h =
    let k : ℕ = vars - (i + 1) in
    let s : i + 1 + k ≡ vars = omega (arith, l) in
    let g : binomial (n + (i + 1)) (i + 1) ≤ binomial (n + vars) vars = subst (λ (m : ℕ). binomial (n + (i + 1)) (i + 1) ≤ binomial (n + m) m) s (binomial-grows n (i + 1) k) in
    passes limit (binomial (n + vars) vars) (omega (arith, e, g, h))
