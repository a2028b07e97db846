-- Common divisors of products.
use Rattle.std.proofs.Common.{◌≡◌, ℕ, zero, suc, refl, sym, ap, subst, ◌∙◌, ◌+◌, ◌*◌, ◌/◌, ◌%◌, ◌≤◌, ◌<◌, arith}
use Rattle.std.specs.Int.{◌∣◌, IsGcd}
use Rattle.std.proofs.Math.Nat.{one-dvd, dvd-mul_left, dvd_of_mul-dvd-mul_left, mul-dvd-mul_left, mul-le-mul_left}
use Rattle.std.proofs.lemmas.Nat.{mod-mul-add}
use Rattle.std.proofs.lemmas.Nat.Gcd.{dvd_trans, dvd-zero, IsGcd-from_zero, IsGcd-from_mod, IsGcd-swap, same_from_IsGcd}

-- the greatest common divisor of two numbers, and that of k times each
record Scaled (a b k : ℕ) : Type 0 where
  g : ℕ
  gcd : IsGcd a b g
  scaled : IsGcd (k * a) (k * b) (k * g)

multiplied : (k q s r : ℕ) → k * (q * s + r) ≡ q * (k * s) + k * r
multiplied k q s r = omega arith

below : (k r s : ℕ) → 1 ≤ k → r < s → k * r < k * s
below k r s l h = let m : k * (r + 1) ≤ k * s = mul-le-mul_left k (omega arith) in omega (arith, m, l)

scaled_mod : (k a b : ℕ) → 1 ≤ k → (k * a) % (k * suc b) ≡ k * (a % suc b)
scaled_mod k a b l =
    let split : a ≡ a / suc b * suc b + a % suc b = omega arith in
    let rest : a % suc b < suc b = omega arith in
    ap (λ n. (k * n) % (k * suc b)) split
    ∙ ap (λ n. n % (k * suc b)) (multiplied k (a / suc b) (suc b) (a % suc b))
    ∙ mod-mul-add (a / suc b) (k * suc b) (k * (a % suc b)) (below k (a % suc b) (suc b) l rest)

with_fuel : (fuel a b k : ℕ) → 1 ≤ k → b ≤ fuel → Scaled a b k
with_fuel fuel a zero k l le = record { g = a; gcd = IsGcd-from_zero a 0 refl; scaled = IsGcd-from_zero (k * a) (k * 0) (omega arith) }
with_fuel zero a (suc b) k l le = absurd (omega (arith, le))
with_fuel (suc fuel) a (suc b) k l le =
    let h : Scaled (suc b) (a % suc b) k = with_fuel fuel (suc b) (a % suc b) k l (omega arith) in
    record {
      g = h.g;
      gcd = IsGcd-from_mod a (suc b) h.g h.gcd;
      scaled = IsGcd-from_mod (k * a) (k * suc b) (k * h.g) (subst (λ (n : ℕ). IsGcd (k * suc b) n (k * h.g)) (sym (scaled_mod k a b l)) h.scaled);
    }

pub IsGcd-scale : (a b g k : ℕ) → 1 ≤ k → IsGcd a b g → IsGcd (k * a) (k * b) (k * g)
IsGcd-scale a b g k l h =
    let s = with_fuel b a b k l (omega arith) in
    subst (λ (n : ℕ). IsGcd (k * a) (k * b) (k * n)) (same_from_IsGcd a b s.g g s.gcd h) s.scaled

times-one : (n : ℕ) → n * 1 ≡ n
times-one n = omega arith

swapped : (a b : ℕ) → a * b ≡ b * a
swapped a b = omega arith

-- what divides a product and has nothing in common with one factor divides the other
pub dvd_other_factor : (d a b : ℕ) → IsGcd d a 1 → d ∣ a * b → d ∣ b
dvd_other_factor d a zero h k = dvd-zero d
dvd_other_factor d a (suc b) h k =
    let s = IsGcd-scale d a 1 (suc b) (omega arith) h in
    subst (λ (n : ℕ). d ∣ n) (times-one (suc b)) (s.2 d (dvd-mul_left d (suc b)) (subst (λ (n : ℕ). d ∣ n) (swapped a (suc b)) k))

pub coprime-swap : (a b : ℕ) → IsGcd a b 1 → IsGcd b a 1
coprime-swap a b h = IsGcd-swap a b 1 h

-- divisors of two numbers with nothing in common have nothing in common
pub coprime-divisors : (a b a' b' : ℕ) → a' ∣ a → b' ∣ b → IsGcd a b 1 → IsGcd a' b' 1
coprime-divisors a b a' b' da db h = (one-dvd a', one-dvd b', λ e ea eb. h.2 e (dvd_trans e ea da) (dvd_trans e eb db))

pub coprime-mul : (a b x : ℕ) → IsGcd a x 1 → IsGcd b x 1 → IsGcd (a * b) x 1
coprime-mul a b x h k = (
  one-dvd (a * b),
  one-dvd x,
  λ d da dx. k.2 d (dvd_other_factor d a b (one-dvd d, one-dvd a, λ e ed ea. h.2 e ea (dvd_trans e ed dx)) da) dx,
)

-- the quotients by the greatest common divisor have none but 1
pub coprime-quotients : (a b g p q : ℕ) → 1 ≤ g → IsGcd a b g → a ≡ g * p → b ≡ g * q → IsGcd p q 1
coprime-quotients a b g p q l h e f = (
  one-dvd p,
  one-dvd q,
  λ d dp dq.
      let k = h.2 (g * d) (subst (λ (n : ℕ). (g * d) ∣ n) (sym e) (mul-dvd-mul_left d g dp)) (subst (λ (n : ℕ). (g * d) ∣ n) (sym f) (mul-dvd-mul_left d g dq)) in
      dvd_of_mul-dvd-mul_left {k = g} d l (subst (λ (n : ℕ). (g * d) ∣ n) (sym (times-one g)) k),
)
