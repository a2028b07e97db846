-- The order of quotients by their whole parts and rests.
use Rattle.std.proofs.Common.{◌≡◌, ℕ, zero, suc, sym, ap, ◌∙◌, ◌+◌, ◌*◌, ◌/◌, ◌%◌, ◌≤◌, ◌<◌, ◌⊎◌, inl, inr, arith}
use Rattle.std.specs.Ordering.{nat_cmp}
use Rattle.std.proofs.Math.Nat.{mul-le-mul_left, mul-le-mul_right}

pub cmp-less : (x y x' y' : ℕ) → x < y → x' < y' → nat_cmp x y ≡ nat_cmp x' y'
cmp-less x y x' y' h k = grind arith

pub cmp-greater : (x y x' y' : ℕ) → y < x → y' < x' → nat_cmp x y ≡ nat_cmp x' y'
cmp-greater x y x' y' h k = grind arith

pub cmp-shift : (k x y : ℕ) → nat_cmp (k + x) (k + y) ≡ nat_cmp x y
cmp-shift k x y = grind arith

-- where the whole parts are one, the rests decide
pub cmp-rests : (a b c d : ℕ) → a / b ≡ c / d → nat_cmp (a * d) (c * b) ≡ nat_cmp (d * (a % b)) (b * (c % d))
cmp-rests a b c d e =
    let p : a ≡ a / b * b + a % b = omega arith in
    let w : c ≡ c / d * d + c % d = omega arith in
    let q : c ≡ a / b * d + c % d = w ∙ ap (λ n. n * d + c % d) (sym e) in
    ap (λ n. nat_cmp (n * d) (c * b)) p ∙ ap (λ n. nat_cmp ((a / b * b + a % b) * d) (n * b)) q
    ∙ go (a / b) b (a % b) d (c % d)
  where
    go : (w b r d s : ℕ) → nat_cmp ((w * b + r) * d) ((w * d + s) * b) ≡ nat_cmp (d * r) (b * s)
    go w b r d s =
        let x : (w * b + r) * d ≡ w * b * d + d * r = omega arith in
        let y : (w * d + s) * b ≡ w * b * d + b * s = omega arith in
        ap (λ n. nat_cmp n ((w * d + s) * b)) x ∙ ap (nat_cmp (w * b * d + d * r)) y ∙ cmp-shift (w * b * d) (d * r) (b * s)

positive-times : (x y : ℕ) → 1 ≤ x → 1 ≤ y → 0 < x * y
positive-times x y h k = omega (arith, mul-le-mul_left x k)

-- a rest of 0 is the least
pub cmp-no_rest : (r s b d : ℕ) → 1 ≤ b → 1 ≤ d → (r ≡ 0) ⊎ ((r ≡ 0 → ⊥) × (s ≡ 0)) → nat_cmp r s ≡ nat_cmp (d * r) (b * s)
cmp-no_rest zero zero b d h k e = let x : d * 0 ≡ 0 = omega arith in let y : b * 0 ≡ 0 = omega arith in rw (x, y)
cmp-no_rest zero (suc s) b d h k e = let x : d * 0 ≡ 0 = omega arith in rw x (cmp-less 0 (suc s) 0 (b * suc s) (omega arith) (positive-times b (suc s) h (omega arith)))
cmp-no_rest (suc r) zero b d h k e = let y : b * 0 ≡ 0 = omega arith in rw y (cmp-greater (suc r) 0 (d * suc r) 0 (omega arith) (positive-times d (suc r) k (omega arith)))
cmp-no_rest (suc r) (suc s) b d h k (inl e) = absurd (omega (arith, e))
cmp-no_rest (suc r) (suc s) b d h k (inr e) = let z = e.1 in absurd (omega (arith, z))

whole-less : (a b c d : ℕ) → 1 ≤ b → 1 ≤ d → a / b < c / d → a * d < c * b
whole-less a b c d h k l =
    let rest : a % b < b = omega (arith, h) in
    let first : a ≡ a / b * b + a % b = omega arith in
    let whole : (a / b + 1) * b ≤ (c / d) * b = mul-le-mul_right b (omega (arith, l)) in
    let under : a + 1 ≤ (c / d) * b = omega (arith, rest, first, whole) in
    let scaled : (a + 1) * d ≤ (c / d) * b * d = mul-le-mul_right d under in
    let other : c / d * d ≤ c = omega (arith, k) in
    let top : (c / d * d) * b ≤ c * b = mul-le-mul_right b other in
    let same : (c / d) * b * d ≡ (c / d * d) * b = turned (c / d) b d in
    let opened : (a + 1) * d ≡ a * d + d = omega arith in
    omega (arith, scaled, top, same, opened, k)
  where
    turned : (w b d : ℕ) → w * b * d ≡ (w * d) * b
    turned w b d = omega arith

-- where the whole parts differ, they decide
pub cmp-wholes : (a b c d : ℕ) → 1 ≤ b → 1 ≤ d → (a / b ≡ c / d → ⊥) → nat_cmp (a / b) (c / d) ≡ nat_cmp (a * d) (c * b)
cmp-wholes a b c d h k n = by_order (a / b) (c / d) n (λ l. cmp-less (a / b) (c / d) (a * d) (c * b) l (whole-less a b c d h k l)) (λ l. cmp-greater (a / b) (c / d) (a * d) (c * b) l (whole-less c d a b k h l))
  where
    by_order : {P : Type 0} (x y : ℕ) → (x ≡ y → ⊥) → (x < y → P) → (y < x → P) → P
    by_order {P = P} x y n f g = go (split x y n)
      where
        split : (x y : ℕ) → (x ≡ y → ⊥) → (x < y) ⊎ (y < x)
        split x y n = grind arith

        go : (x < y) ⊎ (y < x) → P
        go (inl l) = f l
        go (inr l) = g l
