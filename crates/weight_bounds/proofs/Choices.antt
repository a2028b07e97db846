-- Multiset coefficients: how they grow, and each from the one before it.
use Rattle.std.proofs.Common.{◌≡◌, ℕ, zero, suc, refl, subst, ◌+◌, ◌-◌, ◌*◌, ◌≤◌, arith}
use Rattle.degree_theory.specs.Parts.{multichoose}

pub choice-zero : (n : ℕ) → multichoose n 0 ≡ 1
choice-zero zero = refl
choice-zero (suc n) = refl

choice-step : (n r : ℕ) → multichoose n r ≤ multichoose (suc n) r
choice-step n zero = let a = choice-zero n in omega (arith, a)
choice-step n (suc r) = omega arith

pub choice-grows : (n m r : ℕ) → n ≤ m → multichoose n r ≤ multichoose m r
choice-grows n m r l = go (m - n) m (omega (arith, l))
  where
    go : (d m : ℕ) → m ≡ n + d → multichoose n r ≤ multichoose m r
    go zero m e = let e' : m ≡ n = omega (arith, e) in rw e' (omega arith)
    go (suc d) m e = let e' : m ≡ suc (n + d) = omega (arith, e) in let a = go d (n + d) refl in let b = choice-step (n + d) r in rw e' (omega (arith, a, b))

pub choice-next : (n r : ℕ) → suc r * multichoose n (suc r) ≡ (n + r) * multichoose n r
choice-next zero zero = omega arith
choice-next zero (suc r) = omega arith
choice-next (suc n) zero = let a = choice-next n zero in let z = choice-zero n in omega (arith, a, z)
choice-next (suc n) (suc r) =
    let a = choice-next n (suc r) in
    let b = choice-next (suc n) r in
    step n r (multichoose n (suc r)) (multichoose n (suc (suc r))) (multichoose (suc n) r) (multichoose (suc n) (suc r)) refl a b
  where
    step : (n r p q s t : ℕ) → t ≡ p + s → suc (suc r) * q ≡ (n + suc r) * p → suc r * t ≡ (suc n + r) * s → suc (suc r) * (q + t) ≡ (suc n + suc r) * t
    step n r p q s t e a b =
        let c : (n + suc r) * t ≡ (n + suc r) * p + (n + suc r) * s = rw e (omega arith) in
        omega (arith, a, b, c)

-- the same, as code counts
pub choice-after : (n r : ℕ) → suc r * multichoose n (r + 1) ≡ (n + r) * multichoose n r
choice-after n r = let e : suc r ≡ r + 1 = omega arith in subst (λ (i : ℕ). suc r * multichoose n i ≡ (n + r) * multichoose n r) e (choice-next n r)
