-- Sums of a function's values below a number.
use Rattle.std.proofs.Common.{◌≡◌, ℕ, zero, suc, refl, ap, ◌∙◌, ◌+◌, ◌-◌, ◌*◌, ◌<◌, ◌≤◌, Bool, true, false, cond, arith}
use Rattle.std.specs.Prelude.{◌==◌, nat_le}
use Rattle.std.proofs.lemmas.Bool.Decides.{nat_tests}
use Rattle.weight_bounds.specs.Rows.{sum_below}

pub sum-same : (n : ℕ) (f g : ℕ → ℕ) → ((i : ℕ) → i < n → f i ≡ g i) → sum_below n f ≡ sum_below n g
sum-same zero f g h = refl
sum-same (suc n) f g h = let a = sum-same n f g (λ i l. h i (omega (arith, l))) in let b = h n (omega arith) in omega (arith, a, b)

pub sum-le : (n : ℕ) (f g : ℕ → ℕ) → ((i : ℕ) → i < n → f i ≤ g i) → sum_below n f ≤ sum_below n g
sum-le zero f g h = omega arith
sum-le (suc n) f g h = let a = sum-le n f g (λ i l. h i (omega (arith, l))) in let b = h n (omega arith) in omega (arith, a, b)

pub sum-plus : (n : ℕ) (f g : ℕ → ℕ) → sum_below n (λ i. f i + g i) ≡ sum_below n f + sum_below n g
sum-plus zero f g = refl
sum-plus (suc n) f g = let a = sum-plus n f g in omega (arith, a)

pub sum-zero : (n : ℕ) (f : ℕ → ℕ) → ((i : ℕ) → i < n → f i ≡ 0) → sum_below n f ≡ 0
sum-zero zero f h = refl
sum-zero (suc n) f h = let a = sum-zero n f (λ i l. h i (omega (arith, l))) in let b = h n (omega arith) in omega (arith, a, b)

-- the first value apart
pub sum-first : (n : ℕ) (f : ℕ → ℕ) → sum_below (suc n) f ≡ f 0 + sum_below n (λ i. f (suc i))
sum-first zero f = omega arith
sum-first (suc n) f = let a = sum-first n f in omega (arith, a)

pub sum-more : (n m : ℕ) (f : ℕ → ℕ) → n ≤ m → sum_below n f ≤ sum_below m f
sum-more n zero f l = let e : n ≡ 0 = omega (arith, l) in rw e (omega arith)
sum-more n (suc m) f l = go (nat_le n m) refl (sum-more n m f)
  where
    go : (b : Bool) → nat_le n m ≡ b → (n ≤ m → sum_below n f ≤ sum_below m f) → sum_below n f ≤ sum_below (suc m) f
    go true q r = let a = r (grind (arith, nat_tests)) in omega (arith, a)
    go false q r = let e : n ≡ suc m = grind (arith, nat_tests) in rw e (omega arith)

-- where all values from n on are 0
pub sum-rest : (n m : ℕ) (f : ℕ → ℕ) → ((i : ℕ) → n ≤ i → i < m → f i ≡ 0) → sum_below m f ≤ sum_below n f
sum-rest n zero f h = omega arith
sum-rest n (suc m) f h = go (nat_le (suc m) n) refl (sum-rest n m f (λ i p q. h i p (omega (arith, q))))
  where
    go : (b : Bool) → nat_le (suc m) n ≡ b → sum_below m f ≤ sum_below n f → sum_below (suc m) f ≤ sum_below n f
    go true q r = sum-more (suc m) n f (grind (arith, nat_tests))
    go false q r = let l : n ≤ m = grind (arith, nat_tests) in let z = h m l (omega arith) in omega (arith, z, r)

-- c·v at the one place d, and 0 elsewhere
abbrev pub at_place : ℕ → ℕ → ℕ → ℕ
at_place i d c = cond (d == i) c 0

pub sum-place : (e d c : ℕ) (f : ℕ → ℕ) → d ≤ e → sum_below (suc e) (λ l. at_place (e - l) d c * f l) ≡ c * f (e - d)
sum-place e d c f h = go (suc e) (omega arith) ∙ last
  where
    value : ℕ → ℕ
    value n = cond (nat_le (suc (e - d)) n) (c * f (e - d)) 0

    alike : (n : ℕ) (b : Bool) → nat_le (suc (e - d)) n ≡ b → (d == e - n) ≡ false → suc n ≤ suc e → nat_le (suc (e - d)) (suc n) ≡ b
    alike n true p q l = grind (arith, nat_tests)
    alike n false p q l = grind (arith, nat_tests)

    step : (n : ℕ) → suc n ≤ suc e → sum_below n (λ l. at_place (e - l) d c * f l) ≡ value n → sum_below (suc n) (λ l. at_place (e - l) d c * f l) ≡ value (suc n)
    step n l i = cases (d == e - n) refl
      where
        cases : (b : Bool) → (d == e - n) ≡ b → sum_below n (λ l. at_place (e - l) d c * f l) + cond (d == e - n) c 0 * f n ≡ value (suc n)
        cases true q =
            let k : n ≡ e - d = grind (arith, nat_tests) in
            let z : nat_le (suc (e - d)) n ≡ false = grind (arith, nat_tests) in
            let o : nat_le (suc (e - d)) (suc n) ≡ true = grind (arith, nat_tests) in
            let i' : sum_below n (λ l. at_place (e - l) d c * f l) ≡ 0 = rw z at i in
            rw (q, i', o) (rw k (omega arith))
        cases false q =
            let k : nat_le (suc (e - d)) (suc n) ≡ nat_le (suc (e - d)) n = alike n (nat_le (suc (e - d)) n) refl q l in
            rw (q, i, k) (omega arith)

    go : (n : ℕ) → n ≤ suc e → sum_below n (λ l. at_place (e - l) d c * f l) ≡ value n
    go zero l = let o : nat_le (suc (e - d)) 0 ≡ false = grind (arith, nat_tests) in rw o refl
    go (suc n) l = step n l (go n (omega (arith, l)))

    last : value (suc e) ≡ c * f (e - d)
    last = let o : nat_le (suc (e - d)) (suc e) ≡ true = grind (arith, nat_tests) in rw o refl

-- as code counts
pub sum-next : (n : ℕ) (f : ℕ → ℕ) → sum_below (n + 1) f ≡ sum_below n f + f n
sum-next n f = let e : n + 1 ≡ suc n = omega arith in ap (λ (m : ℕ). sum_below m f) e

pub sum-at : (n m : ℕ) (f : ℕ → ℕ) → n ≡ m → sum_below n f ≡ sum_below m f
sum-at n m f e = ap (λ (i : ℕ). sum_below i f) e
