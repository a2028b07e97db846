-- Masses by degree of lists of terms: of products, powers and crossings.
use Rattle.std.proofs.Common.{◌≡◌, ℕ, zero, suc, refl, sym, subst, ap, ◌∙◌, ◌+◌, ◌-◌, ◌*◌, ◌<◌, ◌≤◌, Bool, true, false, cond, [], ◌∷◌, ◌++◌, map, arith}
use Rattle.std.specs.Prelude.{pos, ◌*ℤ◌, nat_abs, nat_le, nat_lt, ◌==◌}
use Rattle.std.proofs.Math.Nat.{mul-le-mul_left}
use Rattle.std.proofs.lemmas.Int.{unsigned_abs-mul}
use Rattle.std.proofs.lemmas.Bool.Decides.{nat_tests}
use Rattle.std.proofs.lemmas.List.{append-nil}
use Rattle.scattering.specs.Collections.{Every}
use Rattle.scattering.specs.Series.{Key, Term, Sum, unit, degree, key_mul, term_mul, cut, mul, one, pow}
use Rattle.scattering.proofs.ShiftedSums.{degree-mul}
use Rattle.weight_theory.proofs.Bounds.{substitute}
use Rattle.weight_bounds.specs.Masses.{mass_at}
use Rattle.weight_bounds.specs.Rows.{sum_below, convolved, powered}
use Rattle.weight_bounds.proofs.Totals.{sum-le, sum-plus, sum-same, sum-zero, at_place, sum-place}

pub mass-cons : (i : ℕ) (t : Term) (g : Sum) → mass_at i (t ∷ g) ≡ at_place i (degree t.0) (nat_abs t.1) + mass_at i g
mass-cons i t g = go (degree t.0 == i) refl (nat_le (degree t.0) i) refl
  where
    low : (d : ℕ) → (d == i) ≡ true → nat_le d i ≡ false → ⊥
    low d p q = grind (arith, nat_tests)

    go : (b : Bool) → (degree t.0 == i) ≡ b → (c : Bool) → nat_le (degree t.0) i ≡ c → mass_at i (t ∷ g) ≡ at_place i (degree t.0) (nat_abs t.1) + mass_at i g
    go true p true q = rw (p, q) refl
    go true p false q = absurd (low (degree t.0) p q)
    go false p c q = rw p (omega arith)

pub mass-append : (i : ℕ) (f g : Sum) → mass_at i (f ++ g) ≡ mass_at i f + mass_at i g
mass-append i [] g = omega arith
mass-append i (t ∷ f) g = let a = mass-cons i t (f ++ g) in let b = mass-cons i t f in let c = mass-append i f g in omega (arith, a, b, c)

pub mass-cut : (i n : ℕ) (g : Sum) → i ≤ n → mass_at i (cut n g) ≡ mass_at i g
mass-cut i n [] l = refl
mass-cut i n (t ∷ g) l = go (nat_le (degree t.0) n) refl (mass-cut i n g l)
  where
    high : (d c : ℕ) → nat_le d n ≡ false → at_place i d c ≡ 0
    high d c q = grind (arith, nat_tests)

    go : (b : Bool) → nat_le (degree t.0) n ≡ b → mass_at i (cut n g) ≡ mass_at i g → mass_at i (cut n (t ∷ g)) ≡ mass_at i (t ∷ g)
    go true q h = rw q (let a = mass-cons i t (cut n g) in let b = mass-cons i t g in omega (arith, a, b, h))
    go false q h = rw q (let b = mass-cons i t g in let z = high (degree t.0) (nat_abs t.1) q in omega (arith, b, z, h))

-- of t·g
abbrev pub row_mass : ℕ → Term → Sum → ℕ
row_mass i t g = cond (nat_le (degree t.0) i) (nat_abs t.1 * mass_at (i - degree t.0) g) 0

pub mass-times : (i : ℕ) (t : Term) (g : Sum) → mass_at i (map (term_mul t) g) ≡ row_mass i t g
mass-times i t [] = go (nat_le (degree t.0) i)
  where
    go : (b : Bool) → 0 ≡ cond b (nat_abs t.1 * 0) 0
    go true = omega arith
    go false = refl
mass-times i t (u ∷ g) =
    mass-cons i (term_mul t u) (map (term_mul t) g)
    ∙ ap (λ (n : ℕ). at_place i (degree (key_mul t.0 u.0)) (nat_abs (t.1 *ℤ u.1)) + n) (mass-times i t g)
    ∙ ap (λ (d : ℕ). at_place i d (nat_abs (t.1 *ℤ u.1)) + row_mass i t g) (degree-mul t.0 u.0)
    ∙ ap (λ (n : ℕ). at_place i (degree t.0 + degree u.0) n + row_mass i t g) (unsigned_abs-mul t.1 u.1)
    ∙ go (nat_le (degree t.0) i) refl (degree u.0 == i - degree t.0) refl
    ∙ ap (λ (n : ℕ). cond (nat_le (degree t.0) i) (nat_abs t.1 * n) 0) (sym (mass-cons (i - degree t.0) u g))
  where
    together : (d e : ℕ) → nat_le d i ≡ true → (e == i - d) ≡ true → (d + e == i) ≡ true
    together d e p q = grind (arith, nat_tests)

    apart : (d e : ℕ) → nat_le d i ≡ true → (e == i - d) ≡ false → (d + e == i) ≡ false
    apart d e p q = grind (arith, nat_tests)

    above : (d e : ℕ) → nat_le d i ≡ false → (d + e == i) ≡ false
    above d e p = grind (arith, nat_tests)

    go : (b : Bool) → nat_le (degree t.0) i ≡ b → (c : Bool) → (degree u.0 == i - degree t.0) ≡ c
        → at_place i (degree t.0 + degree u.0) (nat_abs t.1 * nat_abs u.1) + row_mass i t g ≡ cond (nat_le (degree t.0) i)
        (nat_abs t.1 * (at_place (i - degree t.0) (degree u.0) (nat_abs u.1) + mass_at (i - degree t.0) g)) 0
    go true p true q = rw (together (degree t.0) (degree u.0) p q, p, q) (omega arith)
    go true p false q = rw (apart (degree t.0) (degree u.0) p q, p, q) (omega arith)
    go false p c q = rw (above (degree t.0) (degree u.0) p, p) refl

pub mass-row : (i n : ℕ) (t : Term) (g : Sum) → i ≤ n → mass_at i (cut n (map (term_mul t) g)) ≡ row_mass i t g
mass-row i n t g l = mass-cut i n (map (term_mul t) g) l ∙ mass-times i t g

-- one term's share of a sum of products
row-place : (i : ℕ) (t : Term) (f : ℕ → ℕ) (m : ℕ) → (degree t.0 ≤ i → m ≤ f (i - degree t.0)) → cond (nat_le (degree t.0) i) (nat_abs t.1 * m) 0 ≤ sum_below (suc i)
    (λ l. at_place (i - l) (degree t.0) (nat_abs t.1) * f l)
row-place i t f m h = go (nat_le (degree t.0) i) refl
  where
    within : nat_le (degree t.0) i ≡ true → degree t.0 ≤ i
    within q = grind (arith, nat_tests)

    go : (b : Bool) → nat_le (degree t.0) i ≡ b → cond b (nat_abs t.1 * m) 0 ≤ sum_below (suc i) (λ l. at_place (i - l) (degree t.0) (nat_abs t.1) * f l)
    go true q = rw (sum-place i (degree t.0) (nat_abs t.1) f (within q)) (mul-le-mul_left (nat_abs t.1) (h (within q)))
    go false q = omega arith

-- each key x of g replaced by x·P x, where the masses of P x are within those that F has for the degree of x
pub mass-substitute : (k i : ℕ) (P : Key → Sum) (F : ℕ → ℕ → ℕ) (g : Sum) → i ≤ k
    → Every (λ t. degree t.0 ≤ i → mass_at (i - degree t.0) (P t.0) ≤ F (degree t.0) (i - degree t.0)) g
    → mass_at i (substitute k P g) ≤ sum_below (suc i) (λ l. mass_at (i - l) g * F (i - l) l)
mass-substitute k i P F [] l h = omega arith
mass-substitute k i P F (t ∷ g) l h =
    let a : mass_at i (substitute k P (t ∷ g)) ≡ mass_at i (mul k (t ∷ []) (P t.0)) + mass_at i (substitute k P g) = mass-append i (mul k (t ∷ []) (P t.0)) (substitute k P g) in
    let b : mass_at i (mul k (t ∷ []) (P t.0)) ≡ row_mass i t (P t.0) = ap (mass_at i) (append-nil (cut k (map (term_mul t) (P t.0)))) ∙ mass-row i k t (P t.0) l in
    let c : row_mass i t (P t.0) ≤ sum_below (suc i) (λ l. at_place (i - l) (degree t.0) (nat_abs t.1) * F (i - l) l) =
    row-place i t (λ l. F (i - l) l) (mass_at (i - degree t.0) (P t.0)) (λ d. subst (λ (n : ℕ). mass_at (i - degree t.0) (P t.0) ≤ F n (i - degree t.0)) (back (degree t.0) d) (h.0 d)) in
    let r = mass-substitute k i P F g l h.1 in
    let s : sum_below (suc i) (λ l. mass_at (i - l) (t ∷ g) * F (i - l) l) ≡ sum_below (suc i) (λ l. at_place (i - l) (degree t.0) (nat_abs t.1) * F (i - l) l) + sum_below (suc i) (λ l. mass_at (i - l) g * F (i - l) l) =
    sum-same (suc i) _ _ (λ l q. ap (λ (n : ℕ). n * F (i - l) l) (mass-cons (i - l) t g) ∙ both (at_place (i - l) (degree t.0) (nat_abs t.1)) (mass_at (i - l) g) (F (i - l) l))
    ∙ sum-plus (suc i) (λ l. at_place (i - l) (degree t.0) (nat_abs t.1) * F (i - l) l) (λ l. mass_at (i - l) g * F (i - l) l) in
    omega (arith, a, b, c, r, s)
  where
    back : (d : ℕ) → d ≤ i → d ≡ i - (i - d)
    back d q = omega (arith, q)

    both : (a b c : ℕ) → (a + b) * c ≡ a * c + b * c
    both a b c = omega arith

-- of a product
pub mass-product : (k i : ℕ) (f g : Sum) → i ≤ k → mass_at i (mul k f g) ≤ convolved (λ j. mass_at j f) (λ j. mass_at j g) i
mass-product k i f g l = subst (λ (s : Sum). mass_at i s ≤ convolved (λ j. mass_at j f) (λ j. mass_at j g) i) (sym (rows f)) (mass-substitute k i (λ x. g) (λ d j. mass_at j g) f l (each f))
  where
    rows : (f : Sum) → mul k f g ≡ substitute k (λ x. g) f
    rows [] = refl
    rows (t ∷ f) = ap (λ (s : Sum). cut k (map (term_mul t) g) ++ s) (rows f) ∙ ap (λ (s : Sum). s ++ substitute k (λ x. g) f) (sym (append-nil (cut k (map (term_mul t) g))))

    each : (f : Sum) → Every (λ t. degree t.0 ≤ i → mass_at (i - degree t.0) g ≤ mass_at (i - degree t.0) g) f
    each [] = tt
    each (t ∷ f) = (λ d. omega arith, each f)

-- ---- powers

pub convolved-le : (v v' w w' : ℕ → ℕ) (i : ℕ) → ((j : ℕ) → j ≤ i → v j ≤ v' j) → ((j : ℕ) → j ≤ i → w j ≤ w' j) → convolved v w i ≤ convolved v' w' i
convolved-le v v' w w' i h h' = sum-le (suc i) _ _ (λ j l. mul-le (v (i - j)) (v' (i - j)) (w j) (w' j) (h (i - j) (omega arith)) (h' j (omega (arith, l))))
  where
    mul-le : (a b c d : ℕ) → a ≤ b → c ≤ d → a * c ≤ b * d
    mul-le a b c d p q = let x : a * c ≤ a * d = mul-le-mul_left a q in let y : d * a ≤ d * b = mul-le-mul_left d p in omega (arith, x, y)

pub mass-one : (i : ℕ) → mass_at (suc i) one ≡ 0
mass-one i = mass-cons (suc i) (unit, pos 1) [] ∙ (let z : (0 == suc i) ≡ false = off i in rw z refl)
  where
    off : (i : ℕ) → (0 == suc i) ≡ false
    off i = grind (arith, nat_tests)

pub mass-pow : (k r i : ℕ) (u : Sum) → i ≤ k → mass_at i (pow k u r) ≤ powered (λ j. mass_at j u) r i
mass-pow k zero zero u l = omega arith
mass-pow k zero (suc i) u l = let z = mass-one i in omega (arith, z)
mass-pow k (suc r) i u l =
    let a = mass-product k i u (pow k u r) l in
    let b = convolved-le (λ j. mass_at j u) (λ j. mass_at j u) (λ j. mass_at j (pow k u r)) (powered (λ j. mass_at j u) r) i (λ j q. omega arith) (λ j q. mass-pow k r j u (omega (arith, q, l))) in
    omega (arith, a, b)

-- the r-th power of what has nothing below l has nothing below r·l
pub powered-low : (v : ℕ → ℕ) (l r i : ℕ) → ((j : ℕ) → j < l → v j ≡ 0) → i < r * l → powered v r i ≡ 0
powered-low v l zero i h q = absurd (omega (arith, q))
powered-low v l (suc r) i h q = sum-zero (suc i) _ (λ j p. go j (nat_lt j (r * l)) refl (omega (arith, p)) (powered-low v l r j h))
  where
    product-zero : (a b : ℕ) → a ≡ 0 → a * b ≡ 0
    product-zero a b e = rw e (omega arith)

    zero-product : (a b : ℕ) → b ≡ 0 → a * b ≡ 0
    zero-product a b e = rw e (omega arith)

    go : (j : ℕ) (b : Bool) → nat_lt j (r * l) ≡ b → j ≤ i → (j < r * l → powered v r j ≡ 0) → v (i - j) * powered v r j ≡ 0
    go j true e p x = zero-product (v (i - j)) (powered v r j) (x (grind (arith, nat_tests)))
    go j false e p x = product-zero (v (i - j)) (powered v r j) (h (i - j) (let m : r * l ≤ j = grind (arith, nat_tests) in omega (arith, m, q)))
