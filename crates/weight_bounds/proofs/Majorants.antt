-- The masses of the powers of 1/(2 - |f|), by those of the powers of |f| - 1.
use Rattle.std.proofs.Common.{◌≡◌, ℕ, zero, suc, refl, sym, ap, ◌∙◌, ◌+◌, ◌*◌, ◌<◌, ◌≤◌, Bool, true, false, cond, [], ◌∷◌, arith}
use Rattle.std.specs.Prelude.{ℤ, pos, negsuc, ◌*ℤ◌, ◌≤ℤ◌, nat_abs, nat_le, nat_lt, ◌==◌}
use Rattle.std.proofs.Math.Nat.{mul-le-mul_left}
use Rattle.std.proofs.lemmas.Int.{ints, unsigned_abs-mul}
use Rattle.std.proofs.lemmas.Bool.Decides.{nat_tests}
use Rattle.scattering.specs.Collections.{Every}
use Rattle.scattering.specs.Series.{Sum, degree, pow, geometric, absolute, rest, mass_to, Same}
use Rattle.scattering.specs.ThetaProduct.{of_degree}
use Rattle.scattering.proofs.Lists.{Every-append, Every-filter}
use Rattle.trunc_series.proofs.Products.{mass-append}
use Rattle.weight_theory.specs.Laws.{IsNonnegative}
use Rattle.weight_theory.proofs.Bounds.{absolute-nonnegative, pow-nonnegative}
use Rattle.weight_theory.proofs.Crossings.{geometric-nonnegative}
use Rattle.weight_theory.proofs.Masses.{counts, counted-exactly}
use Rattle.degree_theory.specs.Parts.{scaled, linear_combination, multichoose}
use Rattle.degree_theory.proofs.Parts.{to_All}
use Rattle.degree_theory.proofs.PartLaws.{part-of-majorant_power}
use Rattle.weight_bounds.specs.Masses.{mass_at, mass_of_power, majorant_mass}
use Rattle.weight_bounds.specs.Rows.{sum_below, powered}
use Rattle.weight_bounds.proofs.Totals.{sum-le, sum-same, sum-plus, sum-zero, sum-first, at_place}
use Rattle.weight_bounds.proofs.Choices.{choice-zero, choice-grows}
use Rattle.weight_bounds.proofs.Masses.{mass-cons, mass-one, mass-pow, powered-low}

-- ---- linear combinations

mass-to-scaled : (l : ℕ) (c : ℤ) (f : Sum) → mass_to l (scaled c f) ≡ nat_abs c * mass_to l f
mass-to-scaled l c [] = omega arith
mass-to-scaled l c (t ∷ f) = go (nat_le (degree t.0) l) refl (mass-to-scaled l c f) (unsigned_abs-mul c t.1)
  where
    go : (b : Bool) → nat_le (degree t.0) l ≡ b → mass_to l (scaled c f) ≡ nat_abs c * mass_to l f → nat_abs (c *ℤ t.1) ≡ nat_abs c * nat_abs t.1 → mass_to l (scaled c (t ∷ f)) ≡ nat_abs c * mass_to l (t ∷ f)
    go true q h m = rw (q, m, h) (omega arith)
    go false q h m = rw (q, h) (omega arith)

mass-combination : (l : ℕ) (c : ℕ → ℤ) (us : ℕ → Sum) (n : ℕ) → mass_to l (linear_combination c us n) ≡ sum_below (suc n) (λ r. nat_abs (c r) * mass_to l (us r))
mass-combination l c us zero = let a = mass-to-scaled l (c 0) (us 0) in omega (arith, a)
mass-combination l c us (suc n) =
    let a = mass-append l (linear_combination c us n) (scaled (c (suc n)) (us (suc n))) in
    let b = mass-combination l c us n in
    let d = mass-to-scaled l (c (suc n)) (us (suc n)) in
    omega (arith, a, b, d)

scaled-nonnegative : (c : ℕ) (f : Sum) → IsNonnegative f → IsNonnegative (scaled (pos c) f)
scaled-nonnegative c [] h = tt
scaled-nonnegative c (t ∷ f) h = (times c t.1 h.0, scaled-nonnegative c f h.1)
  where
    times : (c : ℕ) (x : ℤ) → pos 0 ≤ℤ x → pos 0 ≤ℤ (pos c *ℤ x)
    times c (pos n) h = omega (arith, ints)
    times c (negsuc n) h = absurd (omega (arith, ints, h))

combination-nonnegative : (c : ℕ → ℕ) (us : ℕ → Sum) (n : ℕ) → ((r : ℕ) → IsNonnegative (us r)) → IsNonnegative (linear_combination (λ r. pos (c r)) us n)
combination-nonnegative c us zero h = scaled-nonnegative (c 0) (us 0) (h 0)
combination-nonnegative c us (suc n) h = Every-append (λ t. pos 0 ≤ℤ t.1) (linear_combination (λ r. pos (c r)) us n) (scaled (pos (c (suc n))) (us (suc n))) (combination-nonnegative c us n h)
    (scaled-nonnegative (c (suc n)) (us (suc n)) (h (suc n)))

part-nonnegative : (l : ℕ) (f : Sum) → IsNonnegative f → IsNonnegative (of_degree l f)
part-nonnegative l f h = Every-filter (λ t. pos 0 ≤ℤ t.1) (λ t. degree t.0 == l) f h

same-mass : (l : ℕ) (f g : Sum) → IsNonnegative f → IsNonnegative g → Same f g → mass_to l f ≡ mass_to l g
same-mass l f g p q h = whole (mass_to l f) (mass_to l g) (sym (counted-exactly l f p) ∙ to_All f g h (counts l) ∙ counted-exactly l g q)
  where
    whole : (a b : ℕ) → pos a ≡ pos b → a ≡ b
    whole a b e = omega (arith, ints, e)

-- ---- powers of 1/(2 - |f|)

abbrev pub share : Sum → ℕ → ℕ → ℕ → ℕ
share f n l r = multichoose n r * mass_of_power f r l

pub majorant-mass-is : (k l n : ℕ) (f : Sum) → l ≤ k → Every (λ t. 1 ≤ degree t.0) (rest f) → mass_at l (pow k (geometric k f) n) ≡ sum_below (suc l) (share f n l)
majorant-mass-is k l n f le low =
    same-mass l (of_degree l (pow k (geometric k f) n)) (linear_combination (λ r. pos (multichoose n r)) us l)
    (part-nonnegative l _ (pow-nonnegative k (geometric k f) n (geometric-nonnegative k f)))
    (combination-nonnegative (multichoose n) us l (λ r. part-nonnegative l _ (pow-nonnegative l (absolute (rest f)) r (absolute-nonnegative l (rest f)))))
    (part-of-majorant_power k l f n us le low (λ r q x. refl))
    ∙ mass-combination l (λ r. pos (multichoose n r)) us l
  where
    us : ℕ → Sum
    us r = of_degree l (pow l (absolute (rest f)) r)

-- they grow with the exponent
pub majorant-mass-grows : (k l n m : ℕ) (f : Sum) → l ≤ k → Every (λ t. 1 ≤ degree t.0) (rest f) → n ≤ m → mass_at l (pow k (geometric k f) n) ≤ majorant_mass f m l
majorant-mass-grows k l n m f le low q =
    let a = majorant-mass-is k l n f le low in
    let b = majorant-mass-is l l m f (omega arith) low in
    let c = sum-le (suc l) (share f n l) (share f m l) (λ r p. times (mass_of_power f r l) (multichoose n r) (multichoose m r) (choice-grows n m r q)) in
    omega (arith, a, b, c)
  where
    times : (c x y : ℕ) → x ≤ y → x * c ≤ y * c
    times c x y l = let h : c * x ≤ c * y = mul-le-mul_left c l in omega (arith, h)

-- 1, at degree 0
pub majorant-mass-one : (n : ℕ) (f : Sum) → Every (λ t. 1 ≤ degree t.0) (rest f) → majorant_mass f n 0 ≡ 1
majorant-mass-one n f low = let a = majorant-mass-is 0 0 n f (omega arith) low in let z = choice-zero n in a ∙ rw z refl

-- at higher degrees the powers of |f| - 1 from the first on
pub majorant-mass-after : (n l : ℕ) (f : Sum) → 1 ≤ l → Every (λ t. 1 ≤ degree t.0) (rest f) → majorant_mass f n l ≡ sum_below l (λ r. share f n l (suc r))
majorant-mass-after n l f p low =
    let a = majorant-mass-is l l n f (omega arith) low in
    let b = sum-first l (share f n l) in
    let z : share f n l 0 ≡ 0 = none l p in
    omega (arith, a, b, z)
  where
    none : (l : ℕ) → 1 ≤ l → multichoose n 0 * mass_of_power f 0 l ≡ 0
    none zero p = absurd (omega (arith, p))
    none (suc i) p = let z : mass_of_power f 0 (suc i) ≡ 0 = mass-one i in rw z (omega arith)

-- ---- where f - 1 has no term of degree below l

mass-low : (l i : ℕ) (u : Sum) → Every (λ t. l ≤ degree t.0) u → i < l → mass_at i (absolute u) ≡ 0
mass-low l i [] h q = refl
mass-low l i (t ∷ u) h q =
    let a = mass-cons i (t.0, pos (nat_abs t.1)) (absolute u) in
    let r = mass-low l i u h.1 q in
    let o : (degree t.0 == i) ≡ false = off (degree t.0) h.0 in
    a ∙ rw (o, r) refl
  where
    off : (d : ℕ) → l ≤ d → (d == i) ≡ false
    off d p = grind (arith, nat_tests)

pub absolute-low : (l : ℕ) (f : Sum) → Every (λ t. l ≤ degree t.0) (rest f) → (i : ℕ) → i < l → mass_at i (absolute (rest f)) ≡ 0
absolute-low l f h i q = mass-low l i (rest f) h q

pub power-mass-within : (f : Sum) (r i : ℕ) → mass_of_power f r i ≤ powered (λ j. mass_at j (absolute (rest f))) r i
power-mass-within f r i = mass-pow i r i (absolute (rest f)) (omega arith)

pub power-mass-low : (l r i : ℕ) (f : Sum) → Every (λ t. l ≤ degree t.0) (rest f) → i < r * l → mass_of_power f r i ≡ 0
power-mass-low l r i f h q =
    let a = power-mass-within f r i in
    let z = powered-low (λ j. mass_at j (absolute (rest f))) l r i (absolute-low l f h) q in
    omega (arith, a, z)

pub majorant-mass-low : (l n i : ℕ) (f : Sum) → Every (λ t. l ≤ degree t.0) (rest f) → 1 ≤ l → 1 ≤ i → i < l → majorant_mass f n i ≡ 0
majorant-mass-low l n i f h p q s =
    majorant-mass-after n i f q (positive (rest f) h)
    ∙ sum-zero i _ (λ r b. let z = power-mass-low l (suc r) i f h (more r) in rw z (omega arith))
  where
    positive : (u : Sum) → Every (λ t. l ≤ degree t.0) u → Every (λ t. 1 ≤ degree t.0) u
    positive [] h = tt
    positive (t ∷ u) h = (let x = h.0 in omega (arith, x, p), positive u h.1)

    more : (r : ℕ) → i < suc r * l
    more r = omega (arith, s)

-- ---- all degrees

pub mass-by-degree : (k : ℕ) (g : Sum) → mass_to k g ≡ sum_below (suc k) (λ i. mass_at i g)
mass-by-degree k [] = sym (sum-zero (suc k) (λ i. 0) (λ i l. refl))
mass-by-degree k (t ∷ g) =
    let s = sum-same (suc k) (λ i. mass_at i (t ∷ g)) (λ i. at_place i (degree t.0) (nat_abs t.1) + mass_at i g) (λ i l. mass-cons i t g) in
    let p = sum-plus (suc k) (λ i. at_place i (degree t.0) (nat_abs t.1)) (λ i. mass_at i g) in
    let r = mass-by-degree k g in
    let o = place k (degree t.0) (nat_abs t.1) in
    go (nat_le (degree t.0) k) refl s p r o
  where
    once : (n d c : ℕ) → cond (nat_lt d n) c 0 + cond (d == n) c 0 ≡ cond (nat_lt d (suc n)) c 0
    once n d c = grind (arith, nat_tests)

    none : (d c : ℕ) → 0 ≡ cond (nat_lt d 0) c 0
    none d c = grind (arith, nat_tests)

    below : (n d c : ℕ) → sum_below n (λ i. at_place i d c) ≡ cond (nat_lt d n) c 0
    below zero d c = none d c
    below (suc n) d c = ap (λ (m : ℕ). m + cond (d == n) c 0) (below n d c) ∙ once n d c

    same : (k d c : ℕ) → cond (nat_lt d (suc k)) c 0 ≡ cond (nat_le d k) c 0
    same k d c = grind (arith, nat_tests)

    place : (k d c : ℕ) → sum_below (suc k) (λ i. at_place i d c) ≡ cond (nat_le d k) c 0
    place k d c = below (suc k) d c ∙ same k d c

    go : (b : Bool) → nat_le (degree t.0) k ≡ b → sum_below (suc k) (λ i. mass_at i (t ∷ g)) ≡ sum_below (suc k) (λ i. at_place i (degree t.0) (nat_abs t.1) + mass_at i g)
        → sum_below (suc k) (λ i. at_place i (degree t.0) (nat_abs t.1) + mass_at i g) ≡ sum_below (suc k) (λ i. at_place i (degree t.0) (nat_abs t.1)) + sum_below (suc k) (λ i. mass_at i g)
        → mass_to k g ≡ sum_below (suc k) (λ i. mass_at i g) → sum_below (suc k) (λ i. at_place i (degree t.0) (nat_abs t.1)) ≡ cond (nat_le (degree t.0) k) (nat_abs t.1) 0 → mass_to k
        (t ∷ g) ≡ sum_below (suc k) (λ i. mass_at i (t ∷ g))
    go true q s p r o = rw q (let o' : sum_below (suc k) (λ i. at_place i (degree t.0) (nat_abs t.1)) ≡ nat_abs t.1 = rw q at o in omega (arith, s, p, r, o'))
    go false q s p r o = rw q (let o' : sum_below (suc k) (λ i. at_place i (degree t.0) (nat_abs t.1)) ≡ 0 = rw q at o in omega (arith, s, p, r, o'))
