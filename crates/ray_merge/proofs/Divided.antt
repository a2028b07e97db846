-- Exponents divided by their gcd, and the values that corrections add.
use Rattle.std.proofs.Common.{◌≡◌, ◌≢◌, ℕ, zero, suc, ◌*◌, ◌≤◌, ◌<◌, ◌^◌, refl, sym, subst, ap, ◌∙◌, arith, to_z, of_z, FitsSigned, inl, inr, ◌⊎◌}
use Rattle.std.specs.Prelude.{ℤ, pos, negsuc, neg_ℤ, ◌-ℤ◌, ◌*ℤ◌, ◌≤ℤ◌, nat_abs, int_div, [], ◌∷◌}
use Rattle.std.specs.Int.{w32, w128, ◌∣◌, IsGcd}
use Rattle.std.proofs.Math.Nat.{dvd-mul_left}
use Rattle.std.proofs.lemmas.Int.{ints, to_z-of_z, to_z_pos, unsigned_abs-mul}
use Rattle.std.proofs.lemmas.Nat.Gcd.{le_of_dvd, same_from_IsGcd}
use Rattle.sum_algebra.proofs.Ring.{minus, ring}
use Rattle.sum_algebra.proofs.IntegerRing.{ints_ring, ◌:*◌, X, Y, Z}
use Rattle.sum_algebra.proofs.Integers.{zero-or-not}
use Rattle.scattering.specs.Series.{Exp, origin, IsMultiple}
use Rattle.scattering.specs.Plane.{IsDirection}
use Rattle.plane_theory.proofs.Directions.{Multiple, as_multiple, cancel, positive-not}
use Rattle.frac_128.specs.Quotient.{IsLowest}
use Rattle.frac_128.proofs.Divided.{divided}
use Rattle.frac_128.proofs.Lowest.{cancel as cancel-right}
use Rattle.frac_128.proofs.Coprime.{dvd_other_factor, coprime-swap}

-- ---- the gcd of an exponent

module _ (a b : ℤ) (n : ◌≢◌ {A = Exp} (record { a = a; b = b }) origin) (g : ℕ) (common : IsGcd (nat_abs a) (nat_abs b) g) where
  pub multiple : Multiple (record { a = a; b = b })
  multiple = as_multiple (record { a = a; b = b }) n

  same : multiple.g ≡ g
  same = same_from_IsGcd (nat_abs a) (nat_abs b) multiple.g g multiple.gcd common

  pub gcd-above : 1 ≤ g
  gcd-above = let p = multiple.positive in let e = same in omega (arith, ints, p, e)

  positive : pos 1 ≤ℤ pos g
  positive = let p = gcd-above in omega (arith, ints, p)

  -- it is no greater than one of the two numbers
  pub gcd-below : (m : ℕ) → nat_abs a ≤ m → nat_abs b ≤ m → g ≤ m
  gcd-below m la lb = go (zero-or-not a) (zero-or-not b)
    where
      above : (x : ℤ) → x ≢ pos 0 → 0 < nat_abs x
      above (pos zero) h = absurd (h refl)
      above (pos (suc x)) h = omega arith
      above (negsuc x) h = omega arith

      go : (a ≡ pos 0) ⊎ (a ≢ pos 0) → (b ≡ pos 0) ⊎ (b ≢ pos 0) → g ≤ m
      go (inl p) (inl q) = absurd (n (λ i. record { a = p i; b = q i }))
      go (inr p) q = let l = le_of_dvd {m = g} {n = nat_abs a} (above a p) common.0 in omega (arith, l, la)
      go (inl p) (inr q) = let l = le_of_dvd {m = g} {n = nat_abs b} (above b q) common.1 in omega (arith, l, lb)

  quotient : (x y : ℤ) → g ∣ nat_abs x → x ≡ pos multiple.g *ℤ y → int_div x (pos g) ≡ y
  quotient x y d e =
      cancel (pos g) (int_div x (pos g)) y (positive-not (pos g) positive)
      (ring ints_ring (pos g ∷ int_div x (pos g) ∷ []) (X :* Y) (Y :* X) refl ∙ sym (divided x g d) ∙ e ∙ ap (λ k. pos k *ℤ y) same)

  -- both numbers divided by it
  pub first-quotient : int_div a (pos g) ≡ multiple.dir.a
  first-quotient = quotient a multiple.dir.a common.0 (ap (λ (e : Exp). e.a) multiple.is)

  pub second-quotient : int_div b (pos g) ≡ multiple.dir.b
  second-quotient = quotient b multiple.dir.b common.1 (ap (λ (e : Exp). e.b) multiple.is)

  quotients : (d : Exp) → d.a ≡ int_div a (pos g) → d.b ≡ int_div b (pos g) → multiple.dir ≡ d
  quotients d p q = let x : multiple.dir.a ≡ d.a = sym (p ∙ first-quotient) in let y : multiple.dir.b ≡ d.b = sym (q ∙ second-quotient) in λ i. record { a = x i; b = y i }

  pub quotients-direction : (d : Exp) → d.a ≡ int_div a (pos g) → d.b ≡ int_div b (pos g) → IsDirection d
  quotients-direction d p q = subst IsDirection (quotients d p q) multiple.direction

  pub quotients-multiple : (d : Exp) → d.a ≡ int_div a (pos g) → d.b ≡ int_div b (pos g) → IsMultiple d (record { a = a; b = b })
  quotients-multiple d p q = subst (λ (d : Exp). IsMultiple d (record { a = a; b = b })) (quotients d p q) (pos multiple.g, multiple.positive, multiple.is)

-- a quotient is no greater
pub quotient-small : (x : ℤ) (g : ℕ) → 1 ≤ g → nat_abs (int_div x (pos g)) ≤ nat_abs x
quotient-small (pos n) g l = less n g l
  where
    less : (n g : ℕ) → 1 ≤ g → nat_abs (int_div (pos n) (pos g)) ≤ n
    less n zero l = absurd (omega (arith, l))
    less n (suc g) l = omega arith
quotient-small (negsuc n) g l = less n g l
  where
    less : (n g : ℕ) → 1 ≤ g → nat_abs (int_div (negsuc n) (pos g)) ≤ suc n
    less n zero l = absurd (omega (arith, l))
    less n (suc g) l = omega (arith, ints)

-- ---- an exponent of a tame term, as the code divides it

pub back32 : (x : ℤ) → nat_abs x ≤ 1536 → to_z w32 (of_z w32 x) ≡ x
back32 x h = omega (arith, ints, h)

module _ (a b : ℤ) (la : nat_abs a ≤ 1536) (lb : nat_abs b ≤ 1536) (n : ◌≢◌ {A = Exp} (record { a = a; b = b }) origin) (u v g : ℕ) (ua : u ≡ nat_abs (to_z w32 (of_z w32 a))) (vb : v ≡ nat_abs (to_z w32 (of_z w32 b))) (h : IsGcd u v g) where
  common : IsGcd (nat_abs a) (nat_abs b) g
  common = subst (λ (k : ℕ). IsGcd k (nat_abs b) g) (ua ∙ ap nat_abs (back32 a la)) (subst (λ (k : ℕ). IsGcd u k g) (vb ∙ ap nat_abs (back32 b lb)) h)

  above : 1 ≤ g
  above = gcd-above a b n g common

  below : g ≤ 1536
  below = gcd-below a b n g common 1536 la lb

  stored : to_z w32 g ≡ pos g
  stored = to_z_pos w32 g (let l = below in omega (arith, l))

  small : (x : ℤ) → nat_abs x ≤ 1536 → nat_abs (int_div x (pos g)) ≤ 1536
  small x l = let q = quotient-small x g above in omega (arith, q, l)

  pub cast-fits : FitsSigned w32 (pos g)
  cast-fits = let l = below in omega (arith, ints, l)

  pub divides : 0 < g
  divides = above

  read : (x : ℤ) → nat_abs x ≤ 1536 → int_div (to_z w32 (of_z w32 x)) (to_z w32 g) ≡ int_div x (pos g)
  read x l = ap (λ y. int_div y (to_z w32 g)) (back32 x l) ∙ ap (int_div x) stored

  pub divided-fits : (x : ℤ) → nat_abs x ≤ 1536 → FitsSigned w32 (int_div (to_z w32 (of_z w32 x)) (to_z w32 g))
  divided-fits x l = subst (FitsSigned w32) (sym (read x l)) (let q = small x l in omega (arith, ints, q))

  pub divided-is : (x : ℤ) → nat_abs x ≤ 1536 → to_z w32 (of_z w32 (int_div (to_z w32 (of_z w32 x)) (to_z w32 g))) ≡ int_div x (pos g)
  divided-is x l = ap (λ y. to_z w32 (of_z w32 y)) (read x l) ∙ back32 (int_div x (pos g)) (small x l)

  pub divided-small : (x : ℤ) → nat_abs x ≤ 1536 → nat_abs (to_z w32 (of_z w32 (int_div (to_z w32 (of_z w32 x)) (to_z w32 g)))) ≤ 4096
  divided-small x l = subst (λ (y : ℤ). nat_abs y ≤ 4096) (sym (divided-is x l)) (let q = small x l in omega (arith, q))

  pub divided-direction : (d : Exp) → d.a ≡ to_z w32 (of_z w32 (int_div (to_z w32 (of_z w32 a)) (to_z w32 g))) → d.b ≡ to_z w32 (of_z w32 (int_div (to_z w32 (of_z w32 b)) (to_z w32 g))) → IsDirection d
  divided-direction d p q = quotients-direction a b n g common d (p ∙ divided-is a la) (q ∙ divided-is b lb)

  pub divided-multiple : (d : Exp) → d.a ≡ to_z w32 (of_z w32 (int_div (to_z w32 (of_z w32 a)) (to_z w32 g))) → d.b ≡ to_z w32 (of_z w32 (int_div (to_z w32 (of_z w32 b)) (to_z w32 g))) → IsMultiple d (record { a = a; b = b })
  divided-multiple d p q = quotients-multiple a b n g common d (p ∙ divided-is a la) (q ∙ divided-is b lb)

-- ---- the value that a term of a correction adds, as the code computes it

module _ (a b : ℤ) (fa : FitsSigned w32 a) (fb : FitsSigned w32 b) (n : ◌≢◌ {A = Exp} (record { a = a; b = b }) origin) (u v g : ℕ) (ua : u ≡ nat_abs (to_z w32 (of_z w32 a))) (vb : v ≡ nat_abs (to_z w32 (of_z w32 b))) (h : IsGcd u v g) where
  shared : IsGcd (nat_abs a) (nat_abs b) g
  shared = subst (λ (k : ℕ). IsGcd k (nat_abs b) g) (ua ∙ ap nat_abs (to_z-of_z w32 a fa)) (subst (λ (k : ℕ). IsGcd u k g) (vb ∙ ap nat_abs (to_z-of_z w32 b fb)) h)

  within : (x : ℤ) → FitsSigned w32 x → nat_abs x ≤ 2 ^ 31
  within x f = let s = f.sfits in omega (arith, ints, s)

  bound : g ≤ 2 ^ 31
  bound = gcd-below a b n g shared (2 ^ 31) (within a fa) (within b fb)

  pub gcd-fits : FitsSigned w128 (pos g)
  gcd-fits = let l = bound in omega (arith, ints, l)

  kept : to_z w128 g ≡ pos g
  kept = to_z_pos w128 g (let l = bound in omega (arith, l))

  module _ (num den : ℤ) (fn : FitsSigned w128 num) (fd : FitsSigned w128 den) (low : IsLowest num den) (whole : (g : ℕ) → IsGcd (nat_abs a) (nat_abs b) g → (w : ℤ) × (w *ℤ den ≡ num *ℤ pos g))
      (small : (w : ℤ) → (g : ℕ) × IsGcd (nat_abs a) (nat_abs b) g × (w *ℤ den ≡ num *ℤ pos g) → nat_abs w ≤ 2 ^ 126) where
    -- g·c
    abbrev w : ℤ
    w = (whole g shared).0

    is-whole : w *ℤ den ≡ num *ℤ pos g
    is-whole = (whole g shared).1

    bounded : nat_abs w ≤ 2 ^ 126
    bounded = small w (g, shared, is-whole)

    natural : den ≡ pos (nat_abs den)
    natural = go den low.positive
      where
        go : (d : ℤ) → pos 1 ≤ℤ d → d ≡ pos (nat_abs d)
        go (pos d) h = refl
        go (negsuc d) h = absurd (omega (arith, ints, h))

    below-gcd : nat_abs den ∣ g
    below-gcd = dvd_other_factor (nat_abs den) (nat_abs num) g (coprime-swap (nat_abs num) (nat_abs den) low.coprime) (subst (λ (k : ℕ). nat_abs den ∣ k) product (dvd-mul_left (nat_abs den) (nat_abs w)))
      where
        product : nat_abs w * nat_abs den ≡ nat_abs num * g
        product = sym (unsigned_abs-mul w den) ∙ ap nat_abs is-whole ∙ unsigned_abs-mul num (pos g)

    abbrev q : ℤ
    q = int_div (pos g) den

    splits : pos g ≡ q *ℤ den
    splits = divided (pos g) (nat_abs den) below-gcd ∙ ap (λ d. int_div (pos g) d *ℤ d) (sym natural)

    q-small : nat_abs q ≤ 2 ^ 31
    q-small =
        let one : 1 ≤ nat_abs den = let p = low.positive in let e = natural in omega (arith, ints, p, e) in
        let l : nat_abs (int_div (pos g) (pos (nat_abs den))) ≤ g = quotient-small (pos g) (nat_abs den) one in
        let e : nat_abs q ≡ nat_abs (int_div (pos g) (pos (nat_abs den))) = ap (λ d. nat_abs (int_div (pos g) d)) natural in
        let l' = bound in omega (arith, l, e, l')

    product-is : num *ℤ q ≡ w
    product-is = cancel-right (num *ℤ q) w den low.positive (ring ints_ring (num ∷ q ∷ den ∷ []) ((X :* Y) :* Z) (X :* (Y :* Z)) refl ∙ ap (λ x. num *ℤ x) (sym splits) ∙ sym is-whole)

    -- what the code multiplies
    factors : to_z w128 (of_z w128 num) *ℤ to_z w128 (of_z w128 (int_div (to_z w128 g) (to_z w128 (of_z w128 den)))) ≡ w
    factors =
        ap (λ x. x *ℤ to_z w128 (of_z w128 (int_div (to_z w128 g) (to_z w128 (of_z w128 den))))) (to_z-of_z w128 num fn)
        ∙ ap (λ x. num *ℤ to_z w128 (of_z w128 x)) (ap (λ x. int_div x (to_z w128 (of_z w128 den))) kept ∙ ap (int_div (pos g)) (to_z-of_z w128 den fd))
        ∙ ap (λ x. num *ℤ x) (fits-back q q-small) ∙ product-is
      where
        fits-back : (x : ℤ) → nat_abs x ≤ 2 ^ 31 → to_z w128 (of_z w128 x) ≡ x
        fits-back x l = omega (arith, ints, l)

    pub product-fits : FitsSigned w128 (to_z w128 (of_z w128 num) *ℤ to_z w128 (of_z w128 (int_div (to_z w128 g) (to_z w128 (of_z w128 den)))))
    product-fits = subst (FitsSigned w128) (sym factors) (let l = bounded in omega (arith, ints, l))

    negated : (x : ℤ) → nat_abs x ≤ 2 ^ 126 → to_z w128 (of_z w128 (pos 0 -ℤ to_z w128 (of_z w128 x))) ≡ neg_ℤ x
    negated x l = omega (arith, ints, l)

    pub negative-fits : FitsSigned w128 (pos 0 -ℤ to_z w128 (of_z w128 (to_z w128 (of_z w128 num) *ℤ to_z w128 (of_z w128 (int_div (to_z w128 g) (to_z w128 (of_z w128 den)))))))
    negative-fits = subst (λ (x : ℤ). FitsSigned w128 (pos 0 -ℤ to_z w128 (of_z w128 x))) (sym factors) (fits w bounded)
      where
        fits : (x : ℤ) → nat_abs x ≤ 2 ^ 126 → FitsSigned w128 (pos 0 -ℤ to_z w128 (of_z w128 x))
        fits x l = omega (arith, ints, l)

    pub value-is : (k : ℕ) × IsGcd (nat_abs a) (nat_abs b) k × (to_z w128 (of_z w128 (pos 0 -ℤ to_z w128 (of_z w128 (to_z w128 (of_z w128 num) *ℤ to_z w128 (of_z w128 (int_div (to_z w128 g) (to_z w128 (of_z w128 den)))))))) *ℤ den ≡ neg_ℤ (pos k *ℤ num))
    value-is = (
      g,
      shared,
      ap (λ x. to_z w128 (of_z w128 (pos 0 -ℤ to_z w128 (of_z w128 x))) *ℤ den) factors ∙ ap (λ x. x *ℤ den) (negated w bounded)
          ∙ ring ints_ring (w ∷ den ∷ []) (minus X :* Y) (minus (X :* Y)) refl ∙ ap neg_ℤ is-whole ∙ ring ints_ring (num ∷ pos g ∷ []) (minus (X :* Y)) (minus (Y :* X)) refl,
    )
