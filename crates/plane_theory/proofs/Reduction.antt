-- Every pair of fractions with one denominator is a point.
use Rattle.std.proofs.Common.{◌≡◌, ℕ, zero, suc, refl, sym, ap, subst, ◌∙◌, ◌*◌, ◌/◌, ◌≤◌, arith}
use Rattle.std.proofs.Math.Nat.{mul-le-mul_left, dvd-mul_right, eq-zero_of_zero-dvd}
use Rattle.std.specs.Prelude.{ℤ, pos, negsuc, ◌*ℤ◌, neg_ℤ, ◌≤ℤ◌, nat_abs}
use Rattle.std.specs.Int.{◌∣◌, IsGcd}
use Rattle.std.proofs.lemmas.Int.{ints}
use Rattle.std.proofs.lemmas.Nat.Gcd.{dvd_trans, le_of_dvd, mod-eq-zero_of_dvd}
use Rattle.scattering.proofs.Ring.{dif-up, dif-pos, dif-add, dif-neg, dif-mul, dif-same}
use Rattle.scattering.proofs.Bezout.{bezout}
use Rattle.scattering.specs.Plane.{Point, IsPoint}
use Rattle.plane_theory.proofs.LowestTerms.{same-point}
use Rattle.plane_theory.proofs.WholeNumbers.{cancel, follows2}

pub quotient : (g n : ℕ) → g ∣ n → n ≡ g * (n / g)
quotient g n h = let e = mod-eq-zero_of_dvd g h in omega (arith, e)

-- x divided by g, which divides it
abbrev pub over : ℕ → ℤ → ℤ
over g (pos n) = pos (n / g)
over g (negsuc n) = neg_ℤ (pos (suc n / g))

over-is : (g : ℕ) (x : ℤ) → g ∣ nat_abs x → x ≡ pos g *ℤ over g x
over-is g (pos n) h = ap pos (quotient g n h)
over-is g (negsuc n) h = let e = quotient g (suc n) h in negative g n (suc n / g) e
  where
    negative : (g n k : ℕ) → suc n ≡ g * k → negsuc n ≡ pos g *ℤ neg_ℤ (pos k)
    negative g n zero e = absurd (omega (arith, e))
    negative g n (suc k) e = ap (λ m. neg_ℤ (pos m)) e

over-abs : (g : ℕ) (x : ℤ) → g ∣ nat_abs x → nat_abs x ≡ g * nat_abs (over g x)
over-abs g (pos n) h = quotient g n h
over-abs g (negsuc n) h = let e = quotient g (suc n) h in let a = abs-neg (suc n / g) in subst (λ (k : ℕ). suc n ≡ g * k) (sym a) e
  where
    abs-neg : (k : ℕ) → nat_abs (neg_ℤ (pos k)) ≡ k
    abs-neg k = omega (arith, ints)

-- what divides the quotient divides, times g
through : (g d n m : ℕ) → n ≡ g * m → d ∣ m → (g * d) ∣ n
through g d n m e h =
    let f = quotient d m h in
    subst (λ (k : ℕ). (g * d) ∣ k) (sym (e ∙ ap (λ k. g * k) f ∙ assoc g d (m / d))) (dvd-mul_right (g * d) (m / d))
  where
    assoc : (a b c : ℕ) → a * (b * c) ≡ (a * b) * c
    assoc a b c = omega arith

one-left : (g d : ℕ) → 1 ≤ g → (g * d) ∣ g → d ≡ 1
one-left g zero l h = let e : zero ∣ g = subst (λ (k : ℕ). k ∣ g) (let z : g * 0 ≡ 0 = omega arith in z) h in let z = eq-zero_of_zero-dvd e in absurd (omega (arith, z, l))
one-left g (suc zero) l h = refl
one-left g (suc (suc d)) l h =
    let k = le_of_dvd {m = g * suc (suc d)} {n = g} (omega (arith, l)) h in
    let two : 2 ≤ suc (suc d) = omega arith in
    let m = mul-le-mul_left g two in absurd (omega (arith, k, m, l))

pub record Reduced (x y w : ℤ) : Type 0 where
  pub point : Point
  pub is : IsPoint point
  pub first : point.x *ℤ w ≡ x *ℤ point.w
  pub second : point.y *ℤ w ≡ y *ℤ point.w

cross : (x w g x' w' : ℤ) → x ≡ g *ℤ x' → w ≡ g *ℤ w' → x' *ℤ w ≡ x *ℤ w'
cross x w g x' w' e f = ap (λ z. x' *ℤ z) f ∙ swap x' g w' ∙ ap (λ z. z *ℤ w') (sym e)
  where
    swap : (a g b : ℤ) → a *ℤ (g *ℤ b) ≡ (g *ℤ a) *ℤ b
    swap a g b = rw (dif-up a, dif-up g, dif-up b) (simp (dif-mul) (dif-same _ _ _ _ (omega arith)))

pub size-over : (g : ℕ) (x : ℤ) → nat_abs (over g x) ≡ nat_abs x / g
size-over g (pos n) = refl
size-over g (negsuc n) = abs-neg (suc n / g)
  where
    abs-neg : (k : ℕ) → nat_abs (neg_ℤ (pos k)) ≡ k
    abs-neg k = omega (arith, ints)

nonzero : (g k n : ℕ) → 1 ≤ n → n ≡ g * k → 1 ≤ g
nonzero zero k n h e = absurd (omega (arith, h, e))
nonzero (suc g) k n h e = omega arith

above : (g : ℕ) (w v : ℤ) → pos 1 ≤ℤ w → w ≡ pos g *ℤ v → pos 1 ≤ℤ v
above g w (pos zero) h e = absurd (omega (arith, ints, h, e))
above g w (pos (suc n)) h e = omega (arith, ints)
above g w (negsuc n) h e = absurd (omega (arith, ints, h, e))

-- the three numbers, divided by their greatest common divisor
abbrev pub divided : ℕ → ℤ → ℤ → ℤ → Point
divided g x y w = record { x = over g x; y = over g y; w = over g w }

module _ (x y w : ℤ) (h g : ℕ) (l : pos 1 ≤ℤ w) (a : IsGcd (nat_abs x) (nat_abs y) h) (b : IsGcd h (nat_abs w) g) where
  gx : g ∣ nat_abs x
  gx = dvd_trans g b.0 a.0

  gy : g ∣ nat_abs y
  gy = dvd_trans g b.0 a.1

  pub divisor-positive : 1 ≤ g
  divisor-positive = nonzero g (nat_abs (over g w)) (nat_abs w) (omega (arith, ints, l)) (over-abs g w b.1)

  pub divided-point : IsPoint (divided g x y w)
  divided-point = record {
    below = above g w (over g w) l (over-is g w b.1);
    lowest = λ d dx dy dw. one-left g d divisor-positive
        (b.2 (g * d) (a.2 (g * d) (through g d (nat_abs x) (nat_abs (over g x)) (over-abs g x gx) dx) (through g d (nat_abs y) (nat_abs (over g y)) (over-abs g y gy) dy))
        (through g d (nat_abs w) (nat_abs (over g w)) (over-abs g w b.1) dw));
  }

  pub divided-x : over g x *ℤ w ≡ x *ℤ over g w
  divided-x = cross x w (pos g) (over g x) (over g w) (over-is g x gx) (over-is g w b.1)

  pub divided-y : over g y *ℤ w ≡ y *ℤ over g w
  divided-y = cross y w (pos g) (over g y) (over g w) (over-is g y gy) (over-is g w b.1)

  -- any point of these fractions is this one
  pub divided-only : (p : Point) → IsPoint p → p.x *ℤ w ≡ x *ℤ p.w → p.y *ℤ w ≡ y *ℤ p.w → p ≡ divided g x y w
  divided-only p i e f =
      same-point p (divided g x y w) i divided-point
      (one p.x p.w x w (over g x) (over g w) l e divided-x) (one p.y p.w y w (over g y) (over g w) l f divided-y)
    where
      one : (px pw x w qx qw : ℤ) → pos 1 ≤ℤ w → px *ℤ w ≡ x *ℤ pw → qx *ℤ w ≡ x *ℤ qw → px *ℤ qw ≡ qx *ℤ pw
      one px pw x w qx qw l e f = cancel w (px *ℤ qw) (qx *ℤ pw) l
          (follows2 (w *ℤ (px *ℤ qw)) (w *ℤ (qx *ℤ pw)) qw (px *ℤ w) (x *ℤ pw) (neg_ℤ pw) (qx *ℤ w) (x *ℤ qw) e f
          (rw (dif-up px, dif-up pw, dif-up x, dif-up w, dif-up qx, dif-up qw) (simp (dif-mul, dif-add, dif-neg, dif-pos) (dif-same _ _ _ _ (omega arith)))))

pub reduce : (x y w : ℤ) → pos 1 ≤ℤ w → Reduced x y w
reduce x y w l =
    let a = bezout (nat_abs x) (nat_abs y) in
    let b = bezout a.g (nat_abs w) in
    record {
      point = divided b.g x y w;
      is = divided-point x y w a.g b.g l a.gcd b.gcd;
      first = divided-x x y w a.g b.g l a.gcd b.gcd;
      second = divided-y x y w a.g b.g l a.gcd b.gcd;
    }
