-- A point that isn't far is the near point over the product of the denominators.
use Rattle.std.proofs.Common.{◌≡◌, ℕ, zero, suc, refl, sym, subst, ap, ◌∙◌, ◌≤◌, ◌^◌, ◌*◌, ◌/◌, arith, to_z, of_z, FitsSigned, ℤ, nat_abs, false, Option, Some, None}
use Rattle.std.specs.Prelude.{pos, ◌*ℤ◌, ◌≤ℤ◌, nat_lt, ◌||◌, MatchOption, IsSome, IfSome}
use mir.Syntax.{w64, w128}
use Rattle.std.proofs.lemmas.Int.{ints, to_z-of_z, unsigned_abs-mul}
use Rattle.std.proofs.Math.Nat.{mul-div_cancel, mul-div_cancel_left, le-mul_of_pos_right}
use Rattle.scattering.proofs.Ring.{dif-up, dif-pos, dif-mul, dif-same, dif-add, dif-neg}
use Rattle.scattering.proofs.Bezout.{bezout}
use Rattle.scattering.specs.Plane.{Point, IsNear}
use Rattle.plane_theory.proofs.WholeNumbers.{cancel, follows}
use Rattle.plane_theory.proofs.Reduction.{quotient, over, divided, divided-point, divided-x, divided-y, size-over}
use Rattle.plane_geom.specs.Shown.{IsQuotient, IsFar}
use Rattle.plane_geom.proofs.Quotients.{quotient-along}
use Rattle.scatter_text.specs.declared.file.Coordinate.{Coordinate}
use Rattle.scatter_text.specs.Limits.{is_far, gcd}
use Rattle.scatter_text.specs.LimitedLines.{IsPlace}
use Rattle.scatter_text.proofs.Divisors.{gcd-is, gcd-positive}
use Rattle.scattering.proofs.Lists.{or-false}
use Rattle.scatter_text.proofs.WithinLimits.{not-less}

-- ---- small numbers have a near point

shrinks : (n g : ℕ) → n / g ≤ n
shrinks n g = omega arith

lower : (g : ℕ) (z : ℤ) → nat_abs z ≤ 2 ^ 40 → nat_abs (over g z) ≤ 2 ^ 40
lower g z h = let s = size-over g z in let l = shrinks (nat_abs z) g in omega (arith, s, l, h)

near-point : (x y w : ℤ) → pos 1 ≤ℤ w → nat_abs x ≤ 2 ^ 40 → nat_abs y ≤ 2 ^ 40 → nat_abs w ≤ 2 ^ 40 → (q : Point) × IsQuotient x y w q × IsNear q
near-point x y w l hx hy hw =
    let a = bezout (nat_abs x) (nat_abs y) in
    let b = bezout a.g (nat_abs w) in (
      divided b.g x y w,
      (divided-point x y w a.g b.g l a.gcd b.gcd, divided-x x y w a.g b.g l a.gcd b.gcd, divided-y x y w a.g b.g l a.gcd b.gcd),
      (lower b.g x hx, lower b.g y hy, lower b.g w hw),
    )

-- ---- over the least common denominator

scaled : (a w x v g : ℤ) → a *ℤ w ≡ x *ℤ v → a *ℤ (g *ℤ w) ≡ (g *ℤ x) *ℤ v
scaled a w x v g h =
    follows (a *ℤ (g *ℤ w)) ((g *ℤ x) *ℤ v) g (a *ℤ w) (x *ℤ v) h
    (rw (dif-up a, dif-up w, dif-up x, dif-up v, dif-up g) (simp (dif-mul, dif-add, dif-neg) (dif-same _ _ _ _ (omega arith))))

quotient-scaled : (x y w g : ℤ) (q : Point) → IsQuotient x y w q → IsQuotient (g *ℤ x) (g *ℤ y) (g *ℤ w) q
quotient-scaled x y w g q h = (h.0, scaled q.x w x q.w g h.1, scaled q.y w y q.w g h.2)

-- w is p·q/g, where p is g·a and q is g·b
record Common (p q a b w : ℕ) : Type 0 where
  whole : w ≡ p * b
  x : w / p ≡ b
  y : w / q ≡ a

common : (p q g a b : ℕ) → 1 ≤ g → 1 ≤ p → 1 ≤ q → p ≡ g * a → q ≡ g * b → Common p q a b (p * q / g)
common p q g a b hg hp hq ep eq =
    let one : p * q / g ≡ p * b = ap (λ (n : ℕ). n / g) (ap (λ (n : ℕ). p * n) eq ∙ out p g b) ∙ mul-div_cancel (p * b) hg in
    let two : p * q / g ≡ a * q = ap (λ (n : ℕ). n / g) (ap (λ (n : ℕ). n * q) ep ∙ in-front g a q) ∙ mul-div_cancel (a * q) hg in
    record {
      whole = one;
      x = ap (λ (n : ℕ). n / p) one ∙ mul-div_cancel_left b hp;
      y = ap (λ (n : ℕ). n / q) two ∙ mul-div_cancel a hq;
    }
  where
    out : (p g b : ℕ) → p * (g * b) ≡ p * b * g
    out p g b = omega arith

    in-front : (g a q : ℕ) → g * a * q ≡ a * q * g
    in-front g a q = omega arith

not-far-parts : (x y : Coordinate) (w : ℕ) → w ≡ nat_abs x.den * nat_abs y.den / gcd (nat_abs x.den) (nat_abs y.den) → is_far x y ≡ false
    → (w ≤ 2 ^ 40) × (nat_abs x.num * (w / nat_abs x.den) ≤ 2 ^ 40) × (nat_abs y.num * (w / nat_abs y.den) ≤ 2 ^ 40)
unfolding is_far
not-far-parts x y w e h =
    let v : ℕ = nat_abs x.den * nat_abs y.den / gcd (nat_abs x.den) (nat_abs y.den) in
    let o = or-false (nat_lt (2 ^ 40) v || nat_lt (2 ^ 40) (nat_abs x.num * (v / nat_abs x.den))) (nat_lt (2 ^ 40) (nat_abs y.num * (v / nat_abs y.den))) h in
    let p = or-false (nat_lt (2 ^ 40) v) (nat_lt (2 ^ 40) (nat_abs x.num * (v / nat_abs x.den))) o.0 in
    rw e (not-less (2 ^ 40) v p.0, not-less (2 ^ 40) (nat_abs x.num * (v / nat_abs x.den)) p.1, not-less (2 ^ 40) (nat_abs y.num * (v / nat_abs y.den)) o.1)

one-over : (z : ℤ) (g b : ℕ) → pos g *ℤ (z *ℤ pos b) ≡ z *ℤ pos (g * b)
one-over z g b = rw (dif-up z) (simp (dif-mul, dif-pos) (dif-same _ _ _ _ (omega arith)))

all-over : (g a b : ℕ) → pos g *ℤ pos (g * a * b) ≡ pos (g * a) *ℤ pos (g * b)
all-over g a b = ap pos (let e : g * (g * a * b) ≡ g * a * (g * b) = omega arith in e)

product-some : (p q g b : ℕ) → 1 ≤ p → 1 ≤ q → q ≡ g * b → pos 1 ≤ℤ pos (p * b)
product-some p q g zero hp hq e = absurd (omega (arith, hq, e))
product-some p q g (suc b) hp hq e = let l = le-mul_of_pos_right {m = suc b} p (omega arith) in omega (arith, ints, l, hp)

module _ (x y : Coordinate) (hx : pos 1 ≤ℤ x.den) (hy : pos 1 ≤ℤ y.den) where
  p : ℕ
  p = nat_abs x.den

  q : ℕ
  q = nat_abs y.den

  g : ℕ
  g = gcd p q

  x-den : x.den ≡ pos p
  unfolding p
  x-den = omega (arith, ints, hx)

  y-den : y.den ≡ pos q
  unfolding q
  y-den = omega (arith, ints, hy)

  some : 1 ≤ p
  unfolding p
  some = omega (arith, ints, hx)

  some-more : 1 ≤ q
  unfolding q
  some-more = omega (arith, ints, hy)

  pub not-far : is_far x y ≡ false → IsFar (x.num *ℤ y.den) (y.num *ℤ x.den) (x.den *ℤ y.den) → ⊥
  unfolding p q g
  not-far near far =
      let hg : 1 ≤ g = gcd-positive p q some in
      let is = gcd-is p q in
      let ep : p ≡ g * (p / g) = quotient g p is.0 in
      let eq : q ≡ g * (q / g) = quotient g q is.1 in
      let c = common p q g (p / g) (q / g) hg some some-more ep eq in
      let parts = not-far-parts x y (p * q / g) refl near in
      let whole = c.whole in
      let n = near-point (x.num *ℤ pos (q / g)) (y.num *ℤ pos (p / g)) (pos (p * (q / g))) (product-some p q g (q / g) some some-more eq)
      (rw (unsigned_abs-mul x.num (pos (q / g))) (subst (λ (n : ℕ). nat_abs x.num * n ≤ 2 ^ 40) c.x parts.1))
      (rw (unsigned_abs-mul y.num (pos (p / g))) (subst (λ (n : ℕ). nat_abs y.num * n ≤ 2 ^ 40) c.y parts.2))
      (subst (λ (n : ℕ). n ≤ 2 ^ 40) whole parts.0) in
      let ex : x.den ≡ pos (g * (p / g)) = x-den ∙ ap pos ep in
      let ey : y.den ≡ pos (g * (q / g)) = y-den ∙ ap pos eq in
      let first : pos g *ℤ (x.num *ℤ pos (q / g)) ≡ x.num *ℤ y.den = one-over x.num g (q / g) ∙ ap (λ (z : ℤ). x.num *ℤ z) (sym ey) in
      let second : pos g *ℤ (y.num *ℤ pos (p / g)) ≡ y.num *ℤ x.den = one-over y.num g (p / g) ∙ ap (λ (z : ℤ). y.num *ℤ z) (sym ex) in
      let third : pos g *ℤ pos (p * (q / g)) ≡ x.den *ℤ y.den = ap (λ (n : ℕ). pos g *ℤ pos (n * (q / g))) ep ∙ all-over g (p / g) (q / g) ∙ ap (λ (z : ℤ). z *ℤ pos (g * (q / g))) (sym ex) ∙ ap (λ (z : ℤ). x.den *ℤ z) (sym ey) in
      far n.0 (quotient-along _ _ _ _ _ _ n.0 first second third (quotient-scaled (x.num *ℤ pos (q / g)) (y.num *ℤ pos (p / g)) (pos (p * (q / g))) (pos g) n.0 n.1)) n.2

  pub is-place : (r : Point) → IsQuotient (x.num *ℤ y.den) (y.num *ℤ x.den) (x.den *ℤ y.den) r → IsPlace x y r
  is-place r h = record { point = h.0; first = cancel y.den (r.x *ℤ x.den) (x.num *ℤ r.w) hy (one r.x x.den y.den x.num r.w h.1); second = cancel x.den (r.y *ℤ y.den) (y.num *ℤ r.w) hx (two r.y x.den y.den y.num r.w h.2) }
    where
      one : (a d e n w : ℤ) → a *ℤ (d *ℤ e) ≡ (n *ℤ e) *ℤ w → e *ℤ (a *ℤ d) ≡ e *ℤ (n *ℤ w)
      one a d e n w h =
          follows (e *ℤ (a *ℤ d)) (e *ℤ (n *ℤ w)) (pos 1) (a *ℤ (d *ℤ e)) ((n *ℤ e) *ℤ w) h
          (rw (dif-up a, dif-up d, dif-up e, dif-up n, dif-up w) (simp (dif-mul, dif-add, dif-neg, dif-pos) (dif-same _ _ _ _ (omega arith))))

      two : (a d e n w : ℤ) → a *ℤ (d *ℤ e) ≡ (n *ℤ d) *ℤ w → d *ℤ (a *ℤ e) ≡ d *ℤ (n *ℤ w)
      two a d e n w h =
          follows (d *ℤ (a *ℤ e)) (d *ℤ (n *ℤ w)) (pos 1) (a *ℤ (d *ℤ e)) ((n *ℤ d) *ℤ w) h
          (rw (dif-up a, dif-up d, dif-up e, dif-up n, dif-up w) (simp (dif-mul, dif-add, dif-neg, dif-pos) (dif-same _ _ _ _ (omega arith))))

-- ---- as the numbers are read

pub product-read : (r a b : ℤ) → FitsSigned w64 a → FitsSigned w64 b → FitsSigned w128 r → r ≡ to_z w64 (of_z w64 a) *ℤ to_z w64 (of_z w64 b) → to_z w128 (of_z w128 r) ≡ a *ℤ b
product-read r a b fa fb fr e = to_z-of_z w128 r fr ∙ e ∙ ap (λ (z : ℤ). z *ℤ to_z w64 (of_z w64 b)) (to_z-of_z w64 a fa) ∙ ap (λ (z : ℤ). a *ℤ z) (to_z-of_z w64 b fb)

pub far-along : (x y w x' y' w' : ℤ) → x ≡ x' → y ≡ y' → w ≡ w' → IsFar x y w → IsFar x' y' w'
far-along x y w x' y' w' e f g h = subst (λ (z : ℤ). IsFar z y' w') e (subst (λ (z : ℤ). IsFar x z w') f (subst (λ (z : ℤ). IsFar x y z) g h))

pub some-near : {T F : Type 0} (o : Option T) (P : T → Type 0) → MatchOption o F P → (F → ⊥) → IsSome o
some-near (Some v) P h n = refl
some-near None P h n = absurd (n h)

pub at-some : {T : Type 0} (o : Option T) (P : T → Type 0) (v : T) → o ≡ Some v → IfSome o P → P v
at-some o P v e h = subst (λ (u : Option _). IfSome u P) e h
