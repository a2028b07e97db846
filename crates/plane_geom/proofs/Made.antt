-- What `Point::new` finds.
use Rattle.std.proofs.Common.{◌≡◌, ℕ, sym, ap, subst, ◌∙◌, ◌/◌, ◌≤◌, ◌<◌, ◌^◌, ◌⊎◌, inl, inr, arith, ℤ, nat_abs, to_z, of_z, FitsSigned}
use Rattle.std.specs.Prelude.{pos, ◌≤ℤ◌}
use Rattle.std.specs.Int.{IsGcd}
use Rattle.std.proofs.lemmas.Int.{to_z-of_z}
use Rattle.std.proofs.lemmas.Nat.Gcd.{same_from_IsGcd}
use mir.Syntax.{w32}
use Rattle.scattering.specs.Plane.{Point, IsNear, IsDirection}
use Rattle.plane_geom.specs.Places.{pair, IsSmall}
use Rattle.plane_theory.proofs.Reduction.{divided, divided-point, divided-x, divided-y, divided-only, divisor-positive, size-over}
use Rattle.plane_geom.specs.Shown.{over, IsQuotient}

-- the numbers as they were passed on
pub record Passed (x y w : ℤ) (h g : ℕ) (x' y' w' : ℤ) (u v t : ℕ) : Type 0 where
  pub below : pos 1 ≤ℤ w
  pub x_is : x' ≡ x
  pub y_is : y' ≡ y
  pub w_is : w' ≡ w
  pub u_is : u ≡ nat_abs x'
  pub v_is : v ≡ nat_abs y'
  pub t_is : t ≡ nat_abs w'
  pub both : IsGcd u v h
  pub all : IsGcd h t g

module _ (x y w : ℤ) (h g : ℕ) (x' y' w' : ℤ) (u v t : ℕ) (p : Passed x y w h g x' y' w' u v t) where
  both : IsGcd (nat_abs x) (nat_abs y) h
  both = subst (λ (m : ℕ). IsGcd m (nat_abs y) h) (p.u_is ∙ ap nat_abs p.x_is) (subst (λ (m : ℕ). IsGcd u m h) (p.v_is ∙ ap nat_abs p.y_is) p.both)

  all : IsGcd h (nat_abs w) g
  all = subst (λ (m : ℕ). IsGcd h m g) (p.t_is ∙ ap nat_abs p.w_is) p.all

  pub divisor : 1 ≤ g
  divisor = divisor-positive x y w h g p.below both all

  far-one : (z z' : ℤ) → z' ≡ z → 2 ^ 40 < nat_abs z' / g → nat_abs (over g z) ≤ 2 ^ 40 → ⊥
  far-one z z' e l m = let a = size-over g z in let b = ap (λ (k : ℤ). nat_abs k / g) e in omega (arith, a, b, l, m)

  pub far : (2 ^ 40 < nat_abs x' / g) ⊎ ((2 ^ 40 < nat_abs y' / g) ⊎ (2 ^ 40 < nat_abs w' / g)) → (q : Point) → IsQuotient x y w q → IsNear q → ⊥
  far l q i n = go l (subst IsNear (divided-only x y w h g p.below both all q i.0 i.1 i.2) n)
    where
      go : (2 ^ 40 < nat_abs x' / g) ⊎ ((2 ^ 40 < nat_abs y' / g) ⊎ (2 ^ 40 < nat_abs w' / g)) → IsNear (divided g x y w) → ⊥
      go (inl l) n = far-one x x' p.x_is l n.0
      go (inr (inl l)) n = far-one y y' p.y_is l n.1
      go (inr (inr l)) n = far-one w w' p.w_is l n.2

  pub found : (a b c : ℤ) → a ≡ over g x' → b ≡ over g y' → c ≡ over g w' → record { x = a; y = b; w = c } ≡ divided g x y w
  found a b c e f k =
      let i = e ∙ ap (over g) p.x_is in let j = f ∙ ap (over g) p.y_is in let l = k ∙ ap (over g) p.w_is in
      λ s. record { x = i s; y = j s; w = l s }

  pub is-quotient : (q : Point) → q ≡ divided g x y w → IsQuotient x y w q
  is-quotient q e = subst (IsQuotient x y w) (sym e) (divided-point x y w h g p.below both all, divided-x x y w h g p.below both all, divided-y x y w h g p.below both all)

  small : (z z' : ℤ) → z' ≡ z → nat_abs z' / g ≤ 2 ^ 40 → nat_abs (over g z) ≤ 2 ^ 40
  small z z' e l = let a = size-over g z in let b = ap (λ (k : ℤ). nat_abs k / g) e in omega (arith, a, b, l)

  pub is-near : (q : Point) → q ≡ divided g x y w → nat_abs x' / g ≤ 2 ^ 40 → nat_abs y' / g ≤ 2 ^ 40 → nat_abs w' / g ≤ 2 ^ 40 → IsNear q
  is-near q e l m n = subst IsNear (sym e) (small x x' p.x_is l, small y y' p.y_is m, small w w' p.w_is n)

pub bounded : (g : ℕ) (x' a : ℤ) → a ≡ over g x' → nat_abs x' / g ≤ 2 ^ 40 → nat_abs a ≤ 2 ^ 40
bounded g x' a e l = let s = size-over g x' in let f = ap nat_abs e in omega (arith, s, f, l)

-- ---- directions
module _ (a b : ℤ) (u v : ℕ) (fa : FitsSigned w32 a) (fb : FitsSigned w32 b) (ua : u ≡ nat_abs (to_z w32 (of_z w32 a))) (vb : v ≡ nat_abs (to_z w32 (of_z w32 b))) where
  size-a : u ≡ nat_abs a
  size-a = ua ∙ ap nat_abs (to_z-of_z w32 a fa)

  size-b : v ≡ nat_abs b
  size-b = vb ∙ ap nat_abs (to_z-of_z w32 b fb)

  pub direction-found : (g : ℕ) → u ≤ 4096 → v ≤ 4096 → IsGcd u v g → g ≡ 1 → IsDirection (pair a b) × IsSmall a b
  direction-found g h k i e =
      (subst (λ (n : ℕ). IsGcd n (nat_abs b) 1) size-a (subst (λ (n : ℕ). IsGcd u n 1) size-b (subst (λ (n : ℕ). IsGcd u v n) e i)), (omega (arith, size-a, h), omega (arith, size-b, k)))

  pub direction-one : (g : ℕ) → IsGcd u v g → IsDirection (pair a b) × IsSmall a b → g ≡ 1
  direction-one g i d = same_from_IsGcd u v g 1 i (subst (λ (n : ℕ). IsGcd n v 1) (sym size-a) (subst (λ (n : ℕ). IsGcd (nat_abs a) n 1) (sym size-b) d.0))

  pub direction-sizes : IsDirection (pair a b) × IsSmall a b → (u ≤ 4096) × (v ≤ 4096)
  direction-sizes d = let h = d.1.0 in let k = d.1.1 in (omega (arith, size-a, h), omega (arith, size-b, k))

pub direction-along : (a b a' b' : ℤ) → a ≡ a' → b ≡ b' → IsDirection (pair a b) × IsSmall a b → IsDirection (pair a' b') × IsSmall a' b'
direction-along a b a' b' e f h = subst (λ (x : ℤ). IsDirection (pair x b') × IsSmall x b') e (subst (λ (y : ℤ). IsDirection (pair a y) × IsSmall a y) f h)
