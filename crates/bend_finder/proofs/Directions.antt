-- The direction of a stretch, for its exponent: the exponent divided by the gcd of its numbers.
use Rattle.std.proofs.Common.{◌≡◌, ◌≢◌, ℕ, zero, suc, ◌*◌, ◌≤◌, ◌<◌, refl, sym, subst, ap, ◌∙◌, arith, to_z, of_z, FitsSigned, inl, inr, ◌⊎◌}
use Rattle.std.specs.Prelude.{ℤ, pos, negsuc, ◌+ℤ◌, ◌-ℤ◌, ◌*ℤ◌, ◌≤ℤ◌, nat_abs, int_div, [], ◌∷◌}
use Rattle.std.specs.Int.{w32, ◌∣◌, IsGcd}
use Rattle.std.proofs.lemmas.Int.{ints, to_z_pos, unsigned_abs-mul}
use Rattle.std.proofs.lemmas.Nat.Gcd.{le_of_dvd, same_from_IsGcd}
use Rattle.sum_algebra.proofs.Ring.{var, ring}
use Rattle.sum_algebra.proofs.IntegerRing.{ints_ring, ◌:+◌, ◌:*◌, ◌:-◌, X, Y, Z}
use Rattle.sum_algebra.proofs.Integers.{zero-or-not, positive-mul}
use Rattle.scattering.specs.Series.{Exp, origin, scale, det, IsMultiple}
use Rattle.scattering.specs.Plane.{Point, IsDirection, Beyond}
use Rattle.plane_theory.proofs.Directions.{Multiple, as_multiple, cancel, positive-not, zero-factor, direction-zero}
use Rattle.frac_128.proofs.Divided.{divided}

-- ---- the division

module _ (x : Exp) (la : nat_abs x.a ≤ 3584) (lb : nat_abs x.b ≤ 3584) (moves : x ≢ origin) (u v g : ℕ) (ua : u ≡ nat_abs (to_z w32 (of_z w32 x.a))) (vb : v ≡ nat_abs (to_z w32 (of_z w32 x.b))) (h : IsGcd u v g) where
  pub multiple : Multiple x
  multiple = as_multiple x moves

  back : (y : ℤ) → nat_abs y ≤ 3584 → to_z w32 (of_z w32 y) ≡ y
  back y l = omega (arith, ints, l)

  common : IsGcd (nat_abs x.a) (nat_abs x.b) g
  common = subst (λ (k : ℕ). IsGcd k (nat_abs x.b) g) (ua ∙ ap nat_abs (back x.a la)) (subst (λ (k : ℕ). IsGcd u k g) (vb ∙ ap nat_abs (back x.b lb)) h)

  same : multiple.g ≡ g
  same = same_from_IsGcd (nat_abs x.a) (nat_abs x.b) multiple.g g multiple.gcd common

  pub gcd-above : 0 < g
  gcd-above = let p = multiple.positive in let e = same in omega (arith, ints, p, e)

  positive : pos 1 ≤ℤ pos g
  positive = let p = gcd-above in omega (arith, ints, p)

  below : g ≤ 3584
  below = go (zero-or-not x.a) (zero-or-not x.b)
    where
      above : (y : ℤ) → y ≢ pos 0 → 0 < nat_abs y
      above (pos zero) n = absurd (n refl)
      above (pos (suc y)) n = omega arith
      above (negsuc y) n = omega arith

      go : (x.a ≡ pos 0) ⊎ (x.a ≢ pos 0) → (x.b ≡ pos 0) ⊎ (x.b ≢ pos 0) → g ≤ 3584
      go (inl p) (inl q) = absurd (moves (λ i. record { a = p i; b = q i }))
      go (inr p) q = let l = le_of_dvd {m = g} {n = nat_abs x.a} (above x.a p) common.0 in omega (arith, l, la)
      go (inl p) (inr q) = let l = le_of_dvd {m = g} {n = nat_abs x.b} (above x.b q) common.1 in omega (arith, l, lb)

  pub cast-fits : FitsSigned w32 (pos g)
  cast-fits = let l = below in omega (arith, ints, l)

  stored : to_z w32 g ≡ pos g
  stored = to_z_pos w32 g (let l = below in omega (arith, l))

  quotient : (y d : ℤ) → g ∣ nat_abs y → y ≡ pos multiple.g *ℤ d → int_div y (pos g) ≡ d
  quotient y d k e =
      cancel (pos g) (int_div y (pos g)) d (positive-not (pos g) positive)
      (ring ints_ring (pos g ∷ int_div y (pos g) ∷ []) (X :* Y) (Y :* X) refl ∙ sym (divided y g k) ∙ e ∙ ap (λ k. pos k *ℤ d) same)

  -- a number of the exponent, as the code divides it
  read : (y d : ℤ) → nat_abs y ≤ 3584 → g ∣ nat_abs y → y ≡ pos multiple.g *ℤ d → int_div (to_z w32 (of_z w32 y)) (to_z w32 g) ≡ d
  read y d l k e = ap (λ z. int_div z (to_z w32 g)) (back y l) ∙ ap (int_div y) stored ∙ quotient y d k e

  part-small : (y d : ℤ) → nat_abs y ≤ 3584 → y ≡ pos multiple.g *ℤ d → nat_abs d ≤ 3584
  part-small y d l e = let n = multiple.positive in small multiple.g y d n l e
    where
      grows : (g d : ℕ) → 1 ≤ g → d ≤ g * d
      grows zero d n = absurd (omega (arith, n))
      grows (suc g) d n = omega arith

      small : (k : ℕ) (y d : ℤ) → pos 1 ≤ℤ pos k → nat_abs y ≤ 3584 → y ≡ pos k *ℤ d → nat_abs d ≤ 3584
      small k y d n l e = let a = unsigned_abs-mul (pos k) d in let b = grows k (nat_abs d) (omega (arith, ints, n)) in let c = ap nat_abs e in omega (arith, a, b, c, l)

  first : x.a ≡ pos multiple.g *ℤ multiple.dir.a
  first = ap (λ (e : Exp). e.a) multiple.is

  second : x.b ≡ pos multiple.g *ℤ multiple.dir.b
  second = ap (λ (e : Exp). e.b) multiple.is

  pub first-is : int_div (to_z w32 (of_z w32 x.a)) (to_z w32 g) ≡ multiple.dir.a
  first-is = read x.a multiple.dir.a la common.0 first

  pub second-is : int_div (to_z w32 (of_z w32 x.b)) (to_z w32 g) ≡ multiple.dir.b
  second-is = read x.b multiple.dir.b lb common.1 second

  pub first-fits : FitsSigned w32 (int_div (to_z w32 (of_z w32 x.a)) (to_z w32 g))
  first-fits = subst (FitsSigned w32) (sym first-is) (let s = part-small x.a multiple.dir.a la first in omega (arith, ints, s))

  pub second-fits : FitsSigned w32 (int_div (to_z w32 (of_z w32 x.b)) (to_z w32 g))
  second-fits = subst (FitsSigned w32) (sym second-is) (let s = part-small x.b multiple.dir.b lb second in omega (arith, ints, s))

  kept : (y d : ℤ) → y ≡ d → nat_abs d ≤ 3584 → to_z w32 (of_z w32 y) ≡ d
  kept y d e l = ap (λ z. to_z w32 (of_z w32 z)) e ∙ back d l

  -- the direction that the code makes
  pub divided-first : to_z w32 (of_z w32 (int_div (to_z w32 (of_z w32 x.a)) (to_z w32 g))) ≡ multiple.dir.a
  divided-first = kept _ multiple.dir.a first-is (part-small x.a multiple.dir.a la first)

  pub divided-second : to_z w32 (of_z w32 (int_div (to_z w32 (of_z w32 x.b)) (to_z w32 g))) ≡ multiple.dir.b
  divided-second = kept _ multiple.dir.b second-is (part-small x.b multiple.dir.b lb second)

  made : (d : Exp) → d.a ≡ multiple.dir.a → d.b ≡ multiple.dir.b → multiple.dir ≡ d
  made d p q = λ i. record { a = sym p i; b = sym q i }

  pub made-direction : (d : Exp) → d.a ≡ multiple.dir.a → d.b ≡ multiple.dir.b → IsDirection d
  made-direction d p q = subst IsDirection (made d p q) multiple.direction

  pub made-multiple : (d : Exp) → d.a ≡ multiple.dir.a → d.b ≡ multiple.dir.b → IsMultiple d x
  made-multiple d p q = subst (λ (d : Exp). IsMultiple d x) (made d p q) (pos multiple.g, multiple.positive, multiple.is)

  pub made-small : (d : Exp) → d.a ≡ multiple.dir.a → d.b ≡ multiple.dir.b → (nat_abs d.a ≤ 4096) × (nat_abs d.b ≤ 4096)
  made-small d p q =
      let s = part-small x.a multiple.dir.a la first in let t = part-small x.b multiple.dir.b lb second in
      let a = ap nat_abs p in let b = ap nat_abs q in (omega (arith, s, a), omega (arith, t, b))

-- ---- a stretch along an exponent is one along its direction

pub beyond-shorter : (p : Point) (e x : Exp) (q : Point) → IsMultiple e x → Beyond p x q → Beyond p e q
beyond-shorter p e x q k h = go (subst (λ (y : Exp). Beyond p y q) k.2 h)
  where
    go : Beyond p (scale k.0 e) q → Beyond p e q
    go b = (
      b.0 *ℤ k.0,
      b.1,
      positive-mul b.0 k.0 b.2 k.1,
      record {
        below = b.3.below;
        x = b.3.x ∙ ap (λ t. q.w *ℤ (p.x *ℤ b.1 +ℤ t)) (ring ints_ring (b.0 ∷ k.0 ∷ e.a ∷ p.w ∷ []) (X :* (Y :* Z) :* var 3) (X :* Y :* Z :* var 3) refl);
        y = b.3.y ∙ ap (λ t. q.w *ℤ (p.y *ℤ b.1 +ℤ t)) (ring ints_ring (b.0 ∷ k.0 ∷ e.b ∷ p.w ∷ []) (X :* (Y :* Z) :* var 3) (X :* Y :* Z :* var 3) refl);
      },
    )

pub beyond-longer : (p : Point) (e x : Exp) (q : Point) → IsMultiple e x → Beyond p e q → Beyond p x q
beyond-longer p e x q k b = subst (λ (y : Exp). Beyond p y q) (sym k.2) (
  b.0,
  b.1 *ℤ k.0,
  b.2,
  record {
    below = positive-mul b.1 k.0 b.3.below k.1;
    x = grown q.x q.w p.x p.w e.a b.3.x;
    y = grown q.y q.w p.y p.w e.b b.3.y;
  },
)
  where
    grown : (a w c v f : ℤ) → a *ℤ (v *ℤ b.1) ≡ w *ℤ (c *ℤ b.1 +ℤ b.0 *ℤ f *ℤ v) → a *ℤ (v *ℤ (b.1 *ℤ k.0)) ≡ w *ℤ (c *ℤ (b.1 *ℤ k.0) +ℤ b.0 *ℤ (k.0 *ℤ f) *ℤ v)
    grown a w c v f h =
        ring ints_ring (a ∷ v ∷ b.1 ∷ k.0 ∷ []) (X :* (Y :* (Z :* var 3))) (X :* (Y :* Z) :* var 3) refl ∙ ap (λ t. t *ℤ k.0) h
        ∙ ring ints_ring (w ∷ c ∷ b.1 ∷ b.0 ∷ f ∷ v ∷ k.0 ∷ []) (X :* (Y :* Z :+ var 3 :* var 4 :* var 5) :* var 6) (X :* (Y :* (Z :* var 6) :+ var 3 :* (var 6 :* var 4) :* var 5)) refl

det-longer : (d e : Exp) (j : ℤ) → det d (scale j e) ≡ j *ℤ det d e
det-longer d e j = ring ints_ring (d.a ∷ d.b ∷ e.a ∷ e.b ∷ j ∷ []) (X :* (var 4 :* var 3) :- Y :* (var 4 :* Z)) (var 4 :* (X :* var 3 :- Y :* Z)) refl

-- a wall is parallel to both or to none
pub crosses-shorter : (d e x : Exp) → IsMultiple e x → det d x ≢ pos 0 → det d e ≢ pos 0
crosses-shorter d e x k n z = n (ap (det d) k.2 ∙ det-longer d e k.0 ∙ ap (λ t. k.0 *ℤ t) z ∙ times-none k.0)
  where
    times-none : (j : ℤ) → j *ℤ pos 0 ≡ pos 0
    times-none j = omega (arith, ints)

pub crosses-longer : (d e x : Exp) → IsMultiple e x → det d e ≢ pos 0 → det d x ≢ pos 0
crosses-longer d e x k n z = n (zero-factor k.0 (det d e) (positive-not k.0 k.1) (sym (det-longer d e k.0) ∙ sym (ap (det d) k.2) ∙ z))

-- of two walls that aren't parallel, one isn't parallel to the stretch
pub both-along : (u v e : Exp) → IsDirection e → det u e ≡ pos 0 → det v e ≡ pos 0 → det u v ≡ pos 0
both-along u v e d h k = direction-zero e d (det u v) (by-first ∙ none v.a u.a) (by-second ∙ none v.b u.b)
  where
    by-first : e.a *ℤ det u v ≡ v.a *ℤ det u e -ℤ u.a *ℤ det v e
    by-first = ring ints_ring (u.a ∷ u.b ∷ v.a ∷ v.b ∷ e.a ∷ e.b ∷ []) (var 4 :* (X :* var 3 :- Y :* Z)) (Z :* (X :* var 5 :- Y :* var 4) :- X :* (Z :* var 5 :- var 3 :* var 4)) refl

    by-second : e.b *ℤ det u v ≡ v.b *ℤ det u e -ℤ u.b *ℤ det v e
    by-second = ring ints_ring (u.a ∷ u.b ∷ v.a ∷ v.b ∷ e.a ∷ e.b ∷ []) (var 5 :* (X :* var 3 :- Y :* Z)) (var 3 :* (X :* var 5 :- Y :* var 4) :- Y :* (Z :* var 5 :- var 3 :* var 4)) refl

    none : (a b : ℤ) → a *ℤ det u e -ℤ b *ℤ det v e ≡ pos 0
    none a b = (λ i. a *ℤ h i -ℤ b *ℤ k i) ∙ zeros a b
      where
        zeros : (a b : ℤ) → a *ℤ pos 0 -ℤ b *ℤ pos 0 ≡ pos 0
        zeros a b = omega (arith, ints)
