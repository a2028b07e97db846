-- A quotient in lowest terms.
use Rattle.std.proofs.Common.{◌≡◌, ◌≢◌, ℕ, zero, suc, refl, sym, ◌∙◌, ap, [], ◌∷◌, ◌≤◌, arith}
use Rattle.std.specs.Prelude.{ℤ, pos, negsuc, ◌+ℤ◌, ◌-ℤ◌, ◌*ℤ◌, ◌≤ℤ◌}
use Rattle.std.proofs.lemmas.Int.{ints}
use lib.IntN.{*ℤ-zero, pos-*ℤ-negsuc}
use Rattle.sum_algebra.proofs.Ring.{var, plus, times, minus, nought, ring}
use Rattle.sum_algebra.proofs.Ring as E
use Rattle.sum_algebra.proofs.IntegerRing.{ints_ring, ◌:+◌, ◌:*◌, ◌:-◌, X, Y, Z}
use Rattle.scattering.specs.Series.{Exp, origin, det}
use Rattle.scattering.specs.Plane.{IsDirection}
use Rattle.scattering.specs.LocalProduct.{axis_x, axis_y}
use Rattle.scattering.specs.Correction.{Ratio, IsRatio}
use Rattle.plane_theory.proofs.Directions.{as_multiple, combination}

pub record Reduced (t : ℤ) (g : ℕ) : Type 0 where
  pub ratio : Ratio
  pub is_ratio : IsRatio ratio
  pub same : t *ℤ ratio.den ≡ ratio.num *ℤ pos g

den-above : (m q g : ℤ) → pos 1 ≤ℤ m → pos 1 ≤ℤ g → g ≡ m *ℤ q → pos 1 ≤ℤ q
den-above (negsuc m) q g p l e = absurd (omega (arith, ints, p))
den-above (pos m) (pos zero) g p l e = let z = *ℤ-zero (pos m) in absurd (omega (arith, ints, l, e, z))
den-above (pos m) (pos (suc q)) g p l e = omega (arith, ints)
den-above (pos m) (negsuc q) g p l e = let z = pos-*ℤ-negsuc m q in absurd (omega (arith, ints, l, e, z))

above-of : (g : ℕ) → 1 ≤ g → pos 1 ≤ℤ pos g
above-of g h = omega (arith, ints, h)

not_origin : (t : ℤ) (g : ℕ) → 1 ≤ g → ◌≢◌ {A = Exp} (record { a = t; b = pos g }) origin
not_origin t g h e = let b : pos g ≡ pos 0 = ap (λ (m : Exp). m.b) e in omega (arith, ints, b, h)

pub reduce : (t : ℤ) (g : ℕ) → 1 ≤ g → Reduced t g
reduce t g h =
    let m = as_multiple (record { a = t; b = pos g }) (not_origin t g h) in
    let x : t ≡ pos m.g *ℤ m.dir.a = ap (λ (e : Exp). e.a) m.is in
    let y : pos g ≡ pos m.g *ℤ m.dir.b = ap (λ (e : Exp). e.b) m.is in
    record {
      ratio = record { num = m.dir.a; den = m.dir.b };
      is_ratio = record { below = den-above (pos m.g) m.dir.b (pos g) m.positive (above-of g h) y; lowest = m.direction };
      same = ap (λ n. n *ℤ m.dir.b) x ∙ ring ints_ring (pos m.g ∷ m.dir.a ∷ m.dir.b ∷ []) ((X :* Y) :* Z) (Y :* (X :* Z)) refl ∙ ap (λ n. m.dir.a *ℤ n) (sym y);
    }

-- two numbers that a direction kills are multiples of its two determinants by one number
pub one_number : (d : Exp) → IsDirection d → (a b : ℤ) → d.a *ℤ a +ℤ d.b *ℤ b ≡ pos 0 → (t : ℤ) × (a ≡ t *ℤ det d axis_x) × (b ≡ t *ℤ det d axis_y)
one_number d h a b e =
    let c = combination d h in
    let u = c.0 in
    let v = c.1 in (
      u *ℤ b -ℤ v *ℤ a,
      ring ints_ring (a ∷ []) X (E.unit :* X) refl ∙ ap (λ n. n *ℤ a) (sym c.2)
          ∙ ring ints_ring (d.a ∷ d.b ∷ a ∷ b ∷ u ∷ v ∷ []) ((var 4 :* X :+ var 5 :* Y) :* Z) (var 4 :* (X :* Z :+ Y :* var 3) :+ (var 4 :* var 3 :- var 5 :* Z) :* (X :* nought :- Y :* E.unit)) refl
          ∙ ap (λ n. u *ℤ n +ℤ (u *ℤ b -ℤ v *ℤ a) *ℤ det d axis_x) e ∙ ring ints_ring (u ∷ ((u *ℤ b -ℤ v *ℤ a) *ℤ det d axis_x) ∷ []) (X :* nought :+ Y) Y refl,
      ring ints_ring (b ∷ []) X (E.unit :* X) refl ∙ ap (λ n. n *ℤ b) (sym c.2)
          ∙ ring ints_ring (d.a ∷ d.b ∷ a ∷ b ∷ u ∷ v ∷ []) ((var 4 :* X :+ var 5 :* Y) :* var 3) (var 5 :* (X :* Z :+ Y :* var 3) :+ (var 4 :* var 3 :- var 5 :* Z) :* (X :* E.unit :- Y :* nought)) refl
          ∙ ap (λ n. v *ℤ n +ℤ (u *ℤ b -ℤ v *ℤ a) *ℤ det d axis_y) e ∙ ring ints_ring (v ∷ ((u *ℤ b -ℤ v *ℤ a) *ℤ det d axis_y) ∷ []) (X :* nought :+ Y) Y refl,
    )
