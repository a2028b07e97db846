-- What a wall's direction and function have to meet, and that this has one proof at most.
use Rattle.std.specs.Prelude.{◌≡◌, ℕ, ◌*◌, ◌≤◌, nat_abs, ℤ, List, pos, ◌-ℤ◌, ◌*ℤ◌, ◌≤ℤ◌, [], ◌∷◌}
use Rattle.std.proofs.Common.{refl, sym, ◌∙◌, ap, arith}
use Rattle.std.proofs.lemmas.Int.{ints}
use mathlib.Core.Bool.{Bool-set}
use mathlib.Core.HLevel.{is_prop→PathP, ×_prop}
use lib.Dec.{T_prop}
use lib.Signed.{le_z}
use lib.IntN.{ℤ_set}
use Rattle.std.specs.Coded.{le_prop}
use Rattle.limits.specs.Limits.{exponent_per_degree, largest_mass}
use Rattle.sum_algebra.proofs.Ring.{nought, ring}
use Rattle.sum_algebra.proofs.IntegerRing.{ints_ring, ◌:*◌, ◌:-◌, X, Y, Z}
use Rattle.scattering.specs.Collections.{Every}
use Rattle.scattering.specs.Series.{Exp, Term, Sum, degree, rest, mass_to, scale, IsSeries, IsMultiple, IsWallFunction}
use Rattle.scattering.specs.Plane.{IsDirection}
use Rattle.scattering.specs.Wall.{Wall}
use Rattle.scattering.proofs.OneProof.{Every-prop, EveryPair-prop}
use Rattle.plane_theory.proofs.Directions.{direction-zero}
use Rattle.trunc_series.specs.Shown.{Seen}
use Rattle.plane_geom.specs.Shown.{vector_of}
use Rattle.plane_geom.specs.declared.Direction.{Direction}

-- no exponent is above 64 times its degree
abbrev pub IsTame : Term → Type 0
IsTame t =
    (nat_abs t.0.exp.a ≤ exponent_per_degree * degree t.0) × (nat_abs t.0.exp.b ≤ exponent_per_degree * degree t.0)

abbrev pub AreTameWalls : List Wall → Type 0
AreTameWalls ws = Every (λ w. Every IsTame w.function) ws

pub record IsProper (d : Direction) (f : Seen) : Type 0 where
  pub function : IsWallFunction f.order (vector_of d) f.terms
  pub mass : mass_to f.order f.terms ≤ largest_mass
  pub tame : Every IsTame f.terms

-- ---- one proof at most

IsSeries-prop : (n : ℕ) (f : Sum) → IsProp (IsSeries n f)
IsSeries-prop n f =
    let p = EveryPair-prop _ (λ t u. hlevel Bool-set) f in
    let q = Every-prop _ (λ t. hlevel) f in
    let r = Every-prop _ (λ t. le_prop) f in
    λ x y. λ i. record { rises = p x.rises y.rises i; nonzero = q x.nonzero y.nonzero i; low = r x.low y.low i }

same-product : (a j g : ℤ) → j *ℤ a ≡ g *ℤ a → a *ℤ (j -ℤ g) ≡ pos 0
same-product a j g e = ring ints_ring (a ∷ j ∷ g ∷ []) (X :* (Y :- Z)) (Y :* X :- Z :* X) refl ∙ ap (λ x. x -ℤ g *ℤ a) e ∙ ring ints_ring ((g *ℤ a) ∷ []) (X :- X) nought refl

pub same-multiple : (d : Exp) → IsDirection d → (j g : ℤ) → scale j d ≡ scale g d → j ≡ g
same-multiple d h j g e =
    let z = direction-zero d h (j -ℤ g) (same-product d.a j g (ap (λ (m : Exp). m.a) e)) (same-product d.b j g (ap (λ (m : Exp). m.b) e)) in
    omega (arith, ints, z)

IsMultiple-prop : (d m : Exp) → IsDirection d → IsProp (IsMultiple d m)
IsMultiple-prop d m h p q =
    let e : p.0 ≡ q.0 = same-multiple d h p.0 q.0 (sym p.2 ∙ q.2) in
    λ i. (e i, is_prop→PathP (λ i. pos 1 ≤ℤ e i) (λ i x y. λ j. record { le = T_prop (le_z (pos 1) (e i)) x.le y.le j }) p.1 q.1 i, is_prop→PathP (λ i. m ≡ scale (e i) d) (λ i. hlevel ℤ_set) p.2 q.2 i)

pub IsProper-prop : (d : Direction) (f : Seen) → IsProp (IsProper d f)
IsProper-prop d f x y =
    let s = IsSeries-prop f.order f.terms x.function.series y.function.series in
    let c = ℤ_set _ _ x.function.constant y.function.constant in
    let o = Every-prop _ (λ t. ×_prop le_prop (IsMultiple-prop (vector_of d) t.0.exp d.primitive)) (rest f.terms) x.function.others y.function.others in
    let m = le_prop x.mass y.mass in
    let t = Every-prop IsTame (λ t. ×_prop le_prop le_prop) f.terms x.tame y.tame in
    λ i. record { function = record { series = s i; constant = c i; others = o i }; mass = m i; tame = t i }
