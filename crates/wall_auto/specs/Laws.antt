-- What is proved here of the results of crossings: series of one order k, of a wall function f of direction d.
-- `Crosses d f s g x` says that x is the series of the crossing of g with the sign s, as `cross` answers; products are those of `mul`.
--     IsLightAcross d f g      the condition of `cross`
--     BoundsCrossing d f g m   m is what `cross_majorant` answers of g
use Rattle.std.specs.Prelude.{◌≡◌, ◌≤◌, ◌↔◌, ℕ, ℤ, neg_ℤ}
use Rattle.limits.specs.Limits.{largest_weight}
use Rattle.scattering.specs.Series.{Exp, Key, Sum, IsWallFunction, origin, coef, mul, absolute, mass_to}
use Rattle.scattering.specs.Bracket.{bracket}
use Rattle.scattering.specs.LocalProduct.{cross, cross_majorant}
use Rattle.trunc_series.specs.Capped.{IsMajorantOf}
use Rattle.trunc_series.specs.Shown.{Seen, IsSeriesOf}

abbrev pub IsCrossed : ℕ → Exp → Sum → ℤ → Seen → Seen → Type 0
IsCrossed k d f s g x = IsSeriesOf x k (cross k d f s g.terms)

abbrev pub Crosses : Exp → Sum → ℤ → Seen → Seen → Type 0
Crosses d f s g x = IsCrossed g.order d f s g x

abbrev pub IsLightAcross : Exp → Sum → Seen → Type 0
IsLightAcross d f g = mass_to g.order (cross_majorant g.order d f (absolute g.terms)) ≤ largest_weight

abbrev pub BoundsCrossing : Exp → Sum → Seen → Seen → Type 0
BoundsCrossing d f g m = IsMajorantOf m g.order (cross_majorant g.order d f g.terms)

-- the crossing of a product is the product of the crossings
abbrev pub CrossedSeriesKeepProducts : Type 0
CrossedSeriesKeepProducts = (k m : ℕ) (d : Exp) (f : Sum) (s : ℤ) (g h p x y q r : Seen) → IsWallFunction m d f
    → IsSeriesOf p k (mul k g.terms h.terms) → IsCrossed k d f s g x → IsCrossed k d f s h y → IsCrossed k d f s p q → IsSeriesOf r k (mul k x.terms y.terms) → q ≡ r

-- the same of the bracket
abbrev pub CrossedSeriesKeepBrackets : Type 0
CrossedSeriesKeepBrackets = (k m : ℕ) (d : Exp) (f : Sum) (s : ℤ) (g h p x y q r : Seen) → IsWallFunction m d f
    → IsSeriesOf p k (bracket k g.terms h.terms) → IsCrossed k d f s g x → IsCrossed k d f s h y → IsCrossed k d f s p q → IsSeriesOf r k (bracket k x.terms y.terms) → q ≡ r

-- the terms of exponent (0, 0) stay
abbrev pub CrossedSeriesKeepCenter : Type 0
CrossedSeriesKeepCenter = (k m : ℕ) (d : Exp) (f : Sum) (s : ℤ) (g x : Seen) (l : Key) → IsWallFunction m d f → IsSeriesOf g k g.terms → IsCrossed k d f s g x → l.exp ≡ origin → coef x.terms l ≡ coef g.terms l

-- the crossing of the opposite side undoes it
abbrev pub CrossedSeriesAreUndone : Type 0
CrossedSeriesAreUndone = (k m : ℕ) (d : Exp) (f : Sum) (s : ℤ) (g x y : Seen) → IsWallFunction m d f → IsSeriesOf g k g.terms → IsCrossed k d f s g x → IsCrossed k d f (neg_ℤ s) x y → y ≡ g

-- the mass of the majorant of the crossing of a, the majorant of |g|, tells whether `cross` may be called of g
abbrev pub MajorantTestsCrossing : Type 0
MajorantTestsCrossing = (k m : ℕ) (d : Exp) (f g : Sum) (a h : Seen) → IsWallFunction m d f → IsMajorantOf a k (absolute g) → IsMajorantOf h k (cross_majorant k d f a.terms)
    → (mass_to k h.terms ≤ largest_weight) ↔ (mass_to k (cross_majorant k d f (absolute g)) ≤ largest_weight)
