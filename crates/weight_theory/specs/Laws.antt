-- What is proved here of weights: the weight of a point bounds all that is formed on the way to the images and corrections there.
-- A majorant has at each key a coefficient that is at least the absolute value of the coefficient of what it bounds, up to degree k.
--     IsBelow k f F          F is a majorant of f
--     IsNonnegative F        no coefficient in the list is below 0, as in |g| and in a monomial
--     HaveFunctions ws       each wall has a wall function of some order
--     AreHalves hs           so have the walls of half-walls, and each side is 1 or -1
--     AreWhole h vs          vs are the whole values gcd·c of the terms of h, in their order
-- A crossing is that of a wall function f of direction d, of any order, with the sign 1 or -1.
use Rattle.std.specs.Prelude.{◌≡◌, ◌≢◌, ℕ, ◌+◌, ◌≤◌, nat_abs, IsTrue, List, [], ◌∷◌, ◌++◌, ℤ, pos, ◌*ℤ◌, ◌≤ℤ◌}
use Rattle.std.specs.List.{sum_by}
use Rattle.std.specs.Int.{IsGcd}
use Rattle.scattering.specs.Collections.{In, Every, EveryPair}
use Rattle.scattering.specs.Series.{Exp, Key, Sum, origin, degree, coef, absolute, cut, pow, power, geometric, monomial, z, mass_to, SameTo, IsSeries, IsWallFunction}
use Rattle.scattering.specs.Plane.{Point}
use Rattle.scattering.specs.Wall.{Wall, starts_at}
use Rattle.scattering.specs.LocalProduct.{Half, half_walls, cross, cross_majorant, carry, carry_majorant, image, axis_x, axis_y, weight}
use Rattle.scattering.specs.Correction.{Ratio, Lie, IsCorrection}

abbrev pub IsBelow : ℕ → Sum → Sum → Type 0
IsBelow k f F = (x : Key) → degree x ≤ k → pos (nat_abs (coef f x)) ≤ℤ coef F x

abbrev pub IsNonnegative : Sum → Type 0
IsNonnegative F = Every (λ t. pos 0 ≤ℤ t.1) F

-- ---- powers and crossings

-- f^n is below G^|n|, where G = 1/(2 - |f|)
abbrev pub PowerIsBelow : Type 0
PowerIsBelow = (k m : ℕ) (d : Exp) (f : Sum) (n : ℤ) → IsWallFunction m d f → IsBelow k (power k f n) (pow k (geometric k f) (nat_abs n))

abbrev pub CrossingIsBelow : Type 0
CrossingIsBelow = (k m : ℕ) (d : Exp) (f : Sum) (s : ℤ) (g G : Sum) → IsWallFunction m d f → nat_abs s ≡ 1 → IsBelow k g G → IsBelow k (cross k d f s g) (cross_majorant k d f G)

abbrev pub AbsoluteIsAbove : Type 0
AbsoluteIsAbove = (k : ℕ) (g : Sum) → IsBelow k g (absolute g)

-- ---- masses

-- of a list in which no key stands twice
abbrev pub MassIsBelow : Type 0
MassIsBelow = (k : ℕ) (s h H : Sum) → EveryPair (λ t u. t.0 ≢ u.0) s → SameTo k s h → IsBelow k h H → mass_to k s ≤ mass_to k H

-- of a series of any order
abbrev pub SeriesMassIsBelow : Type 0
SeriesMassIsBelow = (k m : ℕ) (s h H : Sum) → IsSeries m s → SameTo k s h → IsBelow k h H → mass_to k s ≤ mass_to k H

abbrev pub CoefficientIsBelow : Type 0
CoefficientIsBelow = (k : ℕ) (h H : Sum) (x : Key) → degree x ≤ k → IsBelow k h H → nat_abs (coef h x) ≤ mass_to k H

-- of a series that is what a crossing makes of g
abbrev pub CrossingIsLight : Type 0
CrossingIsLight = (k m n : ℕ) (d : Exp) (f : Sum) (s : ℤ) (g x : Sum) → IsWallFunction m d f → nat_abs s ≡ 1 → IsSeries n x → SameTo k x (cross k d f s g)
    → mass_to k x ≤ mass_to k (cross_majorant k d f (absolute g))

-- the absolute values of a series are below each majorant of it, so they can stand for it in the next crossing
abbrev pub SeriesAbsoluteIsBelow : Type 0
SeriesAbsoluteIsBelow = (k m : ℕ) (s h H : Sum) → IsSeries m s → SameTo k s h → IsBelow k h H → IsBelow k (absolute s) H

-- a greater majorant has a greater one after the crossing, also by its mass; the function can be any sum
abbrev pub MajorantIsMonotone : Type 0
MajorantIsMonotone = (k : ℕ) (d : Exp) (f F G : Sum) → IsBelow k F G → IsBelow k (cross_majorant k d f F) (cross_majorant k d f G)

abbrev pub MajorantMassIsMonotone : Type 0
MajorantMassIsMonotone = (k : ℕ) (d : Exp) (f F G : Sum) → IsNonnegative F → IsBelow k F G → mass_to k (cross_majorant k d f F) ≤ mass_to k (cross_majorant k d f G)

abbrev pub MajorantStaysNonnegative : Type 0
MajorantStaysNonnegative = (k : ℕ) (d : Exp) (f F : Sum) → IsNonnegative F → IsNonnegative (cross_majorant k d f F)

-- ---- the stages of images

abbrev pub HasFunction : Wall → Type 0
HasFunction w = (m : ℕ) × IsWallFunction m w.dir w.function

abbrev pub HaveFunctions : List Wall → Type 0
HaveFunctions ws = Every HasFunction ws

abbrev pub AreHalves : List Half → Type 0
AreHalves hs = Every (λ h. HasFunction h.wall × (nat_abs h.side ≡ 1)) hs

-- a majorant only grows from one crossing to the next
abbrev pub StageIsLight : Type 0
StageIsLight = (k : ℕ) (hs hs' : List Half) (g : Sum) → IsNonnegative g → mass_to k (carry_majorant k hs g) ≤ mass_to k (carry_majorant k (hs ++ hs') g)

-- after any of the half-walls at p
abbrev pub MajorantStagesAreLight : Type 0
MajorantStagesAreLight = (ws : List Wall) (p : Point) (k : ℕ) (hs hs' : List Half) → half_walls ws p ≡ hs ++ hs'
    → mass_to k (carry_majorant k hs (monomial (z axis_x))) + mass_to k (carry_majorant k hs (monomial (z axis_y))) ≤ weight ws p k

abbrev pub CarryIsBelow : Type 0
CarryIsBelow = (k : ℕ) (hs : List Half) (g G : Sum) → AreHalves hs → IsBelow k g G → IsBelow k (carry k hs g) (carry_majorant k hs G)

abbrev pub ImageIsBelow : Type 0
ImageIsBelow = (k : ℕ) (hs : List Half) (m : Exp) → AreHalves hs → IsBelow k (carry k hs (monomial (z m))) (carry_majorant k hs (monomial (z m)))

-- the half-walls at a point are such
abbrev pub HalvesHaveFunctions : Type 0
HalvesHaveFunctions = (ws : List Wall) (p : Point) → HaveFunctions ws → AreHalves (half_walls ws p)

-- after any of the half-walls at p, both as series
abbrev pub StagesAreLight : Type 0
StagesAreLight = (ws : List Wall) (p : Point) (k m n : ℕ) (hs hs' : List Half) (x y : Sum) → HaveFunctions ws → half_walls ws p ≡ hs ++ hs' → IsSeries m x → IsSeries n y
    → SameTo k x (carry k hs (monomial (z axis_x))) → SameTo k y (carry k hs (monomial (z axis_y))) → mass_to k x + mass_to k y ≤ weight ws p k

-- and the majorants of what the next half-wall makes of them
abbrev pub NextStagesAreLight : Type 0
NextStagesAreLight = (ws : List Wall) (p : Point) (k m n : ℕ) (hs : List Half) (h : Half) (hs' : List Half) (x y : Sum) → HaveFunctions ws → half_walls ws p ≡ hs ++ h ∷ hs' → IsSeries m x → IsSeries n y
    → SameTo k x (carry k hs (monomial (z axis_x))) → SameTo k y (carry k hs (monomial (z axis_y)))
    → mass_to k (cross_majorant k h.wall.dir h.wall.function (absolute x)) + mass_to k (cross_majorant k h.wall.dir h.wall.function (absolute y)) ≤ weight ws p k

-- after all of them
abbrev pub ImagesAreLight : Type 0
ImagesAreLight = (ws : List Wall) (p : Point) (k m n : ℕ) (x y : Sum) → HaveFunctions ws → IsSeries m x → IsSeries n y
    → SameTo k x (image ws p k axis_x) → SameTo k y (image ws p k axis_y) → mass_to k x + mass_to k y ≤ weight ws p k

-- ---- rays that start at a point

abbrev pub StartingRayIsLight : Type 0
StartingRayIsLight = (ws : List Wall) (p : Point) (k : ℕ) (r : Wall) → HaveFunctions ws → In r ws → IsTrue (starts_at r p) → r.dir ≢ origin → mass_to k r.function ≤ weight ws p k

-- also with the function cut to any degree
abbrev pub StartingCutRayIsLight : Type 0
StartingCutRayIsLight = (ws : List Wall) (p : Point) (k j : ℕ) (r : Wall) → HaveFunctions ws → In r ws → IsTrue (starts_at r p) → r.dir ≢ origin → mass_to k (cut j r.function) ≤ weight ws p k

-- ---- corrections

-- v is g·c, where c is the coefficient and g the gcd of the exponent
abbrev pub IsWholeValue : Key × Ratio → ℤ → Type 0
IsWholeValue t v = (g : ℕ) × IsGcd (nat_abs t.0.exp.a) (nat_abs t.0.exp.b) g × (v *ℤ t.1.den ≡ t.1.num *ℤ pos g)

abbrev pub AreWhole : Lie → List ℤ → Type 0
AreWhole [] [] = Unit {0}
AreWhole [] (v ∷ vs) = ⊥
AreWhole (t ∷ h) [] = ⊥
AreWhole (t ∷ h) (v ∷ vs) = IsWholeValue t v × AreWhole h vs

abbrev pub CorrectionIsLight : Type 0
CorrectionIsLight = (ws : List Wall) (p : Point) (n : ℕ) (h : Lie) (vs : List ℤ) → HaveFunctions ws → IsCorrection ws p n h → AreWhole h vs → sum_by nat_abs vs ≤ weight ws p n

abbrev pub CorrectionTermIsLight : Type 0
CorrectionTermIsLight = (ws : List Wall) (p : Point) (n : ℕ) (h : Lie) (t : Key × Ratio) (v : ℤ) → HaveFunctions ws → IsCorrection ws p n h → In t h → IsWholeValue t v → nat_abs v ≤ weight ws p n
