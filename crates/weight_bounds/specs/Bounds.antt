-- What is known of the weight of a point while its half-walls are crossed.
--     SeenReach, SeenBound        what contracts see of exponents by degree, and of masses by degree
--     ReachesHalf, ReachesHalves  the exponents of half-walls' functions are within those numbers
--     BoundsSum b g               the numbers bound the masses and exponents of the sum g
--     BoundsImages b hs           those of the majorants of both images after the half-walls hs
--     BoundsWeight w k hs         w is at least the mass of both majorants together
--     IsWeightBound b w           w is, whatever half-walls were crossed
--     BoundsOneMore old t new     the new numbers bound the images after one half-wall more
use Rattle.std.specs.Prelude.{◌≡◌, ℕ, ◌+◌, ◌≤◌, nat_abs, List, [], ◌∷◌, ◌++◌, slice_index}
use Rattle.scattering.specs.Collections.{Every}
use Rattle.scattering.specs.Series.{Exp, Sum, degree, z, monomial, mass_to}
use Rattle.scattering.specs.LocalProduct.{Half, carry_majorant, axis_x, axis_y}
use Rattle.weight_bounds.specs.Masses.{mass_at, BoundsByDegree, IsReached}
use Rattle.weight_bounds.specs.Tables.{SeenMassTable, IsMassTable}

-- the largest exponents of wall functions, by degree
pub record SeenReach : Type 0 where
  pub order : ℕ
  pub most : List ℕ

-- the largest exponents of products of wall functions, and masses of both images, by degree
pub record SeenBound : Type 0 where
  pub order : ℕ
  pub reach : List ℕ
  pub masses : List ℕ

-- t is the table of the half-wall's wall
abbrev pub HasMassTable : ℕ → SeenMassTable → Half → Type 0
HasMassTable k t h = IsMassTable k h.wall.dir h.wall.function t

abbrev pub ReachesHalf : ℕ → List ℕ → Half → Type 0
ReachesHalf k reach h = IsReached k reach h.wall.function

abbrev pub ReachesHalves : ℕ → List ℕ → List Half → Type 0
ReachesHalves k reach hs = Every (ReachesHalf k reach) hs

-- whatever function is within the old numbers is within the new ones
abbrev pub ReachesAsFar : ℕ → List ℕ → List ℕ → Type 0
ReachesAsFar k old new = (f : Sum) → IsReached k old f → IsReached k new f

-- products reach what their factors do together
abbrev pub IsClosed : ℕ → List ℕ → Type 0
IsClosed k reach = (i j : ℕ) → i + j ≤ k → slice_index reach i + slice_index reach j ≤ slice_index reach (i + j)

pub record BoundsSum (b : SeenBound) (g : Sum) : Type 0 where
  pub exponents : Every (λ t. degree t.0 ≤ b.order → (nat_abs t.0.exp.a ≤ 1 + slice_index b.reach (degree t.0)) × (nat_abs t.0.exp.b ≤ 1 + slice_index b.reach (degree t.0))) g
  pub masses : BoundsByDegree b.order b.masses (λ i. mass_at i g)

abbrev pub majorant_of : ℕ → List Half → Exp → Sum
majorant_of k hs m = carry_majorant k hs (monomial (z m))

pub record BoundsImages (b : SeenBound) (hs : List Half) : Type 0 where
  pub x : BoundsSum b (majorant_of b.order hs axis_x)
  pub y : BoundsSum b (majorant_of b.order hs axis_y)

abbrev pub BoundsWeight : ℕ → ℕ → List Half → Type 0
BoundsWeight w k hs = mass_to k (majorant_of k hs axis_x) + mass_to k (majorant_of k hs axis_y) ≤ w

-- so whatever half-walls were crossed
abbrev pub IsWeightBound : SeenBound → ℕ → Type 0
IsWeightBound b w = (hs : List Half) → BoundsImages b hs → BoundsWeight w b.order hs

-- and one more half-wall, of this table, after them
abbrev pub BoundsOneMore : SeenBound → SeenMassTable → SeenBound → Type 0
BoundsOneMore old t new = (hs : List Half) (h : Half) → HasMassTable old.order t h → ReachesHalf old.order old.reach h → BoundsImages old hs → BoundsImages new (hs ++ h ∷ [])

-- no number of degree to k is less
abbrev pub IsNoLess : ℕ → List ℕ → List ℕ → Type 0
IsNoLess k old new = (i : ℕ) → i ≤ k → slice_index old i ≤ slice_index new i

-- m is at least the number of degree e, and each sum of two of lower degrees that sum to e
pub record IsFarthest (reach : List ℕ) (e m : ℕ) : Type 0 where
  pub own : slice_index reach e ≤ m
  pub sums : (i j : ℕ) → 1 ≤ i → 1 ≤ j → i + j ≡ e → slice_index reach i + slice_index reach j ≤ m
