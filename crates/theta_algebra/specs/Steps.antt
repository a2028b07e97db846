-- The steps of a product as the program takes them.
--     IsKnownDiagram e k                       what the diagram's type says of its walls, and that k is at most its order
--     IsAtStage ws k q s first d steps  d steps without a fault led to this family, to what it leaves of s, and to the weight
--     CanBeTaken, IsTermTaken, IsBegun      a term of the family, with whose theta the product is taken away;  the least degree at its exponent
use Rattle.std.specs.Prelude.{◌≡◌, ℕ, ◌+◌, ◌*◌, ◌-◌, ◌≤◌, min, nat_abs, neg_ℤ, List, [], ◌∷◌, ◌++◌, ℤ, None}
use Rattle.limits.specs.Limits.{highest_order, largest_weight}
use Rattle.scattering.specs.Collections.{Every}
use Rattle.scattering.specs.Series.{Exp, Sum, origin, degree, mul, IsSeries}
use Rattle.scattering.specs.Plane.{Point}
use Rattle.scattering.specs.Wall.{Wall, IsWall, walls}
use Rattle.scattering.specs.Theta.{IsAskFault, IsTheta}
use Rattle.scattering.specs.ThetaProduct.{BeginsAt, IsThetaProduct, IsThetaWeight}
use Rattle.trunc_series.specs.Shown.{exp_of, key_of, sum_of}
use Rattle.trunc_series.specs.Reduced.{Terms, IsKeptAs}
use Rattle.trunc_series.specs.declared.arithmetic.Arithmetic.TheVariants.{Wrapping}
use Rattle.trunc_series.specs.declared.key.Key.{Key as CodeKey}
use Rattle.scatter_diagram.specs.Listed.{SeenDiagram}
use Rattle.scatter_diagram.specs.Proper.{AreTameWalls}
use Rattle.theta_algebra.specs.Families.{largest_factor}
use Rattle.theta_algebra.specs.Stages.{GrowsFrom, GrowsFromFactors, IsStage}
use Rattle.theta_algebra.specs.declared.steps.Steps.{Steps}

pub record IsKnownDiagram (e : SeenDiagram) (k : ℕ) : Type 0 where
  pub limit : k ≤ e.order
  pub bound : e.order ≤ highest_order
  pub proper : Every (IsWall e.order) (walls e.diagram)
  pub tame : AreTameWalls (walls e.diagram)

-- d is the least degree of a term at r, where one has a degree of at most k
abbrev pub IsLeastDegreeAt : Sum → Exp → ℕ → ℕ → Type 0
IsLeastDegreeAt a r k d = (i : ℕ) → IsSeries k a → BeginsAt a r i → d ≡ i

-- the stage that the steps are at
abbrev pub IsAtStage : List Wall → ℕ → Point → Sum → ℕ → ℕ → Steps → Type 0
IsAtStage ws k q s first d steps = IsStage ws k q s first d (sum_of steps.family.items) (sum_of steps.left.items) steps.weight

abbrev pub IsAtSomeStage : List Wall → ℕ → Point → ℕ → Steps → Type 0
IsAtSomeStage ws k q d steps = (s : Sum) × (first : ℕ) × IsAtStage ws k q s first d steps

-- ---- one term

abbrev pub IsBegun : ℕ → Sum → CodeKey × ℤ → ℕ → Type 0
IsBegun k a t i = BeginsAt a (exp_of t.0.exp) i

pub record CanBeTaken (k : ℕ) (a : Sum) (t : CodeKey × ℤ) : Type 0 where
  pub series : IsSeries k a
  pub begun : (i : ℕ) × IsBegun k a t i
  pub low : degree (key_of t.0) ≤ k
  pub small : nat_abs t.1 ≤ largest_weight
  pub within : GrowsFrom (2 * largest_factor) (key_of t.0)

-- the powers of a term, with another coefficient
abbrev pub powers_with : CodeKey × ℤ → ℤ → Sum
powers_with t c = (record { powers = (key_of t.0).powers; exp = origin }, c) ∷ []

abbrev pub taken_away : CodeKey × ℤ → Sum
taken_away t = powers_with t (neg_ℤ t.1)

-- where `left` stands for a sum, r stands for it without t times the theta
abbrev pub Leaves : ℕ → Terms → CodeKey × ℤ → Terms → Terms → Type 0
Leaves k left t theta r = (f : Sum) → IsKeptAs Wrapping k (sum_of left) f → IsKeptAs Wrapping k (sum_of r) (f ++ mul k (taken_away t) (sum_of theta))

pub record IsTermTaken (ws : List Wall) (k : ℕ) (q : Point) (t : CodeKey × ℤ) (before after : Steps) : Type 0 where
  pub family : sum_of after.family.items ≡ sum_of before.family.items
  pub theta : Sum
  pub weight : ℕ
  pub begun : ℕ
  pub begins : IsBegun k (sum_of before.family.items) t begun
  pub is : IsTheta ws (k - begun) (exp_of t.0.exp) q theta
  pub free : IsAskFault ws (k - begun) (exp_of t.0.exp) q None
  pub weighs : IsThetaWeight ws (k - begun) (exp_of t.0.exp) q weight
  pub grows : after.weight ≡ min (before.weight + nat_abs t.1 * weight) (largest_weight + 1)
  pub left : (f : Sum) → IsKeptAs Wrapping k (sum_of before.left.items) f → IsKeptAs Wrapping k (sum_of after.left.items) (f ++ mul k (taken_away t) theta)
  pub near : IsKeptAs Wrapping k (sum_of before.left.items) (sum_of before.left.items) → Every GrowsFromFactors (sum_of before.left.items) → Every GrowsFromFactors (sum_of after.left.items)

-- ---- the whole

-- before the first step, where neither theta has a fault and the product of their weights isn't too large
pub record IsBegunProduct (ws : List Wall) (k : ℕ) (l r : Exp) (q : Point) (steps : Steps) : Type 0 where
  pub s : Sum
  pub product : IsThetaProduct ws k l r q s
  pub x : ℕ
  pub y : ℕ
  pub first : IsAskFault ws k l q None
  pub second : IsAskFault ws k r q None
  pub weighs : IsThetaWeight ws k l q x
  pub weighs_too : IsThetaWeight ws k r q y
  pub light : x * y ≤ largest_weight
  pub reached : IsAtStage ws k q s (x * y) 0 steps
