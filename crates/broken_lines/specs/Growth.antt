-- How the exponents that are known grow while those of one degree are found.
--     Has g x i, IsKnown g x     x is known with the reach i;  with some reach
--     Gains P old new            new knows what old knew and all with P, these with the degree at hand
--     AddsSteps P ..             and the new ones were appended to the steps
--     IsTooMany P old f          f is want of memory, or more than 2^18 exponents are known or have P
use Rattle.std.specs.Prelude.{◌≡◌, ℕ, ◌-◌, ◌≤◌, ◌<◌, ◌⊎◌, nat_abs, List, length, All, slice_index_or, Vec, Some}
use Rattle.std.specs.Global.{Global}
use Rattle.std.specs.BTreeMap.{get}
use Rattle.std.specs.Ordering.{int_cmp, ordering_then}
use Rattle.std.specs.declared.cmp.Ordering.{Ordering}
use Rattle.limits.specs.Limits.{largest_exponent, most_reached}
use Rattle.scattering.specs.Collections.{In, Every, Distinct}
use Rattle.scattering.specs.Series.{Sum, Term, degree, exp_add}
use Rattle.scattering.specs.Wall.{Wall}
use Rattle.trunc_series.specs.Shown.{exp_of}
use Rattle.trunc_series.specs.declared.key.Exp.{Exp as CodeExp}
use Rattle.broken_lines.specs.declared.growth.Growth.{Growth}
use Rattle.broken_lines.specs.declared.fault.AskFault.{AskFault}
use Rattle.broken_lines.specs.declared.fault.AskFault.TheVariants.{NotYet, NotGeneric, TooManyReach, TooManyTails, PointTooLarge, WeightTooLarge, Memory}

-- the order of exponents: by a, then b
abbrev pub exp_cmp : CodeExp → CodeExp → Ordering
exp_cmp x y = ordering_then (int_cmp x.a y.a) (int_cmp x.b y.b)

abbrev pub Has : Growth → CodeExp → ℕ → Type 0
Has g x i = get exp_cmp g.known x ≡ Some i

abbrev pub IsKnown : Growth → CodeExp → Type 0
IsKnown g x = (i : ℕ) × Has g x i

abbrev pub IsNew : Growth → CodeExp → Type 0
IsNew g x = IsKnown g x → ⊥

-- the level lists what is known with the degree at hand
abbrev pub IsTracked : Growth → Type 0
IsTracked g = ((x : CodeExp) → In x g.level.items → Has g x g.degree) × ((x : CodeExp) → Has g x g.degree → In x g.level.items)

pub record Gains (P : CodeExp → Type 0) (old new : Growth) : Type 0 where
  pub degree : new.degree ≡ old.degree
  pub keeps : (x : CodeExp) (i : ℕ) → Has old x i → Has new x i
  pub each : (x : CodeExp) (i : ℕ) → Has new x i → Has old x i ⊎ ((i ≡ old.degree) × P x)
  pub all : (x : CodeExp) → P x → IsKnown new x
  pub tracks : IsTracked old → IsTracked new
  pub few : length old.known.entries ≤ most_reached → length new.known.entries ≤ most_reached

-- more exponents than are allowed are known or have P
abbrev pub AreTooMany : (CodeExp → Type 0) → Growth → Type 0
AreTooMany P old = (xs : List CodeExp) × Every (λ x. IsKnown old x ⊎ P x) xs × Distinct xs × (most_reached < length xs)

abbrev pub IsTooMany : (CodeExp → Type 0) → Growth → AskFault → Type 0
IsTooMany P old (NotYet n) = ⊥
IsTooMany P old (NotGeneric p) = ⊥
IsTooMany P old TooManyReach = AreTooMany P old
IsTooMany P old TooManyTails = ⊥
IsTooMany P old PointTooLarge = ⊥
IsTooMany P old WeightTooLarge = ⊥
IsTooMany P old Memory = Unit {0}

-- ---- numbers that can be added

abbrev pub IsSummable : CodeExp → Type 0
IsSummable x = (nat_abs x.a ≤ largest_exponent) × (nat_abs x.b ≤ largest_exponent)

abbrev pub AreSummable : List CodeExp → Type 0
AreSummable xs = All IsSummable xs

abbrev pub AreLevelsSummable : List (Vec CodeExp Global) → Type 0
AreLevelsSummable ls = All (λ l. AreSummable l.items) ls

-- steps of degrees from 1 to below n
abbrev pub AreSteps : ℕ → List (CodeExp × ℕ) → Type 0
AreSteps n ss = All (λ s. IsSummable s.0 × (1 ≤ s.1) × (s.1 < n)) ss

-- ---- what is added

abbrev pub IsShifted : CodeExp → List CodeExp → CodeExp → Type 0
IsShifted step from y = (x : CodeExp) × In x from × (exp_of y ≡ exp_add (exp_of step) (exp_of x))

-- a step and an exponent of the level that is left
abbrev pub IsStepped : List (CodeExp × ℕ) → List (Vec CodeExp Global) → ℕ → CodeExp → Type 0
IsStepped ss ls n y = (s : CodeExp × ℕ) × (l : Vec CodeExp Global) × In s ss × (l ≡ slice_index_or ls (n - s.1) l) × IsShifted s.0 l.items y

abbrev pub IsTermOf : ℕ → Sum → CodeExp → Type 0
IsTermOf n f y = (t : Term) × In t f × (degree t.0 ≡ n) × (exp_of y ≡ t.0.exp)

abbrev pub IsTermOfSome : ℕ → List Wall → CodeExp → Type 0
IsTermOfSome n ws y = (w : Wall) × In w ws × IsTermOf n w.function y

-- the new ones with P were appended to the steps
pub record AddsSteps (P : CodeExp → Type 0) (old new : Growth) (before after : List (CodeExp × ℕ)) : Type 0 where
  pub keeps : (s : CodeExp × ℕ) → In s before → In s after
  pub each : (s : CodeExp × ℕ) → In s after → In s before ⊎ (P s.0 × (s.1 ≡ old.degree))
  pub all : (x : CodeExp) → IsKnown new x → IsKnown old x ⊎ In (x, old.degree) after
