-- The product of two thetas as a family of thetas.
--     IsFamily ws k l r q a             the family a fits: its sum of a_r·theta_r is the product of the thetas of l and r
--     Runs ws k q s first d a n         d steps lead to the family a with the running weight n, without a fault
--     IsProductFault ws k l r q fault   the first fault of the product, or none
-- A family is one series: its term c·t^P·z^r is the term c·t^P of the series at r.
use Rattle.std.specs.Prelude.{◌≡◌, ◌≢◌, ℕ, suc, ◌+◌, ◌*◌, ◌-◌, ◌<◌, ◌≤◌, ◌⊎◌, ◌==◌, IsTrue, List, [], ◌∷◌, ◌++◌, filter, flat_map, nat_abs, pos, Option, Some, None}
use Rattle.std.specs.Bool.{MatchBool}
use Rattle.limits.specs.Limits.{largest_weight}
use Rattle.scattering.specs.Series.{Exp, Key, Sum, origin, exp_eq, exp_before, degree, mul, minus, coef, SameTo, IsSeries}
use Rattle.scattering.specs.Plane.{Point}
use Rattle.scattering.specs.Wall.{Wall}
use Rattle.scattering.specs.Theta.{AskFault, WeightTooLarge, IsTheta, IsAskFault, IsWeight}

-- d is the least degree of the series at r, which isn't 0
pub record BeginsAt (a : Sum) (r : Exp) (d : ℕ) : Type 0 where
  pub found : (x : Key) × (coef a x ≢ pos 0) × (x.exp ≡ r) × (degree x ≡ d)
  pub least : (x : Key) → coef a x ≢ pos 0 → x.exp ≡ r → d ≤ degree x

-- the sum of a_r·theta_r
abbrev pub combined : ℕ → (Exp → Sum) → Sum → Sum
combined k thetas a = flat_map (λ t. mul k ((record { powers = t.0.powers; exp = origin }, t.1) ∷ []) (thetas t.0.exp)) a

-- each theta is taken with the limit k less the least degree of its series
abbrev pub AreThetas : List Wall → ℕ → Point → Sum → (Exp → Sum) → Type 0
AreThetas ws k q a thetas = (r : Exp) (d : ℕ) → BeginsAt a r d → IsAskFault ws (k - d) r q None × IsTheta ws (k - d) r q (thetas r)

-- the product of the thetas of l and r, modulo degree k + 1
abbrev pub IsThetaProduct : List Wall → ℕ → Exp → Exp → Point → Sum → Type 0
IsThetaProduct ws k l r q s = (x y : Sum) × IsTheta ws k l q x × IsTheta ws k r q y × SameTo k s (mul k x y)

-- a is the family that fits
abbrev pub IsFamily : List Wall → ℕ → Exp → Exp → Point → Sum → Type 0
IsFamily ws k l r q a = IsSeries k a × ((thetas : Exp → Sum) × AreThetas ws k q a thetas × IsThetaProduct ws k l r q (combined k thetas a))

-- ---- faults, along the steps

abbrev pub IsThetaWeight : List Wall → ℕ → Exp → Point → ℕ → Type 0
IsThetaWeight ws n m q w = MatchBool (exp_eq m origin) (w ≡ 1) (IsWeight ws n m q w)

abbrev pub of_degree : ℕ → Sum → Sum
of_degree d a = filter (λ t. degree t.0 == d) a

abbrev pub weight_of : (Exp → ℕ) → Sum → ℕ
weight_of w [] = 0
weight_of w (t ∷ a) = nat_abs t.1 * w t.0.exp + weight_of w a

-- b is a with the terms of degree d by which the combined thetas still differ from s
abbrev pub IsNext : List Wall → ℕ → Point → Sum → ℕ → Sum → Sum → Type 0
IsNext ws k q s d a b = IsSeries k b × ((thetas : Exp → Sum) × AreThetas ws k q a thetas
    × ((x : Key) → degree x ≡ d → coef b x ≡ coef (a ++ s ++ minus (combined k thetas a)) x)
    × ((x : Key) → degree x ≢ d → coef b x ≡ coef a x))

-- w has the weight of each theta of the family
abbrev pub AreWeights : List Wall → ℕ → Point → Sum → (Exp → ℕ) → Type 0
AreWeights ws k q b w = (r : Exp) (i : ℕ) → BeginsAt b r i → IsThetaWeight ws (k - i) r q (w r)

-- no theta whose series begins at degree d has a fault
abbrev pub BeginWithoutFault : List Wall → ℕ → Point → ℕ → Sum → Type 0
BeginWithoutFault ws k q d b = (r : Exp) → BeginsAt b r d → IsAskFault ws (k - d) r q None

-- one of them has the fault, and those before it have none
abbrev pub BeginWithFault : List Wall → ℕ → Point → ℕ → Sum → AskFault → Type 0
BeginWithFault ws k q d b fault = (r : Exp) × BeginsAt b r d × IsAskFault ws (k - d) r q (Some fault)
    × ((r' : Exp) → BeginsAt b r' d → IsTrue (exp_before r' r) → IsAskFault ws (k - d) r' q None)

-- with the weights of step d the running weight is too large
abbrev pub IsTooHeavy : List Wall → ℕ → Point → ℕ → Sum → ℕ → Type 0
IsTooHeavy ws k q d b n = (w : Exp → ℕ) × AreWeights ws k q b w × (largest_weight < n + weight_of w (of_degree d b))

-- before step d nothing has failed: the family and the running weight
pub data Runs (ws : List Wall) (k : ℕ) (q : Point) (s : Sum) (first : ℕ) : ℕ → Sum → ℕ → Type 0 where
  begins : Runs ws k q s first 0 [] first
  goes : {d : ℕ} {a : Sum} {n : ℕ} (b : Sum) (w : Exp → ℕ) → Runs ws k q s first d a n → IsNext ws k q s d a b
      → BeginWithoutFault ws k q d b
      → AreWeights ws k q b w
      → n + weight_of w (of_degree d b) ≤ largest_weight
      → Runs ws k q s first (suc d) b (n + weight_of w (of_degree d b))

-- the fault of step d, after its terms were added
abbrev pub FailsAt : List Wall → ℕ → Point → Sum → ℕ → ℕ → AskFault → Type 0
FailsAt ws k q s first d fault = (a b : Sum) × (n : ℕ) × (d ≤ k) × Runs ws k q s first d a n × IsNext ws k q s d a b
    × (BeginWithFault ws k q d b fault ⊎ ((fault ≡ WeightTooLarge) × BeginWithoutFault ws k q d b × IsTooHeavy ws k q d b n))

abbrev pub StepsFault : List Wall → ℕ → Point → Sum → ℕ → Option AskFault → Type 0
StepsFault ws k q s first (Some fault) = (d : ℕ) × FailsAt ws k q s first d fault
StepsFault ws k q s first None = (a : Sum) × (n : ℕ) × Runs ws k q s first (k + 1) a n

-- the first fault of the product of the thetas of l and r
abbrev pub IsProductFault : List Wall → ℕ → Exp → Exp → Point → Option AskFault → Type 0
IsProductFault ws k l r q fault = ((f : AskFault) × IsAskFault ws k l q (Some f) × (fault ≡ Some f))
    ⊎ (IsAskFault ws k l q None × (((f : AskFault) × IsAskFault ws k r q (Some f) × (fault ≡ Some f))
    ⊎ (IsAskFault ws k r q None × ((x y : ℕ) × IsThetaWeight ws k l q x × IsThetaWeight ws k r q y
    × (((largest_weight < x * y) × (fault ≡ Some WeightTooLarge))
    ⊎ ((x * y ≤ largest_weight) × ((s : Sum) × IsThetaProduct ws k l r q s × StepsFault ws k q s (x * y) fault)))))))
