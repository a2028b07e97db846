-- The exponents that are reached, as a list.
--     AreAllReached b ws rs        rs are all exponents of reach at most b, sorted, with their reach
--     IsReachFault b ws f       f is want of memory, or more than 2^18 exponents have such a reach
use Rattle.std.specs.Prelude.{◌≡◌, ℕ, ◌≤◌, List, length, map, IsTrue, Some}
use Rattle.std.specs.BTreeMap.{BTreeMap, get}
use Rattle.limits.specs.Limits.{most_reached}
use Rattle.scattering.specs.Collections.{In, Every, EveryPair, MoreThan}
use Rattle.scattering.specs.Series.{Exp, exp_before}
use Rattle.scattering.specs.Wall.{Wall}
use Rattle.scattering.specs.Tail.{IsReach, ReachTo}
use Rattle.trunc_series.specs.Shown.{exp_of}
use Rattle.trunc_series.specs.declared.key.Exp.{Exp as CodeExp}
use Rattle.broken_lines.specs.Growth.{exp_cmp}
use Rattle.broken_lines.specs.declared.fault.AskFault.{AskFault}
use Rattle.broken_lines.specs.declared.fault.AskFault.TheVariants.{NotYet, NotGeneric, TooManyReach, TooManyTails, PointTooLarge, WeightTooLarge, Memory}

abbrev pub reached_of : List (CodeExp × ℕ) → List (Exp × ℕ)
reached_of rs = map (λ r. (exp_of r.0, r.1)) rs

-- rs are the exponents of reach at most b, each with its reach, sorted by a and then b, each once
pub record AreAllReached (b : ℕ) (ws : List Wall) (rs : List (Exp × ℕ)) : Type 0 where
  pub each : Every (λ r. IsReach ws b r.0 r.1 × (r.1 ≤ b)) rs
  pub all : (d : Exp) → ReachTo ws b d b → (n : ℕ) × In (d, n) rs
  pub sorted : EveryPair (λ r s. IsTrue (exp_before r.0 s.0)) rs
  pub few : length rs ≤ most_reached

-- only for memory, or where too many are reached
abbrev pub IsReachFault : ℕ → List Wall → AskFault → Type 0
IsReachFault b ws (NotYet n) = ⊥
IsReachFault b ws (NotGeneric p) = ⊥
IsReachFault b ws TooManyReach = MoreThan most_reached (λ d. ReachTo ws b d b)
IsReachFault b ws TooManyTails = ⊥
IsReachFault b ws PointTooLarge = ⊥
IsReachFault b ws WeightTooLarge = ⊥
IsReachFault b ws Memory = Unit {0}

-- ---- as the program keeps them

-- m has the exponents of reach at most b, with their reach
pub record IsReachMap (b : ℕ) (ws : List Wall) (m : BTreeMap CodeExp ℕ) : Type 0 where
  pub each : (x : CodeExp) (n : ℕ) → get exp_cmp m x ≡ Some n → IsReach ws b (exp_of x) n × (n ≤ b)
  pub all : (d : Exp) → ReachTo ws b d b → (x : CodeExp) × (n : ℕ) × (exp_of x ≡ d) × (get exp_cmp m x ≡ Some n)
  pub few : length m.entries ≤ most_reached
