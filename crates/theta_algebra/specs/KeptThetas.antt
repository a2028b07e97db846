-- Thetas that are kept, by exponent.
--     IsKeptTheta ws q m v      v has the theta of m at q to its order, and its weight; the ask has no fault
--     AreKeptThetas ws q k      so have all that k keeps
--     KeepsTheta m b w k k'     whatever k keeps at its exponents, k' keeps, and perhaps w at m
use Rattle.std.specs.Prelude.{◌≡◌, ℕ, List, Some, None}
use Rattle.std.specs.BTreeMap.{get}
use Rattle.scattering.specs.Plane.{Point}
use Rattle.scattering.specs.Wall.{Wall}
use Rattle.scattering.specs.Theta.{IsAskFault}
use Rattle.scattering.specs.ThetaProduct.{IsThetaWeight}
use Rattle.trunc_series.specs.Shown.{exp_of, Seen}
use Rattle.trunc_series.specs.declared.key.Exp.{Exp as CodeExp}
use Rattle.broken_lines.specs.Growth.{exp_cmp}
use Rattle.theta_algebra.specs.Thetas.{IsThetaOf}
use Rattle.theta_algebra.specs.declared.kept_thetas.KeptTheta.{KeptTheta}
use Rattle.theta_algebra.specs.declared.kept_thetas.KeptThetas.{KeptThetas}

pub record IsKeptTheta (ws : List Wall) (q : Point) (m : CodeExp) (v : KeptTheta) : Type 0 where
  pub theta : IsThetaOf ws v.limit (exp_of m) q v.theta
  pub weight : IsThetaWeight ws v.limit (exp_of m) q v.weight
  pub free : IsAskFault ws v.limit (exp_of m) q None

abbrev pub HasTheta : KeptThetas → CodeExp → KeptTheta → Type 0
HasTheta k m v = get exp_cmp k.thetas m ≡ Some v

abbrev pub AreKeptThetas : List Wall → Point → KeptThetas → Type 0
AreKeptThetas ws q k = (m : CodeExp) (v : KeptTheta) → HasTheta k m v → IsKeptTheta ws q m v

abbrev pub KeepsTheta : CodeExp → ℕ → Seen × ℕ → KeptThetas → KeptThetas → Type 0
KeepsTheta m b w k k' = (ws : List Wall) (q : Point) → AreKeptThetas ws q k → IsKeptTheta ws q m (record { limit = b; theta = w.0; weight = w.1 }) → AreKeptThetas ws q k'
