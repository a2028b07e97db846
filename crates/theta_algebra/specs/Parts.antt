-- A family as one sum, and the series at its exponents.
--     IsRunAt r ts n       the first n terms are those at the front with the exponent r
--     IsSeriesPart k f s     s is the series of order k of the terms f, without their exponent
--     AreFamilyParts k a ps    ps are the series at all exponents of a
use Rattle.std.specs.Prelude.{◌≡◌, ◌≢◌, ℕ, ◌≤◌, ◌<◌, List, map, take, drop, length, IsTrue}
use Rattle.scattering.specs.Collections.{Every, EveryPair}
use Rattle.scattering.specs.Series.{Exp, Sum, origin, exp_before}
use Rattle.trunc_series.specs.Shown.{exp_of, sum_of, Seen}
use Rattle.trunc_series.specs.Reduced.{Terms}
use Rattle.trunc_series.specs.declared.key.Exp.{Exp as CodeExp}
use Rattle.theta_algebra.specs.Families.{family_of, IsCoefficient}

pub record IsRunAt (r : CodeExp) (ts : Terms) (n : ℕ) : Type 0 where
  pub bound : n ≤ length ts
  pub own : Every (λ t. t.0.exp ≡ exp_of r) (sum_of (take n ts))
  pub next : n < length ts → Every (λ t. t.0.exp ≢ exp_of r) (sum_of (take 1 (drop n ts)))

abbrev pub HasOneExp : Sum → Type 0
HasOneExp f = (r : Exp) × Every (λ t. t.0.exp ≡ r) f

abbrev pub without_exp : Sum → Sum
without_exp f = map (λ t. (record { powers = t.0.powers; exp = origin }, t.1)) f

abbrev pub IsSeriesPart : ℕ → Sum → Seen → Type 0
IsSeriesPart k f s = (s.order ≡ k) × (s.terms ≡ without_exp f)

pub record AreFamilyParts (k : ℕ) (a : Sum) (ps : List (CodeExp × Seen)) : Type 0 where
  pub family : family_of ps ≡ a
  pub sorted : EveryPair (λ p p'. IsTrue (exp_before (exp_of p.0) (exp_of p'.0))) ps
  pub each : Every (λ p. IsCoefficient k p.1) ps
