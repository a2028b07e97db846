-- Masses by degree, exponents by degree, and numbers that bound others as long as they don't saturate.
--     mass_at i g               the mass of the terms of degree i
--     mass_of_power f r i          that of (|f| - 1)^r
--     majorant_mass f n i       that of the n-th power of 1/(2 - |f|)
--     IsBound x v               the number x is at least v, or is the largest of 128 bits and says nothing
--     IsReached k reach f       no exponent of f - 1 is beyond what `reach` has for its degree
use Rattle.std.specs.Prelude.{ℕ, ◌-◌, ◌<◌, ◌≤◌, ◌^◌, nat_abs, List, slice_index}
use Rattle.scattering.specs.Collections.{Every}
use Rattle.scattering.specs.Series.{Sum, degree, rest, absolute, pow, geometric, mass_to}
use Rattle.scattering.specs.ThetaProduct.{of_degree}

abbrev pub mass_at : ℕ → Sum → ℕ
mass_at i g = mass_to i (of_degree i g)

abbrev pub mass_of_power : Sum → ℕ → ℕ → ℕ
mass_of_power f r i = mass_at i (pow i (absolute (rest f)) r)

abbrev pub majorant_mass : Sum → ℕ → ℕ → ℕ
majorant_mass f n i = mass_at i (pow i (geometric i f) n)

-- the largest number of 128 bits
abbrev pub saturated : ℕ
saturated = 2 ^ 128 - 1

abbrev pub IsBound : ℕ → ℕ → Type 0
IsBound x v = x < saturated → v ≤ x

-- the numbers xs bound those of degrees to k
abbrev pub BoundsByDegree : ℕ → List ℕ → (ℕ → ℕ) → Type 0
BoundsByDegree k xs v = (i : ℕ) → i ≤ k → IsBound (slice_index xs i) (v i)

-- to degree k
abbrev pub IsReached : ℕ → List ℕ → Sum → Type 0
IsReached k reach f = Every (λ t. degree t.0 ≤ k → (nat_abs t.0.exp.a ≤ slice_index reach (degree t.0)) × (nat_abs t.0.exp.b ≤ slice_index reach (degree t.0))) (rest f)
