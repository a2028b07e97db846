-- How coefficients are kept: modulo 2^128, or as the lesser of their value and a limit.
use Rattle.std.specs.Prelude.{◌+◌, ℤ, pos, ◌≤ℤ◌}
use Rattle.std.specs.Int.{int_wrap, int_min}
use Rattle.limits.specs.Limits.{largest_weight}
use mir.Syntax.{w128}
use Rattle.trunc_series.specs.declared.arithmetic.Arithmetic.{Arithmetic}
use Rattle.trunc_series.specs.declared.arithmetic.Arithmetic.TheVariants.{Wrapping, Saturating}

-- 2^126 + 1
abbrev pub limit : ℤ
limit = pos (largest_weight + 1)

-- a whole number as it is kept
abbrev pub kept : Arithmetic → ℤ → ℤ
kept Wrapping c = int_wrap w128 c
kept Saturating c = int_min c limit

-- a number that may be kept in this way
abbrev pub IsKeepable : Arithmetic → ℤ → Type 0
IsKeepable Wrapping c = Unit {0}
IsKeepable Saturating c = pos 0 ≤ℤ c
