-- The logarithm of a wall function as a Lie element: log f is the sum over i of (-1)^(i + 1)/i·(f - 1)^i, and its
-- term c·z^(j·d) is c/j at that key; it has no others.
--     IsLogarithm n d f h      h is the logarithm of the wall function f of order n and direction d
--     LogFits n f              the bound on masses under which it is computed
use Rattle.std.specs.Prelude.{◌≡◌, ℕ, zero, suc, ◌-◌, ◌*◌, ◌/◌, ◌%◌, ◌≤◌, ◌==◌, cond, ℤ, pos, ◌+ℤ◌, ◌*ℤ◌, neg_ℤ, ◌≤ℤ◌, nat_abs, [], ◌∷◌, ◌++◌}
use Rattle.limits.specs.Limits.{largest_weight}
use Rattle.scattering.specs.Collections.{Every}
use Rattle.scattering.specs.Series.{Exp, Key, Sum, IsMultiple, scale, int_eq, unit, coef, rest, mul, pow, geometric, mass_to}
use Rattle.scattering.specs.Correction.{Lie, ratio_at}
use Rattle.vertex_lie.specs.Shown.{IsElement}

-- of 1 to 24
abbrev pub common_multiple : ℕ
common_multiple = 5354228880

-- (-1)^(i + 1)/i, times the common multiple
abbrev pub log_factor : ℕ → ℤ
log_factor i = cond (i % 2 == 0) (neg_ℤ (pos (common_multiple / i))) (pos (common_multiple / i))

-- the coefficient at x of the sum over i from 1 to m of (-1)^(i + 1)/i·(f - 1)^i, times the common multiple
abbrev pub scaled_log_at : ℕ → Sum → Key → ℕ → ℤ
scaled_log_at n f x zero = pos 0
scaled_log_at n f x (suc i) = scaled_log_at n f x i +ℤ log_factor (suc i) *ℤ coef (pow n (rest f) (suc i)) x

pub record IsLogarithm (n : ℕ) (d : Exp) (f : Sum) (h : Lie) : Type 0 where
  pub element : IsElement h
  pub along : Every (λ t. IsMultiple d t.0.exp) h
  pub same : (x : Key) (j : ℤ) → pos 1 ≤ℤ j → x.exp ≡ scale j d → (ratio_at h x).num *ℤ (j *ℤ pos common_multiple) ≡ scaled_log_at n f x n *ℤ (ratio_at h x).den

-- the common multiple times the mass of the sum of all (|f| - 1)^i for i at least 1 is at most 2^126
abbrev pub LogFits : ℕ → Sum → Type 0
LogFits n f = common_multiple * (mass_to n (geometric n f) - 1) ≤ largest_weight

-- ---- how it is made

-- the sum over i from 1 to m, times the common multiple, where g is f - 1
abbrev pub scaled_log : ℕ → Sum → ℕ → Sum
scaled_log n g zero = []
scaled_log n g (suc i) = scaled_log n g i ++ mul n ((unit, log_factor (suc i)) ∷ []) (pow n g (suc i))

-- j where e is j·d, for j at least 0
abbrev pub multiple_of : Exp → Exp → ℕ
multiple_of d e = cond (int_eq d.a (pos 0)) (nat_abs e.b / nat_abs d.b) (nat_abs e.a / nat_abs d.a)

-- what a coefficient of the scaled logarithm is divided by
abbrev pub log_divisor : Exp → Exp → ℤ
log_divisor d e = pos (multiple_of d e * common_multiple)
