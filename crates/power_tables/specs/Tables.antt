-- What a table of powers keeps, and which parts of powers are read of it.
--     SeenTable                 what contracts see of a table
--     keys_at t i               the keys of degree i
--     numbers_at t i            the coefficients of u at the first of them
--     combination t n i         the part of degree i of the power with the exponent n, as the table tells it
--     ArePowerValues t n i vs        vs are its coefficients at the keys of degree i, as they are kept
--     IsLinear t                no power of u but the first has terms
--     IsTableOf rule k f t      t is the table of the wall function f, to degree k
use Rattle.std.specs.Prelude.{◌≡◌, ℕ, suc, ◌-◌, ◌*◌, ◌≤◌, List, [], ◌∷◌, ◌++◌, zip, nat_abs, ℤ, pos, ◌*ℤ◌, length, slice_index_or}
use Rattle.scattering.specs.Collections.{Every}
use Rattle.scattering.specs.Series.{Key, Sum, coef, degree, rest}
use Rattle.trunc_series.specs.declared.arithmetic.Arithmetic.{Arithmetic}
use Rattle.trunc_series.specs.declared.arithmetic.Arithmetic.TheVariants.{Wrapping, Saturating}
use Rattle.trunc_series.specs.declared.key.Key.{Key as CodeKey}
use Rattle.trunc_series.specs.Arithmetic.{kept, IsKeepable}
use Rattle.trunc_series.specs.Reduced.{IsNearKey}
use Rattle.trunc_series.specs.Shown.{key_of, sum_of}
use Rattle.trunc_series.specs.Sums.{AreKeptValues}
use Rattle.degree_theory.specs.Parts.{choose, multichoose, scaled}
use Rattle.power_tables.specs.Parts.{IsPartOf, GrowsBy, multiplier}

-- the keys of one degree, and the coefficients of u, u^2 and so on at as many of them as each has
pub record SeenPart : Type 0 where
  pub keys : List CodeKey
  pub columns : List (List ℤ)

-- the parts of the degrees from `least` on
pub record SeenTable : Type 0 where
  pub rule : Arithmetic
  pub order : ℕ
  pub least : ℕ
  pub parts : List SeenPart

abbrev pub part_at : SeenTable → ℕ → SeenPart
part_at t i = slice_index_or t.parts (i - t.least) (record { keys = []; columns = [] })

abbrev pub keys_at : SeenTable → ℕ → List CodeKey
keys_at t i = (part_at t i).keys

abbrev pub numbers_at : SeenTable → ℕ → List ℤ
numbers_at t i = slice_index_or (part_at t i).columns 0 []

-- the number by which the r-th power of u is multiplied
abbrev pub factor : Arithmetic → ℤ → ℕ → ℤ
factor Wrapping n r = choose n r
factor Saturating n r = pos (multichoose (nat_abs n) r)

-- that of u itself, which is factor rule n 1
abbrev pub first_factor : Arithmetic → ℤ → ℤ
first_factor Wrapping n = n
first_factor Saturating n = pos (nat_abs n)

-- keys with as many coefficients as there are
abbrev pub column_sum : List CodeKey → List ℤ → Sum
column_sum keys column = sum_of (zip keys column)

-- c_r·u_r + c_(r+1)·u_(r+1) + .., for columns that begin with that of u_r
abbrev pub column_combination : Arithmetic → ℤ → List CodeKey → ℕ → List (List ℤ) → Sum
column_combination rule n keys r [] = []
column_combination rule n keys r (c ∷ cs) = scaled (factor rule n r) (column_sum keys c) ++ column_combination rule n keys (suc r) cs

abbrev pub combination : SeenTable → ℤ → ℕ → Sum
combination t n i = column_combination t.rule n (keys_at t i) 1 (part_at t i).columns

pub record ArePowerValues (t : SeenTable) (n : ℤ) (i : ℕ) (vs : List ℤ) : Type 0 where
  pub lengths : length vs ≡ length (keys_at t i)
  pub values : AreKeptValues t.rule (column_sum (keys_at t i) vs)
  pub same : (x : Key) → kept t.rule (coef (column_sum (keys_at t i) vs) x) ≡ kept t.rule (coef (combination t n i) x)

-- no exponent of a key of degree i is above s·i
abbrev pub TableGrowsBy : ℕ → SeenTable → Type 0
TableGrowsBy s t = (i : ℕ) → t.least ≤ i → Every (λ k. (nat_abs k.exp.a ≤ s * i) × (nat_abs k.exp.b ≤ s * i)) (keys_at t i)

-- each part has one column, which has a number for each key
abbrev pub IsLinear : SeenTable → Type 0
IsLinear t = Every (λ p. length p.columns ≤ 1) t.parts

-- of the power with any exponent n, numbers of u's part are the part of degree i once they are multiplied by n, or |n|
-- where they saturate
pub record AreLinear (rule : Arithmetic) (k : ℕ) (f : Sum) (t : SeenTable) (i : ℕ) : Type 0 where
  pub lengths : length (numbers_at t i) ≡ length (keys_at t i)
  pub values : AreKeptValues rule (column_sum (keys_at t i) (numbers_at t i))
  pub keepable : (n : ℤ) → Every (λ u. IsKeepable rule u.1) (multiplier rule k f n)
  pub same : (n : ℤ) (x : Key) → degree x ≡ i → kept rule (first_factor rule n *ℤ coef (column_sum (keys_at t i) (numbers_at t i)) x) ≡ kept rule (coef (multiplier rule k f n) x)

pub record IsTableOf (rule : Arithmetic) (k : ℕ) (f : Sum) (t : SeenTable) : Type 0 where
  pub arithmetic : t.rule ≡ rule
  pub reach : t.order ≡ k
  pub least : Every (λ u. t.least ≤ degree u.0) (rest f)
  pub degrees : (i : ℕ) → t.least ≤ i → Every (λ x. degree (key_of x) ≡ i) (keys_at t i)
  pub near : (i : ℕ) → t.least ≤ i → Every (λ x. IsNearKey (key_of x)) (keys_at t i)
  pub growth : (s : ℕ) → GrowsBy s (rest f) → TableGrowsBy s t
  pub parts : (n : ℤ) (i : ℕ) (vs : List ℤ) → t.least ≤ i → i ≤ k → ArePowerValues t n i vs → IsPartOf rule i (column_sum (keys_at t i) vs) (multiplier rule i f n)
  pub linear : IsLinear t → (i : ℕ) → t.least ≤ i → i ≤ k → AreLinear rule i f t i
