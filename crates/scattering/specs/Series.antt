-- Formal sums of terms c·t^P·z^m, and series, which are sums in one form.
-- `rest`, `absolute` and `mass_to` read the list of terms as it stands. They mean f - 1, |f| and the mass of |f|
-- where no key stands twice and no coefficient is 0, as in a series.
--     coef f k               the coefficient of f at the key k; sums are compared by it
--     SameTo k f g           f and g are equal modulo degree k + 1
--     f ++ g, mul n f g, power n f i     the sum, the product, a power;  from mul on all is modulo degree n + 1
--     rest f, absolute f, inverse n f, geometric n f     f - 1;  |f|;  1/f;  1/(2 - |f|)
--     IsSeries k f           f is a finite map: keys rise, no coefficient is 0, no degree is above k
--     IsWallFunction k d f   a series that is 1 and terms of degree at least 1 at positive multiples of d
use Rattle.std.specs.Prelude.{◌≡◌, ℕ, zero, suc, ◌+◌, ◌≤◌, ◌==◌, nat_lt, nat_le, nat_abs, Bool, true, false, not, ◌&&◌, ◌||◌, cond, IsTrue, List, [], ◌∷◌, ◌++◌, map, filter, flat_map, ℤ, pos, negsuc, ◌+ℤ◌, ◌-ℤ◌, ◌*ℤ◌, neg_ℤ, int_lt, int_le, ◌≤ℤ◌, ◌≢◌}
use Rattle.scattering.specs.Collections.{Every, EveryPair}

-- ---- keys

-- a pair of whole numbers: an exponent, or a direction
pub record Exp : Type 0 where
  pub a : ℤ
  pub b : ℤ

-- powers of t1 to t8
pub record Powers : Type 0 where
  pub t1 : ℕ
  pub t2 : ℕ
  pub t3 : ℕ
  pub t4 : ℕ
  pub t5 : ℕ
  pub t6 : ℕ
  pub t7 : ℕ
  pub t8 : ℕ

pub record Key : Type 0 where
  pub powers : Powers
  pub exp : Exp

abbrev pub int_eq : ℤ → ℤ → Bool
int_eq x y = int_le x y && int_le y x

abbrev pub exp_eq : Exp → Exp → Bool
exp_eq u v = int_eq u.a v.a && int_eq u.b v.b

abbrev pub origin : Exp
origin = record { a = pos 0; b = pos 0 }

abbrev pub exp_add : Exp → Exp → Exp
exp_add u v = record { a = u.a +ℤ v.a; b = u.b +ℤ v.b }

abbrev pub exp_sub : Exp → Exp → Exp
exp_sub u v = record { a = u.a -ℤ v.a; b = u.b -ℤ v.b }

abbrev pub scale : ℤ → Exp → Exp
scale n u = record { a = n *ℤ u.a; b = n *ℤ u.b }

abbrev pub det : Exp → Exp → ℤ
det u v = u.a *ℤ v.b -ℤ u.b *ℤ v.a

abbrev pub dot : Exp → Exp → ℤ
dot u v = u.a *ℤ v.a +ℤ u.b *ℤ v.b

abbrev pub no_powers : Powers
no_powers = record { t1 = 0; t2 = 0; t3 = 0; t4 = 0; t5 = 0; t6 = 0; t7 = 0; t8 = 0 }

abbrev pub powers_add : Powers → Powers → Powers
powers_add p q = record { t1 = p.t1 + q.t1; t2 = p.t2 + q.t2; t3 = p.t3 + q.t3; t4 = p.t4 + q.t4; t5 = p.t5 + q.t5; t6 = p.t6 + q.t6; t7 = p.t7 + q.t7; t8 = p.t8 + q.t8 }

abbrev pub powers_eq : Powers → Powers → Bool
powers_eq p q = (p.t1 == q.t1) && (p.t2 == q.t2) && (p.t3 == q.t3) && (p.t4 == q.t4) && (p.t5 == q.t5) && (p.t6 == q.t6) && (p.t7 == q.t7) && (p.t8 == q.t8)

abbrev pub total : Powers → ℕ
total p = p.t1 + p.t2 + p.t3 + p.t4 + p.t5 + p.t6 + p.t7 + p.t8

abbrev pub degree : Key → ℕ
degree k = total k.powers

abbrev pub unit : Key
unit = record { powers = no_powers; exp = origin }

abbrev pub key_mul : Key → Key → Key
key_mul k l = record { powers = powers_add k.powers l.powers; exp = exp_add k.exp l.exp }

abbrev pub key_eq : Key → Key → Bool
key_eq k l = exp_eq k.exp l.exp && powers_eq k.powers l.powers

-- z^m
abbrev pub z : Exp → Key
z m = record { powers = no_powers; exp = m }

-- ---- sums

abbrev pub Term : Type 0
Term = Key × ℤ

abbrev pub Sum : Type 0
Sum = List Term

abbrev pub coef_at : Key → Term → ℤ
coef_at k t = cond (key_eq t.0 k) t.1 (pos 0)

abbrev pub coef : Sum → Key → ℤ
coef [] k = pos 0
coef (t ∷ f) k = coef_at k t +ℤ coef f k

abbrev pub Same : Sum → Sum → Type 0
Same f g = (k : Key) → coef f k ≡ coef g k

abbrev pub SameTo : ℕ → Sum → Sum → Type 0
SameTo n f g = (k : Key) → degree k ≤ n → coef f k ≡ coef g k

abbrev pub one : Sum
one = (unit, pos 1) ∷ []

abbrev pub monomial : Key → Sum
monomial k = (k, pos 1) ∷ []

abbrev pub term_mul : Term → Term → Term
term_mul t u = (key_mul t.0 u.0, t.1 *ℤ u.1)

-- the terms of degree at most n
abbrev pub cut : ℕ → Sum → Sum
cut n f = filter (λ t. nat_le (degree t.0) n) f

-- over all pairs of terms; those of degree above n are dropped
abbrev pub mul : ℕ → Sum → Sum → Sum
mul n f g = flat_map (λ t. cut n (map (term_mul t) g)) f

abbrev pub minus : Sum → Sum
minus f = map (λ t. (t.0, neg_ℤ t.1)) f

abbrev pub absolute : Sum → Sum
absolute f = map (λ t. (t.0, pos (nat_abs t.1))) f

-- the terms other than 1, which are f - 1 for a wall function
abbrev pub rest : Sum → Sum
rest f = filter (λ t. not (key_eq t.0 unit)) f

abbrev pub pow : ℕ → Sum → ℕ → Sum
pow n f zero = one
pow n f (suc i) = mul n f (pow n f i)

-- 1 + f + .. + f^i
abbrev pub powers_to : ℕ → Sum → ℕ → Sum
powers_to n f zero = one
powers_to n f (suc i) = powers_to n f i ++ pow n f (suc i)

abbrev pub inverse : ℕ → Sum → Sum
inverse n f = powers_to n (minus (rest f)) n

abbrev pub power : ℕ → Sum → ℤ → Sum
power n f (pos i) = pow n f i
power n f (negsuc i) = pow n (inverse n f) (suc i)

-- 1/(2 - |f|)
abbrev pub geometric : ℕ → Sum → Sum
geometric n f = powers_to n (absolute (rest f)) n

-- the sum of the coefficients of degree at most n, none of which is below 0
abbrev pub mass_to : ℕ → Sum → ℕ
mass_to n [] = 0
mass_to n (t ∷ f) = (elim (nat_le (degree t.0) n) [ true ↦ nat_abs t.1 | false ↦ 0 ]) + mass_to n f

-- ---- series

-- by exponent, then powers
abbrev pub powers_before : Powers → Powers → Bool
powers_before p q = first p.t1 q.t1 (first p.t2 q.t2 (first p.t3 q.t3 (first p.t4 q.t4 (first p.t5 q.t5 (first p.t6 q.t6 (first p.t7 q.t7 (nat_lt p.t8 q.t8)))))))
  where
    first : ℕ → ℕ → Bool → Bool
    first x y later = nat_lt x y || ((x == y) && later)

abbrev pub exp_before : Exp → Exp → Bool
exp_before u v = int_lt u.a v.a || (int_eq u.a v.a && int_lt u.b v.b)

abbrev pub key_before : Key → Key → Bool
key_before k l = exp_before k.exp l.exp || (exp_eq k.exp l.exp && powers_before k.powers l.powers)

pub record IsSeries (n : ℕ) (f : Sum) : Type 0 where
  pub rises : EveryPair (λ t u. IsTrue (key_before t.0 u.0)) f
  pub nonzero : Every (λ t. t.1 ≢ pos 0) f
  pub low : Every (λ t. degree t.0 ≤ n) f

-- a positive multiple of d
abbrev pub IsMultiple : Exp → Exp → Type 0
IsMultiple d m = (j : ℤ) × (pos 1 ≤ℤ j) × (m ≡ scale j d)

pub record IsWallFunction (n : ℕ) (d : Exp) (f : Sum) : Type 0 where
  pub series : IsSeries n f
  pub constant : coef f unit ≡ pos 1
  pub others : Every (λ t. (1 ≤ degree t.0) × IsMultiple d t.0.exp) (rest f)
