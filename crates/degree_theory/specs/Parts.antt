-- Sums taken apart by degree: `of_degree e g` is the part of degree e of g. Parts and factors are handed in as
-- families, so that they can be what a program keeps of them.
--     substituted E g                   g with each key x replaced by x·E x
--     convolution factors parts l e     all products of a part of degree e - i and a factor of degree i, for i from l to e
--     choose, multichoose               binomial and multiset coefficients
--     linear_combination c us n         c 0·us 0 + .. + c n·us n
--     AreParts, ArePartsFrom            a family has the parts of a sum
--     ArePartsOfPowers, AreFactors      those of the powers of a sum, and of the powers by which a crossing multiplies
use Rattle.std.specs.Prelude.{ℕ, zero, suc, ◌+◌, ◌-◌, ◌≤◌, [], ◌++◌, map, flat_map, nat_abs, ℤ, pos, negsuc, ◌+ℤ◌, ◌-ℤ◌, ◌*ℤ◌, neg_ℤ}
use Rattle.scattering.specs.Series.{Exp, Key, Sum, det, term_mul, pow, power, geometric, mass_to, Same}
use Rattle.scattering.specs.ThetaProduct.{of_degree}

-- ---- sums whose keys are replaced

-- each key x of g replaced by x·E x
abbrev pub substituted : (Key → Sum) → Sum → Sum
substituted E g = flat_map (λ t. map (term_mul t) (E t.0)) g

-- the sum over the n degrees i from l up: each term of the part of degree e - i times the factor of degree i at its key
abbrev pub partial_convolution : (ℕ → Key → Sum) → (ℕ → Sum) → ℕ → ℕ → ℕ → Sum
partial_convolution factors parts e l zero = []
partial_convolution factors parts e l (suc n) = partial_convolution factors parts e l n ++ substituted (factors (l + n)) (parts (e - (l + n)))

-- over all degrees i from l to e
abbrev pub convolution : (ℕ → Key → Sum) → (ℕ → Sum) → ℕ → ℕ → Sum
convolution factors parts l e = partial_convolution factors parts e l (suc e - l)

-- ---- numbers

-- the binomial coefficient of any whole number n and r: 1 for r = 0, and C(n + 1, r + 1) = C(n, r) + C(n, r + 1) throughout
abbrev pub choose : ℤ → ℕ → ℤ
choose n zero = pos 1
choose (pos zero) (suc r) = pos 0
choose (pos (suc i)) (suc r) = choose (pos i) r +ℤ choose (pos i) (suc r)
choose (negsuc zero) (suc r) = neg_ℤ (choose (negsuc zero) r)
choose (negsuc (suc i)) (suc r) = choose (negsuc i) (suc r) -ℤ choose (negsuc (suc i)) r

-- the multiset coefficient of n and r, which is the coefficient of v^r in 1/(1 - v)^n
abbrev pub multichoose : ℕ → ℕ → ℕ
multichoose n zero = 1
multichoose zero (suc r) = 0
multichoose (suc n) (suc r) = multichoose n (suc r) + multichoose (suc n) r

-- c·f
abbrev pub scaled : ℤ → Sum → Sum
scaled c f = map (λ t. (t.0, c *ℤ t.1)) f

-- the sum of c r times the r-th sum, for r from 0 to n
abbrev pub linear_combination : (ℕ → ℤ) → (ℕ → Sum) → ℕ → Sum
linear_combination c sums zero = scaled (c 0) (sums 0)
linear_combination c sums (suc n) = linear_combination c sums n ++ scaled (c (suc n)) (sums (suc n))

-- ---- families of parts

-- the parts of g of those degrees i for which i + l is at most e
abbrev pub AreParts : ℕ → ℕ → Sum → (ℕ → Sum) → Type 0
AreParts l e g parts = (i : ℕ) → i + l ≤ e → Same (parts i) (of_degree i g)

-- the parts of g of the degrees from l to e
abbrev pub ArePartsFrom : ℕ → ℕ → Sum → (ℕ → Sum) → Type 0
ArePartsFrom l e g parts = (i : ℕ) → l ≤ i → i ≤ e → Same (parts i) (of_degree i g)

-- the parts of degree e of u^0, .., u^e
abbrev pub ArePartsOfPowers : ℕ → Sum → (ℕ → Sum) → Type 0
ArePartsOfPowers e u us = (r : ℕ) → r ≤ e → Same (us r) (of_degree e (pow e u r))

-- the parts of degrees from l to e of the power f^(s·det(d, m)) by which a crossing multiplies z^m
abbrev pub AreFactors : ℕ → ℕ → Exp → Sum → ℤ → (ℕ → Key → Sum) → Type 0
AreFactors l e d f s factors = (i : ℕ) (x : Key) → l ≤ i → i ≤ e → Same (factors i x) (of_degree i (power i f (s *ℤ det d x.exp)))

-- those of the power of 1/(2 - |f|) by which its majorant does
abbrev pub AreMajorantFactors : ℕ → ℕ → Exp → Sum → (ℕ → Key → Sum) → Type 0
AreMajorantFactors l e d f factors = (i : ℕ) (x : Key) → l ≤ i → i ≤ e → Same (factors i x) (of_degree i (pow i (geometric i f) (nat_abs (det d x.exp))))

-- the parts of degrees from 0 to k, put together
abbrev pub sum_of_parts : (ℕ → Sum) → ℕ → Sum
sum_of_parts parts zero = parts 0
sum_of_parts parts (suc k) = sum_of_parts parts k ++ parts (suc k)

-- the masses of the parts of degrees from 0 to k, added up
abbrev pub mass_of_parts : (ℕ → Sum) → ℕ → ℕ
mass_of_parts parts zero = mass_to 0 (parts 0)
mass_of_parts parts (suc k) = mass_of_parts parts k + mass_to (suc k) (parts (suc k))
