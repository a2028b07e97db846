-- What is made of a wall's function f on the way to a table: with u = f - 1, or |f| - 1 where numbers saturate, the powers
-- of u, and their parts by degree.
--     others rule f                u
--     code_others rule f           the same, as it is kept
--     IsOthers rule m u            u is kept so, and has order m
--     ArePowersFrom rule k u r ps  ps are u^r, u^(r+1), .. to degree k
--     IsMade rule f l i p          p is the part of degree i of a table, where u begins at degree l
use Rattle.std.specs.Prelude.{◌≡◌, ℕ, suc, ◌*◌, ◌/◌, ◌≤◌, ◌⊎◌, List, [], ◌∷◌, ◌++◌, map, take, nat_abs, ℤ, length, Vec}
use Rattle.std.specs.Global.{Global}
use Rattle.limits.specs.Limits.{highest_order}
use Rattle.scattering.specs.Collections.{In, Every}
use Rattle.scattering.specs.Series.{Key, Sum, coef, degree, pow, rest, absolute}
use Rattle.scattering.specs.ThetaProduct.{of_degree}
use Rattle.trunc_series.specs.declared.arithmetic.Arithmetic.{Arithmetic}
use Rattle.trunc_series.specs.declared.arithmetic.Arithmetic.TheVariants.{Wrapping, Saturating}
use Rattle.trunc_series.specs.declared.key.Key.{Key as CodeKey}
use Rattle.trunc_series.specs.Arithmetic.{kept}
use Rattle.trunc_series.specs.Reduced.{IsKeptAs, GrowsSlowly, absolute_sum}
use Rattle.trunc_series.specs.Shown.{IsValid, key_of, term_of, sum_of}
use Rattle.trunc_series.specs.Sums.{AreKeptValues, StandsFor}
use Rattle.power_tables.specs.declared.table.Part.{Part}
use Rattle.power_tables.specs.Parts.{GrowsBy}
use Rattle.power_tables.specs.Tables.{column_sum}

abbrev pub TermVec : Type 0
TermVec = Vec (CodeKey × ℤ) Global

abbrev pub others : Arithmetic → Sum → Sum
others Wrapping f = rest f
others Saturating f = absolute (rest f)

abbrev pub code_others : Arithmetic → Sum → Sum
code_others Wrapping f = rest f
code_others Saturating f = absolute_sum (rest f)

-- a sum of terms of degree at least 1, none with an exponent that grows faster than the degree
pub record IsOthers (rule : Arithmetic) (m : ℕ) (u : Sum) : Type 0 where
  pub high : m ≤ highest_order
  pub reduced : IsKeptAs rule m u u
  pub positive : Every (λ t. 1 ≤ degree t.0) u
  pub tame : Every (λ t. GrowsSlowly t.0) u

-- no exponent of a key of degree i is above s·i
abbrev pub IsWithinDegrees : ℕ → ℕ → Key → Type 0
IsWithinDegrees s i k = (nat_abs k.exp.a ≤ s * i) × (nat_abs k.exp.b ≤ s * i)

-- so are all keys of a sum
abbrev pub GrowsWithin : ℕ → Sum → Type 0
GrowsWithin s f = Every (λ t. IsWithinDegrees s (degree t.0) t.0) f

-- p has the terms of u^r to degree k, as they are kept; a key may stand twice
pub record IsPower (rule : Arithmetic) (k : ℕ) (u : Sum) (r : ℕ) (p : Sum) : Type 0 where
  pub values : AreKeptValues rule p
  pub low : Every (λ t. degree t.0 ≤ k) p
  pub grows : (s : ℕ) → GrowsWithin s u → GrowsWithin s p
  pub same : (x : Key) → kept rule (coef p x) ≡ kept rule (coef (pow k u r) x)

abbrev pub ArePowersFrom : Arithmetic → ℕ → Sum → ℕ → List TermVec → Type 0
ArePowersFrom rule k u r [] = Unit {0}
ArePowersFrom rule k u r (p ∷ ps) = IsPower rule k u r (sum_of p.items) × ArePowersFrom rule k u (suc r) ps

-- lists of the terms of degree i of these lists
abbrev pub AreLevels : ℕ → List TermVec → List TermVec → Type 0
AreLevels i [] [] = Unit {0}
AreLevels i [] (q ∷ qs) = ⊥
AreLevels i (p ∷ ps) [] = ⊥
AreLevels i (p ∷ ps) (q ∷ qs) = (sum_of q.items ≡ of_degree i (sum_of p.items)) × AreLevels i ps qs

-- ---- parts of a table

-- what each key of degree i of a power of u is
pub record IsPowerKey (f : Sum) (i : ℕ) (k : Key) : Type 0 where
  pub at : degree k ≡ i
  pub within : (s : ℕ) → GrowsBy s (rest f) → IsWithinDegrees s i k

-- a column is the part of degree i of u^r
pub record IsColumn (rule : Arithmetic) (f : Sum) (r i : ℕ) (keys : List CodeKey) (c : List ℤ) : Type 0 where
  pub within : length c ≤ length keys
  pub values : AreKeptValues rule (column_sum keys c)
  pub same : (x : Key) → kept rule (coef (column_sum keys c) x) ≡ kept rule (coef (of_degree i (pow i (others rule f) r)) x)

abbrev pub AreColumns : Arithmetic → Sum → ℕ → ℕ → List CodeKey → List (List ℤ) → Type 0
AreColumns rule f r i keys [] = Unit {0}
AreColumns rule f r i keys (c ∷ cs) = IsColumn rule f r i keys c × AreColumns rule f (suc r) i keys cs

pub record IsMade (rule : Arithmetic) (f : Sum) (l i : ℕ) (p : Part) : Type 0 where
  pub keys : Every (λ k. IsPowerKey f i (key_of k)) p.keys.items
  pub columns : AreColumns rule f 1 i p.keys.items (p.first.items ∷ p.higher.items)
  pub count : suc (length p.higher.items) ≡ i / l
  pub alone : length p.higher.items ≡ 0 → length p.first.items ≡ length p.keys.items

-- parts of the degrees i, i + 1, ..
abbrev pub AreMade : Arithmetic → Sum → ℕ → ℕ → List Part → Type 0
AreMade rule f l i [] = Unit {0}
AreMade rule f l i (p ∷ ps) = IsMade rule f l i p × AreMade rule f l (suc i) ps

-- whatever the function of order m is whose u this is
abbrev pub AreMadeOf : Arithmetic → ℕ → Sum → ℕ → List Part → Type 0
AreMadeOf rule m u l parts = (f : Sum) → IsValid m f → u ≡ code_others rule f → AreMade rule f l l parts

-- ---- columns of lists of terms

-- the keys and the column with a term more
pub record GetsAt (rule : Arithmetic) (keys keys' : List CodeKey) (c c' : List ℤ) (t : CodeKey × ℤ) : Type 0 where
  pub lengths : length c' ≡ length keys'
  pub extended : (keys' ≡ keys) ⊎ (keys' ≡ keys ++ t.0 ∷ [])
  pub stands : StandsFor rule (column_sum keys' c') (term_of t ∷ column_sum keys c)

-- c has the coefficients of the terms p at the first of the keys, and p has no others
pub record IsColumnOf (rule : Arithmetic) (keys : List CodeKey) (p : Sum) (c : List ℤ) : Type 0 where
  pub within : length c ≤ length keys
  pub values : AreKeptValues rule (column_sum keys c)
  pub same : (x : Key) → kept rule (coef (column_sum keys c) x) ≡ kept rule (coef p x)

-- the keys with those of p more, and the column of p, which is as long
pub record GetsColumn (rule : Arithmetic) (keys keys' : List CodeKey) (c : List ℤ) (p : Sum) : Type 0 where
  pub lengths : length c ≡ length keys'
  pub extended : (more : List CodeKey) × (keys' ≡ keys ++ more) × Every (λ k. In (key_of k) (map (λ t. t.0) p)) more
  pub column : IsColumnOf rule keys' p c

abbrev pub AreColumnsOf : Arithmetic → List CodeKey → List TermVec → List (List ℤ) → Type 0
AreColumnsOf rule keys [] [] = Unit {0}
AreColumnsOf rule keys [] (c ∷ cs) = ⊥
AreColumnsOf rule keys (p ∷ ps) [] = ⊥
AreColumnsOf rule keys (p ∷ ps) (c ∷ cs) = IsColumnOf rule keys (sum_of p.items) c × AreColumnsOf rule keys ps cs

-- one of the lists has the key
abbrev pub HasKey : Key → List TermVec → Type 0
HasKey k [] = ⊥
HasKey k (p ∷ ps) = In k (map (λ t. t.0) (sum_of p.items)) ⊎ HasKey k ps

-- the part has the keys of these lists and their columns
pub record HasLists (rule : Arithmetic) (ps : List TermVec) (part : Part) : Type 0 where
  pub each : Every (λ k. HasKey (key_of k) ps) part.keys.items
  pub columns : AreColumnsOf rule part.keys.items ps (part.first.items ∷ part.higher.items)
  pub alone : length part.higher.items ≡ 0 → length part.first.items ≡ length part.keys.items

-- the part for the terms of degree i of these lists
pub record HasLevels (rule : Arithmetic) (i : ℕ) (ps : List TermVec) (part : Part) : Type 0 where
  pub lists : List TermVec
  pub levels : AreLevels i ps lists
  pub has : HasLists rule lists part

-- parts of the degrees i, i + 1, .. for all powers that have terms there, where u begins at degree l
abbrev pub AreListed : Arithmetic → List TermVec → ℕ → ℕ → List Part → Type 0
AreListed rule ps l i [] = Unit {0}
AreListed rule ps l i (p ∷ parts) = HasLevels rule i (take (i / l) ps) p × AreListed rule ps l (suc i) parts

-- ---- parts of u alone

pub record IsLinearPart (u : Sum) (part : Part) : Type 0 where
  pub terms : column_sum part.keys.items part.first.items ≡ u
  pub lengths : length part.keys.items ≡ length part.first.items
  pub alone : length part.higher.items ≡ 0

-- of each of the sums F i, F (i + 1), ..
abbrev pub ArePartsBy : (ℕ → Sum) → ℕ → List Part → Type 0
ArePartsBy F i [] = Unit {0}
ArePartsBy F i (p ∷ ps) = IsLinearPart (F i) p × ArePartsBy F (suc i) ps

-- of the degrees i, i + 1, ..
abbrev pub AreLinearParts : Sum → ℕ → List Part → Type 0
AreLinearParts u i parts = ArePartsBy (λ j. of_degree j u) i parts
