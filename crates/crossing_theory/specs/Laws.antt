-- What is proved here of crossings and of the bracket, modulo degree k + 1.
-- A crossing is that of a wall function f of direction d, of any order, with any whole number s as its sign.
use Rattle.std.specs.Prelude.{◌≡◌, ℕ, ◌+◌, ◌<◌, ◌≤◌, [], ◌++◌, ℤ, pos, neg_ℤ}
use Rattle.scattering.specs.Collections.{In}
use Rattle.scattering.specs.Series.{Exp, Key, Term, Sum, origin, det, degree, coef, rest, mul, minus, SameTo, IsWallFunction}
use Rattle.scattering.specs.Bracket.{bracket}
use Rattle.scattering.specs.LocalProduct.{cross}

-- ---- crossings

abbrev pub CrossingKeepsProducts : Type 0
CrossingKeepsProducts = (k m : ℕ) (d : Exp) (f : Sum) (s : ℤ) → IsWallFunction m d f → (g h : Sum) → SameTo k (cross k d f s (mul k g h)) (mul k (cross k d f s g) (cross k d f s h))

abbrev pub CrossingKeepsBrackets : Type 0
CrossingKeepsBrackets = (k m : ℕ) (d : Exp) (f : Sum) (s : ℤ) → IsWallFunction m d f → (g h : Sum) → SameTo k (cross k d f s (bracket k g h)) (bracket k (cross k d f s g) (cross k d f s h))

-- the terms of exponent (0, 0) stay
abbrev pub CrossingKeepsCenter : Type 0
CrossingKeepsCenter = (k m : ℕ) (d : Exp) (f : Sum) (s : ℤ) → IsWallFunction m d f → (g : Sum) (x : Key) → degree x ≤ k → x.exp ≡ origin → coef (cross k d f s g) x ≡ coef g x

-- the opposite sign undoes it
abbrev pub CrossingIsUndone : Type 0
CrossingIsUndone = (k m : ℕ) (d : Exp) (f : Sum) (s : ℤ) → IsWallFunction m d f → (g : Sum) → SameTo k (cross k d f (neg_ℤ s) (cross k d f s g)) g

abbrev pub ParallelCrossingsCommute : Type 0
ParallelCrossingsCommute = (k m n : ℕ) (d e : Exp) (f h : Sum) (s t : ℤ) → IsWallFunction m d f → IsWallFunction n e h → det d e ≡ pos 0
    → (g : Sum) → SameTo k (cross k d f s (cross k e h t g)) (cross k e h t (cross k d f s g))

-- any term of f and any of h, other than 1, have degrees that sum to more than k
abbrev pub HighCrossingsCommute : Type 0
HighCrossingsCommute = (k m n : ℕ) (d e : Exp) (f h : Sum) (s t : ℤ) → IsWallFunction m d f → IsWallFunction n e h
    → ((u v : Term) → In u (rest f) → In v (rest h) → k < degree u.0 + degree v.0)
    → (g : Sum) → SameTo k (cross k d f s (cross k e h t g)) (cross k e h t (cross k d f s g))

-- ---- the bracket

abbrev pub BracketIsAntisymmetric : Type 0
BracketIsAntisymmetric = (k : ℕ) (f g : Sum) → SameTo k (bracket k f g) (minus (bracket k g f))

-- in its second place, and in its first
abbrev pub BracketDerives : Type 0
BracketDerives = (k : ℕ) (f g h : Sum) → SameTo k (bracket k f (mul k g h)) (mul k (bracket k f g) h ++ mul k g (bracket k f h))

abbrev pub BracketDerivesFirst : Type 0
BracketDerivesFirst = (k : ℕ) (f g h : Sum) → SameTo k (bracket k (mul k f g) h) (mul k (bracket k f h) g ++ mul k f (bracket k g h))

abbrev pub JacobiIdentity : Type 0
JacobiIdentity = (k : ℕ) (f g h : Sum) → SameTo k (bracket k f (bracket k g h) ++ bracket k g (bracket k h f) ++ bracket k h (bracket k f g)) []
