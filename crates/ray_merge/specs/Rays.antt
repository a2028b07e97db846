-- Rays as they are merged.
--     ray_order r s            how two rays stand, by start and then direction
--     load n w                 the mass of a wall's terms other than 1
--     HasNewTerms n cs w       w has only terms of degree n besides 1, which a correction of cs adds
--     IsJoinable n r s         rays of one direction with no common key but 1, light enough together
--     IsJoined n r s w         w is the ray of r with the terms of s as well
--     IsFirstRay n o r s w     w is the first of r and s, or both joined where they have one place
--     AreFronts o r s          the first rays of the lists r and s stand in the order o
--     IsFrontOf o r s          so do the ray r and the first ray of s
--     place_count r s          how many starts and directions the rays of two lists in order have
--     IsRayOf n p f w          w is the ray from p with 1 and the terms of f
--     AreLoads n m ws          none of the loads is above what m has for its direction
use Rattle.std.specs.Prelude.{◌≡◌, ◌≢◌, ℕ, ◌+◌, ◌≤◌, ◌<◌, cond, suc, length, IsTrue, ◌+ℤ◌, List, [], ◌∷◌}
use Rattle.std.specs.declared.cmp.Ordering.{Ordering}
use Rattle.std.specs.declared.cmp.Ordering.TheVariants.{Less, Equal, Greater}
use Rattle.limits.specs.Limits.{largest_mass}
use Rattle.scattering.specs.Collections.{In, Every}
use Rattle.scattering.specs.Series.{Exp, Key, Sum, degree, coef, rest, mass_to, IsMultiple}
use Rattle.scattering.specs.Plane.{Point}
use Rattle.scattering.specs.Wall.{Outgoing, Wall, is_live}
use Rattle.scattering.specs.Completion.{ray_before}
use Rattle.scattering.specs.Correction.{IsRatio, Lie, Corrections}
use Rattle.trunc_series.specs.Fronts.{IsFirst}
use Rattle.ray_merge.specs.Additions.{AreAdded, terms_along}

abbrev pub ray_order : Wall → Wall → Ordering
ray_order r s = cond (ray_before r s) Less (cond (ray_before s r) Greater Equal)

abbrev pub load : ℕ → Wall → ℕ
load n w = mass_to n (rest w.function)

abbrev pub AreLoads : ℕ → (Exp → ℕ) → List Wall → Type 0
AreLoads n m ws = Every (λ w. load n w ≤ m w.dir) ws

abbrev pub mass_along : ℕ → Sum → Exp → ℕ
mass_along n f d = mass_to n (terms_along d f)

-- all terms but 1 are of degree n, and no heavier than those that a correction adds along w
pub record HasNewTerms (n : ℕ) (cs : Corrections) (w : Wall) : Type 0 where
  pub degrees : Every (λ t. degree t.0 ≡ n) (rest w.function)
  pub source : (c : Point × Lie) × In c cs × (w.at ≡ c.0) × Every (λ t. IsRatio t.1) c.1 × ((f : Sum) × AreAdded c.1 f × (load n w ≤ mass_along n f w.dir))

pub record IsJoinable (n : ℕ) (r s : Wall) : Type 0 where
  pub distinct : Every (λ t. Every (λ u. t.0 ≢ u.0) (rest s.function)) (rest r.function)
  pub light : load n r + load n s < largest_mass

pub record IsJoined (n : ℕ) (r s w : Wall) : Type 0 where
  pub kind : w.kind ≡ r.kind
  pub at : w.at ≡ r.at
  pub dir : w.dir ≡ r.dir
  pub terms : (k : Key) → coef (rest w.function) k ≡ coef (rest r.function) k +ℤ coef (rest s.function) k
  pub live : IsTrue (is_live r) → IsTrue (is_live w)

-- the first rays of two lists stand in this order
abbrev pub AreFronts : Ordering → List Wall → List Wall → Type 0
AreFronts o r s = (x : Wall) × (y : Wall) × IsFirst x r × IsFirst y s × (o ≡ ray_order x y)

-- the first ray of the list s stands so to r
abbrev pub IsFrontOf : Ordering → Wall → List Wall → Type 0
IsFrontOf o r s = (y : Wall) × IsFirst y s × (o ≡ ray_order r y)

-- w is what comes first of two rays that stand in this order
abbrev pub IsFirstRay : ℕ → Ordering → Wall → Wall → Wall → Type 0
IsFirstRay n Less r s w = w ≡ r
IsFirstRay n Equal r s w = IsJoined n r s w
IsFirstRay n Greater r s w = w ≡ s

-- how many places x before r and the rays s have, where `others` counts those of r and any rays
abbrev pub places_from : Wall → ℕ → (List Wall → ℕ) → List Wall → ℕ
places_from x m others [] = suc m
places_from x m others (y ∷ s) = suc (elim (ray_order x y) [ Less ↦ others (y ∷ s) | Equal ↦ others s | Greater ↦ places_from x m others s ])

-- how many starts and directions the rays of two lists in order have
abbrev pub place_count : List Wall → List Wall → ℕ
place_count [] s = length s
place_count (x ∷ r) s = places_from x (length r) (place_count r) s

pub record IsRayOf (n : ℕ) (p : Point) (f : Sum) (w : Wall) : Type 0 where
  pub kind : w.kind ≡ Outgoing
  pub at : w.at ≡ p
  pub dir : Every (λ t. IsMultiple w.dir t.0.exp) f
  pub terms : (k : Key) → coef (rest w.function) k ≡ coef f k
  pub load : load n w ≤ mass_to n f
  pub live : IsTrue (is_live w)

-- each two rays of one start and direction are joinable
abbrev pub AreJoinable : ℕ → List Wall → List Wall → Type 0
AreJoinable n rs ss = Every (λ r. Every (λ s. r.at ≡ s.at → r.dir ≡ s.dir → IsJoinable n r s) ss) rs
