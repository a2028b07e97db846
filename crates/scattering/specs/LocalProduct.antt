-- Crossings, the half-walls at a point, the local product and the weight.
--     cross k d f s g           z^m becomes z^m·f^(s·det(d, m)), modulo degree k + 1
--     half_walls ws p           the half-walls at p, counter-clockwise
--     image ws p k m            z^m after all of them
--     IsConsistentAt ws k p     z^(1, 0) and z^(0, 1) are as they were
--     weight ws p k             all coefficients of both images, by majorants
-- Near its start a ray has one half-wall, the one along which it goes; at any other point of it, two.
use Rattle.std.specs.Prelude.{ℕ, ◌+◌, not, ◌&&◌, ◌||◌, List, [], ◌∷◌, map, filter, flat_map, ℤ, pos, negsuc, ◌*ℤ◌, neg_ℤ, nat_abs}
use Rattle.scattering.specs.Collections.{in_order}
use Rattle.scattering.specs.Series.{Exp, scale, det, z, Sum, mul, monomial, power, geometric, pow, mass_to, SameTo}
use Rattle.scattering.specs.Plane.{Point, turns_before}
use Rattle.scattering.specs.Wall.{Wall, is_on, starts_at, allows}

-- a half-wall: the part of a wall that goes from a point along dir (side 1) or along -dir (side -1)
pub record Half : Type 0 where
  pub wall : Wall
  pub side : ℤ

abbrev pub along : Half → Exp
along h = scale h.side h.wall.dir

-- both, but at its start a ray has the one along which it goes
abbrev pub halves : Point → Wall → List Half
halves p w = map (λ s. record { wall = w; side = s }) (filter (λ s. is_on w p && (not (starts_at w p) || allows w.kind s)) (pos 1 ∷ negsuc 0 ∷ []))

-- the half-walls at p, counter-clockwise from (1, 0)
abbrev pub half_walls : List Wall → Point → List Half
half_walls ws p = in_order (λ g h. turns_before (along g) (along h)) (flat_map (halves p) ws)

-- z^m becomes z^m·f^(s·det(dir, m)), where the sign s of a half-wall is -1 along dir and 1 along -dir
abbrev pub cross : ℕ → Exp → Sum → ℤ → Sum → Sum
cross k dir f s g = flat_map (λ t. mul k (t ∷ []) (power k f (s *ℤ det dir t.0.exp))) g

abbrev pub cross_half : ℕ → Half → Sum → Sum
cross_half k h g = cross k h.wall.dir h.wall.function (neg_ℤ h.side) g

-- the first crossing first
abbrev pub carry : ℕ → List Half → Sum → Sum
carry k [] g = g
carry k (h ∷ hs) g = carry k hs (cross_half k h g)

abbrev pub axis_x : Exp
axis_x = record { a = pos 1; b = pos 0 }

abbrev pub axis_y : Exp
axis_y = record { a = pos 0; b = pos 1 }

abbrev pub image : List Wall → Point → ℕ → Exp → Sum
image ws p k m = carry k (half_walls ws p) (monomial (z m))

-- both images are as they were, modulo degree k + 1
pub record IsConsistentAt (ws : List Wall) (k : ℕ) (p : Point) : Type 0 where
  pub x : SameTo k (image ws p k axis_x) (monomial (z axis_x))
  pub y : SameTo k (image ws p k axis_y) (monomial (z axis_y))

-- z^m becomes z^m·G^|det(dir, m)|, where G = 1/(2 - |f|)
abbrev pub cross_majorant : ℕ → Exp → Sum → Sum → Sum
cross_majorant k dir f g = flat_map (λ t. mul k (t ∷ []) (pow k (geometric k f) (nat_abs (det dir t.0.exp)))) g

abbrev pub carry_majorant : ℕ → List Half → Sum → Sum
carry_majorant k [] g = g
carry_majorant k (h ∷ hs) g = carry_majorant k hs (cross_majorant k h.wall.dir h.wall.function g)

abbrev pub weight : List Wall → Point → ℕ → ℕ
weight ws p k = mass_to k (carry_majorant k (half_walls ws p) (monomial (z axis_x))) + mass_to k (carry_majorant k (half_walls ws p) (monomial (z axis_y)))
