-- The leading part of a pair of images: the Lie element h whose brackets with z^(1,0) and z^(0,1) are what the images
-- of these have at one degree.
--     IsLeading x y n h        h is the leading part of degree n of the images x and y
--     IsLeadingPart x y n h    and each other one has the same coefficients
--     IsLeadingAlong x n u h   h has no terms along u, and x, the image of z^u, has its bracket with z^u at degree n
use Rattle.std.specs.Prelude.{◌≡◌, ◌≢◌, ℕ, ◌<◌, ◌^◌, ◌==◌, Bool, not, ◌&&◌, cond, ℤ, pos, ◌*ℤ◌, neg_ℤ, nat_abs, [], ◌∷◌, map, filter}
use Rattle.scattering.specs.Collections.{Every, EveryPair}
use Rattle.scattering.specs.Series.{Exp, Key, Term, Sum, origin, int_eq, exp_sub, degree, det, key_mul, z, coef}
use Rattle.scattering.specs.LocalProduct.{axis_x, axis_y}
use Rattle.scattering.specs.Correction.{IsRatio, Lie, ratio_at}
use Rattle.vertex_lie.specs.declared.leading_part.Axis.{Axis}
use Rattle.vertex_lie.specs.declared.leading_part.Axis.TheVariants as axis
use Rattle.vertex_lie.specs.declared.leading_part.Reading.{Reading}
use Rattle.vertex_lie.specs.declared.leading_part.Reading.TheVariants.{X, Y, RestOfY}

-- where x and y are the images under a local product, h is its correction at degree n
pub record IsLeading (x y : Sum) (n : ℕ) (h : Lie) : Type 0 where
  pub ratios : Every (λ t. IsRatio t.1) h
  pub nonzero : Every (λ t. t.1.num ≢ pos 0) h
  pub distinct : EveryPair (λ t u. t.0 ≢ u.0) h
  pub degrees : Every (λ t. (degree t.0 ≡ n) × (t.0.exp ≢ origin)) h
  pub at_x : (k : Key) → degree k ≡ n → coef x (key_mul k (z axis_x)) *ℤ (ratio_at h k).den ≡ (ratio_at h k).num *ℤ det k.exp axis_x
  pub at_y : (k : Key) → degree k ≡ n → coef y (key_mul k (z axis_y)) *ℤ (ratio_at h k).den ≡ (ratio_at h k).num *ℤ det k.exp axis_y

pub record IsLeadingPart (x y : Sum) (n : ℕ) (h : Lie) : Type 0 where
  pub leading : IsLeading x y n h
  pub only : (h' : Lie) → IsLeading x y n h' → (k : Key) → ratio_at h' k ≡ ratio_at h k

-- ---- from the image of z^u alone

pub record IsLeadingAlong (x : Sum) (n : ℕ) (u : Exp) (h : Lie) : Type 0 where
  pub ratios : Every (λ t. IsRatio t.1) h
  pub nonzero : Every (λ t. t.1.num ≢ pos 0) h
  pub distinct : EveryPair (λ t v. t.0 ≢ v.0) h
  pub degrees : Every (λ t. (degree t.0 ≡ n) × (det u t.0.exp ≢ pos 0)) h
  pub bracket : (k : Key) → degree k ≡ n → coef x (key_mul k (z u)) *ℤ (ratio_at h k).den ≡ (ratio_at h k).num *ℤ det k.exp u

-- at degree n the image x of z^u has no terms at multiples of u
abbrev pub HasNothingAlong : Sum → ℕ → Exp → Type 0
HasNothingAlong x n u = (k : Key) → degree k ≡ n → det k.exp u ≡ pos 0 → coef x (key_mul k (z u)) ≡ pos 0

-- ---- how it is read from the images

abbrev pub axis_of : Axis → Exp
axis_of axis.X = axis_x
axis_of axis.Y = axis_y

-- the axis whose image is read
abbrev pub image_of : Reading → Exp
image_of X = axis_x
image_of Y = axis_y
image_of RestOfY = axis_y

-- what is read of the image of one axis alone
abbrev pub reading_of : Axis → Reading
reading_of axis.X = X
reading_of axis.Y = Y

-- which coefficients are read of it: those at keys whose bracket with it isn't 0, or of these the ones whose bracket with z^(1,0) is
abbrev pub is_read : Reading → Key → Bool
is_read X k = not (int_eq k.exp.b (pos 0))
is_read Y k = not (int_eq k.exp.a (pos 0))
is_read RestOfY k = int_eq k.exp.b (pos 0) && not (int_eq k.exp.a (pos 0))

-- the determinant of an exponent and the axis, or of it and the other one where that is 0
abbrev pub turn : Axis → Exp → ℤ
turn axis.X e = cond (int_eq e.b (pos 0)) e.a (neg_ℤ e.b)
turn axis.Y e = cond (int_eq e.a (pos 0)) (neg_ℤ e.b) e.a

abbrev pub key_over : Key → Exp → Key
key_over k m = record k { exp = exp_sub k.exp m }

abbrev pub term_over : Exp → Term → Term
term_over m t = (key_over t.0 m, t.1)

-- of the image of an axis, the terms over z^m from which coefficients of degree n are read
abbrev pub read_from : ℕ → Reading → Sum → Sum
read_from n reading f = filter (λ t. (degree t.0 == n) && is_read reading t.0) (map (term_over (image_of reading)) f)

-- each coefficient divided by a number that the exponent tells
abbrev pub AreQuotients : (Exp → ℤ) → Sum → Lie → Type 0
AreQuotients D [] [] = Unit {0}
AreQuotients D [] (u ∷ h) = ⊥
AreQuotients D (t ∷ f) [] = ⊥
AreQuotients D (t ∷ f) (u ∷ h) = (t.0 ≡ u.0) × (u.1.num *ℤ D t.0.exp ≡ t.1 *ℤ u.1.den) × AreQuotients D f h

-- a term that is divided
abbrev pub IsDividend : Term → Type 0
IsDividend t = (t.0.exp ≢ origin) × (nat_abs t.1 < 2 ^ 127)
