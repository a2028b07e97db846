-- What a stretch finds ahead of it that is traced backwards from a point p, with the exponent x.
--     SeenFinder              the walls, and the degree to which their functions are cut
--     SeenAhead               bends with their weights; whether a crossing is too far away; the least special point
--     IsAhead ws b p x most a     a is all that the stretch finds, with the bends of degree at most `most`
use Rattle.std.specs.Prelude.{◌≡◌, ◌≢◌, ℕ, ◌<◌, ◌≤◌, ◌⊎◌, nat_abs, pos, Bool, IsTrue, IsFalse, List, map, Option, MatchOption, option_map}
use Rattle.limits.specs.Limits.{largest_weight}
use Rattle.scattering.specs.Collections.{In, Every, EveryPair, Lists, IsLeast}
use Rattle.scattering.specs.Series.{Exp, origin, det, degree, mass_to}
use Rattle.scattering.specs.Plane.{Point, IsPoint, IsNear, Beyond, point_before}
use Rattle.scattering.specs.Wall.{Wall, cut_walls}
use Rattle.scattering.specs.ActivePoint.{is_special}
use Rattle.scattering.specs.BrokenLine.{Bend, live_on, bend_majorant}
use Rattle.scattering.specs.Tail.{Extends, bend_before}
use Rattle.plane_geom.specs.Shown.{point_of}
use Rattle.plane_geom.specs.declared.Point.{Point as CodePoint}
use Rattle.trunc_series.specs.Shown.{exp_of, key_of}
use Rattle.trunc_series.specs.declared.key.Exp.{Exp as CodeExp}
use Rattle.bend_finder.specs.declared.bend.Bend.{Bend as CodeBend}

abbrev pub bend_of : CodeBend → Bend
bend_of c = record { at = point_of c.at; key = key_of c.key }

pub record SeenFinder : Type 0 where
  pub walls : List Wall
  pub limit : ℕ

abbrev pub finder : List Wall → ℕ → SeenFinder
finder ws b = record { walls = ws; limit = b }

pub record SeenAhead : Type 0 where
  pub bends : List (Bend × ℕ)
  pub far : Bool
  pub special : Option Point

abbrev pub bends_of : List (CodeBend × ℕ) → List (Bend × ℕ)
bends_of cs = map (λ c. (bend_of c.0, c.1)) cs

abbrev pub seen_ahead : List (CodeBend × ℕ) → Bool → Option CodePoint → SeenAhead
seen_ahead cs f o = record { bends = bends_of cs; far = f; special = option_map point_of o }

-- ---- exponents that a stretch may have

abbrev pub IsNonzero : CodeExp → Type 0
IsNonzero x = exp_of x ≢ origin

-- an exponent that is asked for, up to 2048, and what is reached within degree 24
abbrev pub largest_traced : ℕ
largest_traced = 3584

abbrev pub IsTraceable : CodeExp → Type 0
IsTraceable x = (nat_abs x.a ≤ largest_traced) × (nat_abs x.b ≤ largest_traced)

-- ---- what is ahead

-- a number up to the largest weight is told as it is, one above by some number above
abbrev pub IsToldAs : ℕ → ℕ → Type 0
IsToldAs mass told = (told ≡ mass) ⊎ ((largest_weight < mass) × (largest_weight < told))

-- ahead of p, in the direction of x, the stretch crosses at q a live wall that isn't parallel to it
abbrev pub IsHitAhead : List Wall → ℕ → Point → Exp → Point → Type 0
IsHitAhead ws b p x q = IsPoint q × Beyond p x q × ((w : Wall) × In w (live_on (cut_walls b ws) q) × (det w.dir x ≢ pos 0))

abbrev pub IsSpecialAhead : List Wall → ℕ → Point → Exp → Point → Type 0
IsSpecialAhead ws b p x q = IsPoint q × Beyond p x q × IsTrue (is_special (cut_walls b ws) q)

-- a bend of degree at most `most` that the stretch may go on with
abbrev pub IsBendAhead : List Wall → ℕ → Point → Exp → ℕ → Bend → Type 0
IsBendAhead ws b p x most c = Extends ws b p x c × (degree c.key ≤ most)

-- the weight of a bend
abbrev pub bend_weight : List Wall → ℕ → Exp → Bend → ℕ
bend_weight ws b x c = mass_to (degree c.key) (bend_majorant b (cut_walls b ws) c.at x)

pub record IsAhead (ws : List Wall) (b : ℕ) (p : Point) (x : Exp) (most : ℕ) (a : SeenAhead) : Type 0 where
  pub bends : Lists (IsBendAhead ws b p x most) (map (λ c. c.0) a.bends)
  pub sorted : EveryPair (λ c d. IsTrue (bend_before c.0 d.0)) a.bends
  pub weights : Every (λ c. IsToldAs (bend_weight ws b x c.0) c.1) a.bends
  pub far : IsTrue a.far → (q : Point) × IsHitAhead ws b p x q × (IsNear q → ⊥)
  pub near : IsFalse a.far → (q : Point) → IsHitAhead ws b p x q → IsNear q
  pub special : IsFalse a.far → MatchOption a.special ((q : Point) → IsSpecialAhead ws b p x q → ⊥) (IsLeast point_before (IsSpecialAhead ws b p x))
