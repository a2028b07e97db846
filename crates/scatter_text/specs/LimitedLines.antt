-- A line of a file that is within the limits, and what is made of it.
--     IsLimitedLine l          l is a line of a file within the limits
--     IsPlace x y p            p is (x, y)
--     IsCutLineOf l w             w is the line that l says, its function cut to the highest order
use Rattle.std.specs.Prelude.{◌≡◌, ◌*◌, ◌≤◌, length, nat_abs, ℤ, ◌*ℤ◌, false, All}
use Rattle.limits.specs.Limits.{highest_order, largest_given_exponent, largest_power, most_terms, most_variables}
use Rattle.scattering.specs.Plane.{Point, IsPoint}
use Rattle.scattering.specs.Wall.{Wall, cut_wall}
use Rattle.scatter_diagram.specs.Shown.{wall_of}
use Rattle.scatter_diagram.specs.declared.wall.Wall.{Wall as CodeWall}
use Rattle.scatter_text.specs.GivenWalls.{IsWallOf}
use Rattle.scatter_text.specs.declared.file.Coordinate.{Coordinate}
use Rattle.scatter_text.specs.declared.file.TermRow.{TermRow}
use Rattle.scatter_text.specs.declared.file.LineRow.{LineRow}
use Rattle.scatter_text.specs.Values.{IsLine}
use Rattle.scatter_text.specs.Limits.{has_large_coefficient, has_large_exponent, has_large_power, is_far}

pub record IsLimitedLine (l : LineRow) : Type 0 where
  pub vars : ℤ
  pub few_vars : nat_abs vars ≤ most_variables
  pub valid : IsLine vars l
  pub few_terms : length l.terms ≤ most_terms
  pub coefficients : has_large_coefficient l ≡ false
  pub exponents : has_large_exponent l ≡ false
  pub powers : has_large_power l ≡ false
  pub near : is_far l.x l.y ≡ false

-- the numbers of a term on a line in direction (dx, dy)
pub record IsLimitedTerm (dx dy : ℤ) (t : TermRow) : Type 0 where
  pub x : nat_abs t.j * nat_abs dx ≤ largest_given_exponent
  pub y : nat_abs t.j * nat_abs dy ≤ largest_given_exponent
  pub count : length t.powers ≤ most_variables
  pub powers : All (λ a. nat_abs a ≤ largest_power) t.powers

pub record IsPlace (x y : Coordinate) (p : Point) : Type 0 where
  pub point : IsPoint p
  pub first : p.x *ℤ x.den ≡ x.num *ℤ p.w
  pub second : p.y *ℤ y.den ≡ y.num *ℤ p.w

pub record IsCutLineOf (l : LineRow) (w : CodeWall) : Type 0 where
  pub given : Wall
  pub says : IsWallOf l given
  pub wall : wall_of w ≡ cut_wall highest_order given
  pub order : w.function.order ≡ highest_order
