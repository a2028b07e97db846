-- Walls: lines, incoming and outgoing rays, each with a wall function.
--     Wall, IsWall n            a wall; with a point, a direction and a wall function of order n
--     On w p, is_on w p         p lies on w; the same as a test
--     starts_at, is_live, are_parallel, crosses_to      tests of walls
--     Diagram, walls            initial walls and rays; all of them
-- A wall is live where its function has a term other than 1, which is where the function isn't 1, as it is a series.
use Rattle.std.specs.Prelude.{ℕ, ◌+◌, nat_le, Bool, true, false, not, ◌&&◌, IsTrue, List, ◌++◌, map, ℤ, pos, int_le, ◌≢◌}
use Rattle.std.specs.List.{list_any}
use Rattle.scattering.specs.Series.{Exp, int_eq, det, dot, Sum, cut, rest, degree, IsWallFunction}
use Rattle.scattering.specs.Plane.{Point, IsPoint, IsDirection, point_eq, difference, IsAt}

pub data WallKind : Type 0 where
  Line : WallKind
  Incoming : WallKind
  Outgoing : WallKind

pub record Wall : Type 0 where
  pub kind : WallKind
  pub at : Point
  pub dir : Exp
  pub function : Sum

-- whether at + s·dir belongs to the support, by the sign of s
abbrev pub allows : WallKind → ℤ → Bool
allows Line s = true
allows Incoming s = int_le (pos 0) s
allows Outgoing s = int_le s (pos 0)

-- p is on the wall: it is at + s·dir for a rational s that the kind allows
abbrev pub On : Wall → Point → Type 0
On w p = (n d : ℤ) × IsTrue (allows w.kind n) × IsAt w.at w.dir n d p

-- the same as a test
abbrev pub is_on : Wall → Point → Bool
is_on w p = int_eq (det w.dir (difference w.at p)) (pos 0) && allows w.kind (dot w.dir (difference w.at p))

abbrev pub is_line : WallKind → Bool
is_line Line = true
is_line Incoming = false
is_line Outgoing = false

abbrev pub starts_at : Wall → Point → Bool
starts_at w p = not (is_line w.kind) && point_eq w.at p

-- some term of the function other than 1 has a degree of at most n, so a wall is live where this holds for some n
abbrev pub has_term_to : ℕ → Wall → Bool
has_term_to n w = list_any (λ t. nat_le (degree t.0) n) (rest w.function)

abbrev pub is_live : Wall → Bool
is_live w = list_any (λ t. true) (rest w.function)

abbrev pub are_parallel : Wall → Wall → Bool
are_parallel u v = int_eq (det u.dir v.dir) (pos 0)

-- both live, not parallel, and their least degrees sum to at most n
abbrev pub crosses_to : ℕ → Wall → Wall → Bool
crosses_to n u v = not (are_parallel u v) && list_any (λ s. list_any (λ t. nat_le (degree s.0 + degree t.0) n) (rest v.function)) (rest u.function)

abbrev pub cut_wall : ℕ → Wall → Wall
cut_wall n w = record w { function = cut n w.function }

abbrev pub cut_walls : ℕ → List Wall → List Wall
cut_walls n ws = map (cut_wall n) ws

pub record IsWall (n : ℕ) (w : Wall) : Type 0 where
  pub point : IsPoint w.at
  pub direction : IsDirection w.dir
  pub function : IsWallFunction n w.dir w.function

-- an initial wall is a line or an incoming ray
abbrev pub IsInitial : Wall → Type 0
IsInitial w = w.kind ≢ Outgoing

-- initial walls, and outgoing rays
pub record Diagram : Type 0 where
  pub initial : List Wall
  pub rays : List Wall

abbrev pub walls : Diagram → List Wall
walls e = e.initial ++ e.rays
