-- What is proved here of the plane.
use Rattle.std.specs.Prelude.{◌≡◌, ◌≢◌, ◌⊎◌, ℕ, ◌↔◌, IsTrue, pos}
use Rattle.scattering.specs.Series.{Exp, det, origin}
use Rattle.scattering.specs.Plane.{Point, IsPoint, IsDirection, difference, point_before, turns_before}
use Rattle.scattering.specs.Wall.{Wall, IsWall, On, is_on}

-- the test of a place on a wall says what the definition says
abbrev pub OnIsDecided : Type 0
OnIsDecided = (n : ℕ) (w : Wall) (p : Point) → IsWall n w → IsPoint p → IsTrue (is_on w p) ↔ On w p

-- two lines that aren't parallel have exactly one common point
abbrev pub CommonPointExists : Type 0
CommonPointExists = (p : Point) (d : Exp) (r : Point) (e : Exp) → IsPoint p → IsPoint r → det d e ≢ pos 0
    → (q : Point) × IsPoint q × (det d (difference p q) ≡ pos 0) × (det e (difference r q) ≡ pos 0)

abbrev pub CommonPointIsUnique : Type 0
CommonPointIsUnique = (p : Point) (d : Exp) (r : Point) (e : Exp) (q s : Point) → IsPoint p → IsPoint r → det d e ≢ pos 0 → IsPoint q → IsPoint s
    → det d (difference p q) ≡ pos 0 → det e (difference r q) ≡ pos 0 → det d (difference p s) ≡ pos 0 → det e (difference r s) ≡ pos 0 → q ≡ s

-- the order of points: of two, one is before the other or they are one, and never both
abbrev pub PointsAreCompared : Type 0
PointsAreCompared = (p q : Point) → IsPoint p → IsPoint q → (p ≡ q) ⊎ (IsTrue (point_before p q) ⊎ IsTrue (point_before q p))

abbrev pub PointOrderIsTransitive : Type 0
PointOrderIsTransitive = (p q r : Point) → IsPoint p → IsPoint q → IsPoint r → IsTrue (point_before p q) → IsTrue (point_before q r) → IsTrue (point_before p r)

abbrev pub PointOrderIsStrict : Type 0
PointOrderIsStrict = (p : Point) → IsTrue (point_before p p) → ⊥

-- the order by angle, and directions that tie in it
abbrev pub AngleOrderIsTransitive : Type 0
AngleOrderIsTransitive = (d e f : Exp) → d ≢ origin → e ≢ origin → f ≢ origin → IsTrue (turns_before d e) → IsTrue (turns_before e f) → IsTrue (turns_before d f)

abbrev pub TiedDirectionsAreEqual : Type 0
TiedDirectionsAreEqual = (d e : Exp) → IsDirection d → IsDirection e → (IsTrue (turns_before d e) → ⊥) → (IsTrue (turns_before e d) → ⊥) → d ≡ e
