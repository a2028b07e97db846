-- A worked ask that has no fault, and at which a line bends. Among the one wall along (1, 0) through (0, 0) with
-- 1 + t1·x, the theta of (0, 2) is asked for at (0, -2) up to order 1. Two broken lines come from above: a straight
-- one, and one that meets the wall at (1, 0) and takes the term 2·t1·x of (1 + t1·x)^2 there.
--     one_wall, upward, below        the wall; the exponent and the point that are asked for
--     tails, lines, theta            all tails, all broken lines, the theta
use Rattle.std.specs.Prelude.{List, [], ◌∷◌, pos, negsuc, None}
use Rattle.scattering.specs.Collections.{Every, Lists}
use Rattle.scattering.specs.Series.{Exp, Key, Sum}
use Rattle.scattering.specs.Plane.{Point, IsPoint}
use Rattle.scattering.specs.Wall.{Wall, IsWall}
use Rattle.scattering.specs.BrokenLine.{Bend, IsBrokenLine}
use Rattle.scattering.specs.Tail.{Tail, IsTail}
use Rattle.scattering.specs.Theta.{IsAskFault, IsTheta}
use Rattle.scattering.proofs.ExampleWalls.{exp, key, at, line_x}

-- ---- the ask

abbrev pub one_wall : List Wall
one_wall = line_x ∷ []

abbrev pub upward : Exp
upward = exp (pos 0) (pos 2)

abbrev pub below : Point
below = at (pos 0) (negsuc 1) (pos 1)

-- ---- the bend, and what is traced back from the point

abbrev pub crossing : Point
crossing = at (pos 1) (pos 0) (pos 1)

abbrev pub wall_key : Key
wall_key = key 1 0 (pos 1) (pos 0)

abbrev pub bend : Bend
bend = record { at = crossing; key = wall_key }

abbrev pub slanted : Exp
slanted = exp (pos 1) (pos 2)

-- the second isn't complete
abbrev pub tails : List Tail
tails = record { root = upward; bends = [] } ∷ record { root = slanted; bends = [] } ∷ record { root = slanted; bends = bend ∷ [] } ∷ []

abbrev pub lines : List (List Bend)
lines = [] ∷ (bend ∷ []) ∷ []

-- z^(0, 2) + 2·t1·z^(1, 2)
abbrev pub theta : Sum
theta = (key 0 0 (pos 0) (pos 2), pos 1) ∷ (key 1 0 (pos 1) (pos 2), pos 2) ∷ []

-- ---- what is said of it

-- what is asked is a point and a wall of order 1
abbrev pub AskIsOfWall : Type 0
AskIsOfWall = Every (IsWall 1) one_wall × IsPoint below

abbrev pub AskHasNoFault : Type 0
AskHasNoFault = IsAskFault one_wall 1 upward below None

abbrev pub TailsAreThree : Type 0
TailsAreThree = Lists (IsTail one_wall 1 upward below) tails

abbrev pub LinesAreTwo : Type 0
LinesAreTwo = Lists (IsBrokenLine one_wall 1 upward below) lines

abbrev pub ThetaHasTwoTerms : Type 0
ThetaHasTwoTerms = IsTheta one_wall 1 upward below theta
