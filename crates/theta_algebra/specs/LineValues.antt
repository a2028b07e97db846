-- The values of the lines of complete tails, which the theta sums.
--     value_term v              the value v as a term without an exponent
--     line_term ws b t          the value of the line of a tail, from its root on
--     line_sum ws b m ts        the values of the lines of those of the tails ts that end with m
--     IsLightTail ws b m t      t is a tail for m of a weight that is small enough
--     AreLightBends ws b x cs   so are the bends cs that follow on the exponent x
--     AreFound ws b m ts        ts are all tails for m at a point
use Rattle.std.specs.Prelude.{ℕ, ◌≤◌, nat_abs, List, map, filter, reverse, ℤ}
use Rattle.limits.specs.Limits.{highest_order, largest_weight}
use Rattle.scattering.specs.Collections.{Every}
use Rattle.scattering.specs.Series.{Exp, Powers, Term, Sum, origin}
use Rattle.scattering.specs.Plane.{Point}
use Rattle.scattering.specs.Wall.{Wall, IsWall}
use Rattle.scattering.specs.BrokenLine.{Bend, value}
use Rattle.scattering.specs.Tail.{Tail, IsTail, IsTraced, is_complete, tail_weight}
use Rattle.broken_line_theory.specs.TailValue.{tail_value}
use Rattle.scatter_diagram.specs.Proper.{AreTameWalls}
use Rattle.bend_finder.specs.declared.bend.Bend.{Bend as CodeBend}
use Rattle.bend_finder.specs.Ahead.{bend_of}
use Rattle.broken_lines.specs.declared.tail.Tail.{Tail as CodeTail}
use Rattle.broken_lines.specs.Traced.{SeenTail, seen_tail, seen_tails, plain, plain_tails, IsTold, AreAllTails, largest_asked}

abbrev pub tail_bends : List CodeBend → List Bend
tail_bends cs = map bend_of cs

-- ---- values

abbrev pub at_root : Exp → Powers × ℤ → Term
at_root x v = (record { powers = v.0; exp = x }, v.1)

abbrev pub value_term : Powers × ℤ → Term
value_term v = at_root origin v

abbrev pub line_term : List Wall → ℕ → Tail → Term
line_term ws b t = at_root t.root (tail_value ws b t.root t.bends)

abbrev pub line_sum : List Wall → ℕ → Exp → List Tail → Sum
line_sum ws b m ts = map (value ws b m) (map (λ t. reverse t.bends) (filter (is_complete m) ts))

abbrev pub traced_sum : List Wall → ℕ → Exp → List CodeTail → Sum
traced_sum ws b m ts = line_sum ws b m (plain_tails (seen_tails ts))

-- ---- what bounds them

abbrev pub IsAsked : Exp → Type 0
IsAsked m = (nat_abs m.a ≤ largest_asked) × (nat_abs m.b ≤ largest_asked)

pub record AreLightBends (ws : List Wall) (b : ℕ) (x : Exp) (cs : List Bend) : Type 0 where
  pub low : b ≤ highest_order
  pub tame : AreTameWalls ws
  pub traced : (m : Exp) × (p : Point) × (used : ℕ) × IsAsked m × IsTraced ws b m p x used cs
  pub light : tail_weight ws b x cs ≤ largest_weight

pub record IsLightTail (ws : List Wall) (b : ℕ) (m : Exp) (t : SeenTail) : Type 0 where
  pub low : b ≤ highest_order
  pub tame : AreTameWalls ws
  pub walls : (k : ℕ) × Every (IsWall k) ws
  pub asked : IsAsked m
  pub tail : (q : Point) × IsTail ws b m q (plain t)
  pub told : IsTold t
  pub light : tail_weight ws b t.root t.bends ≤ largest_weight

abbrev pub AreLightTails : List Wall → ℕ → Exp → List CodeTail → Type 0
AreLightTails ws b m ts = Every (λ t. IsLightTail ws b m (seen_tail t)) ts

abbrev pub AreFound : List Wall → ℕ → Exp → List CodeTail → Type 0
AreFound ws b m ts = (q : Point) × (w : ℕ) × AreAllTails ws b m q (seen_tails ts) w
